use Rattle.std.proofs.Common.{◌∙◌}
use Rattle.layout.proofs.Faults.{are_sizes}
use Rattle.layout.proofs.struct_words.table.Goals as goal

pub returns-clause-found : goal.returns-clause-found
returns-clause-found c =
    (c.in_ok-layouts.ensures.found, are_sizes _ _ _ c.in_ok-survey.ensures _ (c.in_ok-sizes.ensures.each ∙ c.in_ok-each.ensures), c.in_ok-sizes.ensures.jumps)
