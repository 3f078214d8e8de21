use Rattle.std.proofs.Common.{◌≡◌, ◌∙◌, ◌++◌, List, [], ◌∷◌, sym, ap}
use Rattle.facts.specs.Facts.{FactSet}
use Rattle.block_rules.specs.Edges.{entry_facts_at}
use Rattle.block_check.specs.Rows.{first_entry_facts}
use Rattle.block_check.specs.FunctionUnderCheck.{seen}
use Rattle.block_check.proofs.EntryFactsLists.{more_entry_facts}
use Rattle.block_check.proofs.entry_rows.first_entry_facts.Goals as goal

pub loop-number-preserved : goal.loop-number-preserved
loop-number-preserved c =
    let s = seen c.args.under_check.now in
    let n = c.loop-number.number in
    let kept : c.in_ok-kept.kept ≡ entry_facts_at s n = c.in_ok-kept.ensures ∙ ap (entry_facts_at s) c.new-block.ensures in
    c.in_ok-push.ensures.items ∙ ap (λ (blocks : List FactSet). blocks ++ c.in_ok-kept.kept ∷ []) c.loop-number.invariant ∙ ap (λ (facts : FactSet). first_entry_facts s n ++ facts ∷ []) kept ∙ sym (more_entry_facts s n)
