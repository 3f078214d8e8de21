-- The record follows what was saved before.
use Rattle.std.proofs.Common.{◌++◌, List, ℕ, ap, ◌∙◌}
use Rattle.commands.proofs.saving.save_record.Goals as goal

pub returns : goal.returns
returns c =
    let before = c.args.saved.now.items in
    (c.in_ok-record.record.items, c.in_ok-extend_from_slice.ensures.items ∙ ap (λ (bytes : List ℕ). before ++ bytes) c.as_slice.ensures.value, c.in_ok-record.ensures)
