use Rattle.std.proofs.Common.{◌∙◌, ◌++◌, List, ℕ, ap}
use Rattle.check_commands.proofs.rechecking.lines_of.Goals as goal

pub returns : goal.returns
returns g c =
    let first = c.in_ok-write_verdict.ensures in
    let told = c.in_ok-write_edits.ensures in
    let begun = ap (λ (l : List ℕ). l ++ first.0.text) c.new-lines.ensures.items in
    (first.0, told.0, first.1, told.1, told.2 ∙ ap (λ (l : List ℕ). l ++ told.0) (first.2.1 ∙ begun))
