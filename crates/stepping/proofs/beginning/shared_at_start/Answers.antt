-- The words and births are those before the first step.
use Rattle.std.proofs.Common.{◌≡◌, ℕ, List, [], length, sym, ap, ◌∙◌, subst}
use Rattle.std.proofs.lemmas.List.{length-map}
use Rattle.pools.specs.Heap.{cells, cells_in}
use Rattle.moves.specs.Shared.{ThreadStateAfter}
use Rattle.stepping.proofs.Beginnings.{stage-of, thread_state-afterwards-none}
use Rattle.stepping.proofs.beginning.shared_at_start.Goals as goal

pub returns-clause-afterwards : goal.returns-clause-afterwards
returns-clause-afterwards g c s schema setup late threads values =
    let all : c.cells-cells.result ≡ cells s = c.cells-cells.ensures.cells ∙ sym (ap cells_in schema.pools) in
    subst (λ (v : List ℕ). ThreadStateAfter s [] (record { posted = 0; stages = c.in_ok-stages_at_start.field-0; colours = v; births = c.in_ok-zeros.field-0; words = c.in_ok-rows_at_start.field-0 })) (sym (c.colours.view_is ∙ c.set.ensures))
    (thread_state-afterwards-none s setup c.in_ok-stages_at_start.field-0 c.in_ok-colours.colours c.in_ok-zeros.field-0 c.in_ok-rows_at_start.field-0
    (ap length c.in_ok-stages_at_start.ensures ∙ length-map c.args.threads.now _ ∙ sym threads) (c.in_ok-colours.ensures.count ∙ all) (c.in_ok-zeros.ensures.count ∙ all)
    (stage-of s c.args.threads.now c.in_ok-stages_at_start.field-0 late c.in_ok-stages_at_start.ensures) c.in_ok-colours.ensures.zeros c.in_ok-zeros.ensures.zeros (c.in_ok-rows_at_start.ensures s schema setup values))
