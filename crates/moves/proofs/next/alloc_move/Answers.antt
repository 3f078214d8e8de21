-- The count of the layout's cells decides.
use Rattle.std.proofs.Common.{◌≢◌, ℕ, List, [], Some, slice_index, refl, sym, ap, ◌∙◌, arith}
use Rattle.std.proofs.lemmas.Option.{unwrap_or-slice_get}
use Rattle.runs.specs.Moves as moves
use Rattle.moves.specs.Stands.{sight_in}
use Rattle.moves.specs.Allocs.{within, no_cell, first_try}
use Rattle.moves.proofs.next.alloc_move.Goals as goal

pub returns-then-count-eq0 : goal.returns-then-count-eq0
returns-then-count-eq0 c s stage roots old e =
    no_cell s (sight_in s c.args.shared.now c.args.hints.now) stage roots old c.args.layout
    (ap (λ (p : List ℕ). slice_index p c.args.layout) e ∙ sym (unwrap_or-slice_get c.args.pools.now c.args.layout 0) ∙ sym c.count.ensures ∙ c.if-count-eq0.true)

pub claim_of-requires-clause-is_layout : goal.claim_of-requires-clause-is_layout
claim_of-requires-clause-is_layout c =
    within c.args.pools.now c.args.layout (λ z. c.if-count-eq0.false (c.count.ensures ∙ unwrap_or-slice_get c.args.pools.now c.args.layout 0 ∙ z))

pub claim_of-requires-clause-left : goal.claim_of-requires-clause-left
claim_of-requires-clause-left c =
    let some : slice_index c.args.pools.now c.args.layout ≢ 0 = λ z. c.if-count-eq0.false (c.count.ensures ∙ unwrap_or-slice_get c.args.pools.now c.args.layout 0 ∙ z) in
    omega (arith, some)

pub returns : goal.returns
returns c s stage roots old e =
    first_try s (sight_in s c.args.shared.now c.args.hints.now) stage roots old c.args.layout
    (λ z. c.if-count-eq0.false (c.count.ensures ∙ unwrap_or-slice_get c.args.pools.now c.args.layout 0 ∙ sym (ap (λ (p : List ℕ). slice_index p c.args.layout) e) ∙ z))
    ∙ ap (λ (m : moves.Move). Some m) (c.claim_of.ensures s roots [] e refl)
