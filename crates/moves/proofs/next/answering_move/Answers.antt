-- The root after those that are marked is marked next.
use Rattle.std.proofs.Common.{◌≡◌, true, Some, List, slice_get, rules, sym, ap, ◌∙◌}
use Rattle.colours.specs.Colours.{is_async}
use Rattle.runs.specs.Machine.{WordValue}
use Rattle.runs.specs.Moves as moves
use Rattle.runs.specs.NextMoves.{mark_or_answer}
use Rattle.moves.specs.Moving.{not_null}
use Rattle.moves.specs.Marked.{next_root-marked}
use Rattle.moves.proofs.next.answering_move.Goals as goal

pub returns-clause-next : goal.returns-clause-next
returns-clause-next g c s h own old =
    let roots = g.M.Machine.roots c.args.state.now in
    let async : is_async c.args.stage ≡ true = search rules in
    let found : c.root_after.result ≡ slice_get (not_null roots) c.args.marked =
    c.root_after.ensures.root ∙ ap (λ (rs : List WordValue). slice_get (not_null rs) c.args.marked) (c.as_slice.ensures.value ∙ c.in_ok-roots.ensures) in
    rw async (ap (λ (m : moves.Move). Some m)
    (ap (mark_or_answer c.args.stage roots) (next_root-marked roots c.args.marked ∙ sym found) ∙ sym (c.mark_or_answer.ensures.next roots)))
