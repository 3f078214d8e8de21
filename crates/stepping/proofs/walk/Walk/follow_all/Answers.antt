-- The roots, one after the other.
use Rattle.std.proofs.Common.{◌^◌, ◌∙◌, refl}
use Rattle.std.proofs.lemmas.Option.{get_or_from_slice_get, slice_get_read}
use Rattle.runs.specs.Moves.{null}
use Rattle.stepping.specs.Walks.{following_first}
use Rattle.stepping.proofs.Meetings.{first-more, first-wide}
use Rattle.stepping.proofs.walk.Walk.follow_all.Goals as goal

pub loop-root-init : goal.loop-root-init
unfolding following_first
loop-root-init c = refl

pub follow-requires : goal.follow-requires
follow-requires c = first-wide c.args.shared.now c.args.roots.now c.args.self.now c.loop-root.self c.loop-root.root-index (2 ^ 20) c.loop-root.invariant c.requires

pub loop-root-preserved : goal.loop-root-preserved
loop-root-preserved c =
    let got = slice_get_read c.args.roots.now _ c.loop-root.root-index c.root-item.result refl c.loop-root-test.true c.root-item.is in
    let here = get_or_from_slice_get c.args.roots.now c.loop-root.root-index c.root-item.result null got in
    c.in_ok-follow.ensures ∙ rw c.loop-root.invariant (first-more c.args.shared.now c.args.roots.now c.args.self.now c.loop-root.root-index c.root-item.result here)
