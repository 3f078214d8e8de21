-- The words of a cell, one after the other.
use Rattle.std.proofs.Common.{◌^◌, ◌∙◌, refl}
use Rattle.std.proofs.lemmas.Option.{slice_get_read}
use Rattle.stepping.specs.Walks.{looking}
use Rattle.stepping.proofs.Meetings.{looking-more, looking-wide}
use Rattle.stepping.proofs.walk.Walk.look_into.Goals as goal

pub loop-word-init : goal.loop-word-init
unfolding looking
loop-word-init c = refl

pub look_at-requires : goal.look_at-requires
look_at-requires c = looking-wide c.args.shared.now c.words-kind-items.result.now c.row-row.result.now c.args.self.now c.loop-word.self c.loop-word.word (2 ^ 20) c.loop-word.invariant c.requires.few

pub loop-word-preserved : goal.loop-word-preserved
loop-word-preserved c =
    let is = slice_get_read c.words-kind-items.result.now _ c.loop-word.word c.kind-item.result refl c.loop-word-test.true c.kind-item.is in
    let more = looking-more c.args.shared.now c.words-kind-items.result.now c.row-row.result.now c.args.self.now c.loop-word.word c.kind-item.result c.reference_at.result is c.reference_at.ensures in
    c.in_ok-look_at.ensures ∙ rw c.loop-word.invariant more
