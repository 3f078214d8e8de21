use Rattle.std.proofs.Common.{◌∙◌, arith}
use Rattle.hunting.proofs.biased_drawing.drawn_steps.Goals as goal

pub loop-left-preserved : goal.loop-left-preserved
loop-left-preserved c = record {
  actors = c.in_ok-add_line.ensures.actors c.len-threads.result c.loop-left.invariant.actors c.actor_of-actor.ensures;
  sum =
      let more = c.in_ok-add_line.ensures.sum in
      let before = c.loop-left.invariant.sum in
      let few = c.in_ok-count.ensures.few in
      omega (arith, more, before, few);
  setup = c.in_ok-count.ensures.setup ∙ c.loop-left.invariant.setup;
}
