use Rattle.std.proofs.Common.{arith, sym, ◌∙◌}
use Rattle.std.proofs.lemmas.Grind.{common_steps}
use Rattle.pools.specs.Ends.{ends_one_more}
use Rattle.pools.proofs.pools.ends_of.Goals as goal

pub loop-count-preserved : goal.loop-count-preserved
loop-count-preserved c = record {
  so_far = grind (arith, common_steps);
  ends = c.in_ok-push.ensures.ok ∙ rw (c.loop-count.invariant.ends) (sym (ends_one_more _ _ _ c.loop-count-test.true c.loop-count.invariant.so_far));
}
