use Rattle.std.proofs.Common.{refl, arith}
use Rattle.watched_serving.proofs.Arrivals.{tried, arrived, left_first, ends_first, left_absent, never_began, all_used}
use Rattle.watched_serving.proofs.watching.serve_late.Goals as goal

pub serve_begun-requires : goal.serve_begun-requires
serve_begun-requires g c = arrived _ _ _ _ _ _ _ c.loop-tries.invariant.1 _ c.begin.ensures.token c.begin.result c.if-begin.true c.begin.ensures.begun c.begin.ensures.log _ refl _ c.loop-tries.invariant.0

pub returns-then-begin-clause-left : goal.returns-then-begin-clause-left
returns-then-begin-clause-left g c = left_first _ _ _ _ _ _ _ c.loop-tries.invariant.1 _ c.begin.ensures.token _ _ c.loop-tries.invariant.0 c.serve_begun.ensures.left

pub returns-then-begin-clause-end : goal.returns-then-begin-clause-end
returns-then-begin-clause-end g c = ends_first _ _ _ _ _ _ _ c.loop-tries.invariant.1 _ c.begin.ensures.token _ c.serve_begun.result _ _ _ c.loop-tries.invariant.0 c.serve_begun.ensures.end

pub loop-tries-preserved : goal.loop-tries-preserved
loop-tries-preserved g c = (c.loop-tries.invariant.0, tried _ _ _ _ _ _ _ c.loop-tries.invariant.1 _ c.begin.ensures.token c.begin.result c.if-begin.false c.begin.ensures.absent c.begin.ensures.log _ (omega arith))

pub returns-clause-left : goal.returns-clause-left
returns-clause-left g c = left_absent _ _ _ _ _ _ _ c.loop-tries.invariant.1

pub returns-clause-end : goal.returns-clause-end
returns-clause-end g c = never_began _ _ _ _ _ _ _ c.loop-tries.invariant.1 _ (all_used _ _ _ c.div_ceil-tries-end.ensures c.loop-tries-test.false)
