use Rattle.serving.proofs.Turns.{one_more}
use Rattle.serving.proofs.collecting.collect.Goals as goal

pub returns-then-load-threads-clause-turns : goal.returns-then-load-threads-clause-turns
returns-then-load-threads-clause-turns c = let made = one_more _ _ _ _ c.turn.result _ c.loop-made.invariant c.is_none.ensures c.if-is_none.false c.turn.ensures.log in (made.turns, made.log, made.many)

pub loop-made-preserved : goal.loop-made-preserved
loop-made-preserved c = one_more _ _ _ _ c.turn.result _ c.loop-made.invariant c.is_none.ensures c.if-is_none.false c.turn.ensures.log
