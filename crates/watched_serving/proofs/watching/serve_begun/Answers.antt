use Rattle.std.proofs.Common.{◌∙◌, sym, arith}
use Rattle.watched_serving.proofs.Loops.{stands_on, ends_whole, left_whole, left_cut, stops, left_halted, ends_halted, told_so}
use Rattle.watched_serving.proofs.watching.serve_begun.Goals as goal

pub returns-in-End-clause-left : goal.returns-in-End-clause-left
returns-in-End-clause-left g c = left_whole _ _ _ _ _ _ _ _ c.loop-made.invariant.0 _ c.finished.ensures.log (sym c.in-End.ensures)

pub returns-in-End-clause-end : goal.returns-in-End-clause-end
returns-in-End-clause-end g c = told_so _ _ _ _ _ _ _ _ _ c.finished.ensures.end (ends_whole _ _ _ _ _ _ _ _ c.loop-made.invariant.0 _ c.finished.ensures.log (sym c.in-End.ensures))

pub returns-in-Err-clause-left : goal.returns-in-Err-clause-left
returns-in-Err-clause-left g c = left_halted _ _ _ _ _ _ _ _ c.loop-made.invariant.0 _ c.in-Err.halt c.in-Err.ensures.halted _ c.finished-in-Err.ensures.log

pub returns-in-Err-clause-end : goal.returns-in-Err-clause-end
returns-in-Err-clause-end g c = told_so _ _ _ _ _ _ _ _ _ (c.finished-in-Err.ensures.end ∙ c.end_by.ensures)
    (ends_halted _ _ _ _ _ _ _ _ c.loop-made.invariant.0 _ c.in-Err.halt c.in-Err.ensures.halted _ c.finished-in-Err.ensures.log _ _ c.in-Err.ensures.stays)

pub loop-made-preserved : goal.loop-made-preserved
loop-made-preserved g c = (stands_on _ _ _ _ _ _ _ _ c.loop-made.invariant.0 _ _ c.in_default-go_on.ensures.ok, c.in_default-go_on.ensures.listed)

pub returns-clause-left : goal.returns-clause-left
returns-clause-left g c = left_cut _ _ _ _ _ _ _ _ c.loop-made.invariant.0 _ c.finished-2.ensures.log

pub returns-clause-end : goal.returns-clause-end
returns-clause-end g c = told_so _ _ _ _ _ _ _ _ _ c.finished-2.ensures.end (stops _ _ _ _ _ _ _ _ c.loop-made.invariant.0 _ c.finished-2.ensures.log _ (omega (arith, c.loop-made-test.false)))
