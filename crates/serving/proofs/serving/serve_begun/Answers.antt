use Rattle.std.proofs.Common.{sym, arith}
use Rattle.serving.proofs.Results.{from_ok, from_err}
use Rattle.serving.proofs.Loops.{stands_on, ends_whole, left_whole, left_cut, stops, left_without, ends_without, told_so}
use Rattle.serving.proofs.serving.serve_begun.Goals as goal

pub returns-in-End-clause-left : goal.returns-in-End-clause-left
returns-in-End-clause-left g c = left_whole _ _ _ _ _ _ _ _ c.loop-made.invariant.0 _ c.finished.ensures.log (sym c.in-End.ensures)

pub returns-in-End-clause-end : goal.returns-in-End-clause-end
returns-in-End-clause-end g c = told_so _ _ _ _ _ _ _ _ _ c.finished.ensures.end (ends_whole _ _ _ _ _ _ _ _ c.loop-made.invariant.0 _ c.finished.ensures.log (sym c.in-End.ensures))

pub returns-then-is_err-clause-left : goal.returns-then-is_err-clause-left
returns-then-is_err-clause-left g c = left_without _ _ _ _ _ _ _ _ c.loop-made.invariant.0 _ (from_err c.go_on.result _ c.is_err.ensures.value c.if-is_err.true c.go_on.ensures.err) _ c.finished-then-is_err.ensures.log

pub returns-then-is_err-clause-end : goal.returns-then-is_err-clause-end
returns-then-is_err-clause-end g c = told_so _ _ _ _ _ _ _ _ _ c.finished-then-is_err.ensures.end
    (ends_without _ _ _ _ _ _ _ _ c.loop-made.invariant.0 _ (from_err c.go_on.result _ c.is_err.ensures.value c.if-is_err.true c.go_on.ensures.err) _ c.finished-then-is_err.ensures.log)

pub loop-made-preserved : goal.loop-made-preserved
loop-made-preserved g c = (
  stands_on _ _ _ _ _ _ _ _ c.loop-made.invariant.0 _ _ (from_ok c.go_on.result _ c.is_err.ensures.value c.if-is_err.false c.go_on.ensures.ok),
  from_ok c.go_on.result _ c.is_err.ensures.value c.if-is_err.false c.go_on.ensures.listed,
)

pub returns-clause-left : goal.returns-clause-left
returns-clause-left g c = left_cut _ _ _ _ _ _ _ _ c.loop-made.invariant.0 _ c.finished-2.ensures.log

pub returns-clause-end : goal.returns-clause-end
returns-clause-end g c = told_so _ _ _ _ _ _ _ _ _ c.finished-2.ensures.end (stops _ _ _ _ _ _ _ _ c.loop-made.invariant.0 _ c.finished-2.ensures.log _ (omega (arith, c.loop-made-test.false)))
