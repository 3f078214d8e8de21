-- what was joined so far are the refusals of the ranges that the loop went over
use Rattle.module_check.specs.Refusals.{AreOfFunctions}
use Rattle.parallel_check.specs.Shares.{range_from}
use Rattle.parallel_check.proofs.ranges.refusals_by_workers.Given as goal

abbrev pub invariant-loop-part : goal.invariant-loop-part
invariant-loop-part g l = AreOfFunctions l.fn.functions.program.now l.fn.functions.certs.now.sections (range_from l.fn.workers l.fn.functions.count l.part-index) l.each.items
