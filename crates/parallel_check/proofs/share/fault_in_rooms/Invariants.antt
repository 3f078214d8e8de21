use Rattle.parallel_check.specs.Shares.{IsOf, IsShareCertified}
use Rattle.parallel_check.proofs.share.fault_in_rooms.Given as goal

abbrev pub invariant-loop-number : goal.invariant-loop-number
invariant-loop-number g l = IsOf l.fn.workers l.fn.worker l.number × IsShareCertified l.fn.functions.program.now l.fn.functions.certs.now.sections (IsOf l.fn.workers l.fn.worker) l.number
