use Rattle.answers.specs.KeptRows.{AreOthersKept, StayKept}
use Rattle.answers.proofs.again.find_all_rows.Given as goal

abbrev pub invariant-loop-place : goal.invariant-loop-place
invariant-loop-place l = record {
  rows : AreOthersKept l.fn.program l.fn.certs.sections l.fn.replaced l.kept;
  stay : StayKept l.fn.replaced l.initial.kept l.kept;
}
