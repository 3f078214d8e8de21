use Rattle.std.proofs.Common.{◌≡◌, drop}
use Rattle.certs.specs.RootNames.{roots_recorded}
use Rattle.certificate.proofs.draft.record_roots.Given as goal

abbrev pub invariant-loop-instr : goal.invariant-loop-instr
invariant-loop-instr l = roots_recorded l.slots l.fn.body l.fn.roots ≡ roots_recorded l.slots (drop l.instr-index l.fn.body) l.roots
