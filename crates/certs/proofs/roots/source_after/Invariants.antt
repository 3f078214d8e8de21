use Rattle.std.proofs.Common.{◌≡◌, drop}
use Rattle.certs.specs.Roots.{source_after}
use Rattle.certs.proofs.roots.source_after.Given as goal

abbrev pub invariant-loop-instr : goal.invariant-loop-instr
invariant-loop-instr l = source_after l.value l.fn.body l.fn.before ≡ source_after l.value (drop l.instr-index l.fn.body) l.source
