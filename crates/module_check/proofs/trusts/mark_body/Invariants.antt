use Rattle.std.proofs.Common.{◌≡◌, drop}
use Rattle.module_check.specs.Trusts.{mark_body}
use Rattle.module_check.proofs.trusts.mark_body.Given as goal

abbrev pub invariant-loop-instr : goal.invariant-loop-instr
invariant-loop-instr l = mark_body l.body l.fn.called ≡ mark_body (drop l.instr-index l.body) l.called
