use Rattle.std.proofs.Common.{◌≡◌, drop}
use Rattle.shadow_stack.specs.Slots.{recorded}
use Rattle.shadow_stack.proofs.draft.Draft.record_all.Given as goal

abbrev pub invariant-loop-instr : goal.invariant-loop-instr
invariant-loop-instr l = recorded l.fn.body l.initial.self ≡ recorded (drop l.instr-index l.fn.body) l.self
