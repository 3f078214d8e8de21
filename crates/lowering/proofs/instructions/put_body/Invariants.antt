use Rattle.std.proofs.Common.{◌≡◌, ◌++◌, drop}
use Rattle.lowering.specs.Instructions.{body_text}
use Rattle.lowering.proofs.instructions.put_body.Given as goal

abbrev pub invariant-loop-instr : goal.invariant-loop-instr
invariant-loop-instr l =
    (l.place ≡ l.instr-index)
    × (l.out.items ++ body_text l.scope.recorded l.scope.of_module.now l.scope.locals.now l.scope.slots.now l.label l.place (drop l.instr-index l.body)
    ≡ l.fn.out.items ++ body_text l.scope.recorded l.scope.of_module.now l.scope.locals.now l.scope.slots.now l.label 0 l.body)
