use Rattle.std.proofs.Common.{◌≡◌, drop}
use Rattle.block_rules.specs.Promises.{say_what_they_are}
use Rattle.block_rules.proofs.promises.say_what_they_are.Given as goal

abbrev pub invariant-loop-argument : goal.invariant-loop-argument
invariant-loop-argument l =
    say_what_they_are l.context.program.now.of_module l.context.function.now l.context.slots.now l.facts l.fn.arguments l.fn.promises
    ≡ say_what_they_are l.context.program.now.of_module l.context.function.now l.context.slots.now l.facts (drop l.argument-index l.arguments) l.rest
