use Rattle.std.proofs.Common.{◌≡◌, drop}
use Rattle.machine.specs.Jumps.{entry_for}
use Rattle.machine.proofs.jumps.entry_for.Given as goal

abbrev pub invariant-loop-entry : goal.invariant-loop-entry
invariant-loop-entry l = entry_for l.function l.from (drop l.entry-index l.incoming) ≡ entry_for l.function l.from l.incoming
