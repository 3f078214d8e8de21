use Rattle.std.proofs.Common.{◌≡◌, take}
use Rattle.copies.proofs.tables.copy_names.Given as goal

abbrev pub invariant-loop-number : goal.invariant-loop-number
invariant-loop-number l = l.copy ≡ take l.number l.names
