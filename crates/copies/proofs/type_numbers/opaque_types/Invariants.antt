use Rattle.std.proofs.Common.{◌≡◌, drop}
use Rattle.copies.specs.Opaque.{with_types, opaque_types}
use Rattle.copies.proofs.type_numbers.opaque_types.Given as goal

abbrev pub invariant-loop-number : goal.invariant-loop-number
invariant-loop-number l = with_types (drop l.number l.types) (record { types = l.made.types; numbers = l.made.numbers }) ≡ opaque_types l.types
