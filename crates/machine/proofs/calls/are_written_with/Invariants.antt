use Rattle.std.proofs.Common.{◌≡◌, length}
use Rattle.machine.specs.Asks.{are_of_widths, written_types}
use Rattle.machine.proofs.calls.are_written_with.Given as goal

abbrev pub invariant-loop-bits : goal.invariant-loop-bits
invariant-loop-bits l =
    (are_of_widths l.of_module l.bits-iterator.a.rest.now (written_types l.bits-iterator.b.rest.now) ≡ are_of_widths l.of_module l.fn.widths (written_types l.fn.arguments))
    × (length l.bits-iterator.a.rest.now ≡ length l.bits-iterator.b.rest.now)
