use Rattle.std.proofs.Common.{◌≡◌, length, map, take}
use Rattle.machine.specs.Jumps.{phi_value}
use Rattle.machine.proofs.frame.take_values.Given as goal

abbrev pub invariant-loop-place : goal.invariant-loop-place
invariant-loop-place l =
    (length l.values ≡ length l.fn.values) × (take l.place l.values ≡ map (phi_value l.of_module l.function l.registers l.from) (take l.place l.phis))
