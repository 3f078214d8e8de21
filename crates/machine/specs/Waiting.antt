-- The registers of a frame that waits for a call to return.
use Rattle.std.specs.Prelude.{ℕ, List, [], ◌∷◌, replicate, slice_set, Option, Some, None}
use Rattle.machine.specs.declared.frame.Frame.{Frame}
use Rattle.machine.specs.declared.value.Value.{Value}
use Rattle.machine.specs.declared.value.Value.TheVariants as value
use Rattle.machine.specs.declared.waiting_frame.RegisterValue.{RegisterValue}

-- each of these registers takes its value
abbrev pub set_each : List RegisterValue → List Value → List Value
set_each [] registers = registers
set_each (one ∷ others) registers = set_each others (slice_set registers one.register one.value)

-- registers of this number, of which these are set and no others
abbrev pub registers_with : (count : ℕ) → List RegisterValue → List Value
registers_with count set = set_each set (replicate count value.Unset)

-- a frame with these registers, if there are any in place of its own
abbrev pub with_registers : Option (List Value) → Frame → Frame
with_registers None frame = frame
with_registers (Some registers) frame = record frame { registers = registers }
