-- Edges from block to block, and the values that phis take on them.
use Rattle.std.specs.Prelude.{ℕ, ◌≤◌, ◌==◌, Bool, true, false, ◌&&◌, ◌||◌, not, List, [], ◌∷◌, length, slice_get, slice_set, Option, Some, None, if◌then◌else◌}
use Rattle.std.specs.List.{list_all}
use Rattle.ir_ast.specs.declared.block.Block.{Block}
use Rattle.ir_ast.specs.declared.function.Function.{Function}
use Rattle.ir_ast.specs.declared.choices.Incoming.{Incoming}
use Rattle.ir_ast.specs.declared.choices.Phi.{Phi}
use Rattle.ir_ast.specs.declared.ends.Case.{Case}
use Rattle.ir_ast.specs.declared.module.Module.{Module}
use Rattle.ir_ast.specs.declared.operand.Operand.{Operand}
use Rattle.types.specs.ValueTypes.{target_of}
use Rattle.shadow_stack.specs.Slots.{SlotTable, is_opaque_address}
use Rattle.machine.specs.declared.value.Value.{Value}
use Rattle.machine.specs.declared.value.Value.TheVariants as value
use Rattle.machine.specs.Kinds.{is_scalar, is_typed, is_no_global, value_of, constant_value, constant_fits, number_in}

-- the phis of a block; a block that does not exist has none
abbrev pub phis_of : Option Block → List Phi
phis_of None = []
phis_of (Some block) = block.phis

-- a block is this one, if there is one
abbrev pub is_block : (block : ℕ) → Option ℕ → Bool
is_block block None = false
is_block block (Some other) = other == block

-- the entry of a phi for this block: the first that there is
abbrev pub entry_for : Function → (from : ℕ) → List Incoming → Option Operand
entry_for f from [] = None
entry_for f from (entry ∷ entries) = if is_block from (target_of f entry.from) then Some entry.operand else entry_for f from entries

-- an entry is of the written type, and no address of a global, nor one in a cell where the text may name none outside; where there is none the phi stays unset
abbrev pub entry_fits : Module → Function → SlotTable → (written : ℕ) → Option Operand → Bool
entry_fits m f slots written None = true
entry_fits m f slots written (Some o) = is_no_global m o && is_typed m f slots written o && (m.wide || not (is_opaque_address m slots written o))

-- a phi is an integer or a reference, and its entry for this block is of its type
abbrev pub phi_fits : Module → Function → SlotTable → (from : ℕ) → Phi → Bool
phi_fits m f slots from phi = is_scalar m phi.written && entry_fits m f slots phi.written (entry_for f from phi.incoming)

-- each of these phis may take its entry
abbrev pub phis_fit : Module → Function → SlotTable → (from : ℕ) → List Phi → Bool
phis_fit m f slots from phis = list_all (phi_fits m f slots from) phis

-- the value of an entry
abbrev pub entry_value : Module → List Value → (written : ℕ) → Option Operand → Value
entry_value m registers written None = value.Unset
entry_value m registers written (Some o) = value_of m registers written o

-- the value that a phi takes
abbrev pub phi_value : Module → Function → List Value → (from : ℕ) → Phi → Value
phi_value m f registers from phi = entry_value m registers phi.written (entry_for f from phi.incoming)

-- registers with a value for a name, if there is one
abbrev pub put_register : (name : Option ℕ) → Value → List Value → List Value
put_register None v registers = registers
put_register (Some name) v registers = slice_set registers name v

-- each phi takes its entry's value as it was before any of them took one
abbrev pub put_phis : Module → Function → (before : List Value) → (from : ℕ) → List Phi → List Value → List Value
put_phis m f before from [] registers = registers
put_phis m f before from (phi ∷ phis) registers = put_phis m f before from phis (slice_set registers phi.value (phi_value m f before from phi))

-- each of these phis takes the value at its place
abbrev pub put_each : List Phi → (values registers : List Value) → List Value
put_each (phi ∷ phis) (v ∷ values) registers = put_each phis values (slice_set registers phi.value v)
put_each phis values registers = registers

-- the label to which a switch goes on at this number: the first case that is it
abbrev pub switch_edge : Module → (written n otherwise : ℕ) → List Case → ℕ
switch_edge m written n otherwise [] = otherwise
switch_edge m written n otherwise (case ∷ cases) =
    if number_in (constant_value m written case.constant) == n then case.target else switch_edge m written n otherwise cases

-- each case of a switch is of its type
abbrev pub cases_fit : Module → (written : ℕ) → List Case → Bool
cases_fit m written cases = list_all (λ case. constant_fits m written case.constant) cases

-- there is room for the values of the phis of each block
abbrev pub HasRoom : Function → List Value → Type 0
HasRoom f values = (block : ℕ) → length (phis_of (slice_get f.blocks block)) ≤ length values
