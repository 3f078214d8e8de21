-- The facts that fit a type.
use Rattle.std.specs.Prelude.{ℕ, Bool, true, false, ◌==◌, if◌then◌else◌, Option, Some, None, is_some, slice_get}
use Rattle.ir_ast.specs.declared.function.Function.{Function}
use Rattle.ir_ast.specs.declared.function.LocalSort.{LocalSort}
use Rattle.ir_ast.specs.declared.function.LocalSort.TheVariants as sort
use Rattle.ir_ast.specs.declared.ir_type.IrType.{IrType}
use Rattle.ir_ast.specs.declared.ir_type.IrType.TheVariants as ty
use Rattle.ir_ast.specs.Types.{place_of_type}
use Rattle.ir_ast.specs.declared.instr.Instr.{Instr}
use Rattle.ir_ast.specs.declared.module.Module.{Module}
use Rattle.ir_ast.specs.declared.op.Op.{Op}
use Rattle.ir_ast.specs.declared.op.Op.TheVariants.{Element}
use Rattle.types.specs.Elements.{element_type}
use Rattle.types.specs.References.{struct_named, is_opaque}
use Rattle.types.specs.ValueTypes.{instruction_at}
use Rattle.certs.specs.declared.family.Family.{Family}
use Rattle.certs.specs.declared.family.Family.TheVariants.{Number, Reference, AnyReference, Address, Opaque, Nothing}

-- what a pointer to the struct of a name is, if the name is defined
abbrev pub family_of_struct : Option ℕ → Family
family_of_struct (Some layout) = Reference layout
family_of_struct None = Address

-- what a pointer to such a part is
abbrev pub family_after : Module → Option IrType → Family
family_after m (Some (ty.Integer bits)) = if bits == 8 then AnyReference else Address
family_after m (Some (ty.Named name)) = family_of_struct (struct_named m name)
family_after m _ = Address

-- what a pointer to this part is
abbrev pub family_of_pointer : Module → (part : ℕ) → Family
family_of_pointer m part = family_after m (slice_get m.types part)

-- what a value of the type with this text is, if there is one
abbrev pub family_in : Module → Option IrType → Family
family_in m (Some (ty.Integer bits)) = Number bits
family_in m (Some ty.Float) = Number 32
family_in m (Some ty.Double) = Number 64
family_in m (Some (ty.Pointer part)) = family_of_pointer m part
family_in m (Some ty.Opaque) = Opaque
family_in m _ = Nothing

-- what a value of this type is
abbrev pub family_of_type : Module → (written : ℕ) → Family
family_of_type m written = family_in m (slice_get m.types written)

-- whether a module's text writes the type `ptr`
abbrev pub is_opaque_text : Module → Bool
is_opaque_text m = is_some (place_of_type ty.Opaque m.types)

-- what the name of a slot is, which holds values of this type
abbrev pub family_of_slot : Module → (held : ℕ) → Family
family_of_slot m held = if is_opaque_text m then Opaque else family_of_pointer m held

-- what a pointer to this part is, if there is one
abbrev pub family_of_part : Module → Option ℕ → Family
family_of_part m None = Nothing
family_of_part m (Some part) = family_of_pointer m part

-- what the value of an instruction is, which is a getelementptr
abbrev pub family_of_op : Module → Op → Family
family_of_op m (Element x) = if is_opaque m x.base_type then Opaque else family_of_part m (element_type m x.source x.indices)
family_of_op m _ = Nothing

-- what the value of such an instruction is, if there is one
abbrev pub family_of_element : Module → Option Instr → Family
family_of_element m None = Nothing
family_of_element m (Some instr) = family_of_op m instr.op

-- what a value of this sort is
abbrev pub family_of_sort : Module → Function → Option LocalSort → Family
family_of_sort m f (Some (sort.Value written)) = family_of_type m written
family_of_sort m f (Some (sort.Slot held)) = family_of_slot m held
family_of_sort m f (Some (sort.Element block place)) = family_of_element m (instruction_at f block place)
family_of_sort m f _ = Nothing

-- what a local name's value is
abbrev pub family_of_value : Module → Function → (value : ℕ) → Family
family_of_value m f value = family_of_sort m f (slice_get f.sorts value)

-- a reference to cells, of whatever layout
abbrev pub is_reference : Family → Bool
is_reference (Reference layout) = true
is_reference AnyReference = true
is_reference Opaque = true
is_reference _ = false

-- a reference to cells of this layout
abbrev pub refers_to : (layout : ℕ) → Family → Bool
refers_to layout (Reference own) = own == layout
refers_to layout AnyReference = true
refers_to layout Opaque = true
refers_to layout _ = false

-- the bits of an integer, if they are these
abbrev pub same_bits : Family → Option ℕ → Option ℕ
same_bits (Number own) (Some bits) = if own == bits then Some own else None
same_bits _ _ = None

-- an integer of whatever width
abbrev pub is_integer : Family → Bool
is_integer (Number bits) = true
is_integer _ = false

-- a pointer, which may be an address outside where the wide forms may stand
abbrev pub may_be_outside : Module → Family → Bool
may_be_outside m (Number bits) = false
may_be_outside m Nothing = false
may_be_outside m _ = m.wide

-- a pointer that may be no reference
abbrev pub is_address : Family → Bool
is_address Address = true
is_address Opaque = true
is_address _ = false
