-- What a written type is to the rules, and what they ask of an operand, does not depend on functions.
use Rattle.std.specs.Prelude.{List, None, Option, Some, if◌then◌else◌, refl, slice_get, ℕ, ◌&&◌, ◌==◌, ◌||◌, ◌≡◌}
use Rattle.block_rules.specs.Operands.{constant_fits, is_no_opaque_slot, is_no_slot, is_number_known, is_of_type, is_outside_value, is_passed, is_typed, is_value, known_fits, known_in, known_of, outside_known, place_known}
use Rattle.type_kinds.specs.TypeKinds.{is_pointer, kind_at, kind_held, kind_in, kind_of, kind_of_type, place_kind, pointer_kind, pointer_to, slot_kind, struct_pointer}
use Rattle.ir_ast.specs.declared.function.Function.{Function}
use Rattle.ir_ast.specs.declared.ir_type.IrType.{IrType}
use Rattle.ir_ast.specs.declared.ir_type.IrType.TheVariants.{Array, Double, EmptyStruct, Float, Integer, Named, Opaque, Pointer, Struct, Void}
use Rattle.ir_ast.specs.declared.items_of_module.SymbolSort.{SymbolSort}
use Rattle.ir_ast.specs.declared.items_of_module.SymbolSort.TheVariants.{Declared}
use Rattle.ir_ast.specs.declared.module.Module.{Module}
use Rattle.ir_ast.specs.declared.operand.Operand.{Operand}
use Rattle.ir_ast.specs.declared.operand.Operand.TheVariants.{CastGlobal, Constant as Written, Global, Local}
use Rattle.facts.specs.Facts.{FactSet}
use Rattle.outside_names.specs.Operands.{is_outside_operand}
use Rattle.shadow_stack.specs.Slots.{held_type, slot_layout}
use Rattle.types.specs.RuntimeCall.{is_outside, is_outside_sort}
use Rattle.answers.proofs.Types.{has_type_same, pointee_same, points_to_global_same, struct_named_same}
use Rattle.answers.specs.Local.{with_functions}

pointer_to_by : (m : Module) (fs : List Function) (type : IrType) → pointer_to (with_functions m fs) type ≡ pointer_to m type
pointer_to_by m fs Void = refl
pointer_to_by m fs (Integer bits) = refl
pointer_to_by m fs Float = refl
pointer_to_by m fs Double = refl
pointer_to_by m fs (Pointer t) = refl
pointer_to_by m fs Opaque = refl
pointer_to_by m fs (Array length part) = refl
pointer_to_by m fs EmptyStruct = refl
pointer_to_by m fs (Struct first rest) = refl
pointer_to_by m fs (Named name) = λ along. struct_pointer (struct_named_same m fs along name)

pub pointer_to_same : (m : Module) (fs : List Function) → pointer_to (with_functions m fs) ≡ pointer_to m
pointer_to_same m fs = λ along type. pointer_to_by m fs type along

pointer_kind_by : (m : Module) (fs : List Function) (type : Option IrType) → pointer_kind (with_functions m fs) type ≡ pointer_kind m type
pointer_kind_by m fs None = refl
pointer_kind_by m fs (Some type) = λ along. pointer_to_same m fs along type

pub pointer_kind_same : (m : Module) (fs : List Function) → pointer_kind (with_functions m fs) ≡ pointer_kind m
pointer_kind_same m fs = λ along type. pointer_kind_by m fs type along

kind_of_type_by : (m : Module) (fs : List Function) (type : IrType) → kind_of_type (with_functions m fs) type ≡ kind_of_type m type
kind_of_type_by m fs Void = refl
kind_of_type_by m fs (Integer bits) = refl
kind_of_type_by m fs Float = refl
kind_of_type_by m fs Double = refl
kind_of_type_by m fs (Pointer t) = λ along. pointer_kind_same m fs along (slice_get m.types t)
kind_of_type_by m fs Opaque = refl
kind_of_type_by m fs (Array length part) = refl
kind_of_type_by m fs EmptyStruct = refl
kind_of_type_by m fs (Struct first rest) = refl
kind_of_type_by m fs (Named name) = refl

pub kind_of_type_same : (m : Module) (fs : List Function) → kind_of_type (with_functions m fs) ≡ kind_of_type m
kind_of_type_same m fs = λ along type. kind_of_type_by m fs type along

kind_in_by : (m : Module) (fs : List Function) (type : Option IrType) → kind_in (with_functions m fs) type ≡ kind_in m type
kind_in_by m fs None = refl
kind_in_by m fs (Some type) = λ along. kind_of_type_same m fs along type

pub kind_in_same : (m : Module) (fs : List Function) → kind_in (with_functions m fs) ≡ kind_in m
kind_in_same m fs = λ along type. kind_in_by m fs type along

pub kind_of_same : (m : Module) (fs : List Function) → kind_of (with_functions m fs) ≡ kind_of m
kind_of_same m fs = λ along written. kind_in_same m fs along (slice_get m.types written)

kind_at_by : (m : Module) (fs : List Function) (part : Option ℕ) → kind_at (with_functions m fs) part ≡ kind_at m part
kind_at_by m fs None = refl
kind_at_by m fs (Some part) = λ along. kind_of_same m fs along part

kind_held_by : (m : Module) (fs : List Function) (held layout : Option ℕ) → kind_held (with_functions m fs) held layout ≡ kind_held m held layout
kind_held_by m fs None layout = refl
kind_held_by m fs (Some held) None = λ along. kind_of_same m fs along held
kind_held_by m fs (Some held) (Some layout) = refl

pub slot_kind_same : (m : Module) (fs : List Function) → slot_kind (with_functions m fs) ≡ slot_kind m
slot_kind_same m fs = λ along slots slot. kind_held_by m fs (held_type slots slot) (slot_layout slots slot) along

pub kind_at_same : (m : Module) (fs : List Function) → kind_at (with_functions m fs) ≡ kind_at m
kind_at_same m fs = λ along part. kind_at_by m fs part along

pub place_kind_same : (m : Module) (fs : List Function) → place_kind (with_functions m fs) ≡ place_kind m
place_kind_same m fs = λ along written. kind_at_same m fs along (pointee_same m fs along written)

is_typed_by : (m : Module) (fs : List Function) (f : Function) (written : ℕ) (operand : Operand) → is_typed (with_functions m fs) f written operand ≡ is_typed m f written operand
is_typed_by m fs f written (Written c) = λ along. constant_fits c (kind_of_same m fs along written)
is_typed_by m fs f written (Local v) = λ along. has_type_same m fs along f written v
is_typed_by m fs f written (Global symbol) = λ along. points_to_global_same m fs along written symbol
is_typed_by m fs f written (CastGlobal from symbol to) = λ along. (written == to) && points_to_global_same m fs along from symbol

pub is_typed_same : (m : Module) (fs : List Function) → is_typed (with_functions m fs) ≡ is_typed m
is_typed_same m fs = λ along f written operand. is_typed_by m fs f written operand along

pub is_of_type_same : (m : Module) (fs : List Function) → is_of_type (with_functions m fs) ≡ is_of_type m
is_of_type_same m fs = λ along f facts written operand. is_typed_same m fs along f written operand && known_fits (kind_of_same m fs along written) (known_of facts operand)

pub is_value_same : (m : Module) (fs : List Function) → is_value (with_functions m fs) ≡ is_value m
is_value_same m fs = λ along f slots facts written operand. is_of_type_same m fs along f facts written operand && is_no_opaque_slot m slots written operand

is_outside_sort_by : (m : Module) (fs : List Function) (sort : Option SymbolSort) → is_outside_sort (with_functions m fs) sort ≡ is_outside_sort m sort
is_outside_sort_by m fs (Some (Declared d)) = refl
is_outside_sort_by m fs _ = refl

pub is_outside_same : (m : Module) (fs : List Function) → is_outside (with_functions m fs) ≡ is_outside m
is_outside_same m fs = λ along symbol. is_outside_sort_by m fs (slice_get m.sorts symbol) along

is_outside_operand_by : (m : Module) (fs : List Function) (operand : Operand) → is_outside_operand (with_functions m fs) operand ≡ is_outside_operand m operand
is_outside_operand_by m fs (Global symbol) = λ along. is_outside_same m fs along symbol
is_outside_operand_by m fs (CastGlobal from symbol to) = λ along. is_outside_same m fs along symbol
is_outside_operand_by m fs _ = refl

pub is_outside_operand_same : (m : Module) (fs : List Function) → is_outside_operand (with_functions m fs) ≡ is_outside_operand m
is_outside_operand_same m fs = λ along operand. is_outside_operand_by m fs operand along

pub is_outside_value_same : (m : Module) (fs : List Function) → is_outside_value (with_functions m fs) ≡ is_outside_value m
is_outside_value_same m fs = λ along f slots facts written operand. is_pointer (kind_of_same m fs along written)
    && (is_outside_operand_same m fs along operand || (is_number_known (known_of facts operand) && is_typed_same m fs along f written operand && is_no_slot slots operand))

pub is_passed_same : (m : Module) (fs : List Function) → is_passed (with_functions m fs) ≡ is_passed m
is_passed_same m fs = λ along f slots facts written operand. is_value_same m fs along f slots facts written operand || is_outside_value_same m fs along f slots facts written operand

pub known_in_same : (m : Module) (fs : List Function) → known_in (with_functions m fs) ≡ known_in m
known_in_same m fs = λ along facts operand. if is_outside_operand_same m fs along operand then outside_known else known_of facts operand

place_known_by : (m : Module) (fs : List Function) (facts : FactSet) (written : ℕ) (operand : Operand) → place_known (with_functions m fs) facts written operand ≡ place_known m facts written operand
place_known_by m fs facts written (Local v) = refl
place_known_by m fs facts written operand = λ along. known_in_same m fs along facts operand

pub place_known_same : (m : Module) (fs : List Function) → place_known (with_functions m fs) ≡ place_known m
place_known_same m fs = λ along facts written operand. place_known_by m fs facts written operand along
