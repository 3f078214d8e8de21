-- What types are, and what has a type, does not depend on functions.
use Rattle.std.specs.Prelude.{List, None, Option, Some, [], is_some, refl, slice_get, suc, zero, ℕ, ◌&&◌, ◌||◌, ◌∷◌, ◌≡◌}
use Rattle.ir_ast.specs.declared.argument.Argument.{Argument}
use Rattle.ir_ast.specs.declared.function.Function.{Function}
use Rattle.ir_ast.specs.declared.function.LocalSort.{LocalSort}
use Rattle.ir_ast.specs.declared.function.LocalSort.TheVariants.{Element as ElementOf, Slot, Value}
use Rattle.ir_ast.specs.declared.instr.Instr.{Instr}
use Rattle.ir_ast.specs.declared.ir_type.IrType.{IrType}
use Rattle.ir_ast.specs.declared.ir_type.IrType.TheVariants.{Array, Double, EmptyStruct, Float, Integer, Named, Opaque, Pointer, Struct, Void}
use Rattle.ir_ast.specs.declared.items_of_module.SymbolSort.{SymbolSort}
use Rattle.ir_ast.specs.declared.items_of_module.SymbolSort.TheVariants.{Declared, Defined, Global, Unknown}
use Rattle.ir_ast.specs.declared.module.Module.{Module}
use Rattle.ir_ast.specs.declared.op.Op.{Op}
use Rattle.ir_ast.specs.declared.op.Op.TheVariants.{Element}
use Rattle.types.specs.Elements.{body_named, body_of_layout, element_type, field_at, field_by, field_in, index_number, part_at, part_after, part_of, type_at, written_out}
use Rattle.types.specs.Globals.{global_held, global_named, held_by, points_to_global, sort_at}
use Rattle.types.specs.References.{is_opaque, layout_after, layout_of_struct, pointee, referenced_layout, struct_at, struct_named}
use Rattle.types.specs.RuntimeCall.{runtime_called, runtime_of_sort}
use Rattle.types.specs.ValueTypes.{element_of, element_of_op, has_type, instruction_at, is_same, is_value_of, points_to}
use Rattle.answers.specs.Local.{with_functions}

pub pointee_same : (m : Module) (fs : List Function) → pointee (with_functions m fs) ≡ pointee m
pointee_same m fs = refl

pub struct_named_same : (m : Module) (fs : List Function) → struct_named (with_functions m fs) ≡ struct_named m
struct_named_same m fs = refl

struct_at_by : (m : Module) (fs : List Function) (number : Option ℕ) → struct_at (with_functions m fs) number ≡ struct_at m number
struct_at_by m fs None = refl
struct_at_by m fs (Some name) = λ along. struct_named_same m fs along name

pub struct_at_same : (m : Module) (fs : List Function) → struct_at (with_functions m fs) ≡ struct_at m
struct_at_same m fs = λ along number. struct_at_by m fs number along

layout_of_struct_by : (m : Module) (fs : List Function) (type : Option IrType) → layout_of_struct (with_functions m fs) type ≡ layout_of_struct m type
layout_of_struct_by m fs None = refl
layout_of_struct_by m fs (Some Void) = refl
layout_of_struct_by m fs (Some (Integer bits)) = refl
layout_of_struct_by m fs (Some Float) = refl
layout_of_struct_by m fs (Some Double) = refl
layout_of_struct_by m fs (Some (Pointer part)) = refl
layout_of_struct_by m fs (Some Opaque) = refl
layout_of_struct_by m fs (Some (Array length part)) = refl
layout_of_struct_by m fs (Some EmptyStruct) = refl
layout_of_struct_by m fs (Some (Struct first rest)) = refl
layout_of_struct_by m fs (Some (Named name)) = λ along. struct_named_same m fs along name

pub layout_of_struct_same : (m : Module) (fs : List Function) → layout_of_struct (with_functions m fs) ≡ layout_of_struct m
layout_of_struct_same m fs = λ along type. layout_of_struct_by m fs type along

layout_after_by : (m : Module) (fs : List Function) (number : Option ℕ) → layout_after (with_functions m fs) number ≡ layout_after m number
layout_after_by m fs None = refl
layout_after_by m fs (Some part) = λ along. layout_of_struct_same m fs along (slice_get m.types part)

pub layout_after_same : (m : Module) (fs : List Function) → layout_after (with_functions m fs) ≡ layout_after m
layout_after_same m fs = λ along number. layout_after_by m fs number along

pub referenced_layout_same : (m : Module) (fs : List Function) → referenced_layout (with_functions m fs) ≡ referenced_layout m
referenced_layout_same m fs = λ along written. layout_after_same m fs along (pointee_same m fs along written)

body_of_layout_by : (m : Module) (fs : List Function) (layout : Option ℕ) → body_of_layout (with_functions m fs) layout ≡ body_of_layout m layout
body_of_layout_by m fs None = refl
body_of_layout_by m fs (Some layout) = refl

pub body_of_layout_same : (m : Module) (fs : List Function) → body_of_layout (with_functions m fs) ≡ body_of_layout m
body_of_layout_same m fs = λ along layout. body_of_layout_by m fs layout along

pub body_named_same : (m : Module) (fs : List Function) → body_named (with_functions m fs) ≡ body_named m
body_named_same m fs = λ along name. body_of_layout_same m fs along (struct_named_same m fs along name)

type_at_by : (m : Module) (fs : List Function) (number : Option ℕ) → type_at (with_functions m fs) number ≡ type_at m number
type_at_by m fs None = refl
type_at_by m fs (Some written) = refl

pub type_at_same : (m : Module) (fs : List Function) → type_at (with_functions m fs) ≡ type_at m
type_at_same m fs = λ along number. type_at_by m fs number along

field_in_by : (m : Module) (fs : List Function) (type : Option IrType) (n : ℕ) → field_in (with_functions m fs) type n ≡ field_in m type n
field_in_by m fs (Some (Struct first rest)) zero = refl
field_in_by m fs (Some (Struct first rest)) (suc n) = λ along. field_in_by m fs (slice_get m.types rest) n along
field_in_by m fs _ n = refl

pub field_in_same : (m : Module) (fs : List Function) → field_in (with_functions m fs) ≡ field_in m
field_in_same m fs = λ along type n. field_in_by m fs type n along

written_out_by : (m : Module) (fs : List Function) (written : ℕ) (type : Option IrType) → written_out (with_functions m fs) written type ≡ written_out m written type
written_out_by m fs written None = refl
written_out_by m fs written (Some (Named name)) = λ along. body_named_same m fs along name
written_out_by m fs written _ = refl

pub written_out_same : (m : Module) (fs : List Function) → written_out (with_functions m fs) ≡ written_out m
written_out_same m fs = λ along written type. written_out_by m fs written type along

pub field_at_same : (m : Module) (fs : List Function) → field_at (with_functions m fs) ≡ field_at m
field_at_same m fs = λ along written n. field_in_same m fs along (type_at_same m fs along (written_out_same m fs along written (slice_get m.types written))) n

pub index_number_same : (m : Module) (fs : List Function) → index_number (with_functions m fs) ≡ index_number m
index_number_same m fs = refl

field_by_by : (m : Module) (fs : List Function) (written : ℕ) (number : Option ℕ) → field_by (with_functions m fs) written number ≡ field_by m written number
field_by_by m fs written None = refl
field_by_by m fs written (Some n) = λ along. field_at_same m fs along written n

pub field_by_same : (m : Module) (fs : List Function) → field_by (with_functions m fs) ≡ field_by m
field_by_same m fs = λ along written number. field_by_by m fs written number along

part_of_by : (m : Module) (fs : List Function) (written : ℕ) (type : Option IrType) (index : Argument) → part_of (with_functions m fs) written type index ≡ part_of m written type index
part_of_by m fs written (Some (Array length part)) index = refl
part_of_by m fs written _ index = λ along. field_by_same m fs along written (index_number_same m fs along index)

pub part_of_same : (m : Module) (fs : List Function) → part_of (with_functions m fs) ≡ part_of m
part_of_same m fs = λ along written type index. part_of_by m fs written type index along

pub part_at_same : (m : Module) (fs : List Function) → part_at (with_functions m fs) ≡ part_at m
part_at_same m fs = λ along written index. part_of_same m fs along written (slice_get m.types written) index

part_after_by : (m : Module) (fs : List Function) (number : Option ℕ) (indices : List Argument) → part_after (with_functions m fs) number indices ≡ part_after m number indices
part_after_by m fs None indices = refl
part_after_by m fs (Some written) [] = refl
part_after_by m fs (Some written) (index ∷ indices) = λ along. part_after_by m fs (part_at_same m fs along written index) indices along

pub part_after_same : (m : Module) (fs : List Function) → part_after (with_functions m fs) ≡ part_after m
part_after_same m fs = λ along number indices. part_after_by m fs number indices along

element_type_by : (m : Module) (fs : List Function) (source : ℕ) (arguments : List Argument) → element_type (with_functions m fs) source arguments ≡ element_type m source arguments
element_type_by m fs source [] = refl
element_type_by m fs source (first ∷ indices) = λ along. part_after_same m fs along (Some source) indices

pub element_type_same : (m : Module) (fs : List Function) → element_type (with_functions m fs) ≡ element_type m
element_type_same m fs = λ along source arguments. element_type_by m fs source arguments along

runtime_of_sort_by : (m : Module) (fs : List Function) (sort : Option SymbolSort) → runtime_of_sort (with_functions m fs) sort ≡ runtime_of_sort m sort
runtime_of_sort_by m fs None = refl
runtime_of_sort_by m fs (Some Unknown) = refl
runtime_of_sort_by m fs (Some (Global g)) = refl
runtime_of_sort_by m fs (Some (Declared d)) = refl
runtime_of_sort_by m fs (Some (Defined f)) = refl

pub runtime_of_sort_same : (m : Module) (fs : List Function) → runtime_of_sort (with_functions m fs) ≡ runtime_of_sort m
runtime_of_sort_same m fs = λ along sort. runtime_of_sort_by m fs sort along

pub runtime_called_same : (m : Module) (fs : List Function) → runtime_called (with_functions m fs) ≡ runtime_called m
runtime_called_same m fs = λ along callee. runtime_of_sort_same m fs along (slice_get m.sorts callee)

element_of_op_by : (m : Module) (fs : List Function) (x : Op) → element_of_op (with_functions m fs) x ≡ element_of_op m x
element_of_op_by m fs (Element x) = λ along. element_type_same m fs along x.source x.indices
element_of_op_by m fs _ = refl

pub element_of_op_same : (m : Module) (fs : List Function) → element_of_op (with_functions m fs) ≡ element_of_op m
element_of_op_same m fs = λ along x. element_of_op_by m fs x along

element_of_by : (m : Module) (fs : List Function) (instr : Option Instr) → element_of (with_functions m fs) instr ≡ element_of m instr
element_of_by m fs None = refl
element_of_by m fs (Some instr) = λ along. element_of_op_same m fs along instr.op

pub element_of_same : (m : Module) (fs : List Function) → element_of (with_functions m fs) ≡ element_of m
element_of_same m fs = λ along instr. element_of_by m fs instr along

pub points_to_same : (m : Module) (fs : List Function) → points_to (with_functions m fs) ≡ points_to m
points_to_same m fs = λ along written part. (is_opaque m written && is_some part) || is_same (pointee_same m fs along written) part

is_value_of_by : (m : Module) (fs : List Function) (f : Function) (written : ℕ) (sort : Option LocalSort) → is_value_of (with_functions m fs) f written sort ≡ is_value_of m f written sort
is_value_of_by m fs f written (Some (Value given)) = refl
is_value_of_by m fs f written (Some (Slot held)) = λ along. points_to_same m fs along written (Some held)
is_value_of_by m fs f written (Some (ElementOf block place)) = λ along. points_to_same m fs along written (element_of_same m fs along (instruction_at f block place))
is_value_of_by m fs f written _ = refl

pub is_value_of_same : (m : Module) (fs : List Function) → is_value_of (with_functions m fs) ≡ is_value_of m
is_value_of_same m fs = λ along f written sort. is_value_of_by m fs f written sort along

pub has_type_same : (m : Module) (fs : List Function) → has_type (with_functions m fs) ≡ has_type m
has_type_same m fs = λ along f written value. is_value_of_same m fs along f written (slice_get f.sorts value)

sort_at_by : (m : Module) (fs : List Function) (number : Option ℕ) → sort_at (with_functions m fs) number ≡ sort_at m number
sort_at_by m fs None = refl
sort_at_by m fs (Some symbol) = refl

pub sort_at_same : (m : Module) (fs : List Function) → sort_at (with_functions m fs) ≡ sort_at m
sort_at_same m fs = λ along number. sort_at_by m fs number along

pub global_named_same : (m : Module) (fs : List Function) → global_named (with_functions m fs) ≡ global_named m
global_named_same m fs = refl

held_by_by : (m : Module) (fs : List Function) (global : Option ℕ) → held_by (with_functions m fs) global ≡ held_by m global
held_by_by m fs None = refl
held_by_by m fs (Some g) = refl

pub held_by_same : (m : Module) (fs : List Function) → held_by (with_functions m fs) ≡ held_by m
held_by_same m fs = λ along global. held_by_by m fs global along

pub global_held_same : (m : Module) (fs : List Function) → global_held (with_functions m fs) ≡ global_held m
global_held_same m fs = λ along symbol. held_by_same m fs along (global_named_same m fs along symbol)

pub points_to_global_same : (m : Module) (fs : List Function) → points_to_global (with_functions m fs) ≡ points_to_global m
points_to_global_same m fs = λ along written symbol. points_to_same m fs along written (global_held_same m fs along symbol)
