-- Names that are checked after the whole text, since each may be defined further on.
use Rattle.std.specs.Prelude.{ℕ, Bool, List, true, false, not, ◌&&◌, ◌||◌, Option, Some, None, slice_get, find, option_map, min}
use Rattle.ir_ast.specs.Names.{name_at}
use Rattle.ir_ast.specs.declared.items_of_module.SymbolSort.{SymbolSort}
use Rattle.ir_ast.specs.declared.items_of_module.SymbolSort.TheVariants as symbol
use Rattle.ir_forms.specs.declared.fault.Fault.{Fault}
use Rattle.ir_forms.specs.declared.fault.Fault.TheVariants.{LeftOut, NotDefined}
use Rattle.ir_forms.specs.declared.input.Input.{Input}
use Rattle.ir_forms.specs.Names.{is_outside}
use Rattle.ir_forms.specs.declared.uses.SymbolUse.{SymbolUse}
use Rattle.ir_forms.specs.declared.uses.StructUse.{StructUse}

-- functions are called, and globals are operands
abbrev pub is_right : Bool → Option SymbolSort → Bool
is_right is_call None = false
is_right is_call (Some symbol.Unknown) = false
is_right is_call (Some (symbol.Global g)) = not is_call
is_right is_call (Some (symbol.Declared d)) = is_call
is_right is_call (Some (symbol.Defined f)) = is_call

-- what a name that was used turned out to be
abbrev pub sort_of : Input → SymbolUse → Option SymbolSort
sort_of i u = slice_get i.symbols.sorts u.symbol

-- a name that means this may be used so: what is outside is an operand, too, where the wide forms may stand
abbrev pub may_use : (wide is_call : Bool) → Option SymbolSort → (name : List ℕ) → Bool
may_use wide is_call sort name = (is_outside sort name && (wide && not is_call)) || is_right is_call sort

-- a global name is that of a function where it is called, and of a global or of something outside elsewhere
abbrev pub is_right_symbol : Input → SymbolUse → Bool
is_right_symbol i u = may_use i.wide u.is_call (sort_of i u) (name_at i.symbols.names u.symbol)

-- a function is used as an operand, which is not outside
abbrev pub is_function_operand : Input → SymbolUse → Bool
is_function_operand i u = not u.is_call && (is_right true (sort_of i u) && not (is_right_symbol i u))

-- the name is that of a struct type that was defined
abbrev pub is_struct : Option (Option ℕ) → Bool
is_struct None = false
is_struct (Some None) = false
is_struct (Some (Some layout)) = true

-- a struct name that was used is defined
abbrev pub is_right_struct : Input → StructUse → Bool
is_right_struct i u = is_struct (slice_get i.struct_names.sorts u.name)

-- a function as an operand is left out
abbrev pub operand_fault : SymbolUse → Fault
operand_fault u = LeftOut u.start u.length

-- the first function that is an operand
abbrev pub function_operand : Input → Option Fault
function_operand i = option_map operand_fault (find (is_function_operand i) i.symbol_uses)

-- the first use of a global name that is nowhere defined, or means something of another sort
abbrev pub wrong_symbol : Input → Option ℕ
wrong_symbol i = option_map (λ u. u.start) (find (λ u. not (is_right_symbol i u)) i.symbol_uses)

-- the first use of a struct that is nowhere defined
abbrev pub wrong_struct : Input → Option ℕ
wrong_struct i = option_map (λ u. u.start) (find (λ u. not (is_right_struct i u)) i.struct_uses)

-- the earlier of two places
abbrev pub earliest : Option ℕ → Option ℕ → Option ℕ
earliest None b = b
earliest (Some a) None = Some a
earliest (Some a) (Some b) = Some (min a b)

-- the first fault: this one, or a name at this place that is not defined
abbrev pub first_of_faults : Option Fault → Option ℕ → Option Fault
first_of_faults (Some fault) place = Some fault
first_of_faults None place = option_map (λ p. NotDefined p) place

-- the first fault of a text that has no other fault than those of names: a function that is an operand goes before
-- names that are not defined
abbrev pub late_fault : Input → Option Fault
late_fault i = first_of_faults (function_operand i) (earliest (earliest i.missing (wrong_symbol i)) (wrong_struct i))
