-- Names: where they are defined, and where they are used. One that is used may be defined further on.
use Rattle.std.specs.Prelude.{◌≡◌, ◌≢◌, ℕ, ◌+◌, ◌≤◌, Bool, true, false, not, ◌&&◌, ◌||◌, nat_lt, List, [], ◌∷◌, ◌++◌, ◌==◌, length, Option, Some, None, slice_get, is_none, option_and_then, option_map, find, refl}
use Rattle.std.proofs.Common.{arith, ap, sym, ◌∙◌}
use Rattle.grammar.specs.Grammar.{step, checked, refuse, look, ◌>>◌}
use Rattle.grammar.specs.Takes.{TakesWhere, Stays, stays_takes}
use Rattle.ir_tokens.specs.declared.token.Kind.{Kind}
use Rattle.ir_tokens.specs.declared.token.Kind.TheVariants as k
use Rattle.ir_ast.specs.Names.{place_of, number_of}
use Rattle.ir_ast.specs.RuntimeNames.{runtime_of}
use Rattle.ir_ast.specs.declared.items_of_module.SymbolSort.{SymbolSort}
use Rattle.ir_ast.specs.declared.items_of_module.SymbolSort.TheVariants as symbol
use Rattle.ir_ast.specs.declared.function.LocalSort.{LocalSort}
use Rattle.ir_ast.specs.declared.function.LocalSort.TheVariants as local
use Rattle.ir_forms.specs.declared.fault.Fault.TheVariants.{DefinedTwice, WrongNumber}
use Rattle.ir_forms.specs.Number.{decimal, small}
use Rattle.std.specs.Fmt as text
use Rattle.ir_forms.specs.declared.input.Input.{Input}
use Rattle.ir_forms.specs.declared.uses.LocalUse.{LocalUse}
use Rattle.ir_forms.specs.declared.uses.Wanted.{Wanted}
use Rattle.ir_forms.specs.declared.uses.Wanted.TheVariants as wants
use Rattle.ir_forms.specs.Cursor.{kind, next, start, size, spelled, local_key, left_out}
use Rattle.ir_forms.specs.Input.{Form, left, limit, unexpected, expect, advanced, advanced_falls, sees_a, next_falls, advance_takes, keeps_takes, IsKind}
use Rattle.ir_forms.specs.Intrinsics.{is_intrinsic, is_left_out}
use Rattle.ir_forms.specs.declared.table.Table.{Table}
use Rattle.ir_forms.specs.Table.{mentioned, defined}

-- ---- rules

-- numbers have 32 bits
abbrev pub has_number : (Input → ℕ) → Form (Unit {0})
has_number number = checked (λ i. nat_lt (number i) 4294967296) limit

-- a name is defined once
abbrev pub is_new : (Input → Bool) → Form (Unit {0})
is_new is_defined = checked (λ i. not (is_defined i)) (λ i. DefinedTwice (start i.cursor))

-- ---- numbers in place of names

-- the next number of the function is taken
abbrev pub with_number_taken : Input → Input
with_number_taken i = record i { unnamed = i.unnamed + 1 }

pub with_number_taken_falls : (i : Input) → left (with_number_taken i) ≤ left i
unfolding left
with_number_taken_falls i = omega arith

-- a number of 32 bits is left in the function
abbrev pub has_further_number : Form (Unit {0})
has_further_number = checked (λ i. nat_lt i.unnamed 4294967295) limit

-- the next number of the function is taken; numbers have 32 bits
unfoldable pub take_number : Form (Unit {0})
take_number = has_further_number >> step (λ _. tt) with_number_taken with_number_taken_falls

-- the number is written, and is the wanted one
abbrev pub is_at : ℕ → Option ℕ → Bool
is_at wanted None = false
is_at wanted (Some place) = place == wanted

-- the number that the next token spells is the next one
abbrev pub is_written_next : Input → Bool
is_written_next i = is_at i.unnamed (small (decimal (spelled i.cursor)))

-- the written number is the next one of its function
abbrev pub is_next : Form (Unit {0})
is_next = checked is_written_next (λ i. WrongNumber (start i.cursor))

-- a number that is written is the next one, and is taken
unfoldable pub next_number : Form (Unit {0})
next_number = is_next >> take_number

next_number_keeps : (i : Input) (a : Unit {0}) (o : Input) (x : Kind) → next_number.says i a o → IsKind x i → IsKind x o
unfolding next_number take_number
next_number_keeps i a o x h is =
    let written = ap (λ (j : Input). kind j.cursor) h.2.1 in
    let further = ap (λ (j : Input). kind j.cursor) h.3.2.1 in
    let taken = ap (λ (j : Input). kind j.cursor) h.3.3.1 in
    sym taken ∙ sym further ∙ sym written ∙ is

-- ---- names of structs

-- the name is that of a struct type that was defined
abbrev pub is_struct : Option (Option ℕ) → Bool
is_struct None = false
is_struct (Some None) = false
is_struct (Some (Some layout)) = true

-- the number of the struct name that is here
abbrev pub struct_number : Input → ℕ
struct_number i = number_of (spelled i.cursor) i.struct_names.names

-- a struct name is used here
abbrev pub with_struct_use : Input → Input
with_struct_use i = record (advanced i) {
  struct_names = mentioned (spelled i.cursor) None i.struct_names;
  struct_uses = i.struct_uses ++ record { name = struct_number i; start = start i.cursor } ∷ [];
}

pub with_struct_use_falls : (i : Input) → left (with_struct_use i) ≤ left i
unfolding left
with_struct_use_falls i = next_falls i

-- the name has a number of 32 bits
abbrev pub struct_name_rules : Form (Unit {0})
struct_name_rules = has_number struct_number

-- a struct's name in a type
unfoldable pub struct_name : Form ℕ
struct_name = struct_name_rules >> step struct_number with_struct_use with_struct_use_falls

-- the struct name that is here was defined before
abbrev pub is_known_struct : Input → Bool
is_known_struct i = is_struct (slice_get (mentioned (spelled i.cursor) None i.struct_names).sorts (struct_number i))

-- the struct name that is here is defined here
abbrev pub with_struct : Input → Input
with_struct i = record (advanced i) {
  struct_names = defined (struct_number i) (Some (length i.structs)) (mentioned (spelled i.cursor) None i.struct_names);
}

pub with_struct_falls : (i : Input) → left (with_struct i) ≤ left i
unfolding left
with_struct_falls i = next_falls i

-- there are numbers for the name and its struct, and it was not defined before
abbrev pub new_struct_rules : Form (Unit {0})
new_struct_rules = has_number struct_number >> has_number (λ i. length i.structs) >> is_new is_known_struct

-- the name of the struct that comes next in text order
unfoldable pub new_struct : Form ℕ
new_struct = new_struct_rules >> step struct_number with_struct with_struct_falls

-- ---- global names

-- the name is that of a global or a function
abbrev pub is_symbol : Option SymbolSort → Bool
is_symbol None = false
is_symbol (Some symbol.Unknown) = false
is_symbol (Some (symbol.Global g)) = true
is_symbol (Some (symbol.Declared d)) = true
is_symbol (Some (symbol.Defined f)) = true

-- the name is that of a function
abbrev pub is_function : Option SymbolSort → Bool
is_function None = false
is_function (Some symbol.Unknown) = false
is_function (Some (symbol.Global g)) = false
is_function (Some (symbol.Declared d)) = true
is_function (Some (symbol.Defined f)) = true

-- the number of the global name that is here
abbrev pub symbol_number : Input → ℕ
symbol_number i = number_of (spelled i.cursor) i.symbols.names

-- intrinsics that may not stand in the text are left out
abbrev pub not_left_out : Form (Unit {0})
not_left_out = checked (λ i. not (is_left_out i.wide (spelled i.cursor))) (λ i. left_out i.cursor)

-- the global name that is here was defined before
abbrev pub is_known_symbol : Input → Bool
is_known_symbol i = is_symbol (slice_get (mentioned (spelled i.cursor) symbol.Unknown i.symbols).sorts (symbol_number i))

-- the global name that is here is defined here, as this
abbrev pub with_symbol : SymbolSort → Input → Input
with_symbol sort i = record (advanced i) { symbols = defined (symbol_number i) sort (mentioned (spelled i.cursor) symbol.Unknown i.symbols) }

pub with_symbol_falls : (sort : SymbolSort) (i : Input) → left (with_symbol sort i) ≤ left i
unfolding left
with_symbol_falls sort i = next_falls i

-- the name is none that is left out, has a number of 32 bits, and was not defined before
abbrev pub new_symbol_rules : Form (Unit {0})
new_symbol_rules = not_left_out >> has_number symbol_number >> is_new is_known_symbol

-- a global name that is defined here, as this
unfoldable pub new_symbol : SymbolSort → Form ℕ
new_symbol sort = new_symbol_rules >> step symbol_number (with_symbol sort) (with_symbol_falls sort)

-- a global name is used here, in a call or as an operand
abbrev pub with_symbol_use : Bool → Input → Input
with_symbol_use is_call i = record (advanced i) {
  symbols = mentioned (spelled i.cursor) symbol.Unknown i.symbols;
  symbol_uses = i.symbol_uses ++ record { symbol = symbol_number i; is_call = is_call; start = start i.cursor; length = size i.cursor } ∷ [];
}

pub with_symbol_use_falls : (is_call : Bool) (i : Input) → left (with_symbol_use is_call i) ≤ left i
unfolding left
with_symbol_use_falls is_call i = next_falls i

-- a use of a global name, which is called or else is an operand
unfoldable pub used_symbol : Bool → Form ℕ
used_symbol is_call = has_number symbol_number >> step symbol_number (with_symbol_use is_call) (with_symbol_use_falls is_call)

-- the name of a function that is called
unfoldable pub callee : Form ℕ
callee = not_left_out >> used_symbol true

-- what the next token's global name means so far
abbrev pub sort_of_symbol : Input → Option SymbolSort
sort_of_symbol i = option_and_then (slice_get i.symbols.sorts) (place_of (spelled i.cursor) i.symbols.names)

-- the name is one that is declared, and no more
abbrev pub is_declared : Option SymbolSort → Bool
is_declared (Some (symbol.Declared d)) = true
is_declared _ = false

-- a name that means this is that of something outside: it is only declared, and is no function of the runtime
abbrev pub is_outside : Option SymbolSort → (name : List ℕ) → Bool
is_outside sort name = is_declared sort && is_none (runtime_of name)

-- a name that means this so far may be an operand: it is that of no function, or of something outside where the wide forms may stand
abbrev pub may_be_operand : (wide : Bool) → Option SymbolSort → (name : List ℕ) → Bool
may_be_operand wide sort name = not (is_function sort) || (is_outside sort name && wide)

-- the name that is here may be an operand; otherwise it is left out
abbrev pub is_operand : Form (Unit {0})
is_operand = checked (λ i. may_be_operand i.wide (sort_of_symbol i) (spelled i.cursor)) (λ i. left_out i.cursor)

-- the name of a global, or of something outside, as an operand
unfoldable pub used_global : Form ℕ
used_global = checked (λ i. not (is_intrinsic (spelled i.cursor))) (λ i. left_out i.cursor) >> is_operand >> used_symbol false

-- ---- local names

-- the name is that of a value or a block of its function
abbrev pub is_local : Option LocalSort → Bool
is_local None = false
is_local (Some local.Unknown) = false
is_local (Some (local.Value t)) = true
is_local (Some (local.Slot held)) = true
is_local (Some (local.Element block place)) = true
is_local (Some (local.Block b)) = true

-- the number of the local name that is here
abbrev pub local_number : Input → ℕ
local_number i = number_of (local_key i.cursor) i.locals.names

-- a local name is used here, as a value or a block
abbrev pub with_local_use : Wanted → Input → Input
with_local_use wanted i = record (advanced i) {
  locals = mentioned (local_key i.cursor) local.Unknown i.locals;
  local_uses = i.local_uses ++ record { value = local_number i; wanted = wanted; start = start i.cursor } ∷ [];
}

pub with_local_use_falls : (wanted : Wanted) (i : Input) → left (with_local_use wanted i) ≤ left i
unfolding left
with_local_use_falls wanted i = next_falls i

-- a local name that has to mean this
unfoldable pub used_local : Wanted → Form ℕ
used_local wanted = has_number local_number >> step local_number (with_local_use wanted) (with_local_use_falls wanted)

-- a local name or number as an operand
abbrev pub used_value : Form ℕ
used_value = used_local wants.Value

-- the name of a block that is used here
abbrev pub used_label_by : Wanted → Kind → Form ℕ
used_label_by wanted k.LocalName = used_local wanted
used_label_by wanted k.LocalNumber = used_local wanted
used_label_by wanted _ = refuse unexpected

-- `%b`, the name of a block
unfoldable pub used_label : Wanted → Form ℕ
used_label wanted = look (λ i. kind i.cursor) (used_label_by wanted)

-- `%b`, a block from which this one is entered
abbrev pub incoming_label : Form ℕ
incoming_label = used_label wants.Block

-- `label %b`, a branch target
unfoldable pub target : Form ℕ
target = expect k.Label >> used_label wants.Target

-- the local name that is here was defined before
abbrev pub is_known_local : Input → Bool
is_known_local i = is_local (slice_get (mentioned (local_key i.cursor) local.Unknown i.locals).sorts (local_number i))

-- the local name that is here is that of a new value
abbrev pub with_value : Input → Input
with_value i = record (advanced i) { locals = mentioned (local_key i.cursor) local.Unknown i.locals; values = i.values + 1 }

pub with_value_falls : (i : Input) → left (with_value i) ≤ left i
unfolding left
with_value_falls i = next_falls i

-- a function defines at most a million values
abbrev pub has_value_room : Form (Unit {0})
has_value_room = checked (λ i. nat_lt i.values 1000000) limit

-- the name has a number of 32 bits and was not defined before, and the function has room for a value
abbrev pub new_value_rules : Form (Unit {0})
new_value_rules = has_number local_number >> is_new is_known_local >> has_value_room

-- the name of a value that is defined here
unfoldable pub new_value : Form ℕ
new_value = new_value_rules >> step local_number with_value with_value_falls

-- the number of a value that is defined here
unfoldable pub numbered_value : Form ℕ
numbered_value = next_number >> new_value

-- the number of the local name with this key
abbrev pub key_number : List ℕ → Input → ℕ
key_number key i = number_of key i.locals.names

-- a value with this key is new, and no name is written
abbrev pub with_unwritten_value : List ℕ → Input → Input
with_unwritten_value key i = record i { locals = mentioned key local.Unknown i.locals; values = i.values + 1 }

pub with_unwritten_value_falls : (key : List ℕ) (i : Input) → left (with_unwritten_value key i) ≤ left i
unfolding left
with_unwritten_value_falls key i = omega arith

-- a new value with this key
abbrev pub value_of_key : List ℕ → Form ℕ
value_of_key key = has_number (key_number key) >> has_value_room >> step (key_number key) (with_unwritten_value key) (with_unwritten_value_falls key)

-- a value for which no name is written: it has the next number
unfoldable pub unnamed_value : Form ℕ
unnamed_value = look (λ i. text.decimal i.unnamed) (λ key. take_number >> value_of_key key)

-- the local name is known to be this
abbrev pub with_sort : ℕ → LocalSort → Input → Input
with_sort value sort i = record i { locals = defined value sort i.locals }

pub with_sort_falls : (value : ℕ) (sort : LocalSort) (i : Input) → left (with_sort value sort i) ≤ left i
unfolding left
with_sort_falls value sort i = omega arith

-- what the value is that this name means
abbrev pub set_sort : ℕ → LocalSort → Form (Unit {0})
set_sort value sort = step (λ _. tt) (with_sort value sort) (with_sort_falls value sort)

-- the type of the value that this name means
abbrev pub set_type : ℕ → ℕ → Form (Unit {0})
set_type value shown = set_sort value (local.Value shown)

-- the name means a slot that holds a value of this type
abbrev pub set_slot : ℕ → ℕ → Form (Unit {0})
set_slot value held = set_sort value (local.Slot held)

-- the name means the value of the getelementptr at this place of this block's body
abbrev pub set_element : ℕ → ℕ → ℕ → Form (Unit {0})
set_element value block place = set_sort value (local.Element block place)

-- the local name that is here is that of this block
abbrev pub with_label : ℕ → Input → Input
with_label block i = record (advanced i) { locals = defined (local_number i) (local.Block block) (mentioned (local_key i.cursor) local.Unknown i.locals) }

pub with_label_falls : (block : ℕ) (i : Input) → left (with_label block i) ≤ left i
unfolding left
with_label_falls block i = next_falls i

-- the name has a number of 32 bits and was not defined before
abbrev pub label_rules : Form (Unit {0})
label_rules = has_number local_number >> is_new is_known_local

-- the label of the block with this number
unfoldable pub new_label : ℕ → Form ℕ
new_label block = label_rules >> step local_number (with_label block) (with_label_falls block)

-- the number of the block with this number in text order, as its label
unfoldable pub numbered_label : ℕ → Form ℕ
numbered_label block = next_number >> new_label block

-- the block has this key, and no label is written
abbrev pub with_unwritten_label : List ℕ → ℕ → Input → Input
with_unwritten_label key block i = record i { locals = defined (key_number key i) (local.Block block) (mentioned key local.Unknown i.locals) }

pub with_unwritten_label_falls : (key : List ℕ) (block : ℕ) (i : Input) → left (with_unwritten_label key block i) ≤ left i
unfolding left
with_unwritten_label_falls key block i = omega arith

-- the label of this block, with this key
abbrev pub label_of_key : ℕ → List ℕ → Form ℕ
label_of_key block key = has_number (key_number key) >> step (key_number key) (with_unwritten_label key block) (with_unwritten_label_falls key block)

-- the label of a block for which none is written: it has the next number
unfoldable pub unnamed_label : ℕ → Form ℕ
unnamed_label block = look (λ i. text.decimal i.unnamed) (λ key. take_number >> label_of_key block key)

-- text in quotes
unfoldable pub quoted : Form (List ℕ)
quoted = sees_a k.Quoted >> step (λ i. spelled i.cursor) advanced advanced_falls

-- a use of a name as a value
abbrev pub wants_value : Wanted → Bool
wants_value wants.Value = true
wants_value wants.Block = false
wants_value wants.Target = false

-- the entry, which is block 0, is no target
abbrev pub wants_block : Wanted → ℕ → Bool
wants_block wants.Value block = false
wants_block wants.Block block = true
wants_block wants.Target block = not (block == 0)

-- the name means what is wanted
abbrev pub is_wanted : Wanted → Option LocalSort → Bool
is_wanted wanted None = false
is_wanted wanted (Some local.Unknown) = false
is_wanted wanted (Some (local.Value t)) = wants_value wanted
is_wanted wanted (Some (local.Slot held)) = wants_value wanted
is_wanted wanted (Some (local.Element block place)) = wants_value wanted
is_wanted wanted (Some (local.Block b)) = wants_block wanted b

-- where the first use is of a local name that is not what is wanted
abbrev pub first_missing : Table LocalSort → List LocalUse → Option ℕ
first_missing t uses = option_map (λ u. u.start) (find (λ u. not (is_wanted u.wanted (slice_get t.sorts u.value))) uses)

-- ---- names take a token

struct_use_left : (i : Input) → left (with_struct_use i) ≡ length (next i.cursor).rest
unfolding left
struct_use_left i = refl

struct_name_stays : Stays struct_name_rules
struct_name_stays i a o h = h.1

pub struct_name_takes : TakesWhere (IsKind k.LocalName) struct_name
unfolding struct_name
struct_name_takes = stays_takes (IsKind k.LocalName) struct_name_rules (step struct_number with_struct_use with_struct_use_falls) struct_name_stays
    (advance_takes k.LocalName (λ x. cc) struct_number with_struct_use with_struct_use_falls struct_use_left)

new_struct_left : (i : Input) → left (with_struct i) ≡ length (next i.cursor).rest
unfolding left
new_struct_left i = refl

new_struct_stays : Stays new_struct_rules
new_struct_stays i a o h = h.2.2.1 ∙ h.2.3.1 ∙ h.3.1

pub new_struct_takes : TakesWhere (IsKind k.LocalName) new_struct
unfolding new_struct
new_struct_takes = stays_takes (IsKind k.LocalName) new_struct_rules (step struct_number with_struct with_struct_falls) new_struct_stays
    (advance_takes k.LocalName (λ x. cc) struct_number with_struct with_struct_falls new_struct_left)

new_symbol_left : (sort : SymbolSort) (i : Input) → left (with_symbol sort i) ≡ length (next i.cursor).rest
unfolding left
new_symbol_left sort i = refl

new_symbol_stays : Stays new_symbol_rules
new_symbol_stays i a o h = h.2.2.1 ∙ h.2.3.1 ∙ h.3.1

pub new_symbol_takes : (sort : SymbolSort) → TakesWhere (IsKind k.GlobalName) (new_symbol sort)
unfolding new_symbol
new_symbol_takes sort = stays_takes (IsKind k.GlobalName) new_symbol_rules (step symbol_number (with_symbol sort) (with_symbol_falls sort)) new_symbol_stays
    (advance_takes k.GlobalName (λ x. cc) symbol_number (with_symbol sort) (with_symbol_falls sort) (new_symbol_left sort))

new_value_left : (i : Input) → left (with_value i) ≡ length (next i.cursor).rest
unfolding left
new_value_left i = refl

new_value_stays : Stays new_value_rules
new_value_stays i a o h = h.2.2.1 ∙ h.2.3.1 ∙ h.3.1

any_value_takes : (x : Kind) → x ≢ k.End → TakesWhere (IsKind x) new_value
unfolding new_value
any_value_takes x ne = stays_takes (IsKind x) new_value_rules (step local_number with_value with_value_falls) new_value_stays
    (advance_takes x ne local_number with_value with_value_falls new_value_left)

pub new_value_takes : TakesWhere (IsKind k.LocalName) new_value
new_value_takes = any_value_takes k.LocalName (λ x. cc)

pub numbered_value_takes : TakesWhere (IsKind k.LocalNumber) numbered_value
unfolding numbered_value
numbered_value_takes = keeps_takes (IsKind k.LocalNumber) next_number (λ _. new_value) (λ i a o h is. next_number_keeps i a o k.LocalNumber h is) (λ _. any_value_takes k.LocalNumber (λ x. cc))
