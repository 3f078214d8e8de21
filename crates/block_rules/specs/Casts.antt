-- Bitcasts: to which types they may lead, and what is known after them.
use Rattle.std.specs.Prelude.{ℕ, ◌==◌, Bool, true, false, ◌&&◌, ◌||◌, if◌then◌else◌, List, Option, Some, None}
use Rattle.ir_ast.specs.declared.module.Module.{Module}
use Rattle.ir_ast.specs.declared.operand.Constant.{Constant}
use Rattle.ir_ast.specs.declared.operand.Constant.TheVariants.{Number as Numeral, Float as Floating, Truth, Null as NullWritten}
use Rattle.ir_ast.specs.declared.operand.Operand.{Operand}
use Rattle.ir_ast.specs.declared.operand.Operand.TheVariants.{Constant as Written, Local, CastGlobal}
use Rattle.layout.specs.Globals.{global_word}
use Rattle.layout.specs.Layouts.{LaidOut}
use Rattle.pools.specs.declared.word_kind.WordKind.{WordKind}
use Rattle.pools.specs.declared.word_set.WordSet.{WordSet}
use Rattle.types.specs.RuntimeCall.{is_outside}
use Rattle.shadow_stack.specs.Slots.{SlotTable, slot_of}
use Rattle.fact_tables.specs.declared.known.Known.{Known}
use Rattle.fact_tables.specs.declared.known.Known.TheVariants.{Nothing, Number, Cell, Null, Address, GlobalAddress}
use Rattle.fact_tables.specs.Rows.{known_at, off_base}
use Rattle.facts.specs.Facts.{FactSet, define}
use Rattle.type_kinds.specs.declared.type_kind.TypeKind.{TypeKind}
use Rattle.type_kinds.specs.declared.type_kind.TypeKind.TheVariants.{Bits, Reference}
use Rattle.block_rules.specs.Operands.{known_of, known_in}
use Rattle.type_kinds.specs.WantedWords.{layout_of_word, loads_words}
use Rattle.block_rules.specs.Places.{define_held}
use Rattle.type_kinds.specs.TypeKinds.{kind_of, slot_kind, place_kind, is_bits, may_be_reference, fits_layout, layout_of_kind}
use Rattle.block_rules.specs.Bounds.{below_next}
use Rattle.block_rules.specs.Integers.{define_number}

-- null of a reference type is null of each, and null of an address of references likewise
abbrev pub casts_null : Module → (from to : ℕ) → Bool
casts_null m from to =
    (may_be_reference (kind_of m from) && may_be_reference (kind_of m to))
    || (may_be_reference (place_kind m from) && may_be_reference (place_kind m to))

-- a constant that is a number is never of another type
abbrev pub casts_constant : Module → (from to : ℕ) → Constant → Bool
casts_constant m from to NullWritten = casts_null m from to
casts_constant m from to _ = false

-- a slot of references to a layout may be named as a place of references to it, or as `i8**`
abbrev pub casts_slot : (held to : TypeKind) → Bool
casts_slot (Reference layout) to = fits_layout layout to
casts_slot _ to = false

-- words of a layout may be named as a place of this kind: all are references to one layout, and it fits
abbrev pub casts_words : (layouts : List (List WordKind)) → (layout : ℕ) → WordSet → (to : TypeKind) → Bool
casts_words layouts layout words to = may_be_reference to && loads_words layouts layout words to

-- the same of words of the cell that a base refers to
abbrev pub casts_base : LaidOut → (to : ℕ) → WordSet → (base : Known) → Bool
casts_base p to words (Cell class layout stale) = casts_words p.layouts layout words (place_kind p.of_module to)
casts_base p to words _ = true

-- a place of references to this layout, if they refer to one, may be named as a place of references to it, or as `i8**`
abbrev pub casts_to : (layout : Option ℕ) → (to : TypeKind) → Bool
casts_to None to = false
casts_to (Some layout) to = fits_layout layout to

-- the same of the word of a global
abbrev pub casts_global : Module → (to symbol : ℕ) → Bool
casts_global m to symbol = casts_to (layout_of_word (global_word m symbol)) (place_kind m to)

-- K19: a global is used at its own type, or at one of the same layout, and what is outside at each; other operands are not cast where they are used
abbrev pub casts_operand : Module → Operand → Bool
casts_operand m (CastGlobal from symbol to) = (from == to) || casts_global m to symbol || is_outside m symbol
casts_operand m _ = true

-- a number of a type of its bits may be named as one of another type of as many; a reference to a layout as one, or as `i8*`
abbrev pub casts_known : LaidOut → FactSet → (from to : ℕ) → Known → Bool
casts_known p facts from to Nothing = true
casts_known p facts from to (Number bits below) = is_bits bits (kind_of p.of_module from) && is_bits bits (kind_of p.of_module to)
casts_known p facts from to (Cell class layout stale) = fits_layout layout (kind_of p.of_module to)
casts_known p facts from to Null = may_be_reference (kind_of p.of_module to)
casts_known p facts from to (Address base words) = casts_base p to words (known_at facts.values base)
casts_known p facts from to (GlobalAddress symbol) = casts_global p.of_module to symbol

-- a name names a slot, or a value
abbrev pub casts_local : LaidOut → SlotTable → FactSet → (from to : ℕ) → Known → (slot : Option ℕ) → Bool
casts_local p slots facts from to known None = casts_known p facts from to known
casts_local p slots facts from to known (Some s) = casts_slot (slot_kind p.of_module slots s) (place_kind p.of_module to)

-- a bitcast to another type keeps the layout
abbrev pub casts_other : LaidOut → SlotTable → FactSet → (from to : ℕ) → Operand → Bool
casts_other p slots facts from to (Written c) = casts_constant p.of_module from to c
casts_other p slots facts from to (Local v) = casts_local p slots facts from to (known_at facts.values v) (slot_of slots v)
casts_other p slots facts from to operand = casts_known p facts from to (known_of facts operand)

-- K19: a bitcast leads to the same type, to one of numbers of as many bits, or to a type of the same layout
abbrev pub may_cast : LaidOut → SlotTable → FactSet → (from to : ℕ) → Operand → Bool
may_cast p slots facts from to operand = (from == to) || casts_other p slots facts from to operand

-- the layout of what null is cast to, or else from
abbrev pub layout_of_null : (from to : TypeKind) → Option ℕ
layout_of_null from to = elim (layout_of_kind to) [ None ↦ layout_of_kind from | Some layout ↦ Some layout ]

-- a bitcast of a number is a number, which is below the next one
abbrev pub cast_number : (v n : ℕ) → TypeKind → FactSet → FactSet
cast_number v n (Bits bits) facts = define v (Number bits (below_next n)) facts
cast_number v n _ facts = define v Nothing facts

-- a constant under another type; null is a reference where a type says its layout
abbrev pub cast_constant : Module → (v from to : ℕ) → Constant → FactSet → FactSet
cast_constant m v from to (Numeral n) facts = cast_number v n (kind_of m to) facts
cast_constant m v from to (Floating n) facts = define_number v (kind_of m to) None facts
cast_constant m v from to (Truth b) facts = define v Nothing facts
cast_constant m v from to NullWritten facts = define_held v (layout_of_null (kind_of m from) (kind_of m to)) false facts

-- a value under another name has what is known of it, but for an address whose base had this name. A value that is named as itself stays, and a slot is no value and only gets another name
abbrev pub cast_local : (v u : ℕ) → Known → (slot : Option ℕ) → FactSet → FactSet
cast_local v u known None facts = if u == v then facts else define v (off_base v known) facts
cast_local v u known (Some s) facts = facts

-- after a bitcast
abbrev pub after_cast : Module → SlotTable → (v from to : ℕ) → Operand → FactSet → FactSet
after_cast m slots v from to (Written c) facts = cast_constant m v from to c facts
after_cast m slots v from to (Local u) facts = cast_local v u (known_at facts.values u) (slot_of slots u) facts
after_cast m slots v from to operand facts = define v (known_in m facts operand) facts
