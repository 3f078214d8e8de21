-- Loads and stores: what a place holds, and what may be moved there.
use Rattle.std.specs.Prelude.{ℕ, ◌==◌, Bool, true, false, not, ◌&&◌, ◌||◌, if◌then◌else◌, List, Option, Some, None}
use Rattle.ir_ast.specs.declared.module.Module.{Module}
use Rattle.ir_ast.specs.declared.operand.Operand.{Operand}
use Rattle.ir_ast.specs.declared.operand.Operand.TheVariants.{Constant as Written, Local}
use Rattle.layout.specs.Globals.{global_word}
use Rattle.layout.specs.Layouts.{LaidOut}
use Rattle.pools.specs.declared.word_kind.WordKind.{WordKind}
use Rattle.pools.specs.declared.word_set.WordSet.{WordSet}
use Rattle.shadow_stack.specs.Slots.{SlotTable, slot_of, held_type}
use Rattle.types.specs.References.{is_opaque}
use Rattle.fact_tables.specs.declared.known.Known.{Known}
use Rattle.fact_tables.specs.declared.known.Known.TheVariants.{Nothing, Number, Cell, Null, Address, GlobalAddress}
use Rattle.fact_tables.specs.Rows.{known_at}
use Rattle.facts.specs.Facts.{FactSet, define, define_new, drop_fresh_of, store_slot, load_slot}
use Rattle.type_kinds.specs.declared.wanted_word.WantedWord.{WantedWord}
use Rattle.type_kinds.specs.declared.wanted_word.WantedWord.TheVariants as want
use Rattle.type_kinds.specs.declared.type_kind.TypeKind.{TypeKind}
use Rattle.type_kinds.specs.declared.type_kind.TypeKind.TheVariants.{Bits, Reference, AnyReference}
use Rattle.type_kinds.specs.WantedWords.{holds_wanted, layout_of_word, cell_words, each_word, first_layout, loads_words, loads_word, wanted_by_store}
use Rattle.block_rules.specs.Operands.{slot_named, outside_known, place_known, known_fits, is_null_constant}
use Rattle.type_kinds.specs.TypeKinds.{kind_of, slot_kind, is_any_reference, is_word, is_pointer}

-- a value may be loaded from a slot: the load writes the type that the slot holds, or i8*; a slot that does not exist holds nothing
abbrev pub loads_slot : Module → (written : ℕ) → (held : Option ℕ) → Bool
loads_slot m written None = false
loads_slot m written (Some held) = (written == held) || (is_any_reference (kind_of m written) && not (is_opaque m written))

-- a value may be stored in a slot: the slot holds integers or references, and its type is the one that the store writes, or it holds references and i8* is written
abbrev pub moves_kind : (same : Bool) → (written : TypeKind) → (held : TypeKind) → Bool
moves_kind same written (Bits bits) = same
moves_kind same written (Reference layout) = same || is_any_reference written
moves_kind same written _ = false

-- the same by the types, and what the slot holds; a slot that does not exist holds nothing
abbrev pub moves : Module → (written : ℕ) → (held : Option ℕ) → TypeKind → Bool
moves m written None kind = false
moves m written (Some held) kind = moves_kind (written == held) (kind_of m written) kind

-- the same of words of the cell that a base refers to
abbrev pub loads_base : LaidOut → TypeKind → WordSet → (base : Known) → Bool
loads_base p kind words (Cell class layout stale) = loads_words p.layouts layout words kind
loads_base p kind words _ = true

-- K2: a load of this kind from what is known of a place, which has to be an address
abbrev pub loads_known : LaidOut → FactSet → TypeKind → Known → Bool
loads_known p facts kind Nothing = true
loads_known p facts kind (Address base words) = loads_base p kind words (known_at facts.values base)
loads_known p facts kind (GlobalAddress symbol) = loads_word kind (global_word p.of_module symbol)
loads_known p facts kind _ = false

-- the same by the slot that a name names, or by what is known of the name where it names none
abbrev pub loads_local : LaidOut → SlotTable → FactSet → Known → (loaded : ℕ) → (slot : Option ℕ) → Bool
loads_local p slots facts known loaded None = loads_known p facts (kind_of p.of_module loaded) known
loads_local p slots facts known loaded (Some s) = loads_slot p.of_module loaded (held_type slots s)

-- a load of this type may be from this place, of which this is known
abbrev pub may_load : LaidOut → SlotTable → FactSet → (loaded : ℕ) → (place : Operand) → Known → Bool
may_load p slots facts loaded (Written c) known = is_null_constant c
may_load p slots facts loaded (Local v) known = loads_local p slots facts known loaded (slot_of slots v)
may_load p slots facts loaded place known = loads_known p facts (kind_of p.of_module loaded) known

-- what a value wants of words, if anything is known of it; null goes into each reference
abbrev pub wanted_by_value : Known → Option WantedWord
wanted_by_value Nothing = None
wanted_by_value (Number bits below) = Some (want.Integer bits)
wanted_by_value (Cell class layout stale) = Some (want.Reference layout)
wanted_by_value Null = Some want.AnyReference
wanted_by_value _ = Some want.Nothing

-- what is known of a value fits words of a layout
abbrev pub fits_words : (layouts : List (List WordKind)) → (layout : ℕ) → WordSet → Option WantedWord → Bool
fits_words layouts layout words None = true
fits_words layouts layout words (Some wanted) = each_word wanted layouts layout words

-- both, of words of the cell that a base refers to
abbrev pub stores_base : LaidOut → TypeKind → (value : Known) → WordSet → (base : Known) → Bool
stores_base p kind value words (Cell class layout stale) = each_word (wanted_by_store kind) p.layouts layout words && fits_words p.layouts layout words (wanted_by_value value)
stores_base p kind value words _ = true

-- what is known of a value fits the word of a global
abbrev pub fits_word : Option WordKind → Option WantedWord → Bool
fits_word word None = true
fits_word word (Some wanted) = holds_wanted wanted word

-- a store of this kind may put what is known of a value into the word of a global
abbrev pub stores_word : TypeKind → (value : Known) → Option WordKind → Bool
stores_word kind value word = holds_wanted (wanted_by_store kind) word && fits_word word (wanted_by_value value)

-- K2: a store of this kind to what is known of a place, which has to be an address
abbrev pub stores_known : LaidOut → FactSet → TypeKind → (value : Known) → (place : Known) → Bool
stores_known p facts kind value Nothing = true
stores_known p facts kind value (Address base words) = stores_base p kind value words (known_at facts.values base)
stores_known p facts kind value (GlobalAddress symbol) = stores_word kind value (global_word p.of_module symbol)
stores_known p facts kind value _ = false

-- a slot may take a value: its type may be stored there, and what is known of the value fits what the slot holds
abbrev pub stores_slot : Module → SlotTable → (stored : ℕ) → (value : Known) → (slot : ℕ) → Bool
stores_slot m slots stored value s = moves m stored (held_type slots s) (slot_kind m slots s) && known_fits (slot_kind m slots s) value

-- the same for the slot that a name names, or by what is known of the name where it names none
abbrev pub stores_local : LaidOut → SlotTable → FactSet → Known → (stored : ℕ) → (value : Known) → (slot : Option ℕ) → Bool
stores_local p slots facts place stored value None = stores_known p facts (kind_of p.of_module stored) value place
stores_local p slots facts place stored value (Some s) = stores_slot p.of_module slots stored value s

-- a store of this type may put what is known of a value at this place, of which this is known; at null its type is one of a word
abbrev pub may_store : LaidOut → SlotTable → FactSet → (stored : ℕ) → (value : Known) → (place : Operand) → Known → Bool
may_store p slots facts stored value (Written c) known = is_null_constant c && is_word (kind_of p.of_module stored)
may_store p slots facts stored value (Local v) known = stores_local p slots facts known stored value (slot_of slots v)
may_store p slots facts stored value place known = stores_known p facts (kind_of p.of_module stored) value known

-- a store by `ptr` wants references of one layout, as a load does
abbrev pub is_one_layout : LaidOut → FactSet → (stored : ℕ) → (place : Known) → Bool
is_one_layout p facts stored place = not (is_opaque p.of_module stored) || loads_known p facts (kind_of p.of_module stored) place

-- v is null or a cell of this layout, which is held; without a layout nothing is known
abbrev pub define_held : (v : ℕ) → (layout : Option ℕ) → (nonnull : Bool) → FactSet → FactSet
define_held v None nonnull facts = define v Nothing facts
define_held v (Some layout) nonnull facts = define_new v layout (record { nonnull = nonnull; fresh = false }) facts

-- a load from a slot is a number of its bits, or the reference there; of what a slot of another type holds nothing is known
abbrev pub load_kind : (v s : ℕ) → TypeKind → FactSet → FactSet
load_kind v s (Bits bits) facts = define v (Number bits None) facts
load_kind v s (Reference layout) facts = load_slot v s layout facts
load_kind v s _ facts = define v Nothing facts

-- v is from outside: a number of its bits, or an address outside
abbrev pub define_given : (v : ℕ) → TypeKind → FactSet → FactSet
define_given v (Bits bits) facts = define v (Number bits None) facts
define_given v kind facts = define v (if is_pointer kind then outside_known else Nothing) facts

-- a load of this kind from words of a layout is a number of its bits, or null or a held cell
abbrev pub load_words : (layouts : List (List WordKind)) → (v : ℕ) → (layout : ℕ) → WordSet → TypeKind → FactSet → FactSet
load_words layouts v layout words (Bits bits) facts = define v (Number bits None) facts
load_words layouts v layout words (Reference l) facts = define_held v (Some l) false facts
load_words layouts v layout words AnyReference facts = define_held v (first_layout layouts layout words cell_words) false facts
load_words layouts v layout words _ facts = define v Nothing facts

-- by what is known of the base
abbrev pub load_base : LaidOut → (v : ℕ) → TypeKind → WordSet → (base : Known) → FactSet → FactSet
load_base p v kind words (Cell class layout stale) facts = load_words p.layouts v layout words kind facts
load_base p v kind words _ facts = define v Nothing facts

-- a load of this kind from the word of a global
abbrev pub load_word : (v : ℕ) → TypeKind → Option WordKind → FactSet → FactSet
load_word v (Bits bits) word facts = define v (Number bits None) facts
load_word v (Reference layout) word facts = define_held v (Some layout) false facts
load_word v AnyReference word facts = define_held v (layout_of_word word) false facts
load_word v _ word facts = define v Nothing facts

-- by what is known of the place
abbrev pub load_known : LaidOut → (v : ℕ) → TypeKind → Known → FactSet → FactSet
load_known p v kind (Address base words) facts = load_base p v kind words (known_at facts.values base) facts
load_known p v kind (GlobalAddress symbol) facts = load_word v kind (global_word p.of_module symbol) facts
load_known p v kind (Number bits below) facts = define_given v kind facts
load_known p v kind _ facts = define v Nothing facts

-- after a load, by the slot that the place is
abbrev pub load_place : LaidOut → SlotTable → (v loaded : ℕ) → Known → (slot : Option ℕ) → FactSet → FactSet
load_place p slots v loaded place None facts = load_known p v (kind_of p.of_module loaded) place facts
load_place p slots v loaded place (Some s) facts = load_kind v s (slot_kind p.of_module slots s) facts

-- after a load
abbrev pub after_load : LaidOut → SlotTable → (v loaded place_type : ℕ) → (place : Operand) → FactSet → FactSet
after_load p slots v loaded place_type place facts = load_place p slots v loaded (place_known p.of_module facts place_type place) (slot_named slots place) facts

-- after a store: a slot holds the value, or null, or a number; in a word others may find it, so its class is fresh no more
abbrev pub after_store : (value : Known) → (slot : Option ℕ) → FactSet → FactSet
after_store value None facts = drop_fresh_of value facts
after_store value (Some s) facts = store_slot s value facts
