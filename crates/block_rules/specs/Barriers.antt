-- Accesses through the barrier, gcread and gcwrite, and stores without it: what they ask, and what is known after them.
use Rattle.std.specs.Prelude.{ℕ, Bool, true, false, not, ◌&&◌, ◌||◌, List, [], ◌∷◌, Option, Some, None, is_some}
use Rattle.ir_ast.specs.declared.function.Function.{Function}
use Rattle.ir_ast.specs.declared.module.Module.{Module}
use Rattle.ir_ast.specs.declared.argument.Argument.{Argument}
use Rattle.ir_ast.specs.declared.operand.Operand.{Operand}
use Rattle.ir_ast.specs.declared.runtime.Runtime.TheVariants.{GcRead, GcWrite}
use Rattle.layout.specs.Layouts.{LaidOut}
use Rattle.shadow_stack.specs.Slots.{SlotTable}
use Rattle.fact_tables.specs.declared.known.Known.{Known}
use Rattle.fact_tables.specs.declared.known.Known.TheVariants.{Nothing, Cell, Null, Address, GlobalAddress}
use Rattle.fact_tables.specs.Rows.{known_at, is_of}
use Rattle.facts.specs.Facts.{FactSet, define, drop_fresh_of}
use Rattle.barriers.specs.Stores.{may_store_plain}
use Rattle.block_rules.specs.declared.rule.Rule.{Rule}
use Rattle.block_rules.specs.declared.rule.Rule.TheVariants.{K1, K2, K3, K4, K7, K10, K12, K19}
use Rattle.block_rules.specs.declared.instr_context.InstrContext.{InstrContext}
use Rattle.type_kinds.specs.declared.type_kind.TypeKind.TheVariants.{AnyReference}
use Rattle.block_rules.specs.Operands.{slot_named, known_of, is_available, is_typed, is_value, is_current, is_null, place_known, is_based, is_no_slot}
use Rattle.block_rules.specs.Places.{loads_known, stores_known, load_known, is_one_layout}
use Rattle.block_rules.specs.Signature.{is_written_as}
use Rattle.type_kinds.specs.TypeKinds.{kind_of, may_be_reference}
use Rattle.block_rules.specs.Casts.{casts_operand}

-- ---- without a barrier

-- a reference may be stored plainly at what is known of a place: in a fresh cell, and in no global
abbrev pub is_own_place : FactSet → Known → Bool
is_own_place facts (Address base words) = may_store_plain facts base
is_own_place facts (GlobalAddress symbol) = false
is_own_place facts _ = true

-- K6: a reference, null too, goes without a barrier into a slot or a fresh cell alone
abbrev pub needs_no_barrier : Module → SlotTable → FactSet → (stored : ℕ) → (place : Operand) → Known → Bool
needs_no_barrier m slots facts stored place known =
    is_some (slot_named slots place) || not (may_be_reference (kind_of m stored)) || is_own_place facts known

-- ---- the object of an access

-- what is known of a value is that it is null
abbrev pub is_known_null : Known → Bool
is_known_null Null = true
is_known_null _ = false

-- an object is a reference of the class that is known of a base, if one is
abbrev pub is_of_base : (object base : Known) → Bool
is_of_base object (Cell class layout stale) = is_of class object
is_of_base object _ = true

-- a place lies in the cell to which an object refers; a global lies in that of none
abbrev pub lies_in_object : FactSet → (object place : Known) → Bool
lies_in_object facts object (Address base words) = is_of_base object (known_at facts.values base)
lies_in_object facts object (GlobalAddress symbol) = false
lies_in_object facts object _ = true

-- K7: the object of an access is null, or the cell in which the place lies
abbrev pub names_object : FactSet → (object : Operand) → (place : Known) → Bool
names_object facts object place =
    is_null object || is_known_null (known_of facts object) || lies_in_object facts (known_of facts object) place

-- ---- gcread

-- K2: a reference may be read at a place; a slot is refused by K10, and null by K4
abbrev pub may_read : LaidOut → SlotTable → FactSet → (place : Operand) → Known → Bool
may_read p slots facts place known = is_some (slot_named slots place) || loads_known p facts AnyReference known

-- K2: a gcread is written with its types, of an object that is a reference, and reads one at the place
abbrev pub is_read : LaidOut → Function → SlotTable → FactSet → (returned : ℕ) → (object place : Argument) → Bool
is_read p f slots facts returned object place =
    is_value p.of_module f slots facts object.written object.operand
    && is_typed p.of_module f place.written place.operand && may_read p slots facts place.operand (place_known p.of_module facts place.written place.operand)
    && is_written_as p.of_module returned (object ∷ place ∷ []) GcRead

-- the conditions of a call of gcread with this object and place
abbrev pub read_conditions : LaidOut → Function → SlotTable → InstrContext → FactSet → (returned : ℕ) → (object place : Argument) → List (Rule × Bool)
read_conditions p f slots here facts returned object place =
    (K1, is_available slots facts object.operand && is_available slots facts place.operand)
    ∷ (K2, is_read p f slots facts returned object place)
    ∷ (K3, is_current facts (known_of facts object.operand) && is_current facts (place_known p.of_module facts place.written place.operand))
    ∷ (K4, is_based facts place.operand (place_known p.of_module facts place.written place.operand))
    ∷ (K7, names_object facts object.operand (place_known p.of_module facts place.written place.operand))
    ∷ (K10, is_no_slot slots object.operand && is_no_slot slots place.operand)
    ∷ (K12, here.may_move_references)
    ∷ (K19, casts_operand p.of_module place.operand) ∷ []

-- after gcread: its result is the reference that was read at the place
abbrev pub after_read : LaidOut → (v : ℕ) → List Argument → FactSet → FactSet
after_read p v (object ∷ place ∷ []) facts = load_known p v AnyReference (place_known p.of_module facts place.written place.operand) facts
after_read p v _ facts = define v Nothing facts

-- if it has a name
abbrev pub after_read_call : LaidOut → (result : Option ℕ) → List Argument → FactSet → FactSet
after_read_call p None arguments facts = facts
after_read_call p (Some v) arguments facts = after_read p v arguments facts

-- ---- gcwrite

-- K2: what is known of a value may be written at a place; a slot is refused by K10, and null by K4
abbrev pub may_write : LaidOut → SlotTable → FactSet → (value place : Operand) → Known → Bool
may_write p slots facts value place known = is_some (slot_named slots place) || stores_known p facts AnyReference (known_of facts value) known

-- K2: a gcwrite is written with its types, of a value and an object that are references, and the value fits at the place
abbrev pub is_write : LaidOut → Function → SlotTable → FactSet → (returned : ℕ) → (value object place : Argument) → Bool
is_write p f slots facts returned value object place =
    is_value p.of_module f slots facts value.written value.operand && is_value p.of_module f slots facts object.written object.operand
    && is_typed p.of_module f place.written place.operand && may_write p slots facts value.operand place.operand (place_known p.of_module facts place.written place.operand)
    && is_one_layout p facts value.written (place_known p.of_module facts place.written place.operand)
    && is_written_as p.of_module returned (value ∷ object ∷ place ∷ []) GcWrite

-- the conditions of a call of gcwrite with this value, object and place
abbrev pub write_conditions : LaidOut → Function → SlotTable → InstrContext → FactSet → (returned : ℕ) → (value object place : Argument) → List (Rule × Bool)
write_conditions p f slots here facts returned value object place =
    (K1, is_available slots facts value.operand && is_available slots facts object.operand && is_available slots facts place.operand)
    ∷ (K2, is_write p f slots facts returned value object place)
    ∷ (
      K3,
      is_current facts (known_of facts value.operand)
          && is_current facts (known_of facts object.operand) && is_current facts (place_known p.of_module facts place.written place.operand),
    )
    ∷ (K4, is_based facts place.operand (place_known p.of_module facts place.written place.operand))
    ∷ (K7, names_object facts object.operand (place_known p.of_module facts place.written place.operand))
    ∷ (K10, is_no_slot slots value.operand && is_no_slot slots object.operand && is_no_slot slots place.operand)
    ∷ (K12, here.may_move_references)
    ∷ (K19, casts_operand p.of_module place.operand) ∷ []

-- after gcwrite: the class of the value that was written is fresh no more
abbrev pub after_write : List Argument → FactSet → FactSet
after_write [] facts = facts
after_write (value ∷ rest) facts = drop_fresh_of (known_of facts value.operand) facts
