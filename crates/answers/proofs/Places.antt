-- What is asked of loads and stores, and what is known after them, does not depend on functions.
use Rattle.std.specs.Prelude.{List, None, Option, Some, [], is_some, not, refl, ℕ, ◌&&◌, ◌==◌, ◌||◌, ◌∷◌, ◌≡◌}
use Rattle.block_rules.specs.Barriers.{after_read, after_read_call, is_own_place, is_read, is_write, may_read, may_write, names_object, needs_no_barrier, read_conditions, write_conditions}
use Rattle.block_rules.specs.Operands.{is_available, is_based, is_current, is_no_slot, is_null_constant, known_fits, known_of, slot_named}
use Rattle.types.specs.References.{is_opaque}
use Rattle.block_rules.specs.Places.{is_one_layout, after_load, load_base, load_kind, load_known, load_place, loads_base, loads_known, loads_local, loads_slot, may_load, may_store, moves, moves_kind, stores_base, stores_known, stores_local, stores_slot}
use Rattle.type_kinds.specs.TypeKinds.{is_any_reference, is_word, may_be_reference}
use Rattle.block_rules.specs.declared.rule.Rule.TheVariants.{K1, K10, K12, K19, K2, K3, K4, K7}
use Rattle.type_kinds.specs.declared.type_kind.TypeKind.{TypeKind}
use Rattle.type_kinds.specs.declared.type_kind.TypeKind.TheVariants.{AnyReference}
use Rattle.fact_tables.specs.Rows.{known_at}
use Rattle.facts.specs.Facts.{FactSet}
use Rattle.fact_tables.specs.declared.known.Known.{Known}
use Rattle.fact_tables.specs.declared.known.Known.TheVariants.{Address, Cell, GlobalAddress, Nothing}
use Rattle.ir_ast.specs.declared.argument.Argument.{Argument}
use Rattle.ir_ast.specs.declared.function.Function.{Function}
use Rattle.ir_ast.specs.declared.module.Module.{Module}
use Rattle.ir_ast.specs.declared.operand.Operand.{Operand}
use Rattle.ir_ast.specs.declared.operand.Operand.TheVariants.{Constant as Written, Local}
use Rattle.ir_ast.specs.declared.runtime.Runtime.TheVariants.{GcRead, GcWrite}
use Rattle.layout.specs.Layouts.{LaidOut}
use Rattle.pools.specs.declared.word_set.WordSet.{WordSet}
use Rattle.shadow_stack.specs.Slots.{SlotTable, held_type, slot_of}
use Rattle.answers.proofs.Casts.{casts_operand_same}
use Rattle.answers.proofs.Operands.{is_typed_same, is_value_same, kind_of_same, place_known_same, slot_kind_same}
use Rattle.answers.proofs.Signature.{is_written_as_same}
use Rattle.answers.specs.Local.{laid_with, with_functions}

loads_slot_by : (m : Module) (fs : List Function) (written : ℕ) (held : Option ℕ) → loads_slot (with_functions m fs) written held ≡ loads_slot m written held
loads_slot_by m fs written None = refl
loads_slot_by m fs written (Some held) = λ along. (written == held) || (is_any_reference (kind_of_same m fs along written) && not (is_opaque m written))

pub loads_slot_same : (m : Module) (fs : List Function) → loads_slot (with_functions m fs) ≡ loads_slot m
loads_slot_same m fs = λ along written held. loads_slot_by m fs written held along

moves_by : (m : Module) (fs : List Function) (written : ℕ) (held : Option ℕ) (kind : TypeKind) → moves (with_functions m fs) written held kind ≡ moves m written held kind
moves_by m fs written None kind = refl
moves_by m fs written (Some held) kind = λ along. moves_kind (written == held) (kind_of_same m fs along written) kind

pub moves_same : (m : Module) (fs : List Function) → moves (with_functions m fs) ≡ moves m
moves_same m fs = λ along written held kind. moves_by m fs written held kind along

loads_base_by : (p : LaidOut) (fs : List Function) (kind : TypeKind) (words : WordSet) (base : Known) → loads_base (laid_with p fs) kind words base ≡ loads_base p kind words base
loads_base_by p fs kind words (Cell class layout stale) = refl
loads_base_by p fs kind words _ = refl

pub loads_base_same : (p : LaidOut) (fs : List Function) → loads_base (laid_with p fs) ≡ loads_base p
loads_base_same p fs = λ along kind words base. loads_base_by p fs kind words base along

loads_known_by : (p : LaidOut) (fs : List Function) (facts : FactSet) (kind : TypeKind) (known : Known) → loads_known (laid_with p fs) facts kind known ≡ loads_known p facts kind known
loads_known_by p fs facts kind Nothing = refl
loads_known_by p fs facts kind (Address base words) = λ along. loads_base_same p fs along kind words (known_at facts.values base)
loads_known_by p fs facts kind (GlobalAddress symbol) = refl
loads_known_by p fs facts kind _ = refl

pub loads_known_same : (p : LaidOut) (fs : List Function) → loads_known (laid_with p fs) ≡ loads_known p
loads_known_same p fs = λ along facts kind known. loads_known_by p fs facts kind known along

loads_local_by : (p : LaidOut) (fs : List Function) (slots : SlotTable) (facts : FactSet) (known : Known) (loaded : ℕ) (slot : Option ℕ) → loads_local (laid_with p fs) slots facts known loaded slot ≡ loads_local p slots facts known loaded slot
loads_local_by p fs slots facts known loaded None = λ along. loads_known_same p fs along facts (kind_of_same p.of_module fs along loaded) known
loads_local_by p fs slots facts known loaded (Some s) = λ along. loads_slot_same p.of_module fs along loaded (held_type slots s)

pub loads_local_same : (p : LaidOut) (fs : List Function) → loads_local (laid_with p fs) ≡ loads_local p
loads_local_same p fs = λ along slots facts known loaded slot. loads_local_by p fs slots facts known loaded slot along

may_load_by : (p : LaidOut) (fs : List Function) (slots : SlotTable) (facts : FactSet) (loaded : ℕ) (place : Operand) (known : Known) → may_load (laid_with p fs) slots facts loaded place known ≡ may_load p slots facts loaded place known
may_load_by p fs slots facts loaded (Written c) known = refl
may_load_by p fs slots facts loaded (Local v) known = λ along. loads_local_same p fs along slots facts known loaded (slot_of slots v)
may_load_by p fs slots facts loaded place known = λ along. loads_known_same p fs along facts (kind_of_same p.of_module fs along loaded) known

pub may_load_same : (p : LaidOut) (fs : List Function) → may_load (laid_with p fs) ≡ may_load p
may_load_same p fs = λ along slots facts loaded place known. may_load_by p fs slots facts loaded place known along

stores_base_by : (p : LaidOut) (fs : List Function) (kind : TypeKind) (value : Known) (words : WordSet) (base : Known) → stores_base (laid_with p fs) kind value words base ≡ stores_base p kind value words base
stores_base_by p fs kind value words (Cell class layout stale) = refl
stores_base_by p fs kind value words _ = refl

pub stores_base_same : (p : LaidOut) (fs : List Function) → stores_base (laid_with p fs) ≡ stores_base p
stores_base_same p fs = λ along kind value words base. stores_base_by p fs kind value words base along

stores_known_by : (p : LaidOut) (fs : List Function) (facts : FactSet) (kind : TypeKind) (value : Known) (place : Known) → stores_known (laid_with p fs) facts kind value place ≡ stores_known p facts kind value place
stores_known_by p fs facts kind value Nothing = refl
stores_known_by p fs facts kind value (Address base words) = λ along. stores_base_same p fs along kind value words (known_at facts.values base)
stores_known_by p fs facts kind value (GlobalAddress symbol) = refl
stores_known_by p fs facts kind value _ = refl

pub stores_known_same : (p : LaidOut) (fs : List Function) → stores_known (laid_with p fs) ≡ stores_known p
stores_known_same p fs = λ along facts kind value place. stores_known_by p fs facts kind value place along

pub stores_slot_same : (m : Module) (fs : List Function) → stores_slot (with_functions m fs) ≡ stores_slot m
stores_slot_same m fs = λ along slots stored value s. moves_same m fs along stored (held_type slots s) (slot_kind_same m fs along slots s) && known_fits (slot_kind_same m fs along slots s) value

stores_local_by : (p : LaidOut) (fs : List Function) (slots : SlotTable) (facts : FactSet) (place : Known) (stored : ℕ) (value : Known) (slot : Option ℕ) → stores_local (laid_with p fs) slots facts place stored value slot ≡ stores_local p slots facts place stored value slot
stores_local_by p fs slots facts place stored value None = λ along. stores_known_same p fs along facts (kind_of_same p.of_module fs along stored) value place
stores_local_by p fs slots facts place stored value (Some s) = λ along. stores_slot_same p.of_module fs along slots stored value s

pub stores_local_same : (p : LaidOut) (fs : List Function) → stores_local (laid_with p fs) ≡ stores_local p
stores_local_same p fs = λ along slots facts place stored value slot. stores_local_by p fs slots facts place stored value slot along

may_store_by : (p : LaidOut) (fs : List Function) (slots : SlotTable) (facts : FactSet) (stored : ℕ) (value : Known) (place : Operand) (known : Known) → may_store (laid_with p fs) slots facts stored value place known ≡ may_store p slots facts stored value place known
may_store_by p fs slots facts stored value (Written c) known = λ along. is_null_constant c && is_word (kind_of_same p.of_module fs along stored)
may_store_by p fs slots facts stored value (Local v) known = λ along. stores_local_same p fs along slots facts known stored value (slot_of slots v)
may_store_by p fs slots facts stored value place known = λ along. stores_known_same p fs along facts (kind_of_same p.of_module fs along stored) value known

pub may_store_same : (p : LaidOut) (fs : List Function) → may_store (laid_with p fs) ≡ may_store p
may_store_same p fs = λ along slots facts stored value place known. may_store_by p fs slots facts stored value place known along

load_base_by : (p : LaidOut) (fs : List Function) (v : ℕ) (kind : TypeKind) (words : WordSet) (base : Known) (facts : FactSet) → load_base (laid_with p fs) v kind words base facts ≡ load_base p v kind words base facts
load_base_by p fs v kind words (Cell class layout stale) facts = refl
load_base_by p fs v kind words _ facts = refl

pub load_base_same : (p : LaidOut) (fs : List Function) → load_base (laid_with p fs) ≡ load_base p
load_base_same p fs = λ along v kind words base facts. load_base_by p fs v kind words base facts along

load_known_by : (p : LaidOut) (fs : List Function) (v : ℕ) (kind : TypeKind) (known : Known) (facts : FactSet) → load_known (laid_with p fs) v kind known facts ≡ load_known p v kind known facts
load_known_by p fs v kind (Address base words) facts = λ along. load_base_same p fs along v kind words (known_at facts.values base) facts
load_known_by p fs v kind (GlobalAddress symbol) facts = refl
load_known_by p fs v kind _ facts = refl

pub load_known_same : (p : LaidOut) (fs : List Function) → load_known (laid_with p fs) ≡ load_known p
load_known_same p fs = λ along v kind known facts. load_known_by p fs v kind known facts along

load_place_by : (p : LaidOut) (fs : List Function) (slots : SlotTable) (v : ℕ) (loaded : ℕ) (place : Known) (slot : Option ℕ) (facts : FactSet) → load_place (laid_with p fs) slots v loaded place slot facts ≡ load_place p slots v loaded place slot facts
load_place_by p fs slots v loaded place None facts = λ along. load_known_same p fs along v (kind_of_same p.of_module fs along loaded) place facts
load_place_by p fs slots v loaded place (Some s) facts = λ along. load_kind v s (slot_kind_same p.of_module fs along slots s) facts

pub load_place_same : (p : LaidOut) (fs : List Function) → load_place (laid_with p fs) ≡ load_place p
load_place_same p fs = λ along slots v loaded place slot facts. load_place_by p fs slots v loaded place slot facts along

pub after_load_same : (p : LaidOut) (fs : List Function) → after_load (laid_with p fs) ≡ after_load p
after_load_same p fs = λ along slots v loaded place_type place facts. load_place_same p fs along slots v loaded (place_known_same p.of_module fs along facts place_type place) (slot_named slots place) facts

pub is_one_layout_same : (p : LaidOut) (fs : List Function) → is_one_layout (laid_with p fs) ≡ is_one_layout p
is_one_layout_same p fs = λ along facts stored place. not (is_opaque p.of_module stored) || loads_known_same p fs along facts (kind_of_same p.of_module fs along stored) place

pub needs_no_barrier_same : (m : Module) (fs : List Function) → needs_no_barrier (with_functions m fs) ≡ needs_no_barrier m
needs_no_barrier_same m fs = λ along slots facts stored place known. is_some (slot_named slots place) || not (may_be_reference (kind_of_same m fs along stored)) || is_own_place facts known

pub may_read_same : (p : LaidOut) (fs : List Function) → may_read (laid_with p fs) ≡ may_read p
may_read_same p fs = λ along slots facts place known. is_some (slot_named slots place) || loads_known_same p fs along facts AnyReference known

pub is_read_same : (p : LaidOut) (fs : List Function) → is_read (laid_with p fs) ≡ is_read p
is_read_same p fs = λ along f slots facts returned object place. is_value_same p.of_module fs along f slots facts object.written object.operand
    && is_typed_same p.of_module fs along f place.written place.operand && may_read_same p fs along slots facts place.operand (place_known_same p.of_module fs along facts place.written place.operand)
    && is_written_as_same p.of_module fs along returned (object ∷ place ∷ []) GcRead

pub read_conditions_same : (p : LaidOut) (fs : List Function) → read_conditions (laid_with p fs) ≡ read_conditions p
read_conditions_same p fs = λ along f slots here facts returned object place. (K1, is_available slots facts object.operand && is_available slots facts place.operand)
    ∷ (K2, is_read_same p fs along f slots facts returned object place)
    ∷ (K3, is_current facts (known_of facts object.operand) && is_current facts (place_known_same p.of_module fs along facts place.written place.operand))
    ∷ (K4, is_based facts place.operand (place_known_same p.of_module fs along facts place.written place.operand))
    ∷ (K7, names_object facts object.operand (place_known_same p.of_module fs along facts place.written place.operand))
    ∷ (K10, is_no_slot slots object.operand && is_no_slot slots place.operand)
    ∷ (K12, here.may_move_references)
    ∷ (K19, casts_operand_same p.of_module fs along place.operand) ∷ []

after_read_by : (p : LaidOut) (fs : List Function) (v : ℕ) (arguments : List Argument) (facts : FactSet) → after_read (laid_with p fs) v arguments facts ≡ after_read p v arguments facts
after_read_by p fs v (object ∷ place ∷ []) facts = λ along. load_known_same p fs along v AnyReference (place_known_same p.of_module fs along facts place.written place.operand) facts
after_read_by p fs v _ facts = refl

pub after_read_same : (p : LaidOut) (fs : List Function) → after_read (laid_with p fs) ≡ after_read p
after_read_same p fs = λ along v arguments facts. after_read_by p fs v arguments facts along

after_read_call_by : (p : LaidOut) (fs : List Function) (result : Option ℕ) (arguments : List Argument) (facts : FactSet) → after_read_call (laid_with p fs) result arguments facts ≡ after_read_call p result arguments facts
after_read_call_by p fs None arguments facts = refl
after_read_call_by p fs (Some v) arguments facts = λ along. after_read_same p fs along v arguments facts

pub after_read_call_same : (p : LaidOut) (fs : List Function) → after_read_call (laid_with p fs) ≡ after_read_call p
after_read_call_same p fs = λ along result arguments facts. after_read_call_by p fs result arguments facts along

pub may_write_same : (p : LaidOut) (fs : List Function) → may_write (laid_with p fs) ≡ may_write p
may_write_same p fs = λ along slots facts value place known. is_some (slot_named slots place) || stores_known_same p fs along facts AnyReference (known_of facts value) known

pub is_write_same : (p : LaidOut) (fs : List Function) → is_write (laid_with p fs) ≡ is_write p
is_write_same p fs = λ along f slots facts returned value object place. is_value_same p.of_module fs along f slots facts value.written value.operand && is_value_same p.of_module fs along f slots facts object.written object.operand
    && is_typed_same p.of_module fs along f place.written place.operand && may_write_same p fs along slots facts value.operand place.operand (place_known_same p.of_module fs along facts place.written place.operand) && is_one_layout_same p fs along facts value.written (place_known_same p.of_module fs along facts place.written place.operand)
    && is_written_as_same p.of_module fs along returned (value ∷ object ∷ place ∷ []) GcWrite

pub write_conditions_same : (p : LaidOut) (fs : List Function) → write_conditions (laid_with p fs) ≡ write_conditions p
write_conditions_same p fs = λ along f slots here facts returned value object place. (K1, is_available slots facts value.operand && is_available slots facts object.operand && is_available slots facts place.operand)
    ∷ (K2, is_write_same p fs along f slots facts returned value object place)
    ∷ (
      K3,
      is_current facts (known_of facts value.operand)
          && is_current facts (known_of facts object.operand) && is_current facts (place_known_same p.of_module fs along facts place.written place.operand),
    )
    ∷ (K4, is_based facts place.operand (place_known_same p.of_module fs along facts place.written place.operand))
    ∷ (K7, names_object facts object.operand (place_known_same p.of_module fs along facts place.written place.operand))
    ∷ (K10, is_no_slot slots value.operand && is_no_slot slots object.operand && is_no_slot slots place.operand)
    ∷ (K12, here.may_move_references)
    ∷ (K19, casts_operand_same p.of_module fs along place.operand) ∷ []
