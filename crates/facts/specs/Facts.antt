-- What is known at a place of a function, and how it changes.
use Rattle.std.specs.Prelude.{◌≤◌, ℕ, suc, Bool, true, false, ◌||◌, if◌then◌else◌, List, [], ◌∷◌, ◌++◌, map, length, replicate, slice_set, nat_lt, Option, Some, None}
use Rattle.std.specs.List.{list_any, enumerate_from, zip}
use Rattle.ir_ast.specs.declared.numbers.Comparison.{Comparison}
use Rattle.ir_ast.specs.declared.numbers.Comparison.TheVariants.{Equal, NotEqual, UnsignedGreater, UnsignedGreaterOrEqual, UnsignedLess, UnsignedLessOrEqual}
use Rattle.ir_ast.specs.declared.operand.Constant.{Constant}
use Rattle.ir_ast.specs.declared.operand.Constant.TheVariants as constant
use Rattle.fact_tables.specs.declared.known.Class.{Class}
use Rattle.facts.specs.declared.entry.Entry.{Entry}
use Rattle.fact_tables.specs.declared.known.Known.{Known}
use Rattle.fact_tables.specs.declared.known.Known.TheVariants.{Nothing, Number, Cell, Null}
use Rattle.fact_tables.specs.declared.known.SlotFact.{SlotFact}
use Rattle.fact_tables.specs.declared.known.Test.{Test}
use Rattle.fact_tables.specs.Rows.{known_at, open_slot, slot_at, lost_class, class_at, is_of, let_go, off_test, values_without, tests_without, stale_of, stale_class, end_hold}

-- what is known of each value, of each slot and of each class of equal references, and the comparison that gave each value. The first classes are one for each value, for references that are listed or went stale
pub record FactSet : Type 0 where
  pub values : List Known
  pub slots : List SlotFact
  pub classes : List Class
  pub tests : List (Option Test)

-- each value has a class for itself
abbrev pub AreFacts : FactSet → Type 0
AreFacts f = length f.values ≤ length f.classes

-- where nothing is known of this number of values and slots
abbrev pub nothing_known : (values slots : ℕ) → FactSet
nothing_known values slots = record { values = replicate values Nothing; slots = replicate slots open_slot; classes = replicate values lost_class; tests = replicate values None }

-- the slots that hold a class hold it on only while a value is of it
abbrev pub slots_of_class : (c : ℕ) → List Known → List Class → List SlotFact → List SlotFact
slots_of_class c values classes slots = if list_any (is_of c) values then slots else map (let_go c (class_at classes c).nonnull) slots

-- the slots after the end of what was known of a value: they hold its class on only while another value is of it
abbrev pub slots_without : Known → List Known → List Class → List SlotFact → List SlotFact
slots_without (Cell c layout stale) values classes slots = slots_of_class c values classes slots
slots_without _ values classes slots = slots

-- each statement that names v ends
abbrev pub forget : ℕ → FactSet → FactSet
forget v f =
    let values = values_without v f.values in
    record { values = values; slots = slots_without (known_at f.values v) values f.classes f.slots; classes = f.classes; tests = tests_without v f.tests }

-- this is known of v besides
abbrev pub set_known : ℕ → Known → FactSet → FactSet
set_known v known f = record f { values = slice_set f.values v known }

-- this is known of v, and no more
abbrev pub define : ℕ → Known → FactSet → FactSet
define v known f = set_known v known (forget v f)

-- a class more
abbrev pub add_class : Class → FactSet → FactSet
add_class class f = record f { classes = f.classes ++ class ∷ [] }

-- v is a reference to this layout, of a new class
abbrev pub define_new : ℕ → (layout : ℕ) → Class → FactSet → FactSet
define_new v layout class f = define v (Cell (length f.classes) layout false) (add_class class f)

-- v is a comparison of a value with a constant
abbrev pub define_test : ℕ → Test → FactSet → FactSet
define_test v test f = let rest = define v (Number 1 None) f in record rest { tests = slice_set rest.tests v (off_test v (Some test)) }

-- this is known of a class
abbrev pub set_class : ℕ → Class → FactSet → FactSet
set_class c class f = record f { classes = slice_set f.classes c class }

-- a class is stored where others may find it: it is fresh no more
abbrev pub drop_fresh : ℕ → FactSet → FactSet
drop_fresh c f = set_class c (record (class_at f.classes c) { fresh = false }) f

-- the class of a value, if it is a reference, is fresh no more
abbrev pub drop_fresh_of : Known → FactSet → FactSet
drop_fresh_of (Cell c layout stale) f = drop_fresh c f
drop_fresh_of _ f = f

-- a class is not null where this holds
abbrev pub learn_nonnull : ℕ → Bool → FactSet → FactSet
learn_nonnull c nonnull f = let class = class_at f.classes c in set_class c (record class { nonnull = class.nonnull || nonnull }) f

-- below both
abbrev pub below_both : Option ℕ → ℕ → Option ℕ
below_both None n = Some n
below_both (Some m) n = if nat_lt m n then Some m else Some n

-- what is known of an integer that is below n
abbrev pub known_below : ℕ → Known → Known
known_below n (Number bits below) = Number bits (below_both below n)
known_below n known = known

-- an integer is below n
abbrev pub learn_below : ℕ → ℕ → FactSet → FactSet
learn_below v n f = set_known v (known_below n (known_at f.values v)) f

-- a value that is known to be this is not null
abbrev pub learn_known_nonnull : Known → FactSet → FactSet
learn_known_nonnull (Cell c layout stale) f = learn_nonnull c true f
learn_known_nonnull _ f = f

-- an integer is n or less; 2 to the 64 says nothing of it
abbrev pub learn_up_to : ℕ → ℕ → FactSet → FactSet
learn_up_to v n f = if nat_lt n 18446744073709551615 then learn_below v (suc n) f else f

-- what the edge says of a value that was compared with null: whether it is the one on which the comparison is true
abbrev pub learn_null_test : (v : ℕ) → Comparison → (taken : Bool) → FactSet → FactSet
learn_null_test v Equal false f = learn_known_nonnull (known_at f.values v) f
learn_null_test v NotEqual true f = learn_known_nonnull (known_at f.values v) f
learn_null_test v _ taken f = f

-- what the edge says of a value that was compared with n
abbrev pub learn_number_test : (v n : ℕ) → Comparison → (taken : Bool) → FactSet → FactSet
learn_number_test v n UnsignedLess true f = learn_below v n f
learn_number_test v n UnsignedLessOrEqual true f = learn_up_to v n f
learn_number_test v n Equal true f = learn_up_to v n f
learn_number_test v n UnsignedGreaterOrEqual false f = learn_below v n f
learn_number_test v n UnsignedGreater false f = learn_up_to v n f
learn_number_test v n NotEqual false f = learn_up_to v n f
learn_number_test v n _ taken f = f

-- what the edge says of a value that was compared with a constant
abbrev pub learn_constant_test : (v : ℕ) → Constant → Comparison → (taken : Bool) → FactSet → FactSet
learn_constant_test v (constant.Number n) kind taken f = learn_number_test v n kind taken f
learn_constant_test v (constant.Float n) kind taken f = f
learn_constant_test v constant.Null kind taken f = learn_null_test v kind taken f
learn_constant_test v (constant.Truth b) kind taken f = f

-- what the edge implies where this comparison decides it
abbrev pub learn_test : Option Test → (taken : Bool) → FactSet → FactSet
learn_test None taken f = f
learn_test (Some test) taken f = learn_constant_test test.tested test.constant test.kind taken f

-- this is known of a slot
abbrev pub set_slot : ℕ → SlotFact → FactSet → FactSet
set_slot s slot f = record f { slots = slice_set f.slots s slot }

-- of what a slot holds nothing is known
abbrev pub clear_slot : ℕ → FactSet → FactSet
clear_slot s f = set_slot s (record (slot_at f.slots s) { nonnull = false; holds = None }) f

-- what was known of a slot ends; it may go on to name the cell, so its class is fresh no more
abbrev pub drop_held : (holds : Option ℕ) → FactSet → FactSet
drop_held None f = f
drop_held (Some c) f = drop_fresh c f

-- a slot is given anew: nothing is known of it
abbrev pub end_slot : ℕ → FactSet → FactSet
end_slot s f = clear_slot s (drop_held (slot_at f.slots s).holds f)

-- a gcroot names the slot, and puts null there
abbrev pub root_slot : ℕ → FactSet → FactSet
root_slot s f = set_slot s (record { rooted = true; nonnull = false; holds = None }) f

-- the slot holds a reference of this class
abbrev pub hold : ℕ → ℕ → FactSet → FactSet
hold s c f = set_slot s (record (slot_at f.slots s) { nonnull = (class_at f.classes c).nonnull; holds = Some c }) f

-- the slot holds what is known of a value
abbrev pub store_slot : ℕ → Known → FactSet → FactSet
store_slot s (Cell c layout stale) f = hold s c f
store_slot s _ f = clear_slot s f

-- v is the reference that a slot holds: it joins the class there, or it is of a new class, which the slot then holds
abbrev pub load_held : (v s layout : ℕ) → (nonnull : Bool) → (holds : Option ℕ) → FactSet → FactSet
load_held v s layout nonnull (Some c) f = learn_nonnull c nonnull (set_known v (Cell c layout false) f)
load_held v s layout nonnull None f =
    hold s (length f.classes) (add_class (record { nonnull = nonnull; fresh = false }) (set_known v (Cell (length f.classes) layout false) f))

-- v is what a slot of references to this layout holds
abbrev pub load_slot : (v s layout : ℕ) → FactSet → FactSet
load_slot v s layout f =
    let rest = forget v f in
    let slot = slot_at rest.slots s in
    load_held v s layout slot.nonnull slot.holds rest

-- a safepoint: each reference is stale and of a class of its own, and the slots hold no class
abbrev pub make_stale : FactSet → FactSet
make_stale f = record { values = map stale_of (enumerate_from 0 f.values); slots = map (end_hold f.classes) f.slots; classes = map (stale_class f.classes) (zip f.classes f.values); tests = f.tests }

-- the classes of all that comes in are fresh no more
abbrev pub drop_fresh_all : List Entry → FactSet → FactSet
drop_fresh_all [] f = f
drop_fresh_all (entry ∷ entries) f = drop_fresh_all entries (drop_fresh_of entry.known f)

-- v takes what is known of its entry: an integer, or a reference, of a new class
abbrev pub enter_phi : ℕ → Known → FactSet → FactSet
enter_phi v (Number bits below) f = define v (Number bits below) f
enter_phi v (Cell c layout stale) f = define v (Cell (length f.classes) layout stale) (add_class (record { nonnull = (class_at f.classes c).nonnull; fresh = false }) f)
enter_phi v Null f = define v Null f
enter_phi v _ f = define v Nothing f

-- each phi takes what was known of its entry before any of them took it
abbrev pub enter_phis : List Entry → FactSet → FactSet
enter_phis [] f = f
enter_phis (entry ∷ entries) f = enter_phis entries (enter_phi entry.phi entry.known f)

-- the phis of a block, each with what is known of its entry, where the block is entered
abbrev pub after_phis : List Entry → FactSet → FactSet
after_phis entries f = enter_phis entries (drop_fresh_all entries f)
