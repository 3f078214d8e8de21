-- What is known, as a set of statements.
use Rattle.std.specs.Prelude.{◌≡◌, ◌<◌, ◌≤◌, ◌↔◌, ◌⊎◌, ℕ, true, false, List, length, Bool, Option, Some, None}
use Rattle.pools.specs.WordSets.{has_all}
use Rattle.fact_tables.specs.declared.known.Known.{Known}
use Rattle.fact_tables.specs.declared.known.Known.TheVariants.{Number, Cell, Null, Address, GlobalAddress}
use Rattle.fact_tables.specs.Rows.{known_at, slot_at, class_at, holds_class, slot_nonnull}
use Rattle.facts.specs.Facts.{FactSet, AreFacts, forget, drop_fresh_of, learn_known_nonnull, make_stale}

-- a statement of values and slots
pub data Statement : Type 0 where
  IsNumber : (v bits : ℕ) → Statement
  IsBelow : (v n : ℕ) → Statement
  RefersTo : (v layout : ℕ) → Statement
  IsCurrent : (v : ℕ) → Statement
  IsNonnull : (v : ℕ) → Statement
  IsFresh : (v : ℕ) → Statement
  IsSame : (v w : ℕ) → Statement
  IsAddress : (v base : ℕ) (words : List Bool) → Statement
  IsGlobal : (v g : ℕ) → Statement
  SlotNonnull : (s : ℕ) → Statement
  SlotHolds : (s v : ℕ) → Statement

-- an integer of `bits` bits
abbrev pub NumberOf : (bits : ℕ) → Known → Type 0
NumberOf bits (Number n below) = n ≡ bits
NumberOf bits _ = ⊥

-- a bound that is known is no more than n
abbrev pub UpTo : (n : ℕ) → Option ℕ → Type 0
UpTo n None = ⊥
UpTo n (Some m) = m ≤ n

-- an integer below n
abbrev pub BelowOf : (n : ℕ) → Known → Type 0
BelowOf n (Number bits below) = UpTo n below
BelowOf n _ = ⊥

-- a reference to a layout; null refers to each
abbrev pub RefersOf : (layout : ℕ) → Known → Type 0
RefersOf layout (Cell c known stale) = known ≡ layout
RefersOf layout Null = Unit {0}
RefersOf layout _ = ⊥

-- a reference that is not stale
abbrev pub CurrentOf : Known → Type 0
CurrentOf (Cell c layout stale) = stale ≡ false
CurrentOf Null = Unit {0}
CurrentOf _ = ⊥

-- a reference of whose class this holds
abbrev pub OfClass : (ℕ → Type 0) → Known → Type 0
OfClass P (Cell c layout stale) = P c
OfClass P _ = ⊥

-- an address with this base, whose word is one of these
abbrev pub AddressOf : (base : ℕ) → (words : List Bool) → Known → Type 0
AddressOf base words (Address x known) = (x ≡ base) × (has_all words known ≡ true)
AddressOf base words _ = ⊥

-- the address of a global
abbrev pub GlobalOf : (g : ℕ) → Known → Type 0
GlobalOf g (GlobalAddress h) = h ≡ g
GlobalOf g _ = ⊥

-- the facts say this
abbrev pub Says : FactSet → Statement → Type 0
Says f (IsNumber v bits) = NumberOf bits (known_at f.values v)
Says f (IsBelow v n) = BelowOf n (known_at f.values v)
Says f (RefersTo v layout) = RefersOf layout (known_at f.values v)
Says f (IsCurrent v) = CurrentOf (known_at f.values v)
Says f (IsNonnull v) = OfClass (λ c. (class_at f.classes c).nonnull ≡ true) (known_at f.values v)
Says f (IsFresh v) = OfClass (λ c. (class_at f.classes c).fresh ≡ true) (known_at f.values v)
Says f (IsSame v w) = OfClass (λ c. OfClass (λ d. c ≡ d) (known_at f.values w)) (known_at f.values v)
Says f (IsAddress v base words) = AddressOf base words (known_at f.values v)
Says f (IsGlobal v g) = GlobalOf g (known_at f.values v)
Says f (SlotNonnull s) = slot_nonnull f.classes (slot_at f.slots s) ≡ true
Says f (SlotHolds s v) = OfClass (λ c. holds_class c (slot_at f.slots s).holds ≡ true) (known_at f.values v)

-- a statement names a value
abbrev pub Names : ℕ → Statement → Type 0
Names v (IsNumber u bits) = u ≡ v
Names v (IsBelow u n) = u ≡ v
Names v (RefersTo u layout) = u ≡ v
Names v (IsCurrent u) = u ≡ v
Names v (IsNonnull u) = u ≡ v
Names v (IsFresh u) = u ≡ v
Names v (IsSame u w) = (u ≡ v) ⊎ (w ≡ v)
Names v (IsAddress u base words) = (u ≡ v) ⊎ (base ≡ v)
Names v (IsGlobal u g) = u ≡ v
Names v (SlotNonnull s) = ⊥
Names v (SlotHolds s u) = u ≡ v

-- a definition of v ends exactly the statements that name v
abbrev pub ForgetEndsNames : Type 0
ForgetEndsNames = (f : FactSet) (v : ℕ) (statement : Statement) → Says (forget v f) statement ↔ (Says f statement × (Names v statement → ⊥))

-- a statement says that a value is fresh which is the same as v
abbrev pub FreshOf : FactSet → ℕ → Statement → Type 0
FreshOf f v (IsFresh u) = Says f (IsSame v u)
FreshOf f v _ = ⊥

-- v is published: exactly what says that it, or what is the same, is fresh ends
abbrev pub PublishEndsFresh : Type 0
PublishEndsFresh = (f : FactSet) (v : ℕ) (statement : Statement) → Says (drop_fresh_of (known_at f.values v) f) statement ↔ (Says f statement × (FreshOf f v statement → ⊥))

-- the class of a reference is one of the first `count`
abbrev pub IsWithin : (count : ℕ) → Known → Type 0
IsWithin count (Cell c layout stale) = c < count
IsWithin count _ = Unit {0}

-- a statement says that a value is not null which is the same as v, or a slot that holds v
abbrev pub NonnullOf : FactSet → ℕ → Statement → Type 0
NonnullOf f v (IsNonnull u) = Says f (IsSame v u)
NonnullOf f v (SlotNonnull s) = Says f (SlotHolds s v)
NonnullOf f v _ = ⊥

-- v is found to be no null: exactly this is said besides of it, of what is the same, and of the slots that hold it, if its class is one of those that there are
abbrev pub LearnAddsNonnull : Type 0
LearnAddsNonnull = (f : FactSet) (v : ℕ) (statement : Statement) → Says (learn_known_nonnull (known_at f.values v) f) statement ↔ (Says f statement ⊎ (IsWithin (length f.classes) (known_at f.values v) × NonnullOf f v statement))

-- a statement that a safepoint leaves: that a reference is current is left of null alone, and nothing is the same as another value
abbrev pub Outlasts : FactSet → Statement → Type 0
Outlasts f (IsCurrent u) = known_at f.values u ≡ Null
Outlasts f (IsFresh u) = ⊥
Outlasts f (IsSame u w) = u ≡ w
Outlasts f (SlotHolds s u) = ⊥
Outlasts f _ = Unit {0}

-- at a safepoint exactly the others end
abbrev pub SafepointEndsCurrent : Type 0
SafepointEndsCurrent = (f : FactSet) (statement : Statement) → AreFacts f → Says (make_stale f) statement ↔ (Says f statement × Outlasts f statement)
