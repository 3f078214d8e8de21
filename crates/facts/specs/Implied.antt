-- When a claim of a target is implied, in statements.
use Rattle.std.specs.Prelude.{◌≡◌, ◌↔◌, ◌⊎◌, ℕ, Bool, true, false, not, Option, Some, None}
use Rattle.shadow_stack.specs.Slots.{SlotTable, slot_of}
use Rattle.certs.specs.declared.section.Age.{Age}
use Rattle.certs.specs.declared.section.Fact.{Fact}
use Rattle.certs.specs.declared.section.Fact.TheVariants as fact
use Rattle.certs.specs.declared.section.Claim.{Claim}
use Rattle.certs.specs.declared.section.Claim.TheVariants as claim
use Rattle.fact_tables.specs.Rows.{known_at}
use Rattle.facts.specs.Facts.{FactSet}
use Rattle.facts.specs.Claims.{is_stale, is_fresh, implies_claim}
use Rattle.facts.specs.Statements.{IsNumber, IsBelow, RefersTo, IsCurrent, IsNonnull, IsFresh, IsSame, IsAddress, IsGlobal, SlotNonnull, SlotHolds, OfClass, Says}

-- where this is asked it is so
abbrev pub IfAsked : Bool → Type 0 → Type 0
IfAsked true P = P
IfAsked false P = Unit {0}

-- what is named is so
abbrev pub IfNamed : Option ℕ → (ℕ → Type 0) → Type 0
IfNamed None P = Unit {0}
IfNamed (Some x) P = P x

-- what is named is there, and is so
abbrev pub Named : Option ℕ → (ℕ → Type 0) → Type 0
Named None P = ⊥
Named (Some x) P = P x

-- a value is a reference
abbrev pub IsReference : FactSet → ℕ → Type 0
IsReference f v = OfClass (λ c. Unit {0}) (known_at f.values v)

-- the target lists v, and as the same each reference that it lists and each slot that is the same here
abbrev pub ListsAll : FactSet → FactSet → ℕ → Type 0
ListsAll here there v =
    IsReference there v
    × (((u : ℕ) → Says here (IsSame v u) → IsReference there u → Says there (IsSame v u))
    × ((s : ℕ) → Says here (SlotHolds s v) → Says there (SlotHolds s v)))

-- v is the same as w: it is said, or w is v itself
abbrev pub SameAs : FactSet → (v w : ℕ) → Type 0
SameAs here v w = (v ≡ w) ⊎ Says here (IsSame v w)

-- what a claim asks of a reference is said: `ref L`, nonnull, not stale, fresh where the target lists all that is the same, and the same as another or as itself
abbrev pub ReferenceImplied : FactSet → FactSet → (v layout : ℕ) → (nonnull : Bool) → Age → (same : Option ℕ) → Type 0
ReferenceImplied here there v layout nonnull age same =
    Says here (RefersTo v layout)
    × (IfAsked nonnull (Says here (IsNonnull v))
    × (IfAsked (not (is_stale age)) (Says here (IsCurrent v))
    × (IfAsked (is_fresh age) (Says here (IsFresh v) × ListsAll here there v)
    × IfNamed same (λ w. SameAs here v w))))

-- what a claim asks of a value is said
abbrev pub FactImplied : FactSet → FactSet → ℕ → Fact → Type 0
FactImplied here there v (fact.Number bits below) = Says here (IsNumber v bits) × IfNamed below (λ n. Says here (IsBelow v n))
FactImplied here there v (fact.Reference layout nonnull age same) = ReferenceImplied here there v layout nonnull age same
FactImplied here there v (fact.Address base words) = Says here (IsAddress v base words)
FactImplied here there v (fact.GlobalAddress g) = Says here (IsGlobal v g)

-- what a claim asks is said; `there` is what the target begins with
abbrev pub ClaimImplied : SlotTable → FactSet → FactSet → Claim → Type 0
ClaimImplied table here there (claim.Value v fact) = FactImplied here there v fact
ClaimImplied table here there (claim.Slot slot nonnull holds) = Named (slot_of table slot) (λ s. IfAsked nonnull (Says here (SlotNonnull s)) × IfNamed holds (λ x. Says here (SlotHolds s x)))

-- exactly the claims are implied of which all is said
abbrev pub ImpliesWhatIsSaid : Type 0
ImpliesWhatIsSaid = (table : SlotTable) (here there : FactSet) (claim : Claim) → (implies_claim table here there claim ≡ true) ↔ ClaimImplied table here there claim
