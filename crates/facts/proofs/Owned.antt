-- Values that are listed as the same, one after the other.
use Rattle.std.proofs.Common.{◌≡◌, inl, inr, ℕ, List, [], ◌∷◌, zero, suc, refl, sym, ap, ◌∙◌, subst, true, Bool, Option, Some, None, slice_set}
use Rattle.std.specs.Prelude.{replicate}
use Rattle.std.proofs.lemmas.List.{get_or-set_other}
use Rattle.lemmas.specs.Numbers.{test_same}
use Rattle.std.proofs.lemmas.Bool.{cases_eq}
use Rattle.shadow_stack.specs.Slots.{SlotTable, slot_of}
use Rattle.certs.specs.declared.section.Fact.{Fact}
use Rattle.certs.specs.declared.section.Fact.TheVariants as fact
use Rattle.certs.specs.declared.section.Claim.{Claim}
use Rattle.certs.specs.declared.section.Claim.TheVariants as claim
use Rattle.fact_tables.specs.declared.known.Known.{Known}
use Rattle.fact_tables.specs.declared.known.Known.TheVariants.{Nothing, Number, Cell, Address, GlobalAddress}
use Rattle.fact_tables.specs.Rows.{known_at}
use Rattle.facts.specs.Facts.{FactSet}
use Rattle.facts.specs.Claims.{list_value, list_slot, list_claim, list_claims, is_stale}
use Rattle.facts.specs.Tied.{is_own, AreOwn}

-- ---- what is listed

-- where nothing is known
none_known : (count u : ℕ) → known_at (replicate count Nothing) u ≡ Nothing
none_known zero u = refl
none_known (suc count) zero = refl
none_known (suc count) (suc u) = none_known count u

pub own_nothing : (count : ℕ) → AreOwn (replicate count Nothing)
own_nothing count u = ap (is_own u) (none_known count u)

-- what is known at the place that is written
at_set : (P : Known → Type 0) (values : List Known) (v : ℕ) (known : Known) → P known → P Nothing → P (known_at (slice_set values v known) v)
at_set P [] v known here none = none
at_set P (x ∷ values) zero known here none = here
at_set P (x ∷ values) (suc v) known here none = at_set P values v known here none

own_set : (values : List Known) (v : ℕ) (known : Known) → is_own v known ≡ true → AreOwn values → AreOwn (slice_set values v known)
own_set values v known here own u = elim (cases_eq v u) [
  | inl same ↦ subst (λ x. is_own x (known_at (slice_set values v known) x) ≡ true) same (at_set (λ k. is_own v k ≡ true) values v known here refl)
  | inr ne ↦ ap (is_own u) (get_or-set_other values v u known Nothing (λ e. ne (sym e))) ∙ own u
]

own_listed : (v : ℕ) (fact : Fact) (f : FactSet) → AreOwn f.values → AreOwn (list_value v fact f).values
own_listed v (fact.Number bits below) f own = own_set f.values v (Number bits below) refl own
own_listed v (fact.Reference layout nonnull age same) f own = own_set f.values v (Cell v layout (is_stale age)) (test_same v) own
own_listed v (fact.Address base words) f own = own_set f.values v (Address base words) refl own
own_listed v (fact.GlobalAddress g) f own = own_set f.values v (GlobalAddress g) refl own

own_slot : (slot : Option ℕ) (nonnull : Bool) (f : FactSet) → AreOwn f.values → AreOwn (list_slot slot nonnull f).values
own_slot None nonnull f own = own
own_slot (Some s) nonnull f own = own

own_claim : (slots : SlotTable) (claim : Claim) (f : FactSet) → AreOwn f.values → AreOwn (list_claim slots claim f).values
own_claim slots (claim.Value v fact) f own = own_listed v fact f own
own_claim slots (claim.Slot slot nonnull holds) f own = own_slot (slot_of slots slot) nonnull f own

-- each reference that is listed is of the class that its value has for itself
pub own_claims : (slots : SlotTable) (claims : List Claim) (f : FactSet) → AreOwn f.values → AreOwn (list_claims slots claims f).values
own_claims slots [] f own = own
own_claims slots (claim ∷ claims) f own = own_claims slots claims (list_claim slots claim f) (own_claim slots claim f own)
