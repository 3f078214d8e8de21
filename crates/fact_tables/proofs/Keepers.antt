-- The slots that have held each class.
use Rattle.std.proofs.Common.{◌≡◌, ◌<◌, ◌≤◌, ◌⊎◌, ◌+◌, ◌-◌, inl, inr, ℕ, suc, List, [], ◌∷◌, length, get_or, map, drop, drop-cons, add-one, refl, sym, ap, ◌∙◌, subst, true, false, Bool, Option, Some, None, slice_set, arith}
use Rattle.std.specs.Prelude.{◌||◌, replicate, nat_eq, is_some, if◌then◌else◌}
use Rattle.indexmap.specs.IndexMap.{get}
use Rattle.std.specs.List.{list_any}
use Rattle.std.proofs.lemmas.Bool.{cases_eq, cases_lt}
use Rattle.std.proofs.lemmas.List.{get_or_past, get_or-set_same, length-set}
use Rattle.lemmas.specs.Bools.{never_true}
use Rattle.lemmas.specs.Lists.{in_first, IsIn, at_map}
use Rattle.fact_tables.specs.EachListed.{each_listed}
use Rattle.fact_tables.specs.declared.chains.Chains.{Chains}
use Rattle.fact_tables.specs.declared.known.Class.{Class}
use Rattle.fact_tables.specs.declared.known.SlotFact.{SlotFact}
use Rattle.fact_tables.specs.declared.uses.Use.{Use}
use Rattle.fact_tables.specs.Chains.{listed}
use Rattle.fact_tables.specs.Rows.{open_slot, slot_at, holds_class, holds, let_go, end_hold}
use Rattle.fact_tables.specs.SlotRows.{OnlyHolding, OnlyKeepers, AreRecorded, with_holding, let_go_last, each_let_go, let_go_others}
use Rattle.fact_tables.specs.Uses.{use_at, users_of, chain}
use Rattle.fact_tables.proofs.SlotLists.{as_before, let_go_listed, open_at}
use Rattle.fact_tables.proofs.Users.{chain_none}

-- ---- which slots hold a class

-- a slot that holds no class does not hold this one
holds_none : (c : ℕ) (slot : SlotFact) → slot.holds ≡ None → holds c slot ≡ true → ⊥
holds_none c slot free h = let none = ap (holds_class c) free in absurd cc

-- where all slots are open
pub none_keep : (keepers : Chains) (count : ℕ) (slots : List SlotFact) → slots ≡ replicate count open_slot → OnlyKeepers keepers slots
none_keep keepers count slots e s c h = absurd (holds_none c (slot_at slots s) (ap (λ (slot : SlotFact). slot.holds) (ap (λ l. slot_at l s) e ∙ open_at count s)) h)

-- more are listed
pub more_keepers : (keepers next : Chains) (slots : List SlotFact) → ((c s : ℕ) → IsIn s (listed keepers c) → IsIn s (listed next c)) → OnlyKeepers keepers slots → OnlyKeepers next slots
more_keepers keepers next slots kept only s c h = kept c s (only s c h)

-- a slot is written, which is listed for what it holds
pub set_keepers : (keepers : Chains) (s : ℕ) (slot : SlotFact) (slots : List SlotFact) → ((c : ℕ) → holds c slot ≡ true → IsIn s (listed keepers c)) → OnlyKeepers keepers slots → OnlyKeepers keepers (slice_set slots s slot)
set_keepers keepers s slot slots recorded only u c h = elim (cases_eq s u) [
  | inl same ↦ subst (λ x. IsIn x (listed keepers c)) same (here (cases_lt s (length slots)) (subst (λ x. holds c (slot_at (slice_set slots s slot) x) ≡ true) (sym same) h))
  | inr ne ↦ only u c (sym (ap (holds c) (as_before s slot slots u ne)) ∙ h)
] where
  here : (s < length slots) ⊎ (length slots ≤ s) → holds c (slot_at (slice_set slots s slot) s) ≡ true → IsIn s (listed keepers c)
  here (inl lt) e = recorded c (sym (ap (holds c) (get_or-set_same slots s slot open_slot lt)) ∙ e)
  here (inr past) e = let none = ap (holds c) (get_or_past (slice_set slots s slot) s open_slot (rw length-set past)) in absurd cc

-- each slot holds no other class than before
map_less : (keepers : Chains) (change : SlotFact → SlotFact) → change open_slot ≡ open_slot → ((c : ℕ) (slot : SlotFact) → holds c (change slot) ≡ true → holds c slot ≡ true) → (slots : List SlotFact) → OnlyKeepers keepers slots → OnlyKeepers keepers (map change slots)
map_less keepers change opens less slots only s c h = only s c (less c (slot_at slots s) (sym (ap (holds c) (at_map change slots s open_slot opens)) ∙ h))

-- ---- a class is let go

module _ (d : ℕ) (nonnull : Bool) where
  let_go_less : (c : ℕ) (slot : SlotFact) → holds c (let_go d nonnull slot) ≡ true → holds c slot ≡ true
  let_go_less c slot = pick (holds_class d slot.holds) where
    pick : (b : Bool) → holds c (if b then record slot { nonnull = slot.nonnull || nonnull; holds = None } else slot) ≡ true → holds c slot ≡ true
    pick true h = absurd cc
    pick false h = h

  pub let_go_keepers : (keepers : Chains) (slots : List SlotFact) → OnlyKeepers keepers slots → OnlyKeepers keepers (map (let_go d nonnull) slots)
  let_go_keepers keepers = map_less keepers (let_go d nonnull) refl let_go_less

  -- no slot but the keepers sees it
  pub keepers_let_go : (keepers : Chains) (slots : List SlotFact) → OnlyKeepers keepers slots → each_listed open_slot (λ s. let_go d nonnull) (listed keepers d) slots ≡ map (let_go d nonnull) slots
  keepers_let_go keepers slots only = let_go_listed d nonnull (listed keepers d) slots (λ s. pick s (holds d (slot_at slots s)) refl) where
    pick : (s : ℕ) (b : Bool) → holds d (slot_at slots s) ≡ b → IsIn s (listed keepers d) ⊎ (holds d (slot_at slots s) ≡ false)
    pick s true e = inl (only s d e)
    pick s false e = inr e

pub end_keepers : (classes : List Class) (keepers : Chains) (slots : List SlotFact) → OnlyKeepers keepers (map (end_hold classes) slots)
end_keepers classes keepers slots s c h = absurd (holds_none c (slot_at (map (end_hold classes) slots) s) (ap (λ (slot : SlotFact). slot.holds) (at_map (end_hold classes) slots s open_slot refl)) h)

module _ (keepers : Chains) (slots : List SlotFact) (only : OnlyKeepers keepers slots) where
  -- where none was listed, no slot holds the class
  pub none_holds : (c : ℕ) → listed keepers c ≡ [] → list_any (holds c) slots ≡ false
  none_holds c e = none slots (λ s. never_true (holds c (slot_at slots s)) (λ h. let one = subst (IsIn s) e (only s c h) in absurd one)) where
    none : (slots : List SlotFact) → ((s : ℕ) → holds c (slot_at slots s) ≡ false) → list_any (holds c) slots ≡ false
    none [] h = refl
    none (slot ∷ slots) h = rw (h 0) (none slots (λ s. h (suc s)))

  pub last_let_go : (last : Option ℕ) (nonnull : Bool) → each_let_go last nonnull keepers slots ≡ let_go_last last nonnull slots
  last_let_go None nonnull = refl
  last_let_go (Some c) nonnull = keepers_let_go c nonnull keepers slots only

  pub others_keepers : (s : ℕ) (last : Option ℕ) (nonnull : Bool) → OnlyKeepers keepers (let_go_others s last nonnull slots)
  others_keepers s last nonnull = set_keepers keepers s (slot_at slots s) (let_go_last last nonnull slots) (only s) (gone last) where
    gone : (last : Option ℕ) → OnlyKeepers keepers (let_go_last last nonnull slots)
    gone None = only
    gone (Some c) = let_go_keepers c nonnull keepers slots only

-- ---- the keepers of slots that may hold a class

-- each slot that holds a class is listed, or is one of the rest
abbrev pub AreKeepers : (rest holding : List ℕ) → (keepers : Chains) → List SlotFact → Type 0
AreKeepers rest holding keepers slots = (s c : ℕ) → holds c (slot_at slots s) ≡ true → IsIn s holding → IsIn s rest ⊎ IsIn s (listed keepers c)

pub keepers_more : (holding : List ℕ) (i : ℕ) → i < length holding → (keepers next : Chains) (slots : List SlotFact) → ((c s : ℕ) → IsIn s (listed keepers c) → IsIn s (listed next c)) → ((c : ℕ) → holds c (slot_at slots (get_or holding i 0)) ≡ true → IsIn (get_or holding i 0) (listed next c))
    → AreKeepers (drop i holding) holding keepers slots → AreKeepers (drop (i + 1) holding) holding next slots
keepers_more holding i lt keepers next slots kept recorded was s c h one = subst (λ n. IsIn s (drop n holding) ⊎ IsIn s (listed next c)) (sym (add-one i)) (elim (was s c h one) [
  | inl left ↦ elim (subst (IsIn s) (drop-cons holding i 0 lt) left) [
    | inl same ↦ inr (subst (λ x. IsIn x (listed next c)) (sym same) (recorded c (subst (λ x. holds c (slot_at slots x) ≡ true) same h)))
    | inr more ↦ inl more
  ]
  | inr there ↦ inr (kept c s there)
])

pub all_keepers : (holding : List ℕ) (keepers : Chains) (slots : List SlotFact) → AreKeepers [] holding keepers slots → OnlyHolding holding slots → OnlyKeepers keepers slots
all_keepers holding keepers slots are only s c h = elim (only s) [
  | inl one ↦ elim (are s c h one) [ inl none ↦ absurd none | inr there ↦ there ]
  | inr free ↦ absurd (holds_none c (slot_at slots s) free h)
]

-- ---- a change of each slot of a chain

pub slots_step : (g : SlotFact → SlotFact) (count step : ℕ) (uses : List Use) (at : Option ℕ) (found : Use) (first slots next : List SlotFact) → step < count → first ≡ each_listed open_slot (λ s. g) (chain (count - step) uses at) slots → use_at uses at ≡ Some found
    → next ≡ slice_set slots found.user (g (slot_at slots found.user)) → first ≡ each_listed open_slot (λ s. g) (chain (count - (step + 1)) uses found.before) next
slots_step g count step uses at found first slots next lt e is changed =
    let left : count - step ≡ suc (count - (step + 1)) = omega arith in
    e ∙ ap (λ n. each_listed open_slot (λ s. g) (chain n uses at) slots) left ∙ ap (λ (f : Option Use). each_listed open_slot (λ s. g) (users_of f (chain (count - (step + 1)) uses)) slots) is ∙ ap (each_listed open_slot (λ s. g) (chain (count - (step + 1)) uses found.before)) (sym changed)

-- where there is no newest keeper there is none
pub unlisted : (keepers : Chains) (c : ℕ) → get nat_eq keepers.newest c ≡ None → listed keepers c ≡ []
unlisted keepers c e = ap (chain (length keepers.links.items) keepers.links.items) e ∙ chain_none (length keepers.links.items) keepers.links.items None refl

-- so no slot holds the class
pub unkept : (keepers : Chains) (slots : List SlotFact) → OnlyKeepers keepers slots → (c : ℕ) (newest : Option ℕ) → newest ≡ get nat_eq keepers.newest c → is_some newest ≡ false → list_any (holds c) slots ≡ false
unkept keepers slots only c None e h = none_holds keepers slots only c (unlisted keepers c (sym e))
unkept keepers slots only c (Some link) e h = absurd cc

-- ---- a slot that is recorded

pub more_holding : (s : ℕ) (holds : Option ℕ) (holding : List ℕ) (slots : List SlotFact) → OnlyHolding holding slots → OnlyHolding (with_holding s holds holding) slots
more_holding s holds holding slots only u = elim (only u) [ inl one ↦ inl (pick holds one) | inr e ↦ inr e ] where
  pick : (holds : Option ℕ) → IsIn u holding → IsIn u (with_holding s holds holding)
  pick None one = one
  pick (Some c) one = in_first u holding (s ∷ []) one

-- and then written
pub recorded_written : (filled holding : List ℕ) (keepers : Chains) (from slots last : List SlotFact) (s : ℕ) (slot : SlotFact) → from ≡ slots → last ≡ slice_set slots s slot → AreRecorded filled holding keepers (slice_set from s slot) → AreRecorded filled holding keepers last
recorded_written filled holding keepers from slots last s slot e is recorded = subst (AreRecorded filled holding keepers) (ap (λ (l : List SlotFact). slice_set l s slot) e ∙ sym is) recorded
