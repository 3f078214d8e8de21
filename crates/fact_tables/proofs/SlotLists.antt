-- Slots of which few are filled, and of which few hold a class.
use Rattle.std.proofs.Common.{◌≡◌, ◌⊎◌, inl, inr, ℕ, List, [], ◌∷◌, ◌++◌, zero, suc, length, map, refl, sym, ap, ◌∙◌, subst, true, false, Bool, Option, Some, None, slice_set}
use Rattle.std.specs.Prelude.{◌||◌, replicate, if◌then◌else◌}
use Rattle.std.proofs.lemmas.Bool.{cases_eq, cases_lt}
use Rattle.std.proofs.lemmas.List.{ext_get_or, get_or_past, get_or-set_other, length-map}
use Rattle.lemmas.specs.Bools.{or_false}
use Rattle.lemmas.specs.Lists.{in_first, last_in, IsIn, at_map}
use Rattle.fact_tables.specs.EachListed.{each_listed}
use Rattle.fact_tables.proofs.EachListed.{length_each, each_at}
use Rattle.fact_tables.specs.declared.known.Class.{Class}
use Rattle.fact_tables.specs.declared.known.SlotFact.{SlotFact}
use Rattle.fact_tables.specs.Rows.{open_slot, slot_at, holds_class, slot_nonnull, held_nonnull, holds, let_go, end_hold}
use Rattle.fact_tables.specs.SlotRows.{is_open, OnlyFilled, OnlyHolding, NamesAll, with_filled, with_holding, let_go_last, let_go_others}
use Rattle.fact_tables.proofs.Sets.{set_is}

module _ (change : SlotFact → SlotFact) (opens : change open_slot ≡ open_slot) where
  changed_filled : (filled : List ℕ) (slots : List SlotFact) → OnlyFilled filled slots → OnlyFilled filled (map change slots)
  changed_filled filled slots only s = elim (only s) [ inl one ↦ inl one | inr e ↦ inr (at_map change slots s open_slot opens ∙ ap change e ∙ opens) ]

  changed_all : ((slot : SlotFact) → change (change slot) ≡ change slot) → (listed : List ℕ) (slots : List SlotFact) → ((s : ℕ) → IsIn s listed ⊎ (change (slot_at slots s) ≡ slot_at slots s)) → each_listed open_slot (λ s. change) listed slots ≡ map change slots
  changed_all twice listed slots seen = ext_get_or open_slot (each_listed open_slot (λ s. change) listed slots) (map change slots) (length_each open_slot (λ s. change) listed slots ∙ sym (length-map slots change))
      (λ s lt. each_at open_slot (λ u. change) (λ u. twice) listed slots (λ u at. seen u) s (rw (← length_each open_slot (λ u. change) listed slots) lt) ∙ sym (at_map change slots s open_slot opens))

-- ---- a slot that holds no class any more

module _ (c : ℕ) (nonnull : Bool) where
  let_go_twice : (slot : SlotFact) → let_go c nonnull (let_go c nonnull slot) ≡ let_go c nonnull slot
  let_go_twice slot = pick (holds_class c slot.holds) refl where
    pick : (b : Bool) → holds_class c slot.holds ≡ b → let_go c nonnull (let_go c nonnull slot) ≡ let_go c nonnull slot
    pick true e = rw e refl
    pick false e = rw (e, e) refl

  let_go_free : (slot : SlotFact) → slot.holds ≡ None → let_go c nonnull slot ≡ slot
  let_go_free slot e = ap (λ (h : Option ℕ). if holds_class c h then record slot { nonnull = slot.nonnull || nonnull; holds = None } else slot) e

  let_go_not : (slot : SlotFact) → holds c slot ≡ false → let_go c nonnull slot ≡ slot
  let_go_not slot e = ap (λ (b : Bool). if b then record slot { nonnull = slot.nonnull || nonnull; holds = None } else slot) e

  pub let_go_listed : (listed : List ℕ) (slots : List SlotFact) → ((s : ℕ) → IsIn s listed ⊎ (holds c (slot_at slots s) ≡ false)) → each_listed open_slot (λ s. let_go c nonnull) listed slots ≡ map (let_go c nonnull) slots
  let_go_listed listed slots seen = changed_all (let_go c nonnull) refl let_go_twice listed slots (λ s. elim (seen s) [ inl one ↦ inl one | inr e ↦ inr (let_go_not (slot_at slots s) e) ])

  pub let_go_filled : (filled : List ℕ) (slots : List SlotFact) → OnlyFilled filled slots → OnlyFilled filled (map (let_go c nonnull) slots)
  let_go_filled = changed_filled (let_go c nonnull) refl

  pub let_go_holding : (holding : List ℕ) (slots : List SlotFact) → OnlyHolding holding slots → OnlyHolding holding (map (let_go c nonnull) slots)
  let_go_holding holding slots only s = elim (only s) [ inl one ↦ inl one | inr e ↦ inr (ap (λ (slot : SlotFact). slot.holds) (at_map (let_go c nonnull) slots s open_slot refl ∙ let_go_free (slot_at slots s) e) ∙ e) ]

module _ (classes : List Class) where
  end_twice : (slot : SlotFact) → end_hold classes (end_hold classes slot) ≡ end_hold classes slot
  end_twice slot = ap (λ (b : Bool). record slot { nonnull = b; holds = None }) (or_false (slot_nonnull classes slot))

  end_free : (slot : SlotFact) → slot.holds ≡ None → end_hold classes slot ≡ slot
  end_free slot e = ap (λ (h : Option ℕ). record slot { nonnull = slot.nonnull || held_nonnull classes h; holds = None }) e ∙ ap (λ (b : Bool). record slot { nonnull = b; holds = None }) (or_false slot.nonnull) ∙ ap (λ (h : Option ℕ). record slot { holds = h }) (sym e)

  pub end_all : (holding : List ℕ) (slots : List SlotFact) → OnlyHolding holding slots → each_listed open_slot (λ s. end_hold classes) holding slots ≡ map (end_hold classes) slots
  end_all holding slots only = changed_all (end_hold classes) refl end_twice holding slots (λ s. elim (only s) [ inl one ↦ inl one | inr e ↦ inr (end_free (slot_at slots s) e) ])

  pub end_filled : (filled : List ℕ) (slots : List SlotFact) → OnlyFilled filled slots → OnlyFilled filled (map (end_hold classes) slots)
  end_filled = changed_filled (end_hold classes) refl

  pub end_none : (slots : List SlotFact) → OnlyHolding [] (map (end_hold classes) slots)
  end_none slots s = inr (ap (λ (slot : SlotFact). slot.holds) (at_map (end_hold classes) slots s open_slot refl))

-- ---- open slots

pub open_at : (count s : ℕ) → slot_at (replicate count open_slot) s ≡ open_slot
open_at zero s = refl
open_at (suc count) zero = refl
open_at (suc count) (suc s) = open_at count s

-- where all slots are open it does not matter which are listed
pub all_open : (filled : List ℕ) (count : ℕ) (slots : List SlotFact) → slots ≡ replicate count open_slot → OnlyFilled filled slots
all_open filled count slots e s = inr (ap (λ l. slot_at l s) e ∙ open_at count s)

pub none_holding : (holding : List ℕ) (count : ℕ) (slots : List SlotFact) → slots ≡ replicate count open_slot → OnlyHolding holding slots
none_holding holding count slots e s = inr (ap (λ (slot : SlotFact). slot.holds) (ap (λ l. slot_at l s) e ∙ open_at count s))

-- ---- a slot that is written

pub more_filled : (s : ℕ) (before : SlotFact) (filled : List ℕ) (slots : List SlotFact) → OnlyFilled filled slots → OnlyFilled (with_filled s before filled) slots
more_filled s before filled slots only u = elim (only u) [ inl one ↦ inl (pick (is_open before) one) | inr e ↦ inr e ] where
  pick : (b : Bool) → IsIn u filled → IsIn u (if b then filled ++ s ∷ [] else filled)
  pick true one = in_first u filled (s ∷ []) one
  pick false one = one

module _ (s : ℕ) (slot : SlotFact) (slots : List SlotFact) where
  pub as_before : (u : ℕ) → (s ≡ u → ⊥) → slot_at (slice_set slots s slot) u ≡ slot_at slots u
  as_before u ne = get_or-set_other slots s u slot open_slot (λ x. ne (sym x))

  pub set_filled : (filled : List ℕ) → OnlyFilled filled slots → OnlyFilled (with_filled s (slot_at slots s) filled) (slice_set slots s slot)
  set_filled filled only u = pick (is_open (slot_at slots s)) refl (cases_eq s u) (only u) where
    pick : (b : Bool) → is_open (slot_at slots s) ≡ b → (s ≡ u) ⊎ (s ≡ u → ⊥) → IsIn u filled ⊎ (slot_at slots u ≡ open_slot) → IsIn u (with_filled s (slot_at slots s) filled) ⊎ (slot_at (slice_set slots s slot) u ≡ open_slot)
    pick true e (inl same) was = inl (rw e (subst (λ x. IsIn x (filled ++ s ∷ [])) same (last_in s filled)))
    pick true e (inr ne) (inl one) = inl (rw e (in_first u filled (s ∷ []) one))
    pick false e (inl same) (inl one) = inl (rw e one)
    pick false e (inl same) (inr empty) = let full : is_open (slot_at slots u) ≡ true = ap is_open empty in let here : is_open (slot_at slots s) ≡ is_open (slot_at slots u) = ap (λ x. is_open (slot_at slots x)) same in absurd cc
    pick false e (inr ne) (inl one) = inl (rw e one)
    pick b e (inr ne) (inr empty) = inr (as_before u ne ∙ empty)

  pub set_holding : (holding : List ℕ) → OnlyHolding holding slots → OnlyHolding (with_holding s slot.holds holding) (slice_set slots s slot)
  set_holding holding only u = pick slot.holds refl (cases_eq s u) (only u) where
    pick : (h : Option ℕ) → slot.holds ≡ h → (s ≡ u) ⊎ (s ≡ u → ⊥) → IsIn u holding ⊎ ((slot_at slots u).holds ≡ None) → IsIn u (with_holding s h holding) ⊎ ((slot_at (slice_set slots s slot) u).holds ≡ None)
    pick None e (inl same) was = inr (subst (λ x. (slot_at (slice_set slots s slot) x).holds ≡ None) same (set_is (λ (x : SlotFact). x.holds) slots s slot open_slot None e refl))
    pick (Some c) e (inl same) was = inl (subst (λ x. IsIn x (holding ++ s ∷ [])) same (last_in s holding))
    pick None e (inr ne) (inl one) = inl one
    pick (Some c) e (inr ne) (inl one) = inl (in_first u holding (s ∷ []) one)
    pick h e (inr ne) (inr free) = inr (ap (λ (x : SlotFact). x.holds) (as_before u ne) ∙ free)

-- ---- all slots but one let a class go

module _ (s : ℕ) (last : Option ℕ) (nonnull : Bool) (slots : List SlotFact) where
  pub others_filled : (filled : List ℕ) → OnlyFilled filled slots → OnlyFilled filled (let_go_others s last nonnull slots)
  others_filled filled only u = pick (cases_eq s u) where
    gone : (last : Option ℕ) → OnlyFilled filled (let_go_last last nonnull slots)
    gone None = only
    gone (Some c) = let_go_filled c nonnull filled slots only

    pick : (s ≡ u) ⊎ (s ≡ u → ⊥) → IsIn u filled ⊎ (slot_at (let_go_others s last nonnull slots) u ≡ open_slot)
    pick (inl same) = subst (λ x. IsIn x filled ⊎ (slot_at (let_go_others s last nonnull slots) x ≡ open_slot)) same
        (elim (only s) [ inl one ↦ inl one | inr e ↦ inr (set_is (λ (x : SlotFact). x) (let_go_last last nonnull slots) s (slot_at slots s) open_slot open_slot e refl) ])
    pick (inr ne) = elim (gone last u) [ inl one ↦ inl one | inr e ↦ inr (as_before s (slot_at slots s) (let_go_last last nonnull slots) u ne ∙ e) ]

  pub others_holding : (holding : List ℕ) → OnlyHolding holding slots → OnlyHolding holding (let_go_others s last nonnull slots)
  others_holding holding only u = pick (cases_eq s u) where
    gone : (last : Option ℕ) → OnlyHolding holding (let_go_last last nonnull slots)
    gone None = only
    gone (Some c) = let_go_holding c nonnull holding slots only

    pick : (s ≡ u) ⊎ (s ≡ u → ⊥) → IsIn u holding ⊎ ((slot_at (let_go_others s last nonnull slots) u).holds ≡ None)
    pick (inl same) = subst (λ x. IsIn x holding ⊎ ((slot_at (let_go_others s last nonnull slots) x).holds ≡ None)) same
        (elim (only s) [ inl one ↦ inl one | inr e ↦ inr (set_is (λ (x : SlotFact). x.holds) (let_go_last last nonnull slots) s (slot_at slots s) open_slot None e refl) ])
    pick (inr ne) = elim (gone last u) [ inl one ↦ inl one | inr e ↦ inr (ap (λ (x : SlotFact). x.holds) (as_before s (slot_at slots s) (let_go_last last nonnull slots) u ne) ∙ e) ]

-- ---- lists that name all that others list

pub names_filled : (filled names : List ℕ) (slots : List SlotFact) → NamesAll (length slots) filled names → OnlyFilled filled slots → OnlyFilled names slots
names_filled filled names slots all only s = elim (cases_lt s (length slots)) [
  | inl lt ↦ elim (only s) [ inl one ↦ inl (all s lt one) | inr e ↦ inr e ]
  | inr past ↦ inr (get_or_past slots s open_slot past)
]

pub names_holding : (holding names : List ℕ) (slots : List SlotFact) → NamesAll (length slots) holding names → OnlyHolding holding slots → OnlyHolding names slots
names_holding holding names slots all only s = elim (cases_lt s (length slots)) [
  | inl lt ↦ elim (only s) [ inl one ↦ inl (all s lt one) | inr e ↦ inr e ]
  | inr past ↦ inr (ap (λ (slot : SlotFact). slot.holds) (get_or_past slots s open_slot past))
]
