-- What a safepoint leaves.
use Rattle.std.proofs.Common.{◌≡◌, ◌<◌, ◌≤◌, ℕ, zero, suc, List, [], ◌∷◌, length, map, refl, sym, ap, ◌∙◌, subst, arith, true, false, Bool}
use Rattle.std.specs.Prelude.{◌↔◌}
use Rattle.std.specs.List.{zip}
use Rattle.lemmas.specs.Lists.{at_map}
use Rattle.lemmas.specs.Bools.{or_false}
use Rattle.fact_tables.specs.declared.known.Class.{Class}
use Rattle.fact_tables.specs.declared.known.Known.{Known}
use Rattle.fact_tables.specs.declared.known.Known.TheVariants.{Nothing, Number, Cell, Null, Address, GlobalAddress}
use Rattle.fact_tables.specs.Rows.{known_at, slot_at, class_at, open_slot, holds_class, slot_nonnull, stale_of, stale_class, end_hold}
use Rattle.facts.specs.Facts.{FactSet, make_stale}
use Rattle.facts.specs.Stale.{stale_at}
use Rattle.facts.specs.Statements.{IsNumber, IsBelow, RefersTo, IsCurrent, IsNonnull, IsFresh, IsSame, IsAddress, IsGlobal, SlotNonnull, SlotHolds, NumberOf, BelowOf, RefersOf, CurrentOf, OfClass, AddressOf, GlobalOf, SafepointEndsCurrent}
use Rattle.facts.proofs.Forgets.{class_any}

-- what is known of the class that a value has for itself
at_classes : (all own : List Class) (values : List Known) (u : ℕ) → u < length values → length values ≤ length own → class_at (map (stale_class all) (zip own values)) u ≡ stale_class all (class_at own u, known_at values u)
at_classes all own [] u lt le = absurd (omega arith)
at_classes all [] (x ∷ xs) u lt le = absurd (omega arith)
at_classes all (c ∷ cs) (x ∷ xs) zero lt le = refl
at_classes all (c ∷ cs) (x ∷ xs) (suc u) lt le = at_classes all cs xs u (omega arith) (omega arith)

-- a reference is one of the values
within : (values : List Known) (u c layout : ℕ) (stale : Bool) → known_at values u ≡ Cell c layout stale → u < length values
within [] u c layout stale e = absurd cc
within (x ∷ xs) zero c layout stale e = omega arith
within (x ∷ xs) (suc u) c layout stale e = let r = within xs u c layout stale e in omega arith

-- what does not depend on the class or on stale is as before
kept : (P : Known → Type 0) → ((c d layout : ℕ) (stale now : Bool) → P (Cell c layout stale) ≡ P (Cell d layout now)) → (u : ℕ) (k : Known) → P (stale_of (u, k)) ≡ P k
kept P same u (Cell c layout stale) = same u c layout true stale
kept P same u Nothing = refl
kept P same u (Number bits below) = refl
kept P same u Null = refl
kept P same u (Address base words) = refl
kept P same u (GlobalAddress g) = refl

-- a reference that is stale is not current; null is
current_there : (u : ℕ) (k : Known) → CurrentOf (stale_of (u, k)) → CurrentOf k × (k ≡ Null)
current_there u (Cell c layout stale) h = absurd cc
current_there u Null h = (tt, refl)
current_there u Nothing h = absurd h
current_there u (Number bits below) h = absurd h
current_there u (Address base words) h = absurd h
current_there u (GlobalAddress g) h = absurd h

-- the same as itself
own_there : (P : ℕ → Type 0) (u : ℕ) (k : Known) → OfClass P (stale_of (u, k)) → OfClass (λ c. OfClass (λ d. c ≡ d) k) k
own_there P u (Cell c layout stale) h = refl
own_there P u Nothing h = h
own_there P u (Number bits below) h = h
own_there P u Null h = h
own_there P u (Address base words) h = h
own_there P u (GlobalAddress g) h = h

own_back : (P : ℕ → Type 0) (u : ℕ) (k : Known) → OfClass P k → OfClass (λ c. OfClass (λ d. c ≡ d) (stale_of (u, k))) (stale_of (u, k))
own_back P u (Cell c layout stale) h = refl
own_back P u Nothing h = h
own_back P u (Number bits below) h = h
own_back P u Null h = h
own_back P u (Address base words) h = h
own_back P u (GlobalAddress g) h = h

-- the class that is made of a reference is that of its value
class_is_own : (P : ℕ → Type 0) (u : ℕ) (k : Known) → OfClass P (stale_of (u, k)) → P u
class_is_own P u (Cell c layout stale) h = h
class_is_own P u Nothing h = absurd h
class_is_own P u (Number bits below) h = absurd h
class_is_own P u Null h = absurd h
class_is_own P u (Address base words) h = absurd h
class_is_own P u (GlobalAddress g) h = absurd h

module _ (f : FactSet) where
  abbrev now : ℕ → Known
  now u = known_at (make_stale f).values u

  at : (u : ℕ) → now u ≡ stale_of (u, known_at f.values u)
  at u = stale_at f.values u

  as_before : (P : Known → Type 0) → ((c d layout : ℕ) (stale now : Bool) → P (Cell c layout stale) ≡ P (Cell d layout now)) → (u : ℕ) → P (now u) ↔ (P (known_at f.values u) × Unit {0})
  as_before P same u =
      let e = ap P (at u) ∙ kept P same u (known_at f.values u) in
      (λ h. (subst (λ X. X) e h, tt), λ h. subst (λ X. X) (sym e) h.0)

  of_current : (u : ℕ) → CurrentOf (now u) ↔ (CurrentOf (known_at f.values u) × (known_at f.values u ≡ Null))
  of_current u = (
    λ h. current_there u (known_at f.values u) (subst CurrentOf (at u) h),
    λ h. subst CurrentOf (sym (at u ∙ ap (λ k. stale_of (u, k)) h.1)) tt,
  )

  of_same : (u w : ℕ) → OfClass (λ c. OfClass (λ d. c ≡ d) (now w)) (now u) ↔ (OfClass (λ c. OfClass (λ d. c ≡ d) (known_at f.values w)) (known_at f.values u) × (u ≡ w))
  of_same u w = (there, back) where
    there : OfClass (λ c. OfClass (λ d. c ≡ d) (now w)) (now u) → OfClass (λ c. OfClass (λ d. c ≡ d) (known_at f.values w)) (known_at f.values u) × (u ≡ w)
    there h =
        let first = subst (OfClass (λ c. OfClass (λ d. c ≡ d) (now w))) (at u) h in
        let second = subst (OfClass (λ d. u ≡ d)) (at w) (class_is_own (λ c. OfClass (λ d. c ≡ d) (now w)) u (known_at f.values u) first) in
        let same = class_is_own (λ d. u ≡ d) w (known_at f.values w) second in
        (subst (λ x. OfClass (λ c. OfClass (λ d. c ≡ d) (known_at f.values x)) (known_at f.values u)) same (own_there (λ c. OfClass (λ d. c ≡ d) (now w)) u (known_at f.values u) first), same)

    back : OfClass (λ c. OfClass (λ d. c ≡ d) (known_at f.values w)) (known_at f.values u) × (u ≡ w) → OfClass (λ c. OfClass (λ d. c ≡ d) (now w)) (now u)
    back h =
        subst (λ x. OfClass (λ c. OfClass (λ d. c ≡ d) (now x)) (now u)) h.1
        (subst (λ k. OfClass (λ c. OfClass (λ d. c ≡ d) k) k) (sym (at u)) (own_back (λ c. OfClass (λ d. c ≡ d) (known_at f.values w)) u (known_at f.values u) h.0))

  module _ (sized : length f.values ≤ length f.classes) where
    own_class : (u c layout : ℕ) (stale : Bool) → known_at f.values u ≡ Cell c layout stale → class_at (make_stale f).classes u ≡ record { nonnull = (class_at f.classes c).nonnull; fresh = false }
    own_class u c layout stale e = at_classes f.classes f.classes f.values u (within f.values u c layout stale e) sized ∙ ap (λ k. stale_class f.classes (class_at f.classes u, k)) e

    Now : ℕ → Type 0
    Now c = (class_at (make_stale f).classes c).nonnull ≡ true

    Was : ℕ → Type 0
    Was c = (class_at f.classes c).nonnull ≡ true

    null_there : (u : ℕ) (k : Known) → known_at f.values u ≡ k → OfClass (λ c. (class_at (make_stale f).classes c).nonnull ≡ true) (stale_of (u, k)) → OfClass (λ c. (class_at f.classes c).nonnull ≡ true) k
    null_there u (Cell c layout stale) e h = sym (ap (λ x. x.nonnull) (own_class u c layout stale e)) ∙ h
    null_there u Nothing e h = h
    null_there u (Number bits below) e h = h
    null_there u Null e h = h
    null_there u (Address base words) e h = h
    null_there u (GlobalAddress g) e h = h

    null_back : (u : ℕ) (k : Known) → known_at f.values u ≡ k → OfClass (λ c. (class_at f.classes c).nonnull ≡ true) k → OfClass (λ c. (class_at (make_stale f).classes c).nonnull ≡ true) (stale_of (u, k))
    null_back u (Cell c layout stale) e h = ap (λ x. x.nonnull) (own_class u c layout stale e) ∙ h
    null_back u Nothing e h = h
    null_back u (Number bits below) e h = h
    null_back u Null e h = h
    null_back u (Address base words) e h = h
    null_back u (GlobalAddress g) e h = h

    never_fresh : (u : ℕ) (k : Known) → known_at f.values u ≡ k → OfClass (λ c. (class_at (make_stale f).classes c).fresh ≡ true) (stale_of (u, k)) → ⊥
    never_fresh u (Cell c layout stale) e h = let is = sym (ap (λ x. x.fresh) (own_class u c layout stale e)) ∙ h in absurd cc
    never_fresh u Nothing e h = h
    never_fresh u (Number bits below) e h = h
    never_fresh u Null e h = h
    never_fresh u (Address base words) e h = h
    never_fresh u (GlobalAddress g) e h = h

  slot_now : (s : ℕ) → slot_at (make_stale f).slots s ≡ end_hold f.classes (slot_at f.slots s)
  slot_now s = at_map (end_hold f.classes) f.slots s open_slot refl

pub outlasts : SafepointEndsCurrent
outlasts f (IsNumber u bits) sized = as_before f (NumberOf bits) (λ c d layout stale now. refl) u
outlasts f (IsBelow u n) sized = as_before f (BelowOf n) (λ c d layout stale now. refl) u
outlasts f (RefersTo u layout) sized = as_before f (RefersOf layout) (λ c d layout stale now. refl) u
outlasts f (IsCurrent u) sized = of_current f u
outlasts f (IsNonnull u) sized = (
  λ h. (null_there f sized u (known_at f.values u) refl (subst (OfClass (λ c. (class_at (make_stale f).classes c).nonnull ≡ true)) (at f u) h), tt),
  λ h. subst (OfClass (λ c. (class_at (make_stale f).classes c).nonnull ≡ true)) (sym (at f u)) (null_back f sized u (known_at f.values u) refl h.0),
)
outlasts f (IsFresh u) sized =
    (λ h. absurd (never_fresh f sized u (known_at f.values u) refl (subst (OfClass (λ c. (class_at (make_stale f).classes c).fresh ≡ true)) (at f u) h)), λ h. absurd h.1)
outlasts f (IsSame u w) sized = of_same f u w
outlasts f (IsAddress u base words) sized = as_before f (AddressOf base words) (λ c d layout stale now. refl) u
outlasts f (IsGlobal u g) sized = as_before f (GlobalOf g) (λ c d layout stale now. refl) u
outlasts f (SlotNonnull s) sized =
    let e = ap (slot_nonnull (make_stale f).classes) (slot_now f s) ∙ or_false (slot_nonnull f.classes (slot_at f.slots s)) in
    (λ h. (sym e ∙ h, tt), λ h. e ∙ h.0)
outlasts f (SlotHolds s u) sized = (
  λ h. absurd (class_any (λ c. holds_class c (slot_at (make_stale f).slots s).holds ≡ true) ⊥ (known_at (make_stale f).values u) h (λ c x. let e = ap (λ slot. holds_class c slot.holds) (slot_now f s) in absurd cc)),
  λ h. absurd h.1,
)
