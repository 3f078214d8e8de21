-- A claim that lists its value as fresh, where all that is of its class is known to be listed.
use Rattle.std.proofs.Common.{◌≡◌, ◌∙◌, ap, sym, refl, subst, cond, true, false, Bool, ℕ, Option, Some}
use Rattle.std.specs.Prelude.{◌==◌, ◌&&◌, not}
use Rattle.lemmas.specs.Bools.{and_true}
use Rattle.lemmas.specs.Numbers.{test_true, some_same}
use Rattle.certs.specs.declared.section.Age.TheVariants as age
use Rattle.certs.specs.declared.section.Fact.TheVariants as fact
use Rattle.certs.specs.declared.section.Claim.{Claim}
use Rattle.certs.specs.declared.section.Claim.TheVariants as claim
use Rattle.shadow_stack.specs.Slots.{SlotTable}
use Rattle.fact_tables.specs.declared.known.Known.{Known}
use Rattle.fact_tables.specs.declared.known.Known.TheVariants.{Nothing, Number, Cell, Null, Address, GlobalAddress}
use Rattle.fact_tables.specs.Rows.{known_at, class_at}
use Rattle.facts.specs.Facts.{FactSet}
use Rattle.fact_tables.specs.Covers.{implied}
use Rattle.facts.specs.Claims.{covers, is_fresh_in, covers_known, is_same, implies_reference, implies_claim}
use Rattle.facts.specs.Covered.{both_classes, classes_listed, unfresh, IsRecorded, AreCovered}

-- what is asked is implied where it is so
pub implied_asked : (asked holds : Bool) → asked ≡ true → implied asked holds ≡ holds
implied_asked true true e = refl
implied_asked true false e = refl
implied_asked false holds e = absurd cc

-- what is not asked is implied
pub implied_unasked : (asked holds : Bool) → asked ≡ false → implied asked holds ≡ true
implied_unasked false true e = refl
implied_unasked false false e = refl
implied_unasked true holds e = absurd cc

-- what is so is implied, asked or not
asked_or_not : (holds : Bool) → holds ≡ true → implied false holds ≡ implied true holds
asked_or_not true e = refl
asked_or_not false e = absurd cc

module _ (here there : FactSet) (recorded : ℕ → Option ℕ) (covered : AreCovered here there recorded) (v layout : ℕ) (nonnull : Bool) (same : Option ℕ) where
  -- by what is known of the value here, and at the target
  unfresh_known : (k t : Known) → known_at there.values v ≡ t → IsRecorded recorded (both_classes k t) → implies_reference here there v layout nonnull age.Held same k ≡ implies_reference here there v layout nonnull age.Fresh same k
  unfresh_known (Cell c known stale) (Cell d other old) e is =
      ap (λ (fresh : Bool). (known == layout) && implied nonnull (class_at here.classes c).nonnull && implied true (not stale) && fresh && is_same here.values c same)
      (asked_or_not (is_fresh_in here there c v) (ap (λ (k : Known). (class_at here.classes c).fresh && covers_known here there c k) e ∙ covered c d is))
  unfresh_known (Cell c known stale) Nothing e is = absurd is
  unfresh_known (Cell c known stale) (Number bits below) e is = absurd is
  unfresh_known (Cell c known stale) Null e is = absurd is
  unfresh_known (Cell c known stale) (Address base words) e is = absurd is
  unfresh_known (Cell c known stale) (GlobalAddress g) e is = absurd is
  unfresh_known Nothing t e is = absurd is
  unfresh_known (Number bits below) t e is = absurd is
  unfresh_known Null t e is = absurd is
  unfresh_known (Address base words) t e is = absurd is
  unfresh_known (GlobalAddress g) t e is = absurd is

-- a claim whose class is recorded is implied exactly where it is implied without what it says of freshness
pub unfresh_implied : (table : SlotTable) (here there : FactSet) (recorded : ℕ → Option ℕ) (l : Claim) → AreCovered here there recorded → IsRecorded recorded (classes_listed here there l) → implies_claim table here there (unfresh l) ≡ implies_claim table here there l
unfresh_implied table here there recorded (claim.Value v (fact.Reference layout nonnull age.Fresh same)) covered is = unfresh_known here there recorded covered v layout nonnull same (known_at here.values v) (known_at there.values v) refl is
unfresh_implied table here there recorded (claim.Value v (fact.Reference layout nonnull age.Held same)) covered is = absurd is
unfresh_implied table here there recorded (claim.Value v (fact.Reference layout nonnull age.Stale same)) covered is = absurd is
unfresh_implied table here there recorded (claim.Value v (fact.Number bits below)) covered is = absurd is
unfresh_implied table here there recorded (claim.Value v (fact.Address base words)) covered is = absurd is
unfresh_implied table here there recorded (claim.Value v (fact.GlobalAddress g)) covered is = absurd is
unfresh_implied table here there recorded (claim.Slot slot nonnull holds) covered is = absurd is

-- one class more is recorded
pub recorded_more : (here there : FactSet) (before after : ℕ → Option ℕ) (c d : ℕ) → AreCovered here there before → (class_at here.classes c).fresh ≡ true → covers here there c d ≡ true → ((other : ℕ) → after other ≡ cond (c == other) (Some d) (before other)) → AreCovered here there after
recorded_more here there before after c d covered fresh all puts other e is = pick (c == other) refl
  where
    pick : (b : Bool) → (c == other) ≡ b → ((class_at here.classes other).fresh && covers here there other e) ≡ true
    pick true same = subst (λ (n : ℕ). ((class_at here.classes n).fresh && covers here there n e) ≡ true) (test_true c other same)
        (and_true (class_at here.classes c).fresh (covers here there c e) fresh (subst (λ (n : ℕ). covers here there c n ≡ true) (some_same d e (sym (ap (λ (b : Bool). cond b (Some d) (before other)) same) ∙ sym (puts other) ∙ is)) all))
    pick false apart = covered other e (sym (ap (λ (b : Bool). cond b (Some d) (before other)) apart) ∙ sym (puts other) ∙ is)
