-- Groups of values that were tied: one more, and one that becomes another.
use Rattle.std.proofs.Common.{◌≡◌, ◌<◌, ◌⊎◌, ◌+◌, inl, inr, ℕ, List, [], ◌∷◌, ◌++◌, suc, length, slice_set, refl, sym, ap, ◌∙◌, subst, cond, Bool, Option, Some, None, arith}
use Rattle.std.proofs.lemmas.List.{get_or_append_left, get_or-set_same, get_or-set_other}
use Rattle.std.specs.Prelude.{◌==◌, if◌then◌else◌}
use Rattle.lemmas.specs.Numbers.{test_no, test_same, some_same}
use Rattle.std.proofs.lemmas.Bool.{cases_eq}
use Rattle.lemmas.specs.Lists.{in_first, last_in, IsIn}
use Rattle.fact_tables.specs.declared.ties.Group.{Group}
use Rattle.fact_tables.specs.Ties.{moved, no_group, class_in, class_of_place, in_group, AreListed, AreClasses, AreTied}

-- ---- one number becomes another

pub moved_it : (from to : ℕ) → moved from to from ≡ to
moved_it from to = ap (λ (b : Bool). if b then to else from) (test_same from)

pub moved_not : (from to c : ℕ) → (c ≡ from → ⊥) → moved from to c ≡ c
moved_not from to c ne = ap (λ (b : Bool). if b then to else c) (test_no c from ne)

pub moved_to : (from to : ℕ) → moved from to to ≡ to
moved_to from to = elim (cases_eq to from) [ inl e ↦ subst (λ x. moved x to to ≡ to) e (moved_it to to) | inr ne ↦ moved_not from to to ne ]

-- ---- one group becomes another

module _ (places next : ℕ → Option ℕ) (s t : ℕ) (moves : (c : ℕ) → next c ≡ in_group s t (places c)) where
  next_at : (c p : ℕ) → places c ≡ Some p → next c ≡ Some (moved s t p)
  next_at c p e = moves c ∙ ap (in_group s t) e

  next_none : (c : ℕ) → places c ≡ None → next c ≡ None
  next_none c e = moves c ∙ ap (in_group s t) e

  -- a value that is in a group now was in one
  was_in : (c p : ℕ) → next c ≡ Some p → (q : ℕ) × (places c ≡ Some q) × (moved s t q ≡ p)
  was_in c p e = by (places c) refl where
    by : (found : Option ℕ) → places c ≡ found → (q : ℕ) × (places c ≡ Some q) × (moved s t q ≡ p)
    by None none = let gone = next_none c none in absurd cc
    by (Some q) is = (q, is, some_same (moved s t q) p (sym (next_at c q is) ∙ e))

  pub merged_tied : (tied : List ℕ) → AreTied places tied → AreTied next tied
  merged_tied tied all v = elim (all v) [ inl one ↦ inl one | inr e ↦ inr (next_none v e) ]

  module _ (groups after : List Group) (classes : AreClasses places groups) (class : ℕ) (renamed : (p : ℕ) → class_in after p ≡ (if p == t then class else class_in groups p)) where
    class_t : class_in after t ≡ class
    class_t = renamed t ∙ ap (λ (b : Bool). if b then class else class_in groups t) (test_same t)

    class_other : (p : ℕ) → (p ≡ t → ⊥) → class_in after p ≡ class_in groups p
    class_other p ne = renamed p ∙ ap (λ (b : Bool). if b then class else class_in groups p) (test_no p t ne)

    -- the group has the class that one of its values had
    pub merged_classes : (long : length after ≡ length groups) → t < length groups → (places class ≡ Some s) ⊎ (places class ≡ Some t) → AreClasses next after
    merged_classes long lt of c p e = let was = was_in c p e in pick was.0 was.1 was.2 (cases_eq p t) where
      there : next class ≡ Some t
      there = elim of [ inl is ↦ next_at class s is ∙ ap Some (moved_it s t) | inr is ↦ next_at class t is ∙ ap Some (moved_to s t) ]

      pick : (q : ℕ) → places c ≡ Some q → moved s t q ≡ p → (p ≡ t) ⊎ (p ≡ t → ⊥) → (p < length after) × (next (class_in after p) ≡ Some p)
      pick q is to (inl same) = (subst (λ x. x < length after) (sym same) (rw long lt), subst (λ x. next (class_in after x) ≡ Some x) (sym same) (ap next class_t ∙ there))
      pick q is to (inr ne) = (subst (λ x. x < length after) kept (rw long (classes c q is).0), ap next (class_other p ne) ∙ subst (λ x. next (class_in groups x) ≡ Some x) kept (next_at (class_in groups q) q (classes c q is).1 ∙ ap Some (moved_not s t q apart))) where
        apart : q ≡ s → ⊥
        apart e = ne (sym to ∙ ap (moved s t) e ∙ moved_it s t)

        kept : q ≡ p
        kept = sym (moved_not s t q apart) ∙ to

    -- the class of one group becomes that of the other
    module _ (v a b : ℕ) (placed : places v ≡ Some a) (of : class ≡ class_in groups b) (ends : ((s ≡ a) × (t ≡ b)) ⊎ ((s ≡ b) × (t ≡ a))) where
      abbrev was : ℕ
      was = class_in groups a

      joined : (p : ℕ) → (p ≡ s) ⊎ (p ≡ t) → moved was class (class_in groups p) ≡ class
      joined p is = elim (either p is) [
        | inl e ↦ ap (λ x. moved was class (class_in groups x)) e ∙ moved_it was class
        | inr e ↦ ap (λ x. moved was class (class_in groups x)) e ∙ ap (moved was class) (sym of) ∙ moved_to was class
      ] where
        either : (p : ℕ) → (p ≡ s) ⊎ (p ≡ t) → (p ≡ a) ⊎ (p ≡ b)
        either p (inl e) = elim ends [ inl both ↦ inl (e ∙ both.0) | inr both ↦ inr (e ∙ both.0) ]
        either p (inr e) = elim ends [ inl both ↦ inr (e ∙ both.1) | inr both ↦ inl (e ∙ both.1) ]

      end_a : (p : ℕ) → p ≡ a → (p ≡ s) ⊎ (p ≡ t)
      end_a p e = elim ends [ inl both ↦ inl (e ∙ sym both.0) | inr both ↦ inr (e ∙ sym both.1) ]

      class_at_place : (c p : ℕ) → places c ≡ Some p → class_in after (moved s t p) ≡ moved was class (class_in groups p)
      class_at_place c p e = pick (cases_eq p s) (cases_eq p t) where
        pick : (p ≡ s) ⊎ (p ≡ s → ⊥) → (p ≡ t) ⊎ (p ≡ t → ⊥) → class_in after (moved s t p) ≡ moved was class (class_in groups p)
        pick (inl is) other = ap (λ x. class_in after (moved s t x)) is ∙ ap (class_in after) (moved_it s t) ∙ class_t ∙ sym (joined p (inl is))
        pick (inr ne) (inl is) = ap (λ x. class_in after (moved s t x)) is ∙ ap (class_in after) (moved_to s t) ∙ class_t ∙ sym (joined p (inr is))
        pick (inr ne) (inr far) = ap (class_in after) (moved_not s t p ne) ∙ class_other p far ∙ sym (moved_not was class (class_in groups p) apart) where
          apart : class_in groups p ≡ was → ⊥
          apart is = let one = sym (ap places is ∙ (classes v a placed).1) ∙ (classes c p e).1 in elim (end_a p (sym (some_same a p one))) [ inl x ↦ ne x | inr x ↦ far x ]

      pub merged_class : (c : ℕ) → class_of_place after c (next c) ≡ moved was class (class_of_place groups c (places c))
      merged_class c = by (places c) refl where
        by : (found : Option ℕ) → places c ≡ found → class_of_place after c (next c) ≡ moved was class (class_of_place groups c (places c))
        by None e = ap (class_of_place after c) (next_none c e) ∙ sym (moved_not was class c alone) ∙ ap (λ (p : Option ℕ). moved was class (class_of_place groups c p)) (sym e) where
          alone : c ≡ was → ⊥
          alone is = let none = sym (ap places is ∙ (classes v a placed).1) ∙ e in absurd cc
        by (Some p) e = ap (class_of_place after c) (next_at c p e) ∙ class_at_place c p e ∙ ap (λ (q : Option ℕ). moved was class (class_of_place groups c q)) (sym e)

-- ---- one group more

last_class : (groups : List Group) (group : Group) → class_in (groups ++ group ∷ []) (length groups) ≡ group.class
last_class [] group = refl
last_class (other ∷ groups) group = last_class groups group

length_one_more : (groups : List Group) (group : Group) → length (groups ++ group ∷ []) ≡ suc (length groups)
length_one_more [] group = refl
length_one_more (other ∷ groups) group = ap suc (length_one_more groups group)

module _ (places next : ℕ → Option ℕ) (groups : List Group) (v : ℕ) (alone : places v ≡ None) (classes : AreClasses places groups) (adds : (c : ℕ) → next c ≡ cond (v == c) (Some (length groups)) (places c)) (group : Group) (own : group.class ≡ v) where
  abbrev more : List Group
  more = groups ++ group ∷ []

  next_v : next v ≡ Some (length groups)
  next_v = adds v ∙ ap (λ (b : Bool). cond b (Some (length groups)) (places v)) (test_same v)

  next_other : (c : ℕ) → (v ≡ c → ⊥) → next c ≡ places c
  next_other c ne = adds c ∙ ap (λ (b : Bool). cond b (Some (length groups)) (places c)) (test_no v c ne)

  apart : (c p : ℕ) → places c ≡ Some p → v ≡ c → ⊥
  apart c p e same = let none = subst (λ x. places x ≡ None) same alone in absurd cc

  class_kept : (p : ℕ) → p < length groups → class_in more p ≡ class_in groups p
  class_kept p lt = ap (λ (g : Group). g.class) (get_or_append_left groups (group ∷ []) no_group p lt)

  pub kept_place : (c p : ℕ) → places c ≡ Some p → next c ≡ Some p
  kept_place c p e = next_other c (apart c p e) ∙ e

  pub same_class : (c : ℕ) → class_of_place more c (next c) ≡ class_of_place groups c (places c)
  same_class c = elim (cases_eq v c) [
    | inl same ↦ subst (λ x. class_of_place more x (next x) ≡ class_of_place groups x (places x)) same (ap (class_of_place more v) next_v ∙ last_class groups group ∙ own ∙ ap (class_of_place groups v) (sym alone))
    | inr ne ↦ ap (class_of_place more c) (next_other c ne) ∙ by (places c) refl
  ] where
    by : (found : Option ℕ) → places c ≡ found → class_of_place more c (places c) ≡ class_of_place groups c (places c)
    by None e = ap (class_of_place more c) e ∙ ap (class_of_place groups c) (sym e)
    by (Some p) e = ap (class_of_place more c) e ∙ class_kept p (classes c p e).0 ∙ ap (class_of_place groups c) (sym e)

  pub more_classes : AreClasses next more
  more_classes c p e = elim (cases_eq v c) [
    | inl same ↦ let at : length groups ≡ p = some_same (length groups) p (sym next_v ∙ ap next same ∙ e) in subst (λ x. (x < length more) × (next (class_in more x) ≡ Some x)) at (rw length_one_more (omega arith), ap next (last_class groups group ∙ own) ∙ next_v)
    | inr ne ↦ let was : places c ≡ Some p = sym (next_other c ne) ∙ e in let is = classes c p was in (rw length_one_more (omega (arith, is.0)), ap next (class_kept p is.0) ∙ kept_place (class_in groups p) p is.1)
  ]

  pub more_tied : (tied : List ℕ) → AreTied places tied → AreTied next (tied ++ v ∷ [])
  more_tied tied all c = elim (cases_eq v c) [
    | inl same ↦ inl (subst (λ x. IsIn x (tied ++ v ∷ [])) same (last_in v tied))
    | inr ne ↦ elim (all c) [ inl one ↦ inl (in_first c tied (v ∷ []) one) | inr e ↦ inr (next_other c ne ∙ e) ]
  ]

  pub more_listed : (members after : ℕ → List ℕ) → AreListed places members → ((list u : ℕ) → IsIn u (members list) → IsIn u (after list)) → IsIn v (after (length groups)) → AreListed next after
  more_listed members after listed kept added c p e = elim (cases_eq v c) [
    | inl same ↦ let at : length groups ≡ p = some_same (length groups) p (sym next_v ∙ ap next same ∙ e) in subst (λ x. IsIn c (after x)) at (subst (λ x. IsIn x (after (length groups))) same added)
    | inr ne ↦ kept p c (listed c p (sym (next_other c ne) ∙ e))
  ]

-- ---- a group that is written

pub class_set : (groups : List Group) (t : ℕ) (group : Group) → t < length groups → (p : ℕ) → class_in (slice_set groups t group) p ≡ (if p == t then group.class else class_in groups p)
class_set groups t group lt p = elim (cases_eq t p) [
  | inl same ↦ subst (λ x. class_in (slice_set groups t group) x ≡ (if x == t then group.class else class_in groups x)) same (ap (λ (g : Group). g.class) (get_or-set_same groups t group no_group lt) ∙ ap (λ (b : Bool). if b then group.class else class_in groups t) (sym (test_same t)))
  | inr ne ↦ let far : p ≡ t → ⊥ = λ e. ne (sym e) in ap (λ (g : Group). g.class) (get_or-set_other groups t p group no_group far) ∙ ap (λ (b : Bool). if b then group.class else class_in groups p) (sym (test_no p t far))
]

-- ---- the values of one group move one after the other

-- a value is in the group in which it was, or moved
abbrev pub IsPart : (from to : ℕ) → (old now : ℕ → Option ℕ) → Type 0
IsPart from to old now = (c : ℕ) → (now c ≡ old c) ⊎ ((old c ≡ Some from) × (now c ≡ Some to))

-- each value but the rest is where it is to be
abbrev pub AreMoved : (from to : ℕ) → (rest : List ℕ) → (old now : ℕ → Option ℕ) → Type 0
AreMoved from to rest old now = (c : ℕ) → IsIn c rest ⊎ (now c ≡ in_group from to (old c))

-- one value more is of a group
pub listed_more : (now next : ℕ → Option ℕ) (number to : ℕ) → ((c : ℕ) → next c ≡ cond (number == c) (Some to) (now c)) → (members after : ℕ → List ℕ) → ((list u : ℕ) → IsIn u (members list) → IsIn u (after list)) → IsIn number (after to) → AreListed now members → AreListed next after
listed_more now next number to puts members after kept added listed c p e = elim (cases_eq number c) [
  | inl same ↦ let at : Some to ≡ Some p = sym (ap (λ (b : Bool). cond b (Some to) (now number)) (test_same number)) ∙ sym (puts number) ∙ ap next same ∙ e in subst (λ x. IsIn x (after p)) same (subst (λ x. IsIn number (after x)) (some_same to p at) added)
  | inr ne ↦ kept p c (listed c p (sym (puts c ∙ ap (λ (b : Bool). cond b (Some to) (now c)) (test_no number c ne)) ∙ e))
]
