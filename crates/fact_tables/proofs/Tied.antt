-- The class of a value that is tied to another.
use Rattle.std.proofs.Common.{◌≡◌, ◌⊎◌, ℕ, sym, ap, ◌∙◌, Some, Result, Ok, Err, OnOk}
use Rattle.std.specs.Prelude.{◌==◌, if◌then◌else◌}
use Rattle.fact_tables.specs.declared.ties.Ties.{Ties}
use Rattle.fact_tables.specs.Ties.{moved, class_in, class_of_place, group_of, class_now, in_group, AreTies}
use Rattle.fact_tables.proofs.Groups.{merged_class}

-- two things that hold where it went well
pub on_ok_two : {A E P Q R : Type 0} (r : Result A E) → OnOk r P → OnOk r Q → (P → Q → R) → OnOk r R
on_ok_two (Ok a) p q f = f p q
on_ok_two (Err e) p q f = tt

-- the class of one group becomes that of another
module _ (ties : Ties) (are : AreTies ties) (s t v w a b class : ℕ) (placed : group_of ties v ≡ Some a) (other : group_of ties w ≡ Some b) (of : class ≡ class_in ties.groups.items b) (ends : ((s ≡ a) × (t ≡ b)) ⊎ ((s ≡ b) × (t ≡ a))) where
  pub class_tied : (next : Ties) → ((c : ℕ) → group_of next c ≡ in_group s t (group_of ties c)) → ((p : ℕ) → class_in next.groups.items p ≡ (if p == t then class else class_in ties.groups.items p)) → (c : ℕ) → class_now next c ≡ moved (class_now ties v) (class_now ties w) (class_now ties c)
  class_tied next moves renamed c = merged_class (group_of ties) (group_of next) s t moves ties.groups.items next.groups.items are.1 class renamed v a b placed of ends c
      ∙ ap (λ x. moved x class (class_now ties c)) (sym (ap (class_of_place ties.groups.items v) placed)) ∙ ap (λ x. moved (class_now ties v) x (class_now ties c)) (of ∙ sym (ap (class_of_place ties.groups.items w) other))

-- where classes were the same before
pub class_through : (first ties next : Ties) (v w : ℕ) → ((c : ℕ) → class_now ties c ≡ class_now first c) → ((c : ℕ) → class_now next c ≡ moved (class_now ties v) (class_now ties w) (class_now ties c)) → (c : ℕ) → class_now next c ≡ moved (class_now first v) (class_now first w) (class_now first c)
class_through first ties next v w same moves c = moves c ∙ ap (λ x. moved x (class_now ties w) (class_now ties c)) (same v) ∙ ap (λ x. moved (class_now first v) x (class_now ties c)) (same w) ∙ ap (moved (class_now first v) (class_now first w)) (same c)
