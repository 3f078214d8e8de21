-- A list with another element in one place, and a fact as one about an error.
use mathlib.Core.HLevel.{is_prop→PathP}
use native.Mathlib.Nat.{ℕ_set}
use native.Mathlib.Bridge.{le_prop}
use Rattle.std.proofs.Common.{Result, Ok, Err, OnErr, ◌≡◌, ◌≢◌, ◌≤◌, ◌⊎◌, inl, inr, ℕ, Some, Vec, List, length, slice_get, slice_set, sym, subst, ◌∙◌}
use Rattle.std.proofs.lemmas.Bool.{cases_eq}
use Rattle.std.specs.Vec.{with_item}
use Rattle.lemmas.specs.Lists.{set_is, set_other}

-- the element at a place is what was put there, or what was there before
pub got-set : {X : Type 0} (xs : List X) (t u : ℕ) (y z : X) → slice_get (slice_set xs t y) u ≡ Some z → ((u ≡ t) × (z ≡ y)) ⊎ ((u ≢ t) × (slice_get xs u ≡ Some z))
got-set xs t u y z e = elim (cases_eq u t) [
  | inl same ↦ inl (same, sym (set_is xs t y z (subst (λ v. slice_get (slice_set xs t y) v ≡ Some z) same e)))
  | inr differs ↦ inr (differs, sym (set_other xs t u y differs) ∙ e)
]

-- a Vec with the element put back that was there
pub put-back : {X Z : Type 0} (v : Vec X Z) (i : ℕ) (x : X) → slice_set v.items i x ≡ v.items → with_item v i x ≡ v
put-back v i x e = λ j. record {
  ptr = v.ptr;
  len = v.len;
  cap = v.cap;
  alloc = v.alloc;
  items = e j;
  ok = is_prop→PathP (λ k. (v.len ≡ length (e k)) × (v.len ≤ v.cap)) (λ k p q n. (ℕ_set _ _ p.0 q.0 n, le_prop p.1 q.1 n)) (with_item v i x).ok v.ok j;
  small = v.small;
}

-- what holds, holds of an error
pub on-err : {T E P : Type 0} (r : Result T E) → P → OnErr r P
on-err (Ok v) p = tt
on-err (Err e) p = p
