-- Chains of numbers: one number more, and the first name that is a text.
use Rattle.std.proofs.Common.{◌≡◌, ◌<◌, ◌⊎◌, ◌+◌, ◌-◌, arith, ℕ, length, zero, suc, List, [], ◌∷◌, ◌++◌, refl, sym, ap, subst, inl, inr, ◌∙◌, true, false, Bool, Option, Some, None, slice_set, slice_get}
use Rattle.std.proofs.lemmas.Bool.{cases_eq}
use Rattle.std.proofs.lemmas.List.{length-set}
use Rattle.std.specs.Prelude.{if◌then◌else◌}
use Rattle.lemmas.specs.Lists.{get_end, get_front, set_here, set_other, IsIn}
use Rattle.ir_ast.specs.Links.{head_place, and_before, chain, from_head, listed, is_text, first_named}

pub length_more : {A : Type 0} (xs : List A) (x : A) → length (xs ++ x ∷ []) ≡ suc (length xs)
length_more [] x = refl
length_more (y ∷ ys) x = ap suc (length_more ys x)

-- a chain has the same numbers once there is a number more, and may go further
chain_more : (count : ℕ) (befores : List ℕ) (last at u : ℕ) → IsIn u (chain count befores at) → IsIn u (chain count (befores ++ last ∷ []) at)
chain_more zero befores last at u one = absurd one
chain_more (suc count) befores last at u one = pick (slice_get befores at) refl (λ before. chain_more count befores last before u) one where
  pick : (found : Option ℕ) → slice_get befores at ≡ found → ((before : ℕ) → IsIn u (chain count befores before) → IsIn u (chain count (befores ++ last ∷ []) before)) → IsIn u (and_before found at (chain count befores)) → IsIn u (chain (suc count) (befores ++ last ∷ []) at)
  pick None e more one = absurd one
  pick (Some before) e more one = subst (λ (f : Option ℕ). IsIn u (and_before f at (chain count (befores ++ last ∷ [])))) (sym (get_front befores (last ∷ []) at before e)) (elim one [ inl same ↦ inl same | inr rest ↦ inr (more before rest) ])

chain_longer : (count : ℕ) (befores : List ℕ) (at u : ℕ) → IsIn u (chain count befores at) → IsIn u (chain (suc count) befores at)
chain_longer zero befores at u one = absurd one
chain_longer (suc count) befores at u one = pick (slice_get befores at) (λ before. chain_longer count befores before u) one where
  pick : (found : Option ℕ) → ((before : ℕ) → IsIn u (chain count befores before) → IsIn u (chain (suc count) befores before)) → IsIn u (and_before found at (chain count befores)) → IsIn u (and_before found at (chain (suc count) befores))
  pick None more one = absurd one
  pick (Some before) more one = elim one [ inl same ↦ inl same | inr rest ↦ inr (more before rest) ]

module _ (heads befores : List ℕ) (hash head : ℕ) where
  abbrev place : ℕ
  place = head_place hash (length heads)

  abbrev heads_now : List ℕ
  heads_now = slice_set heads place (length befores)

  abbrev now : List ℕ
  now = befores ++ head ∷ []

  module _ (there : slice_get heads place ≡ Some head) (within : place < length heads) where
    -- the head that is written leads to the new number, and to what it led to
    newest : (u : ℕ) → (u ≡ length befores) ⊎ IsIn u (chain (length befores) befores head) → IsIn u (from_head (slice_get heads_now place) now)
    newest u one =
        subst (λ (f : Option ℕ). IsIn u (from_head f now)) (sym (set_here heads place (length befores) within))
        (subst (λ n. IsIn u (chain n now (length befores))) (sym (length_more befores head))
        (subst (λ (f : Option ℕ). IsIn u (and_before f (length befores) (chain (length befores) now))) (sym (get_end befores head))
        (elim one [ inl same ↦ inl same | inr rest ↦ inr (chain_more (length befores) befores head head u rest) ])))

    same_place : (other : ℕ) → head_place other (length heads_now) ≡ head_place other (length heads)
    same_place other = ap (head_place other) (length-set heads place (length befores))

    older : (found : Option ℕ) (u : ℕ) → IsIn u (from_head found befores) → IsIn u (from_head found now)
    older None u one = absurd one
    older (Some at) u one = subst (λ n. IsIn u (chain n now at)) (sym (length_more befores head)) (chain_longer (length befores) now at u (chain_more (length befores) befores head at u one))

    pub number_added : IsIn (length befores) (listed heads_now now hash)
    number_added = subst (λ p. IsIn (length befores) (from_head (slice_get heads_now p) now)) (sym (same_place hash)) (newest (length befores) (inl refl))

    pub numbers_kept : (other u : ℕ) → IsIn u (listed heads befores other) → IsIn u (listed heads_now now other)
    numbers_kept other u one = subst (λ p. IsIn u (from_head (slice_get heads_now p) now)) (sym (same_place other)) (elim (cases_eq (head_place other (length heads)) place) [
      | inl same ↦ subst (λ p. IsIn u (from_head (slice_get heads_now p) now)) (sym same) (newest u (inr (subst (λ (f : Option ℕ). IsIn u (from_head f befores)) (ap (slice_get heads) same ∙ there) one)))
      | inr ne ↦ subst (λ (f : Option ℕ). IsIn u (from_head f now)) (sym (set_other heads place (head_place other (length heads)) (length befores) ne)) (older (slice_get heads (head_place other (length heads))) u one)
    ])

-- one number is looked at
module _ (text : List ℕ) (names : List (List ℕ)) (befores : List ℕ) (count step at before : ℕ) (lt : step < count) (is : slice_get befores at ≡ Some before) where
  unrolled : chain (count - step) befores at ≡ at ∷ chain (count - (step + 1)) befores before
  unrolled =
      let left : count - step ≡ suc (count - (step + 1)) = omega arith in
      ap (λ n. chain n befores at) left ∙ ap (λ (f : Option ℕ). and_before f at (chain (count - (step + 1)) befores)) is

  pub found_step : is_text text (slice_get names at) ≡ true → first_named text names (chain (count - step) befores at) ≡ Some at
  found_step e = ap (first_named text names) unrolled ∙ ap (λ (b : Bool). if b then Some at else first_named text names (chain (count - (step + 1)) befores before)) e

  pub passed_step : is_text text (slice_get names at) ≡ false → first_named text names (chain (count - step) befores at) ≡ first_named text names (chain (count - (step + 1)) befores before)
  passed_step e = ap (first_named text names) unrolled ∙ ap (λ (b : Bool). if b then Some at else first_named text names (chain (count - (step + 1)) befores before)) e

pub chain_ends : (count : ℕ) (befores : List ℕ) (at : ℕ) → slice_get befores at ≡ None → chain count befores at ≡ []
chain_ends zero befores at e = refl
chain_ends (suc count) befores at e = ap (λ (f : Option ℕ). and_before f at (chain count befores)) e
