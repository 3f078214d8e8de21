-- Lists by number: one number more, and what is listed.
use Rattle.std.proofs.Common.{◌≡◌, ◌<◌, ◌+◌, ◌-◌, inl, inr, ℕ, suc, List, [], ◌∷◌, ◌++◌, length, refl, sym, ap, ◌∙◌, subst, cond, Bool, Option, Some, arith}
use Rattle.std.proofs.lemmas.List.{append_assoc}
use Rattle.std.specs.Prelude.{◌==◌}
use Rattle.lemmas.specs.Numbers.{test_no, test_same}
use Rattle.std.proofs.lemmas.Bool.{cases_eq}
use Rattle.lemmas.specs.Lists.{IsIn}
use Rattle.fact_tables.specs.declared.uses.Use.{Use}
use Rattle.fact_tables.specs.Uses.{use_at, users_of, chain}
use Rattle.fact_tables.proofs.Users.{user_kept, newest}

-- one link more
module _ (links : List Use) (old new : ℕ → Option ℕ) (list number : ℕ) (puts : (other : ℕ) → new other ≡ cond (list == other) (Some (length links)) (old other)) where
  abbrev link : Use
  link = record { user = number; before = old list }

  abbrev more : List Use
  more = links ++ link ∷ []

  new_list : new list ≡ Some (length links)
  new_list = puts list ∙ ap (λ (b : Bool). cond b (Some (length links)) (old list)) (test_same list)

  new_other : (other : ℕ) → (list ≡ other → ⊥) → new other ≡ old other
  new_other other ne = puts other ∙ ap (λ (b : Bool). cond b (Some (length links)) (old other)) (test_no list other ne)

  pub listed_kept : (other u : ℕ) → IsIn u (chain (length links) links (old other)) → IsIn u (chain (length more) more (new other))
  listed_kept other u one = elim (cases_eq list other) [
    | inl same ↦ subst (λ x. IsIn u (chain (length more) more (new x))) same (subst (λ (at : Option ℕ). IsIn u (chain (length more) more at)) (sym new_list) (newest links link u (inr (subst (λ x. IsIn u (chain (length links) links (old x))) (sym same) one))))
    | inr ne ↦ subst (λ (at : Option ℕ). IsIn u (chain (length more) more at)) (sym (new_other other ne)) (user_kept links link (old other) u one)
  ]

  pub listed_there : IsIn number (chain (length more) more (new list))
  listed_there = subst (λ (at : Option ℕ). IsIn number (chain (length more) more at)) (sym new_list) (newest links link number (inl refl))

-- one number more of a list is read
pub list_step : (count step : ℕ) (uses : List Use) (at : Option ℕ) (found : Use) (all numbers next : List ℕ) → step < count → all ≡ numbers ++ chain (count - step) uses at → use_at uses at ≡ Some found → next ≡ numbers ++ found.user ∷ []
    → all ≡ next ++ chain (count - (step + 1)) uses found.before
list_step count step uses at found all numbers next lt e is pushed =
    let left : count - step ≡ suc (count - (step + 1)) = omega arith in
    let rest : List ℕ = chain (count - (step + 1)) uses found.before in
    e ∙ ap (λ n. numbers ++ chain n uses at) left ∙ ap (λ (f : Option Use). numbers ++ users_of f (chain (count - (step + 1)) uses)) is ∙ sym (append_assoc numbers (found.user ∷ []) rest) ∙ ap (λ l. l ++ rest) (sym pushed)
