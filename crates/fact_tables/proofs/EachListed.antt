-- Changes of listed elements, as changes of all elements.
use Rattle.std.proofs.Common.{◌≡◌, ◌<◌, ◌⊎◌, inl, inr, ℕ, List, [], ◌∷◌, length, get_or, refl, sym, ap, ◌∙◌, subst, slice_set}
use Rattle.std.specs.Prelude.{replicate}
use Rattle.std.proofs.lemmas.Bool.{cases_eq}
use Rattle.std.proofs.lemmas.List.{ext_get_or, get_or-set_same, get_or-set_other, length-set, length-replicate, get_or-replicate}
use Rattle.lemmas.specs.Lists.{IsIn}
use Rattle.fact_tables.specs.EachListed.{OnlyListed, each_listed, copied}

module _ {X : Type 0} (d : X) where
  pub length_each : (change : ℕ → X → X) (listed : List ℕ) (xs : List X) → length (each_listed d change listed xs) ≡ length xs
  length_each change [] xs = refl
  length_each change (i ∷ listed) xs = length_each change listed (slice_set xs i (change i (get_or xs i d))) ∙ length-set xs i (change i (get_or xs i d))

  module _ (change : ℕ → X → X) (twice : (i : ℕ) (x : X) → change i (change i x) ≡ change i x) where
    -- a change that the elements that are not listed do not see is one of all elements
    pub each_at : (listed : List ℕ) (xs : List X) → ((i : ℕ) → i < length xs → IsIn i listed ⊎ (change i (get_or xs i d) ≡ get_or xs i d))
        → (j : ℕ) → j < length xs → get_or (each_listed d change listed xs) j d ≡ change j (get_or xs j d)
    each_at [] xs h j lt = elim (h j lt) [ inl one ↦ absurd one | inr e ↦ sym e ]
    each_at (i ∷ listed) xs h j lt = each_at listed next more j (rw length-set lt) ∙ now where
      next : List X
      next = slice_set xs i (change i (get_or xs i d))

      changed : i < length xs → get_or next i d ≡ change i (get_or xs i d)
      changed at = get_or-set_same xs i (change i (get_or xs i d)) d at

      kept : (k : ℕ) → (i ≡ k → ⊥) → get_or next k d ≡ get_or xs k d
      kept k ne = get_or-set_other xs i k (change i (get_or xs i d)) d (λ e. ne (sym e))

      more : (k : ℕ) → k < length next → IsIn k listed ⊎ (change k (get_or next k d) ≡ get_or next k d)
      more k at = pick (cases_eq i k) where
        pick : (i ≡ k) ⊎ (i ≡ k → ⊥) → IsIn k listed ⊎ (change k (get_or next k d) ≡ get_or next k d)
        pick (inl e) = inr (subst (λ n. change n (get_or next n d) ≡ get_or next n d) e (ap (change i) (changed here) ∙ twice i (get_or xs i d) ∙ sym (changed here))) where
          here : i < length xs
          here = rw (← length-set xs i (change i (get_or xs i d))) (subst (λ n. n < length next) (sym e) at)
        pick (inr ne) = elim (h k (rw (← length-set xs i (change i (get_or xs i d))) at)) [
          | inl (inl e) ↦ absurd (ne (sym e))
          | inl (inr one) ↦ inl one
          | inr e ↦ inr (ap (change k) (kept k ne) ∙ e ∙ sym (kept k ne))
        ]

      now : change j (get_or next j d) ≡ change j (get_or xs j d)
      now = pick (cases_eq i j) where
        pick : (i ≡ j) ⊎ (i ≡ j → ⊥) → change j (get_or next j d) ≡ change j (get_or xs j d)
        pick (inl e) = subst (λ n. change n (get_or next n d) ≡ change n (get_or xs n d)) e (ap (change i) (changed (subst (λ n. n < length xs) (sym e) lt)) ∙ twice i (get_or xs i d))
        pick (inr ne) = ap (change j) (kept j ne)

  -- where the others are d, all are once those that are listed are
  pub wiped_all : (listed : List ℕ) (xs : List X) → OnlyListed d listed xs → each_listed d (copied d []) listed xs ≡ replicate (length xs) d
  wiped_all listed xs only = ext_get_or d (each_listed d (copied d []) listed xs) (replicate (length xs) d) (length_each (copied d []) listed xs ∙ sym (length-replicate (length xs) d))
      (λ i lt. each_at (copied d []) (λ k x. refl) listed xs seen i (rw (← length_each (copied d []) listed xs) lt) ∙ sym (get_or-replicate (length xs) i d d (rw (← length_each (copied d []) listed xs) lt)))
    where
      seen : (i : ℕ) → i < length xs → IsIn i listed ⊎ (d ≡ get_or xs i d)
      seen i lt = elim (only i) [ inl one ↦ inl one | inr e ↦ inr (sym e) ]

  -- a list of d alone becomes another one
  pub copied_all : (listed : List ℕ) (xs others : List X) → OnlyListed d listed others → xs ≡ replicate (length others) d → each_listed d (copied d others) listed xs ≡ others
  copied_all listed xs others only empty = ext_get_or d (each_listed d (copied d others) listed xs) others long
      (λ i lt. each_at (copied d others) (λ k x. refl) listed xs seen i (rw (← length_each (copied d others) listed xs) lt))
    where
      same : length xs ≡ length others
      same = ap length empty ∙ length-replicate (length others) d

      long : length (each_listed d (copied d others) listed xs) ≡ length others
      long = length_each (copied d others) listed xs ∙ same

      seen : (i : ℕ) → i < length xs → IsIn i listed ⊎ (get_or others i d ≡ get_or xs i d)
      seen i lt = elim (only i) [ inl one ↦ inl one | inr e ↦ inr (e ∙ sym (ap (λ l. get_or l i d) empty ∙ get_or-replicate (length others) i d d (rw (← same) lt))) ]
