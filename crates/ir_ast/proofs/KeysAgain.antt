-- Distinct keys that are inserted in turn are the keys of the table.
use Rattle.std.proofs.Common.{◌≡◌, Bool, false, ◌||◌, if◌then◌else◌, List, [], ◌∷◌, ◌++◌, append_assoc, append-nil, fold, refl, sym, ap, ◌∙◌}
use Rattle.std.proofs.lemmas.List.Folds.{list_any-append}
use Rattle.std.specs.Cmp.{IsEquivalence}
use Rattle.std.specs.List.{list_any, IsDistinct, AllByRecursion}
use Rattle.indexmap.specs.IndexSet.{insert_key, insert_all}

module _ {K : Type 0} (eq : K → K → Bool) (laws : IsEquivalence eq) where
  -- none of these is equal to one of the others
  abbrev AreNew : List K → List K → Type 0
  AreNew front ks = AllByRecursion (λ k. list_any (eq k) front ≡ false) ks

  new_behind : (front : List K) (k y : K) → list_any (eq y) front ≡ false → eq k y ≡ false → list_any (eq y) (front ++ k ∷ []) ≡ false
  new_behind front k y h e = list_any-append (eq y) front (k ∷ []) ∙ (λ i. h i || ((laws.symm y k ∙ e) i || false))

  all_behind : (front : List K) (k : K) (ks : List K) → AreNew front ks → AllByRecursion (λ y. eq k y ≡ false) ks → AreNew (front ++ k ∷ []) ks
  all_behind front k [] h d = tt
  all_behind front k (y ∷ ks) h d = (new_behind front k y h.0 d.0, all_behind front k ks h.1 d.1)

  behind : (front ks : List K) → AreNew front ks → IsDistinct eq ks → insert_all eq front ks ≡ front ++ ks
  unfolding IsDistinct
  behind front [] h d = sym (append-nil front)
  behind front (k ∷ ks) h d =
      ap (λ (b : Bool). fold (insert_key eq) (if b then front else front ++ k ∷ []) ks) h.0
      ∙ behind (front ++ k ∷ []) ks (all_behind front k ks h.1 d.0) d.1 ∙ append_assoc front (k ∷ []) ks

  new_at_first : (ks : List K) → AreNew [] ks
  new_at_first [] = tt
  new_at_first (k ∷ ks) = (refl, new_at_first ks)

  pub all_again : (ks : List K) → IsDistinct eq ks → insert_all eq [] ks ≡ ks
  all_again ks d = behind [] ks (new_at_first ks) d
