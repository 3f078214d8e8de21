-- Places in a list of keys, and in the list of the keys' names.
use Rattle.std.proofs.Common.{◌≡◌, ℕ, ◌≤◌, ◌+◌, suc, Bool, true, false, cond, not, nat_lt, ◌||◌, List, [], ◌∷◌, ◌++◌, map, length, position, is_some, None, Some, refl, ap, ◌∙◌, arith}
use Rattle.std.proofs.lemmas.Bool.Decides.{nat_tests}
use Rattle.std.specs.List.{prefix_len, position_or_len, list_any}

module _ {A B : Type 0} (f : A → B) where
  prefix_len-map : (p : B → Bool) (xs : List A) → prefix_len p (map f xs) ≡ prefix_len (λ x. p (f x)) xs
  prefix_len-map p [] = refl
  prefix_len-map p (x ∷ xs) = ap (λ n. cond (p (f x)) (1 + n) 0) (prefix_len-map p xs)

  pub map-length : (xs : List A) → length (map f xs) ≡ length xs
  map-length [] = refl
  map-length (x ∷ xs) = ap suc (map-length xs)

  pub position-map : (p : B → Bool) (xs : List A) → position p (map f xs) ≡ position (λ x. p (f x)) xs
  position-map p xs = rw (prefix_len-map (λ x. not (p x)) xs, map-length xs) refl

  pub map-push : (xs : List A) (x : A) → map f (xs ++ x ∷ []) ≡ map f xs ++ f x ∷ []
  map-push [] x = refl
  map-push (y ∷ xs) x = ap (λ l. f y ∷ l) (map-push xs x)

module _ {A : Type 0} (p : A → Bool) where
  first_or_rest : (here : Bool) (n m : ℕ) (further : Bool) → suc m ≤ cond (not here) (1 + n) 0 → (m ≤ n → further ≡ false) → (here || further) ≡ false
  first_or_rest true n m further le rest = absurd (omega arith)
  first_or_rest false n m further le rest = rest (omega arith)

  no_place_at_end : (xs : List A) → length xs ≤ position_or_len p xs → list_any p xs ≡ false
  no_place_at_end [] le = refl
  no_place_at_end (x ∷ xs) le = first_or_rest (p x) (position_or_len p xs) (length xs) (list_any p xs) le (no_place_at_end xs)

  no_place_before : (a b : ℕ) → cond (nat_lt a b) (Some a) None ≡ None → b ≤ a
  no_place_before a b e = grind (arith, nat_tests)

  -- where there is no place, no element passes
  pub none_passes : (xs : List A) → position p xs ≡ None → list_any p xs ≡ false
  none_passes xs e = no_place_at_end xs (no_place_before (position_or_len p xs) (length xs) e)

  at_most : (xs : List A) → position_or_len p xs ≤ length xs
  at_most [] = omega arith
  at_most (x ∷ xs) = either (p x) (position_or_len p xs) (length xs) (at_most xs)
    where
      either : (here : Bool) (n m : ℕ) → n ≤ m → cond (not here) (1 + n) 0 ≤ suc m
      either true n m le = omega arith
      either false n m le = omega arith

  -- and the place that is asked for is the end
  pub place_is_end : (xs : List A) → position p xs ≡ None → position_or_len p xs ≡ length xs
  place_is_end xs e = let below = at_most xs in let above : length xs ≤ position_or_len p xs = no_place_before (position_or_len p xs) (length xs) e in omega arith

  lt_next : (n m : ℕ) → nat_lt (1 + n) (suc m) ≡ nat_lt n m
  lt_next n m = by (nat_lt n m) refl
    where
      by : (b : Bool) → nat_lt n m ≡ b → nat_lt (1 + n) (suc m) ≡ b
      by true e = grind (arith, nat_tests)
      by false e = grind (arith, nat_tests)

  -- there is a place within the list exactly where some element passes
  some_place : (xs : List A) → nat_lt (position_or_len p xs) (length xs) ≡ list_any p xs
  some_place [] = refl
  some_place (x ∷ xs) = either (p x) (position_or_len p xs) (length xs) (list_any p xs) (some_place xs)
    where
      either : (here : Bool) (n m : ℕ) (further : Bool) → nat_lt n m ≡ further → nat_lt (cond (not here) (1 + n) 0) (suc m) ≡ (here || further)
      either true n m further e = grind (arith, nat_tests)
      either false n m further e = lt_next n m ∙ e

  pub is_some-position : (xs : List A) → is_some (position p xs) ≡ list_any p xs
  is_some-position xs = by (nat_lt (position_or_len p xs) (length xs)) ∙ some_place xs
    where
      by : (b : Bool) → is_some (cond b (Some (position_or_len p xs)) None) ≡ b
      by true = refl
      by false = refl
