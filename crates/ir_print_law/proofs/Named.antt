-- Tables of names: what a name means, as names are mentioned and defined.
use Rattle.std.proofs.Common.{◌≡◌, ℕ, zero, suc, ◌+◌, ◌<◌, Bool, true, false, cond, List, [], ◌∷◌, ◌++◌, length, slice_get, is_some, unwrap_or, if◌then◌else◌, Option, None, Some, refl, sym, ap, subst, ◌∙◌, arith, length-append, inl, inr, ◌⊎◌}
use Rattle.std.specs.Prelude.{not, nat_lt, slice_set, option_map, option_and_then, position}
use Rattle.std.specs.List.{position_or_len}
use Rattle.std.specs.Str.{bytes_eq}
use Rattle.std.proofs.lemmas.Bool.Decides.{nat_tests}
use Rattle.std.proofs.lemmas.List.{length-set}
use Rattle.std.proofs.lemmas.Slice.Eq.{bytes_eq-Decides}
use Rattle.lemmas.specs.Lists.{get_end, set_here, set_other}
use Rattle.ir_ast.specs.Names.{place_of, number_of, numbered}
use Rattle.ir_tokens.specs.Bytes.{Text}
use Rattle.ir_forms.specs.declared.table.Table.{Table}
use Rattle.ir_forms.specs.Table.{mentioned, defined, sorts_with}

-- ---- places

abbrev first_place : Text → List Text → Option ℕ
first_place name [] = None
first_place name (x ∷ xs) = if bytes_eq name x then Some 0 else option_map suc (first_place name xs)

one_more : (n : ℕ) → 1 + n ≡ suc n
one_more n = omega arith

position_is : (p : Text → Bool) (x : Text) (xs : List Text) → position p (x ∷ xs) ≡ (if p x then Some 0 else option_map suc (position p xs))
position_is p x xs = by (p x) (nat_lt (position_or_len p xs) (length xs)) refl where
  by : (t u : Bool) → nat_lt (position_or_len p xs) (length xs) ≡ u
      → cond (nat_lt (cond (not t) (1 + position_or_len p xs) 0) (suc (length xs))) (Some (cond (not t) (1 + position_or_len p xs) 0)) None
      ≡ (if t then Some 0 else option_map suc (cond u (Some (position_or_len p xs)) None))
  by true u e = let less : nat_lt 0 (suc (length xs)) ≡ true = grind (arith, nat_tests) in rw less refl
  by false true e = let less : nat_lt (1 + position_or_len p xs) (suc (length xs)) ≡ true = grind (arith, nat_tests) in rw less (ap Some (one_more (position_or_len p xs)))
  by false false e = let less : nat_lt (1 + position_or_len p xs) (suc (length xs)) ≡ false = grind (arith, nat_tests) in rw less refl

place_is : (name : Text) (names : List Text) → place_of name names ≡ first_place name names
place_is name [] = refl
place_is name (x ∷ xs) = position_is (bytes_eq name) x xs ∙ ap (λ (o : Option ℕ). if bytes_eq name x then Some 0 else option_map suc o) (place_is name xs)

same_name : (x y : Text) → bytes_eq x y ≡ true → x ≡ y
same_name x y e = (bytes_eq-Decides x y).0 e

itself : (x : Text) → bytes_eq x x ≡ true
itself x = (bytes_eq-Decides x x).1 refl

place_within : (name : Text) (names : List Text) (n : ℕ) → first_place name names ≡ Some n → n < length names
place_within name [] n e = absurd cc
place_within name (x ∷ xs) n e = by (bytes_eq name x) (first_place name xs) (λ m f. place_within name xs m f) e where
  by : (t : Bool) (o : Option ℕ) → ((m : ℕ) → o ≡ Some m → m < length xs) → (if t then Some 0 else option_map suc o) ≡ Some n → n < suc (length xs)
  by true o f e = let z : 0 ≡ n = cc in omega (arith, z)
  by false None f e = absurd cc
  by false (Some m) f e = let z : suc m ≡ n = cc in let less = f m refl in omega (arith, z, less)

place_has : (name : Text) (names : List Text) (n : ℕ) → first_place name names ≡ Some n → slice_get names n ≡ Some name
place_has name [] n e = absurd cc
place_has name (x ∷ xs) n e = by (bytes_eq name x) (first_place name xs) refl (λ m f. place_has name xs m f) e where
  by : (t : Bool) (o : Option ℕ) → bytes_eq name x ≡ t → ((m : ℕ) → o ≡ Some m → slice_get xs m ≡ Some name) → (if t then Some 0 else option_map suc o) ≡ Some n → slice_get (x ∷ xs) n ≡ Some name
  by true o t f e = let z : 0 ≡ n = cc in subst (λ (k : ℕ). slice_get (x ∷ xs) k ≡ Some name) z (ap Some (sym (same_name name x t)))
  by false None t f e = absurd cc
  by false (Some m) t f e = let z : suc m ≡ n = cc in subst (λ (k : ℕ). slice_get (x ∷ xs) k ≡ Some name) z (f m refl)

place_before : (name : Text) (names more : List Text) (n : ℕ) → first_place name names ≡ Some n → first_place name (names ++ more) ≡ Some n
place_before name [] more n e = absurd cc
place_before name (x ∷ xs) more n e = by (bytes_eq name x) (first_place name xs) (λ m f. place_before name xs more m f) e where
  by : (t : Bool) (o : Option ℕ) → ((m : ℕ) → o ≡ Some m → first_place name (xs ++ more) ≡ Some m) → (if t then Some 0 else option_map suc o) ≡ Some n → (if t then Some 0 else option_map suc (first_place name (xs ++ more))) ≡ Some n
  by true o f e = e
  by false None f e = absurd cc
  by false (Some m) f e = ap (option_map suc) (f m refl) ∙ e

place_at_end : (name k : Text) (names : List Text) → first_place name names ≡ None → first_place name (names ++ k ∷ []) ≡ (if bytes_eq name k then Some (length names) else None)
place_at_end name k [] e = refl
place_at_end name k (x ∷ xs) e = by (bytes_eq name x) (first_place name xs) (λ f. place_at_end name k xs f) e where
  move : (t : Bool) → option_map suc (if t then Some (length xs) else None) ≡ (if t then Some (suc (length xs)) else None)
  move true = refl
  move false = refl

  by : (t : Bool) (o : Option ℕ) → (o ≡ None → first_place name (xs ++ k ∷ []) ≡ (if bytes_eq name k then Some (length xs) else None)) → (if t then Some 0 else option_map suc o) ≡ None
      → (if t then Some 0 else option_map suc (first_place name (xs ++ k ∷ []))) ≡ (if bytes_eq name k then Some (suc (length xs)) else None)
  by true o f e = absurd cc
  by false None f e = ap (option_map suc) (f refl) ∙ move (bytes_eq name k)
  by false (Some m) f e = absurd cc

-- ---- places in lists of names

pub place_name : (name : Text) (names : List Text) (n : ℕ) → place_of name names ≡ Some n → slice_get names n ≡ Some name
place_name name names n e = place_has name names n (sym (place_is name names) ∙ e)

pub place_stays : (name : Text) (names more : List Text) (n : ℕ) → place_of name names ≡ Some n → place_of name (names ++ more) ≡ Some n
place_stays name names more n e = place_is name (names ++ more) ∙ place_before name names more n (sym (place_is name names) ∙ e)

-- a name that is numbered is at its number
pub place_numbered : (k : Text) (names : List Text) → place_of k (numbered k names) ≡ Some (number_of k names)
place_numbered k names = by (place_of k names) refl where
  by : (o : Option ℕ) → place_of k names ≡ o → place_of k (if is_some o then names else names ++ k ∷ []) ≡ Some (unwrap_or o (length names))
  by (Some n) e = e
  by None e = place_is k (names ++ k ∷ []) ∙ place_at_end k k names (sym (place_is k names) ∙ e) ∙ ap (λ (t : Bool). if t then Some (length names) else None) (itself k)

-- numbering a name leaves the places of others
pub numbered_stays : (k name : Text) (names : List Text) (n : ℕ) → place_of name names ≡ Some n → place_of name (numbered k names) ≡ Some n
numbered_stays k name names n e = by (is_some (place_of k names)) where
  by : (b : Bool) → place_of name (if b then names else names ++ k ∷ []) ≡ Some n
  by true = e
  by false = place_stays name names (k ∷ []) n e

-- ---- what a name means

-- as many names as there are sorts
abbrev pub IsEven : {S : Type 0} → Table S → Type 0
IsEven t = length t.names ≡ length t.sorts

abbrev pub sort_at : {S : Type 0} → Table S → Text → Option S
sort_at t name = option_and_then (slice_get t.sorts) (place_of name t.names)

pub sort_by_place : {S : Type 0} (t : Table S) (name : Text) (n : ℕ) → place_of name t.names ≡ Some n → sort_at t name ≡ slice_get t.sorts n
sort_by_place t name n e = ap (option_and_then (slice_get t.sorts)) e

get_front : {A : Type 0} (xs more : List A) (n : ℕ) → n < length xs → slice_get (xs ++ more) n ≡ slice_get xs n
get_front [] more n less = absurd (omega (arith, less))
get_front (x ∷ xs) more zero less = refl
get_front (x ∷ xs) more (suc n) less = get_front xs more n (omega (arith, less))

pub even_mentioned : {S : Type 0} (t : Table S) (k : Text) (nothing : S) → IsEven t → IsEven (mentioned k nothing t)
even_mentioned {S = S} t k nothing even = by (place_of k t.names) where
  by : (o : Option ℕ) → length (if is_some o then t.names else t.names ++ k ∷ []) ≡ length (sorts_with o nothing t.sorts)
  by (Some n) = even
  by None = let a = length-append t.names (k ∷ []) in let b = length-append t.sorts (nothing ∷ []) in omega (arith, a, b, even)

-- a mention of a name leaves what each name means; a new one means nothing
pub sort_mentioned : {S : Type 0} (t : Table S) (k name : Text) (nothing : S) → IsEven t
    → (sort_at (mentioned k nothing t) name ≡ sort_at t name) ⊎ ((name ≡ k) × (sort_at t name ≡ None) × (sort_at (mentioned k nothing t) name ≡ Some nothing))
sort_mentioned {S = S} t k name nothing even = by (place_of k t.names) (place_of name t.names) refl refl where
  Same : Option ℕ → Type 0
  Same o =
      (option_and_then (slice_get (sorts_with o nothing t.sorts)) (place_of name (if is_some o then t.names else t.names ++ k ∷ [])) ≡ sort_at t name)
      ⊎ ((name ≡ k) × (sort_at t name ≡ None) × (option_and_then (slice_get (sorts_with o nothing t.sorts)) (place_of name (if is_some o then t.names else t.names ++ k ∷ [])) ≡ Some nothing))

  sorts : List S
  sorts = t.sorts ++ nothing ∷ []

  new : (b : Bool) → bytes_eq name k ≡ b → place_of name t.names ≡ None → place_of name (t.names ++ k ∷ []) ≡ (if b then Some (length t.names) else None) → Same None
  new true eq none e =
      inr (
        same_name name k eq,
        ap (option_and_then (slice_get t.sorts)) none,
        ap (option_and_then (slice_get sorts)) e ∙ ap (slice_get sorts) even ∙ get_end t.sorts nothing,
      )
  new false eq none e = inl (ap (option_and_then (slice_get sorts)) e ∙ sym (ap (option_and_then (slice_get t.sorts)) none))

  by : (o p : Option ℕ) → place_of k t.names ≡ o → place_of name t.names ≡ p → Same o
  by (Some n) p e f = inl refl
  by None (Some m) e f =
      let less = place_within name t.names m (sym (place_is name t.names) ∙ f) in
      inl (ap (option_and_then (slice_get sorts)) (place_stays name t.names (k ∷ []) m f) ∙ get_front t.sorts (nothing ∷ []) m (omega (arith, less, even))
      ∙ sym (sort_by_place t name m f))
  by None None e f =
      new (bytes_eq name k) refl f
      (place_is name (t.names ++ k ∷ []) ∙ place_at_end name k t.names (sym (place_is name t.names) ∙ f))

pub sort_kept : {S : Type 0} (t : Table S) (k name : Text) (nothing : S) (test : Option S → Bool) → IsEven t → test None ≡ test (Some nothing)
    → test (sort_at (mentioned k nothing t) name) ≡ test (sort_at t name)
sort_kept t k name nothing test even same = elim (sort_mentioned t k name nothing even) [
  | inl h ↦ ap test h
  | inr h ↦ ap test h.2 ∙ sym same ∙ sym (ap test h.1)
]

-- what is at the number of a name that is mentioned
pub sort_number : {S : Type 0} (t : Table S) (k : Text) (nothing : S) → slice_get (mentioned k nothing t).sorts (number_of k t.names) ≡ sort_at (mentioned k nothing t) k
sort_number t k nothing = sym (sort_by_place (mentioned k nothing t) k (number_of k t.names) (place_numbered k t.names))

-- ---- a name that is defined

within : {S : Type 0} (t : Table S) (k : Text) (n : ℕ) → IsEven t → place_of k t.names ≡ Some n → nat_lt n (length t.sorts) ≡ true
within t k n even e = let less = place_within k t.names n (sym (place_is k t.names) ∙ e) in let below : n < length t.sorts = omega (arith, less, even) in grind (arith, nat_tests)

pub even_defined : {S : Type 0} (t : Table S) (n : ℕ) (s : S) → IsEven t → IsEven (defined n s t)
even_defined {S = S} t n s even = by (nat_lt n (length t.sorts)) where
  by : (b : Bool) → length t.names ≡ length (if b then slice_set t.sorts n s else t.sorts)
  by true = even ∙ sym (length-set t.sorts n s)
  by false = even

pub sort_defined : {S : Type 0} (t : Table S) (k : Text) (n : ℕ) (s : S) → IsEven t → place_of k t.names ≡ Some n → sort_at (defined n s t) k ≡ Some s
sort_defined t k n s even e =
    let less = place_within k t.names n (sym (place_is k t.names) ∙ e) in
    ap (λ (b : Bool). option_and_then (slice_get (if b then slice_set t.sorts n s else t.sorts)) (place_of k t.names)) (within t k n even e)
    ∙ ap (option_and_then (slice_get (slice_set t.sorts n s))) e ∙ set_here t.sorts n s (omega (arith, less, even))

same_some : {A : Type 0} (x y : A) → ◌≡◌ {A = Option A} (Some x) (Some y) → x ≡ y
same_some x y e = cc

pub sort_defined_other : {S : Type 0} (t : Table S) (k name : Text) (n : ℕ) (s : S) → (name ≡ k → ⊥) → place_of k t.names ≡ Some n → sort_at (defined n s t) name ≡ sort_at t name
sort_defined_other {S = S} t k name n s ne e = by (place_of name t.names) refl (nat_lt n (length t.sorts)) where
  by : (o : Option ℕ) → place_of name t.names ≡ o → (b : Bool) → option_and_then (slice_get (if b then slice_set t.sorts n s else t.sorts)) o ≡ option_and_then (slice_get t.sorts) o
  by o f false = refl
  by None f true = refl
  by (Some m) f true =
      set_other t.sorts n m s (λ (same : m ≡ n). ne (same_some name k (sym (place_name name t.names m f) ∙ ap (slice_get t.names) same ∙ place_name k t.names n e)))
