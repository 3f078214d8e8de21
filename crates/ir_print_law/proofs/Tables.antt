-- Tables that grow at the end: what is in them stays.
use Rattle.std.proofs.Common.{◌≡◌, ℕ, ◌+◌, ◌<◌, ◌≤◌, Bool, true, false, List, [], ◌∷◌, ◌++◌, length, slice_get, is_some, unwrap_or, if◌then◌else◌, Option, None, Some, refl, sym, ap, ◌∙◌, arith, append_assoc, length-append, get_or, cond, not, position}
use Rattle.std.specs.Prelude.{nat_lt, eqb}
use Rattle.std.specs.List.{position_or_len}
use Rattle.std.proofs.lemmas.Bool.Decides.{nat_tests}
use Rattle.std.proofs.lemmas.List.Folds.{prefix_len-append}
use Rattle.ir_ast.specs.Places.{place_is_end}
use Rattle.std.proofs.lemmas.Option.{slice_get-get_or}
use Rattle.std.proofs.lemmas.Slice.Eq.{bytes_eq-Decides}
use Rattle.std.proofs.lemmas.List.{append-nil}
use Rattle.std.proofs.lemmas.List.Quantifiers.{position-Some}
use Rattle.std.specs.Str.{bytes_eq}
use Rattle.lemmas.specs.Lists.{get_end, get_front}
use Rattle.ir_ast.specs.Names.{place_of, number_of, numbered}
use Rattle.ir_ast.specs.Types.{place_of_type, numbered_type}
use Rattle.ir_ast.specs.declared.ir_type.IrType.{IrType}
use Rattle.ir_tokens.specs.Bytes.{Text}
pub use Rattle.ir_print_law.specs.NumberedTypes.{type_there, type_length}
pub use Rattle.ir_print_law.specs.TypeOrder.{IsInOrder, AreInOrder, AreOrdered}

-- the second list begins with the first
abbrev pub Begins : {A : Type 0} → List A → List A → Type 0
Begins {A = A} xs ys = (more : List A) × (ys ≡ xs ++ more)

-- ---- a list that begins with another one

-- a list begins with itself
pub begins_itself : {A : Type 0} (xs : List A) → Begins xs xs
begins_itself xs = ([], sym (append-nil xs))

-- what begins with a list that begins with another one begins with that one
pub begins_further : {A : Type 0} (xs ys zs : List A) → Begins xs ys → Begins ys zs → Begins xs zs
begins_further xs ys zs a b = (a.0 ++ b.0, b.1 ∙ ap (λ l. l ++ b.0) a.1 ∙ append_assoc xs a.0 b.0)

-- a list with more after it begins with itself
pub begins_with : {A : Type 0} (xs more : List A) → Begins xs (xs ++ more)
begins_with xs more = (more, refl)

-- a list that begins with another one is not shorter
pub begins_length : {A : Type 0} (xs ys : List A) → Begins xs ys → length xs ≤ length ys
begins_length xs ys b = let same = ap length b.1 in let sum = length-append xs b.0 in omega (arith, same, sum)

-- an element stays at its place
pub stays : {A : Type 0} (xs ys : List A) (n : ℕ) (x : A) → Begins xs ys → slice_get xs n ≡ Some x → slice_get ys n ≡ Some x
stays xs ys n x b e = ap (λ l. slice_get l n) b.1 ∙ get_front xs b.0 n x e

-- ---- types

-- a new type comes after the others
pub type_begins : (t : IrType) (types : List IrType) → Begins types (numbered_type t types)
type_begins t types = by (is_some (place_of_type t types)) where
  by : (b : Bool) → Begins types (if b then types else types ++ t ∷ [])
  by true = begins_itself types
  by false = begins_with types (t ∷ [])

-- what is in the table stays there
pub type_further : (t : IrType) (types : List IrType) (number : ℕ) → number < length types → number < length (numbered_type t types)
type_further t types number less = by (is_some (place_of_type t types)) where
  by : (b : Bool) → number < length (if b then types else types ++ t ∷ [])
  by true = less
  by false = let e = length-append types (t ∷ []) in omega (arith, less, e)

-- ---- names

-- a new name comes after the others
pub name_begins : (name : Text) (names : List Text) → Begins names (numbered name names)
name_begins name names = by (is_some (place_of name names)) where
  by : (b : Bool) → Begins names (if b then names else names ++ name ∷ [])
  by true = begins_itself names
  by false = begins_with names (name ∷ [])

-- one name comes at most
pub name_length : (name : Text) (names : List Text) → length (numbered name names) ≤ length names + 1
name_length name names = by (is_some (place_of name names)) where
  by : (b : Bool) → length (if b then names else names ++ name ∷ []) ≤ length names + 1
  by true = omega arith
  by false = let e = length-append names (name ∷ []) in omega (arith, e)

-- the number of a name lies within the table, or at its end
pub number_within : (name : Text) (names : List Text) → number_of name names ≤ length names
number_within name names = by (place_of name names) refl where
  by : (place : Option ℕ) → place_of name names ≡ place → unwrap_or place (length names) ≤ length names
  by None e = omega arith
  by (Some place) e = let found = position-Some (bytes_eq name) names place name e in let less = found.0 in omega (arith, less)

-- the name is at its number
pub name_there : (name : Text) (names : List Text) → slice_get (numbered name names) (number_of name names) ≡ Some name
name_there name names = by (place_of name names) refl where
  by : (place : Option ℕ) → place_of name names ≡ place → slice_get (if is_some place then names else names ++ name ∷ []) (unwrap_or place (length names)) ≡ Some name
  by None e = get_end names name
  by (Some n) e =
      let found = position-Some (bytes_eq name) names n name e in
      slice_get-get_or names n name found.0 ∙ ap Some (sym ((bytes_eq-Decides name (get_or names n name)).0 found.1))

-- ---- the first place of a name

-- the place is the first one
place_is : (p : Text → Bool) (xs : List Text) (n : ℕ) → position p xs ≡ Some n → (n ≡ position_or_len p xs) × (n < length xs)
place_is p xs n e = by (nat_lt (position_or_len p xs) (length xs)) refl e where
  by : (t : Bool) → nat_lt (position_or_len p xs) (length xs) ≡ t → cond t (Some (position_or_len p xs)) None ≡ Some n → (n ≡ position_or_len p xs) × (n < length xs)
  by true less h = let same : position_or_len p xs ≡ n = cc in (sym same, grind (arith, nat_tests))
  by false less h = absurd cc

-- the first place is the place
place_by : (p : Text → Bool) (xs : List Text) (n : ℕ) → n ≡ position_or_len p xs → n < length xs → position p xs ≡ Some n
place_by p xs n e less = let within : nat_lt (position_or_len p xs) (length xs) ≡ true = grind (arith, nat_tests) in rw within (ap Some (sym e))

-- the first place of a name stays
pub place_stays : (name : Text) (names others : List Text) (n : ℕ) → Begins names others → place_of name names ≡ Some n → place_of name others ≡ Some n
place_stays name names others n b e = ap (place_of name) b.1 ∙ place_by p (names ++ b.0) n at less where
  p : Text → Bool
  p = bytes_eq name

  found : (n ≡ position_or_len p names) × (n < length names)
  found = place_is p names n e

  other : eqb (position_or_len p names) (length names) ≡ false
  other = let h = found.0 in let l = found.1 in grind (arith, nat_tests)

  at : n ≡ position_or_len p (names ++ b.0)
  at = found.0 ∙ sym (prefix_len-append (λ x. not (p x)) names b.0 ∙ ap (λ t. cond t (length names + position_or_len p b.0) (position_or_len p names)) other)

  less : n < length (names ++ b.0)
  less = let l = found.1 in let a = length-append names b.0 in omega (arith, l, a)

-- after a mention the name has its number
pub place_there : (name : Text) (names : List Text) → place_of name (numbered name names) ≡ Some (number_of name names)
place_there name names = by (place_of name names) refl where
  p : Text → Bool
  p = bytes_eq name

  itself : p name ≡ true
  itself = (bytes_eq-Decides name name).1 refl

  by : (place : Option ℕ) → place_of name names ≡ place → place_of name (if is_some place then names else names ++ name ∷ []) ≡ Some (unwrap_or place (length names))
  by (Some n) e = e
  by None e =
      let end = place_is_end p names e in
      let same : eqb (position_or_len p names) (length names) ≡ true = grind (arith, nat_tests) in
      let none : position_or_len p (name ∷ []) ≡ 0 = rw itself refl in
      let at : length names ≡ position_or_len p (names ++ name ∷ []) =
      sym (prefix_len-append (λ x. not (p x)) names (name ∷ []) ∙ ap (λ t. cond t (length names + position_or_len p (name ∷ [])) (position_or_len p names)) same ∙ ap (λ n. length names + n) none ∙ omega arith) in
      let a = length-append names (name ∷ []) in
      place_by p (names ++ name ∷ []) (length names) at (omega (arith, a))
