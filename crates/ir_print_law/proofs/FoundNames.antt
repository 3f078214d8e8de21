-- A number whose name is among some keys, whatever names come after those of its table, is within the table.
use Rattle.std.proofs.Common.{◌≡◌, ℕ, zero, suc, ◌+◌, ◌<◌, ◌≤◌, Bool, true, false, List, [], ◌∷◌, ◌++◌, length, map, drop, slice_get, get_or, unwrap_or, Option, Some, refl, sym, ap, subst, ◌∙◌, arith, inl, inr}
use Rattle.std.specs.Prelude.{nat_lt}
use Rattle.std.specs.List.{AllByRecursion}
use Rattle.std.proofs.lemmas.Bool.Decides.{nat_tests}
use Rattle.std.proofs.lemmas.Option.{slice_get-get_or}
use Rattle.lemmas.specs.Lists.{IsIn}
use Rattle.ir_ast.specs.Names.{place_of}
use Rattle.ir_tokens.specs.Bytes.{Text}
use Rattle.ir_print.specs.Names.{name_at}
use Rattle.ir_print_law.proofs.LocalNames.{keys_at, in_map, name_stays}
use Rattle.ir_print_law.proofs.Tables.{Begins, begins_with}

-- ---- a text that is none of the keys

-- the lengths of all of these together
abbrev total : List Text → ℕ
total [] = 0
total (x ∷ xs) = length x + total xs

no_longer : (xs : List Text) (y : Text) → IsIn y xs → length y ≤ total xs
no_longer [] y there = absurd there
no_longer (x ∷ xs) y (inl e) = let same = ap length e in omega (arith, same)
no_longer (x ∷ xs) y (inr there) = let le = no_longer xs y there in omega (arith, le)

-- a text of this length
abbrev zeros : ℕ → Text
zeros zero = []
zeros (suc n) = 0 ∷ zeros n

zeros_length : (n : ℕ) → length (zeros n) ≡ n
zeros_length zero = refl
zeros_length (suc n) = ap suc (zeros_length n)

-- the text this number of times
abbrev copies : Text → ℕ → List Text
copies y zero = []
copies y (suc n) = y ∷ copies y n

copies_at : (y : Text) (count n : ℕ) → n < count → slice_get (copies y count) n ≡ Some y
copies_at y zero n less = absurd (omega (arith, less))
copies_at y (suc count) zero less = refl
copies_at y (suc count) (suc n) less = copies_at y count n (omega (arith, less))

copy_at : (names : List Text) (y : Text) (count n : ℕ) → length names ≤ n → n < length names + count → slice_get (names ++ copies y count) n ≡ Some y
copy_at [] y count n le less = copies_at y count n (omega (arith, less))
copy_at (x ∷ names) y count zero le less = absurd (omega (arith, le))
copy_at (x ∷ names) y count (suc n) le less = copy_at names y count n (omega (arith, le)) (omega (arith, less))

-- ---- numbers that are within

-- past the table there may be a text that is none of the keys
pub found_within : (names keys : List Text) (n : ℕ) → ((more : List Text) → IsIn (name_at (names ++ more) n) keys) → n < length names
found_within names keys n found = by (nat_lt n (length names)) refl where
  by : (t : Bool) → nat_lt n (length names) ≡ t → n < length names
  by true e = grind (arith, nat_tests)
  by false e =
      let le : length names ≤ n = grind (arith, nat_tests) in
      let y = zeros (suc (total keys)) in
      let at = copy_at names y (suc n) n le (omega arith) in
      let here = subst (λ x. IsIn x keys) (ap (λ (x : Option Text). unwrap_or x []) at) (found (copies y (suc n))) in
      let most = no_longer keys y here in
      let size = zeros_length (suc (total keys)) in
      absurd (omega (arith, most, size))

-- names of which each is at its first place have different places
one_place : (names : List Text) (n k : ℕ) → ((n : ℕ) (key : Text) → slice_get names n ≡ Some key → place_of key names ≡ Some n) → n < length names → k < length names
    → name_at names n ≡ name_at names k → n ≡ k
one_place names n k places less within same =
    let here = slice_get-get_or names n [] less in
    let there = slice_get-get_or names k [] within in
    let one : get_or names n [] ≡ get_or names k [] =
    sym (ap (λ (x : Option Text). unwrap_or x []) here) ∙ same ∙ ap (λ (x : Option Text). unwrap_or x []) there in
    let first : place_of (get_or names k []) names ≡ Some n = places n (get_or names k []) (here ∙ ap Some one) in
    let second : place_of (get_or names k []) names ≡ Some k = places k (get_or names k []) there in
    cc

-- so it is one of the numbers of which it has a key
pub found_number : (names : List Text) (ns : List ℕ) (n : ℕ) → ((k : ℕ) → IsIn k ns → k < length names)
    → ((n : ℕ) (key : Text) → slice_get names n ≡ Some key → place_of key names ≡ Some n) → ((more : List Text) → IsIn (name_at (names ++ more) n) (keys_at names ns)) → IsIn n ns
found_number names ns n within places found =
    let less = found_within names (keys_at names ns) n found in
    let here = subst (λ x. IsIn x (keys_at names ns)) (name_stays names (names ++ []) n less (begins_with names [])) (found []) in
    let p = in_map (name_at names) ns (name_at names n) here in
    subst (λ x. IsIn x ns) (one_place names p.0 n places (within p.0 p.1) less p.2) p.1

-- ---- places

-- an element has a place
pub place_in : {A : Type 0} (xs : List A) (y : A) → IsIn y xs → (place : ℕ) × (slice_get xs place ≡ Some y)
place_in [] y there = absurd there
place_in (x ∷ xs) y (inl e) = (0, ap Some (sym e))
place_in (x ∷ xs) y (inr there) = let p = place_in xs y there in (suc p.0, p.1)

-- one after the first is there
pub in_all : {A : Type 0} (xs : List A) (y : A) → IsIn y (drop 1 xs) → IsIn y xs
in_all [] y there = there
in_all (x ∷ xs) y there = inr there

-- and has a place after the first
pub place_after : {A : Type 0} (xs : List A) (y : A) → IsIn y (drop 1 xs) → (place : ℕ) × (slice_get xs (suc place) ≡ Some y)
place_after [] y there = absurd there
place_after (x ∷ xs) y there = place_in xs y there

-- ---- names of items

-- an item with this number has a place
pub item_in : {A : Type 0} (number : A → ℕ) (xs : List A) (n : ℕ) → IsIn n (map number xs) → (place : ℕ) × (x : A) × (slice_get xs place ≡ Some x) × (number x ≡ n)
item_in number [] n there = absurd there
item_in number (x ∷ xs) n (inl e) = (0, x, refl, sym e)
item_in number (x ∷ xs) n (inr there) = let p = item_in number xs n there in (suc p.0, p.1, p.2, p.3)

-- what holds of the numbers of all items holds of each number among them
pub each_number : {A : Type 0} (number : A → ℕ) (P : ℕ → Type 0) (xs : List A) (n : ℕ) → AllByRecursion (λ x. P (number x)) xs → IsIn n (map number xs) → P n
each_number number P [] n all there = absurd there
each_number number P (x ∷ xs) n all (inl e) = subst P (sym e) all.0
each_number number P (x ∷ xs) n all (inr there) = each_number number P xs n all.1 there

-- the names of items are those of their numbers
pub item_keys : {A : Type 0} (number : A → ℕ) (xs : List A) (names : List Text) → map (λ x. name_at names (number x)) xs ≡ keys_at names (map number xs)
item_keys number [] names = refl
item_keys number (x ∷ xs) names = ap (λ (l : List Text). name_at names (number x) ∷ l) (item_keys number xs names)

-- the names of items whose numbers are within stay where more names come
pub items_stay : {A : Type 0} (number : A → ℕ) (xs : List A) (names more : List Text) → AllByRecursion (λ x. number x < length names) xs → Begins names more
    → map (λ x. name_at more (number x)) xs ≡ map (λ x. name_at names (number x)) xs
items_stay number [] names more within b = refl
items_stay number (x ∷ xs) names more within b =
    let e = name_stays names more (number x) within.0 b in
    let r = items_stay number xs names more within.1 b in
    ap (λ (y : Text). y ∷ map (λ x. name_at more (number x)) xs) e ∙ ap (λ (l : List Text). name_at names (number x) ∷ l) r
