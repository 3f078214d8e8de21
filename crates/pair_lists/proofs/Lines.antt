-- The parts of a line around a sign, and lists with one line more.
use Rattle.std.proofs.Common.{◌≡◌, ◌∙◌, ◌++◌, ◌+◌, ◌==◌, ◌<◌, ◌||◌, ℕ, Bool, true, false, not, Bor, List, [], ◌∷◌, Option, Some, None, ap, ap₂, append-nil, arith, is_some, length, map, refl, sym, true≢false}
use Rattle.std.proofs.lemmas.List.{map_push}
use Rattle.std.proofs.lemmas.List.Elements.{filter-append}
use Rattle.std.proofs.lemmas.List.Splits.{slice_split-cons_no, slice_split-cons_yes, slice_split_first}
use Rattle.std.proofs.lemmas.Str.Pattern.{IsSplitOnceResult, split_once_first}
use Rattle.std.specs.List.{after_first, before_first, filter, onto_first, position_or_len, slice_split}
use Rattle.pair_lists.specs.declared.pair.Pair.{Pair}
use Rattle.pair_lists.specs.Lists.{ArePairs, Text, is_line, is_silent, pair_in, paths_of, two_paths}

-- ---- parts

-- the place of the first element that passes, by whether the first element does
first_passes : {X : Type 0} (p : X → Bool) (x : X) (xs : List X) → p x ≡ true → position_or_len p (x ∷ xs) ≡ 0
first_passes p x xs passes = rw passes refl

first_does_not : {X : Type 0} (p : X → Bool) (x : X) (xs : List X) → p x ≡ false → position_or_len p (x ∷ xs) ≡ 1 + position_or_len p xs
first_does_not p x xs passes = rw passes refl

-- where no element passes there is one part
pub one_part : {X : Type 0} (p : X → Bool) (xs : List X) → position_or_len p xs ≡ length xs → slice_split p xs ≡ xs ∷ []
one_part p [] none = refl
one_part {X} p (x ∷ xs) none = go (p x) refl (λ after. one_part p xs after)
  where
    go : (b : Bool) → p x ≡ b → (position_or_len p xs ≡ length xs → slice_split p xs ≡ xs ∷ []) → slice_split p (x ∷ xs) ≡ (x ∷ xs) ∷ []
    go true passes rest =
        let first : position_or_len p (x ∷ xs) ≡ 0 = first_passes p x xs passes in
        absurd (omega (arith, first, none))
    go false passes rest =
        let first : position_or_len p (x ∷ xs) ≡ 1 + position_or_len p xs = first_does_not p x xs passes in
        slice_split-cons_no p x xs passes ∙ ap (onto_first x) (rest (omega (arith, first, none)))

-- parts are at least one
pub some_part : {X : Type 0} (p : X → Bool) (xs : List X) → (first : List X) × (rest : List (List X)) × (slice_split p xs ≡ first ∷ rest)
some_part p [] = ([], [], refl)
some_part {X} p (x ∷ xs) = go (p x) refl (some_part p xs)
  where
    go : (b : Bool) → p x ≡ b → (first : List X) × (rest : List (List X)) × (slice_split p xs ≡ first ∷ rest) → (first : List X) × (rest : List (List X)) × (slice_split p (x ∷ xs) ≡ first ∷ rest)
    go true passes before = ([], slice_split p xs, slice_split-cons_yes p x xs passes)
    go false passes before = (x ∷ before.0, before.1, slice_split-cons_no p x xs passes ∙ ap (onto_first x) before.2)

-- the parts of a line whose first sign stands between these texts
first_parts : (c : ℕ) (line before after : Text) → position_or_len (λ b. b == c) line < length line → before ≡ before_first (λ b. b == c) line → after ≡ after_first (λ b. b == c) line
    → slice_split (λ b. b == c) line ≡ before ∷ slice_split (λ b. b == c) after
first_parts c line before after there is-before is-after = rw (is-before, is-after) (slice_split_first (λ b. b == c) line 0 there)

-- the parts of a line with one sign
pub two_parts : (c : ℕ) (line before after : Text) → position_or_len (λ b. b == c) line < length line → before ≡ before_first (λ b. b == c) line → after ≡ after_first (λ b. b == c) line
    → position_or_len (λ b. b == c) after ≡ length after → slice_split (λ b. b == c) line ≡ before ∷ after ∷ []
two_parts c line before after there is-before is-after none =
    first_parts c line before after there is-before is-after ∙ ap (λ parts. before ∷ parts) (one_part (λ b. b == c) after none)

-- a line with more than one sign names no two paths
pub more_parts : (c : ℕ) (line before after : Text) → position_or_len (λ b. b == c) line < length line → before ≡ before_first (λ b. b == c) line → after ≡ after_first (λ b. b == c) line
    → position_or_len (λ b. b == c) after < length after → two_paths (slice_split (λ b. b == c) line) ≡ None
more_parts c line before after there is-before is-after more =
    let second = slice_split_first (λ b. b == c) after 0 more in
    let third = some_part (λ b. b == c) (after_first (λ b. b == c) after) in
    ap two_paths (first_parts c line before after there is-before is-after ∙ ap (λ parts. before ∷ parts) (second ∙ ap (λ parts. before_first (λ b. b == c) after ∷ parts) third.2))

-- whether a sign stands in a text, by what splits the text there
pub has_sign : (c : ℕ) (text : Text) (r : Option (Bor Text × Bor Text)) → IsSplitOnceResult c text r → c < 128 → is_some r ≡ true → position_or_len (λ b. b == c) text < length text
has_sign c text None split small is = absurd (true≢false (sym is))
has_sign c text (Some x) split small is = (split_once_first c text (Some x) split small).0

pub has_no_sign : (c : ℕ) (text : Text) (r : Option (Bor Text × Bor Text)) → IsSplitOnceResult c text r → c < 128 → is_some r ≡ false → position_or_len (λ b. b == c) text ≡ length text
has_no_sign c text None split small is = split_once_first c text None split small
has_no_sign c text (Some x) split small is = absurd (true≢false is)

-- ---- lists

-- a line more that need not name a pair
pub pairs_silent : (lines : List Text) (line : Text) (pairs : List Pair) → is_silent line ≡ true → ArePairs lines pairs → ArePairs (lines ++ line ∷ []) pairs
pairs_silent lines line pairs silent are =
    let speaks : Text → Bool = λ line. not (is_silent line) in
    let none : filter speaks (line ∷ []) ≡ [] = rw silent refl in
    are ∙ sym (ap (map pair_in) (filter-append speaks lines (line ∷ []) ∙ ap (λ more. filter speaks lines ++ more) none ∙ append-nil _))

-- a line more with its pair
pub pairs_next : (lines : List Text) (line : Text) (pairs : List Pair) (pair : Pair) → is_silent line ≡ false → Some (paths_of pair) ≡ pair_in line → ArePairs lines pairs
    → ArePairs (lines ++ line ∷ []) (pairs ++ pair ∷ [])
pairs_next lines line pairs pair silent names are =
    let speaks : Text → Bool = λ line. not (is_silent line) in
    let one : filter speaks (line ∷ []) ≡ line ∷ [] = rw silent refl in
    map_push (λ pair. Some (paths_of pair)) pairs pair ∙ ap₂ (λ xs x. xs ++ x ∷ []) are names
    ∙ sym (ap (map pair_in) (filter-append speaks lines (line ∷ []) ∙ ap (λ more. filter speaks lines ++ more) one) ∙ map_push pair_in (filter speaks lines) line)

-- whether a line may stand in a list
pub silent_line : (line : Text) → is_silent line ≡ true → is_line line ≡ true
silent_line line silent = rw silent refl

pub named_line : (line : Text) (paths : Text × Text) → Some paths ≡ pair_in line → is_line line ≡ true
named_line line paths names = go (is_silent line)
  where
    named : is_some (pair_in line) ≡ true
    named = ap is_some (sym names)

    go : (b : Bool) → b || is_some (pair_in line) ≡ true
    go true = refl
    go false = named

pub wrong_line : (line : Text) → is_silent line ≡ false → None ≡ pair_in line → is_line line ≡ false
wrong_line line silent none = rw silent (ap is_some (sym none))
