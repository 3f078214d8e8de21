-- Lists and rows of words with another entry in one place.
use Rattle.std.proofs.Common.{◌≡◌, ◌<◌, ℕ, ◌==◌, ◌&&◌, Bool, true, false, List, [], length, slice_index_or, slice_set, if◌then◌else◌, refl, sym, ap, ◌∙◌}
use Rattle.std.proofs.lemmas.List.{length-set, get_or-set_other}
use Rattle.std.proofs.lemmas.Grind.{get_or-set_at}
use Rattle.lemmas.specs.Numbers.{test_true, test_false}
use Rattle.runs.specs.Machine.{WordValue}
use Rattle.runs.specs.Moves.{null}
use Rattle.moves.specs.Rows.{word_at, with_word}

-- an entry of a list in which one was replaced
pub entry-set : {A : Type 0} (xs : List A) (i j : ℕ) (v d : A) → i < length xs → slice_index_or (slice_set xs i v) j d ≡ (if i == j then v else slice_index_or xs j d)
entry-set {A} xs i j v d lt = go (i == j) refl
  where
    go : (b : Bool) → (i == j) ≡ b → slice_index_or (slice_set xs i v) j d ≡ (if b then v else slice_index_or xs j d)
    go true e = get_or-set_at xs i j v d (sym (test_true i j e)) lt
    go false e = get_or-set_other xs i j v d (λ x. test_false i j e (sym x))

-- a word of rows in which one was replaced
pub word-set : (rows : List (List WordValue)) (c i : ℕ) (v : WordValue) (d j : ℕ) → c < length rows → i < length (slice_index_or rows c [])
    → word_at (with_word rows c i v) d j ≡ (if (c == d) && (i == j) then v else word_at rows d j)
word-set rows c i v d j is_row is_word =
    ap (λ (row : List WordValue). slice_index_or row j null) (entry-set rows c d (slice_set (slice_index_or rows c []) i v) [] is_row) ∙ go (c == d) refl
  where
    go : (b : Bool) → (c == d) ≡ b → slice_index_or (if b then slice_set (slice_index_or rows c []) i v else slice_index_or rows d []) j null ≡ (if b && (i == j) then v else word_at rows d j)
    go true e =
        entry-set (slice_index_or rows c []) i j v null is_word
        ∙ ap (λ n. if i == j then v else word_at rows n j) (test_true c d e)
    go false e = refl

-- no row is longer or shorter
pub row-set : (rows : List (List WordValue)) (c i : ℕ) (v : WordValue) (d : ℕ) → c < length rows
    → length (slice_index_or (with_word rows c i v) d []) ≡ length (slice_index_or rows d [])
row-set rows c i v d is_row = ap (λ (row : List WordValue). length row) (entry-set rows c d (slice_set (slice_index_or rows c []) i v) [] is_row) ∙ go (c == d) refl
  where
    go : (b : Bool) → (c == d) ≡ b → length (if b then slice_set (slice_index_or rows c []) i v else slice_index_or rows d []) ≡ length (slice_index_or rows d [])
    go true e = length-set (slice_index_or rows c []) i v ∙ ap (λ n. length (slice_index_or rows n [])) (test_true c d e)
    go false e = refl
