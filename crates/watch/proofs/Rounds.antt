-- The set that stamps and a round make.
use Rattle.std.proofs.Common.{◌≡◌, ◌≢◌, ℕ, zero, suc, ◌<◌, ◌==◌, Bool, true, false, List, [], ◌∷◌, length, slice_set, refl, sym, ap, ◌∙◌, arith}
use Rattle.std.specs.Prelude.{replicate, slice_index_or}
use Rattle.lemmas.specs.Numbers.{test_no, test_same}
use Rattle.watch.specs.CellSets.{of_round}

set_stamp : (round : ℕ) (stamps : List ℕ) (i stamp : ℕ) → of_round round (slice_set stamps i stamp) ≡ slice_set (of_round round stamps) i (stamp == round)
set_stamp round [] i stamp = refl
set_stamp round (x ∷ xs) zero stamp = refl
set_stamp round (x ∷ xs) (suc i) stamp = ap (λ (l : List Bool). (x == round) ∷ l) (set_stamp round xs i stamp)

-- a cell gets the stamp of the round
pub added : (round : ℕ) (stamps : List ℕ) (i : ℕ) (set : List Bool) → of_round round stamps ≡ set → of_round round (slice_set stamps i round) ≡ slice_set set i true
added round stamps i set e = set_stamp round stamps i round ∙ (ap (λ (b : Bool). slice_set (of_round round stamps) i b) (test_same round) ∙ ap (λ (l : List Bool). slice_set l i true) e)

-- or that of no round
pub removed : (round : ℕ) (stamps : List ℕ) (i : ℕ) (set : List Bool) → 0 < round → of_round round stamps ≡ set → of_round round (slice_set stamps i 0) ≡ slice_set set i false
removed round stamps i set lt e =
    let no : (0 == round) ≡ false = test_no 0 round (λ same. omega (arith, lt, same)) in
    set_stamp round stamps i 0 ∙ (ap (λ (b : Bool). slice_set (of_round round stamps) i b) no ∙ ap (λ (l : List Bool). slice_set l i false) e)

-- no cell has the stamp of a round that none of these is of
pub none_in : (round : ℕ) (stamps : List ℕ) → ((k d : ℕ) → k < length stamps → slice_index_or stamps k d ≢ round) → of_round round stamps ≡ replicate (length stamps) false
none_in round [] n = refl
none_in round (x ∷ xs) n =
    let no : (x == round) ≡ false = test_no x round (n 0 0 (omega arith)) in
    rw no (ap (λ (l : List Bool). false ∷ l) (none_in round xs (λ k d lt. n (suc k) d (omega arith))))

pub length_of : (round : ℕ) (stamps : List ℕ) → length (of_round round stamps) ≡ length stamps
length_of round [] = refl
length_of round (x ∷ xs) = ap suc (length_of round xs)

-- so a set whose cells have no such stamp is empty
pub emptied : (before after : ℕ) (stamps now : List ℕ) (set : List Bool) → of_round before stamps ≡ set → length now ≡ length stamps → ((k d : ℕ) → k < length now → slice_index_or now k d ≢ after)
    → of_round after now ≡ replicate (length set) false
emptied before after stamps now set e same n =
    none_in after now n ∙ ap (λ (count : ℕ). replicate count false) (same ∙ (sym (length_of before stamps) ∙ ap (λ (l : List Bool). length l) e))

-- new stamps are of no round
pub first_set : (round count : ℕ) (stamps : List ℕ) → 0 < round → stamps ≡ replicate count 0 → of_round round stamps ≡ replicate count false
first_set round zero stamps lt e = rw e refl
first_set round (suc count) stamps lt e = rw e (let no : (0 == round) ≡ false = test_no 0 round (λ same. omega (arith, lt, same)) in rw no (ap (λ (l : List Bool). false ∷ l) (first_set round count (replicate count 0) lt refl)))
