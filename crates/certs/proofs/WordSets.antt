-- Sets of words with some word.
use Rattle.std.proofs.Common.{◌≡◌, ℕ, Bool, true, false, cond, ◌||◌, List, [], ◌∷◌, length, Option, Some, None, refl, ap, ◌∙◌}
use Rattle.std.specs.Prelude.{is_some}
use Rattle.std.specs.List.{find, list_any, range_with_len}
use Rattle.pools.specs.WordSets.{has_word}
use Rattle.certs.specs.Fits.{words_fit}

found_any : (test : ℕ → Bool) (words : List ℕ) → is_some (find test words) ≡ list_any test words
found_any test [] = refl
found_any test (word ∷ words) = by (test word) (found_any test words)
  where
    by : (b : Bool) → is_some (find test words) ≡ list_any test words → is_some (cond b (Some word) (find test words)) ≡ (b || list_any test words)
    by true more = refl
    by false more = more

-- a set of 64 places fits if it has a first word
pub first_fits : (set : List Bool) (first : Option ℕ) → length set ≡ 64 → first ≡ find (has_word set) (range_with_len 0 64) → is_some first ≡ words_fit set
first_fits set first len is = rw len (ap (λ (o : Option ℕ). is_some o) is ∙ found_any (has_word set) (range_with_len 0 64))
