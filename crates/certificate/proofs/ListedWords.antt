-- Words that each come after a comma are words with commas between, after one comma.
use Rattle.std.proofs.Common.{◌≡◌, ℕ, Bool, true, false, cond, List, [], ◌∷◌, ◌++◌, drop, map, refl, ap, sym, ◌+◌, ◌∙◌, arith}
use Rattle.std.specs.Prelude.{filter}
use Rattle.std.specs.List.{flat_map, join_by, range_with_len}
use Rattle.std.proofs.lemmas.List.{flat_map_more}
use Rattle.std.proofs.lemmas.List.Folds.{flat_map-map}
use Rattle.std.proofs.lemmas.List.FromFn.{map-range_with_len_more}
use Rattle.std.specs.Fmt.{decimal}
use Rattle.pools.specs.WordSets.{has_word}
use Rattle.certificate.specs.Print.{word_if, listed_word, words_text}

-- each word after a comma
abbrev after_commas : List ℕ → List ℕ
after_commas = flat_map (λ word. (44 ∷ []) ++ decimal word)

listed_by : (set : List Bool) (word : ℕ) (words : List ℕ) → flat_map (listed_word set) words ≡ after_commas (filter (has_word set) words) → (stands : Bool) → word_if stands (44 ∷ decimal word) ++ flat_map (listed_word set) words ≡ after_commas (cond stands (word ∷ filter (has_word set) words) (filter (has_word set) words))
listed_by set word words rest true = ap (λ (text : List ℕ). 44 ∷ (decimal word ++ text)) rest
listed_by set word words rest false = rest

listed : (set : List Bool) (words : List ℕ) → flat_map (listed_word set) words ≡ after_commas (filter (has_word set) words)
listed set [] = refl
listed set (word ∷ words) = listed_by set word words (listed set words) (has_word set word)

joined_by : (set : List Bool) (word : ℕ) (words : List ℕ) → drop 1 (flat_map (listed_word set) words) ≡ join_by decimal (44 ∷ []) (filter (has_word set) words) → (stands : Bool) → drop 1 (word_if stands (44 ∷ decimal word) ++ flat_map (listed_word set) words) ≡ join_by decimal (44 ∷ []) (cond stands (word ∷ filter (has_word set) words) (filter (has_word set) words))
joined_by set word words rest true = ap (λ (text : List ℕ). decimal word ++ text) (listed set words)
joined_by set word words rest false = rest

joined : (set : List Bool) (words : List ℕ) → drop 1 (flat_map (listed_word set) words) ≡ join_by decimal (44 ∷ []) (filter (has_word set) words)
joined set [] = refl
joined set (word ∷ words) = joined_by set word words (joined set words) (has_word set word)

pub all_joined : (set : List Bool) → drop 1 (flat_map (listed_word set) (range_with_len 0 64)) ≡ words_text set
unfolding words_text
all_joined set = joined set (range_with_len 0 64)

pub listed_more : (set : List Bool) (n : ℕ) → flat_map (listed_word set) (range_with_len 0 (n + 1)) ≡ flat_map (listed_word set) (range_with_len 0 n) ++ listed_word set n
listed_more set n =
    sym (flat_map-map (λ (text : List ℕ). text) (listed_word set) (range_with_len 0 (n + 1)))
    ∙ ap (flat_map (λ (text : List ℕ). text)) (map-range_with_len_more (listed_word set) 0 n n (omega arith))
    ∙ sym (flat_map_more (λ (text : List ℕ). text) [] (map (listed_word set) (range_with_len 0 n)) (listed_word set n))
    ∙ ap (λ (text : List ℕ). text ++ listed_word set n) (flat_map-map (λ (text : List ℕ). text) (listed_word set) (range_with_len 0 n))
