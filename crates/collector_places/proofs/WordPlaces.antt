-- The reference words of a cell in the grammar, and in the list of its words.
use Rattle.std.proofs.Common.{◌≡◌, ◌≢◌, ℕ, zero, suc, ◌+◌, ◌-◌, ◌<◌, ◌≤◌, true, false, List, [], ◌∷◌, length, get_or, slice_get, refl, ap, ◌∙◌, if◌then◌else◌, arith}
use Rattle.std.specs.Prelude.{replicate}
use Rattle.pools.specs.declared.word_kind.WordKind.{WordKind}
use Rattle.pools.specs.Heap.{Setup, kind_of, layout_at, layout_of, words_of_cell}
use Rattle.pools.specs.Layouts.{is_reference_kind, words_of}
use Rattle.colours.specs.Collector.{skip_integers, reference_from}
use Rattle.trace_sweep.specs.Words.{place_from}

-- the grammar passes the words that hold no reference as the list says
skip_integers-place : (s : Setup) (cell word left : ℕ) → skip_integers s cell word left ≡ place_from (words_of_cell s cell) word left
unfolding kind_of
skip_integers-place s cell word zero = refl
skip_integers-place s cell word (suc left) = ap (λ w. if is_reference_kind (slice_get (words_of_cell s cell) word) then word else w) (skip_integers-place s cell (suc word) left)

-- the grammar's reference word, in the list of the cell's words
pub reference_from-place : (s : Setup) (cell word : ℕ) → reference_from s cell word ≡ place_from (words_of_cell s cell) word (length (words_of_cell s cell) - word)
reference_from-place s cell word = skip_integers-place s cell word (length (words_of_cell s cell) - word)

-- there is a reference here
pub place_from-here : (words : List WordKind) (word : ℕ) → word < length words → is_reference_kind (slice_get words word) ≡ true → place_from words word (length words - word) ≡ word
place_from-here words word lt e =
    let more : length words - word ≡ suc (length words - (word + 1)) = omega (arith, lt) in
    rw (more, e) refl

-- there is none here
pub place_from-on : (words : List WordKind) (word : ℕ) → word < length words → is_reference_kind (slice_get words word) ≡ false
    → place_from words word (length words - word) ≡ place_from words (word + 1) (length words - (word + 1))
place_from-on words word lt e =
    let more : length words - word ≡ suc (length words - (word + 1)) = omega (arith, lt) in
    let next : suc word ≡ word + 1 = omega arith in
    rw (more, e, next) refl

-- past the last word
pub place_from-end : (words : List WordKind) (word : ℕ) → length words ≤ word → place_from words word (length words - word) ≡ word
place_from-end words word le =
    let none : length words - word ≡ 0 = omega arith in
    rw none refl

-- the words of a cell after that of the globals are those of its layout
pub words_here : (s : Setup) (cell layout : ℕ) → cell ≢ 0 → layout ≡ layout_at s.pools (cell - 1) → words_of s.layouts layout ≡ words_of_cell s cell
unfolding layout_of
words_here s zero layout n e = absurd (n refl)
words_here s (suc cell) layout n e = ap (words_of s.layouts) e

-- a list of zeros
pub all_zero : (xs : List ℕ) → ((k : ℕ) → k < length xs → get_or xs k 0 ≡ 0) → xs ≡ replicate (length xs) 0
all_zero [] h = refl
all_zero (x ∷ xs) h = let here : x ≡ 0 = h 0 (omega arith) in rw here (ap (λ l. 0 ∷ l) (all_zero xs (λ k lt. h (suc k) (omega arith))))
