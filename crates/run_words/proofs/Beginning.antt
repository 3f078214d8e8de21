-- The words at the start lie where the cells' places say, and the table is small.
use Rattle.std.proofs.Common.{◌≡◌, ◌≢◌, ℕ, zero, suc, ◌+◌, ◌-◌, ◌*◌, ◌^◌, ◌<◌, ◌≤◌, Bool, false, Option, List, [], ◌∷◌, ◌++◌, length, get_or, inl, inr, refl, sym, ap, subst, ◌∙◌, arith, eq-eqb, if◌then◌else◌, below_more, length-append}
use Rattle.std.proofs.lemmas.List.{get_or_append_left}
use Rattle.std.proofs.Math.Seq.{get_or-append_seam}
use Rattle.std.specs.Prelude.{slice_get, unwrap_or}
use Rattle.std.specs.List.{All}
use Rattle.std.proofs.lemmas.Option.{slice_get_cases, slice_get_past, unwrap_or-slice_get}
use Rattle.std.proofs.lemmas.List.Elements.{All-get_or}
use Rattle.pools.specs.declared.word_kind.WordKind.{WordKind}
use Rattle.pools.specs.Heap.{Setup, IsSetup, IsStartOf, is_late, cells, kind_of, layout_of, layout_at, words_of_cell}
use Rattle.pools.specs.Layouts.{words_of}
use Rattle.lemmas.specs.Numbers.{lt_yes, lt_no, test_no}
use Rattle.colours.specs.Colours.{done}
use Rattle.colours.specs.declared.place.Place.{Place}
use Rattle.colours.specs.declared.place.Place.TheVariants.{Posted, Stage, Colour, Word}
use Rattle.colours.specs.Runs.{word_at_start}
use Rattle.heap_rule.specs.Rule.{start, size, HasPlace, index}
use Rattle.heap_rule.specs.Places.{start_before}
use Rattle.heap_words.specs.Opening.{stage_at_start, opening_word}
use Rattle.heap_words.specs.Places.{AreStarts}
use Rattle.std.proofs.lemmas.Grind.{get_or_default_zero}

-- ---- the size of the table

start_low : (s : Setup) (cell : ℕ) → ((c : ℕ) → length (words_of_cell s c) < 2 ^ 32) → start s cell ≤ suc s.threads + cell * 2 ^ 32
start_low s zero h = omega arith
start_low s (suc cell) h = let k = start_low s cell h in let w = h cell in omega (arith, k, w)

small_size : (s : Setup) → ((c : ℕ) → length (words_of_cell s c) < 2 ^ 32) → s.threads < 2 ^ 32 → cells s ≤ 2 ^ 20 → size s < 2 ^ 63
small_size s h t c = let k = start_low s (cells s) h in omega (arith, k)

words_few : (layouts : List (List WordKind)) (layout : ℕ) → All (λ (words : List WordKind). length words < 2 ^ 32) layouts → length (words_of layouts layout) < 2 ^ 32
words_few layouts layout h = elim (slice_get_cases layouts layout).1 [
  | inl k ↦ subst (λ (o : Option (List WordKind)). length (unwrap_or o []) < 2 ^ 32) (sym k.2) (subst (λ (x : List WordKind). length x < 2 ^ 32) k.3 (All-get_or (λ (words : List WordKind). length words < 2 ^ 32) layouts layout k.0 k.1 h))
  | inr k ↦ subst (λ (o : Option (List WordKind)). length (unwrap_or o []) < 2 ^ 32) (sym k.1) (omega arith)
]

-- no cell has more words than its layout, or than there are globals
numbered : (s : Setup) → length s.globals < 2 ^ 32 → All (λ (words : List WordKind). length words < 2 ^ 32) s.layouts → (c : ℕ) → length (words_of_cell s c) < 2 ^ 32
numbered s g h zero = g
numbered s g h (suc cell) = words_few s.layouts (layout_of s (suc cell)) h

pub is_small : (s : Setup) → s.threads < 2 ^ 32 → length s.globals < 2 ^ 32 → All (λ (words : List WordKind). length words < 2 ^ 32) s.layouts → cells s ≤ 2 ^ 20 → size s < 2 ^ 63
is_small s t g h c = small_size s (numbered s g h) t c

-- a cell and its words end within the table
pub start_within : (s : Setup) (cell : ℕ) → cell < cells s → start s cell + suc (length (words_of_cell s cell)) ≤ size s
start_within s cell h = start_before s cell (cells s) h

pub start_next : (s : Setup) (cell next count : ℕ) → next ≡ start s cell → count ≡ length (words_of_cell s cell) → next + (count + 1) ≡ start s (cell + 1)
start_next s cell next count at is = let e : cell + 1 ≡ suc cell = omega arith in rw e (omega arith)

-- one cell more
pub starts_more : (s : Setup) (starts after : List ℕ) (cell next : ℕ) → next ≡ start s cell → length starts ≡ cell → ((k : ℕ) → k < cell → get_or starts k 0 ≡ start s k) → after ≡ starts ++ next ∷ []
    → (length after ≡ cell + 1) × ((k : ℕ) → k < cell + 1 → get_or after k 0 ≡ start s k)
starts_more s starts after cell next at count each is = (
  ap length is ∙ (length-append starts (next ∷ []) ∙ omega arith),
  below_more (λ (k : ℕ). get_or after k 0 ≡ start s k) cell
      (λ k h. ap (λ (xs : List ℕ). get_or xs k 0) is ∙ (get_or_append_left starts (next ∷ []) 0 k (omega arith) ∙ each k h))
      (ap (λ (xs : List ℕ). get_or xs cell 0) is ∙ (subst (λ (k : ℕ). get_or (starts ++ next ∷ []) k 0 ≡ next) count (get_or-append_seam starts next [] 0) ∙ at)),
)

-- ---- the words at the start

pub late_at : (s : Setup) (t : ℕ) (b : Bool) → unwrap_or (slice_get s.late t) false ≡ b → stage_at_start s t ≡ (if b then done else 0)
unfolding is_late
late_at s t b e = ap (λ (x : Bool). if x then done else 0) (sym (unwrap_or-slice_get s.late t false) ∙ e)

pub words_here : (s : Setup) (cell layout : ℕ) → cell ≢ 0 → layout ≡ layout_at s.pools (cell - 1) → words_of s.layouts layout ≡ words_of_cell s cell
unfolding layout_of
words_here s zero layout n e = absurd (n refl)
words_here s (suc cell) layout n e = ap (words_of s.layouts) e

-- a global past the last one
no_value : (s : Setup) (word : ℕ) → IsSetup s → length s.globals ≤ word → get_or s.values word 0 ≡ 0
unfolding kind_of
no_value s word ok past = subst (λ (k : Option WordKind). IsStartOf k (get_or s.values word 0)) (slice_get_past s.globals word past) (ok word)

stage_there : (s : Setup) (t : ℕ) → t < s.threads → opening_word s (suc t) ≡ stage_at_start s t
stage_there s t h = rw (lt_yes t s.threads h) refl

colour_there : (s : Setup) → opening_word s (suc s.threads) ≡ 1
colour_there s = rw (lt_no s.threads s.threads (omega arith), eq-eqb s.threads s.threads refl) refl

value_there : (s : Setup) (word : ℕ) → opening_word s (suc (suc s.threads + word)) ≡ get_or s.values word 0
value_there s word = let e : suc s.threads + word - s.threads - 1 ≡ word = omega arith in
    rw (lt_no (suc s.threads + word) s.threads (omega arith), test_no (suc s.threads + word) s.threads (λ x. omega arith), e) refl

zero_there : (s : Setup) (at : ℕ) → IsSetup s → start s 1 ≤ at → opening_word s at ≡ 0
zero_there s at ok h = let e : suc (suc s.threads + (at - s.threads - 2)) ≡ at = omega arith in
    subst (λ (x : ℕ). opening_word s x ≡ 0) e (value_there s (at - s.threads - 2) ∙ no_value s (at - s.threads - 2) ok (omega arith))

after_first : (s : Setup) (cell : ℕ) → start s 1 ≤ start s (suc cell)
after_first s zero = omega arith
after_first s (suc cell) = let k = after_first s cell in omega (arith, k)

pub opens_at : (s : Setup) (p : Place) → IsSetup s → HasPlace s p → opening_word s (index s p) ≡ word_at_start s p
opens_at s Posted ok here = refl
opens_at s (Stage t) ok here = stage_there s t here
opens_at s (Colour zero) ok here = colour_there s
opens_at s (Colour (suc cell)) ok here = zero_there s (start s (suc cell)) ok (after_first s cell)
opens_at s (Word zero word) ok here = value_there s word
opens_at s (Word (suc cell) word) ok here = let k = after_first s cell in zero_there s (suc (start s (suc cell) + word)) ok (omega (arith, k))

-- where the table ends
pub size_found : (s : Setup) (starts : List ℕ) (count found : ℕ) → AreStarts s starts → count ≡ cells s → found ≡ get_or starts count found → found ≡ size s
size_found s starts count found are e is = is ∙ (get_or_default_zero starts count found (omega (arith, are.count)) ∙ (ap (λ (k : ℕ). get_or starts k 0) e ∙ are.each (cells s) (omega arith)))
