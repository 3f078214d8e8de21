-- Sets of words that are read from a text are those of their words.
use Rattle.std.proofs.Common.{◌≡◌, ℕ, zero, suc, ◌+◌, ◌<◌, ◌≤◌, Bool, true, false, cond, ◌&&◌, ◌||◌, nat_lt, List, [], ◌∷◌, length, Option, Some, None, option_and_then, refl, ap, sym, subst, ◌∙◌, arith, inl, inr}
use Rattle.std.specs.Prelude.{◌==◌, if◌then◌else◌, slice_index_or, slice_set, replicate}
use Rattle.std.specs.List.{list_any, range_with_len}
use Rattle.std.proofs.lemmas.Bool.{cases_eq, eq-eqb, ne_eqb, lt-ltb, ltb-true}
use Rattle.std.proofs.lemmas.List.{length-set, get_or-set_same, get_or-set_other, ext_get_or}
use Rattle.lemmas.specs.Bools.{or_second}
use Rattle.ir_tokens.specs.Bytes.{Text, is_digit}
use Rattle.pools.specs.WordSets.{no_words, has_word, adds_word}
use Rattle.pools.specs.declared.word_set.WordSet.{WordSet}
use Rattle.certificate.specs.Numbers.{with_digit, closed, words_after, words_of_word}
use Rattle.certs.specs.Fits.{words_fit}

-- a word is added if a set has it
abbrev pub add_word : (set : List Bool) → (word : ℕ) → (own : List Bool) → List Bool
add_word set word own = if has_word set word then adds_word own word else own

-- those of some words that a set has are added
abbrev pub add_words : (set : List Bool) → (words : List ℕ) → (own : List Bool) → List Bool
add_words set [] own = own
add_words set (word ∷ words) own = add_words set words (add_word set word own)

-- the set of those of the words from 0 to 63 that a set has
unfoldable pub own_words : List Bool → List Bool
own_words set = add_words set (range_with_len 0 64) no_words

added_len : (set : List Bool) (word : ℕ) → length (adds_word set word) ≡ length set
added_len set word = by (nat_lt word 64)
  where
    by : (b : Bool) → length (cond b (slice_set set word true) set) ≡ length set
    by true = length-set set word true
    by false = refl

-- a word that is added is there, and the others stay
added_at : (set : List Bool) (word i : ℕ) → length set ≡ 64 → has_word (adds_word set word) i ≡ (has_word set i || (i == word && nat_lt word 64))
added_at set word i len = by (nat_lt word 64) refl
  where
    none : (a b : Bool) → b ≡ false → a ≡ (a || b)
    none true b e = refl
    none false b e = sym e

    all : (a b : Bool) → b ≡ true → true ≡ (a || b)
    all true b e = refl
    all false b e = sym e

    and_no : (b : Bool) → (b && false) ≡ false
    and_no true = refl
    and_no false = refl

    by : (b : Bool) → nat_lt word 64 ≡ b → has_word (cond b (slice_set set word true) set) i ≡ (has_word set i || (i == word && b))
    by false e = none (has_word set i) (i == word && false) (and_no (i == word))
    by true e = elim (cases_eq i word) [
      | inl same ↦
          let below = ltb-true word 64 e in
          ap (λ k. has_word (slice_set set word true) k) same ∙ get_or-set_same set word true false (omega (arith, below, len)) ∙ all (has_word set i) (i == word && true) (rw (eq-eqb i word same) refl)
      | inr differ ↦ get_or-set_other set word i true false differ ∙ none (has_word set i) (i == word && true) (rw (ne_eqb i word differ) refl)
    ]

module _ (set : List Bool) where
  chosen_len : (t : Bool) (word : ℕ) (own : List Bool) → length (if t then adds_word own word else own) ≡ length own
  chosen_len true word own = added_len own word
  chosen_len false word own = refl

  add_len : (words : List ℕ) (own : List Bool) → length (add_words set words own) ≡ length own
  add_len [] own = refl
  add_len (word ∷ words) own = add_len words (if has_word set word then adds_word own word else own) ∙ chosen_len (has_word set word) word own

  -- adding the words of a range that a set has makes that set
  adds_all : (count first : ℕ) (own : List Bool) → length own ≡ 64 → first + count ≡ 64 → ((i : ℕ) → i < first → has_word own i ≡ has_word set i) → ((i : ℕ) → first ≤ i → has_word own i ≡ false)
      → (i : ℕ) → i < 64 → has_word (add_words set (range_with_len first count) own) i ≡ has_word set i
  adds_all zero first own len end there none i lt = there i (omega (arith, end, lt))
  adds_all (suc count) first own len end there none i lt =
      adds_all count (first + 1) next (chosen_len (has_word set first) first own ∙ len) (omega (arith, end)) there_next none_next i lt
    where
      next : List Bool
      next = if has_word set first then adds_word own first else own

      by : (t : Bool) (i : ℕ) → has_word (if t then adds_word own first else own) i ≡ (has_word own i || (t && i == first))
      by false i = or_no (has_word own i)
        where
          or_no : (b : Bool) → b ≡ (b || false)
          or_no true = refl
          or_no false = refl
      by true i = added_at own first i len ∙ ap (λ b. has_word own i || b) (rw (lt-ltb first 64 (omega (arith, end))) (and_yes (i == first)))
        where
          and_yes : (b : Bool) → (b && true) ≡ b
          and_yes true = refl
          and_yes false = refl

      there_next : (i : ℕ) → i < first + 1 → has_word next i ≡ has_word set i
      there_next i lt = elim (cases_eq i first) [
        | inl same ↦ by (has_word set first) i ∙ rw (none i (omega (arith, same)), eq-eqb i first same, same) (and_yes (has_word set first))
        | inr differ ↦ by (has_word set first) i ∙ rw (ne_eqb i first differ) (or_and (has_word own i) (has_word set first)) ∙ there i (omega (arith, lt, differ))
      ]
        where
          and_yes : (b : Bool) → (b && true) ≡ b
          and_yes true = refl
          and_yes false = refl

          or_and : (a b : Bool) → (a || (b && false)) ≡ a
          or_and true b = refl
          or_and false true = refl
          or_and false false = refl

      none_next : (i : ℕ) → first + 1 ≤ i → has_word next i ≡ false
      none_next i le = by (has_word set first) i ∙ rw (none i (omega (arith, le)), ne_eqb i first (λ e. omega (arith, le, e))) (and_no (has_word set first))
        where
          and_no : (b : Bool) → (b && false) ≡ false
          and_no true = refl
          and_no false = refl

none_at : (n i : ℕ) → slice_index_or (replicate n false) i false ≡ false
none_at zero i = refl
none_at (suc n) zero = refl
none_at (suc n) (suc i) = none_at n i

-- a list of 64 is the set of its words
pub own_is : (set : List Bool) → length set ≡ 64 → own_words set ≡ set
unfolding own_words
own_is set len =
    let same_len : length (own_words set) ≡ 64 = add_len set (range_with_len 0 64) no_words in
    ext_get_or false (own_words set) set (same_len ∙ sym len) (λ i lt. adds_all set 64 0 no_words refl refl (λ i lt. absurd (omega arith)) (λ i le. none_at 64 i) i (omega (arith, lt, same_len)))

-- a word that is there is found
some_word : (test : ℕ → Bool) (count first i : ℕ) → first ≤ i → i < first + count → test i ≡ true → list_any test (range_with_len first count) ≡ true
some_word test zero first i le lt e = absurd (omega arith)
some_word test (suc count) first i le lt e = elim (cases_eq i first) [
  | inl same ↦ let here : test first ≡ true = ap test (sym same) ∙ e in rw here refl
  | inr differ ↦ or_second (test first) (list_any test (range_with_len (first + 1) count)) (some_word test count (first + 1) i (omega (arith, le, differ)) (omega (arith, lt)) e)
]

-- a set of 64 with some word
set_fits : (set : List Bool) (i : ℕ) → length set ≡ 64 → i < 64 → has_word set i ≡ true → words_fit set ≡ true
set_fits set i len lt e = rw (len, some_word (has_word set) 64 0 i (omega arith) lt e) refl

-- ---- what is read

abbrev Small : Option ℕ → Type 0
Small None = Unit {0}
Small (Some n) = n < 64

closed_fits : (set : WordSet) (number : Option ℕ) (found : WordSet) → length set ≡ 64 → Small number → closed set number ≡ Some found → words_fit found ≡ true
closed_fits set None found len small e = absurd cc
closed_fits set (Some n) found len small e =
    let is : found ≡ adds_word set n = ap (λ (o : Option WordSet). members_of o) (sym e) in
    let has : has_word (adds_word set n) n ≡ true = added_at set n n len ∙ or_second (has_word set n) (n == n && nat_lt n 64) (rw (eq-eqb n n refl, lt-ltb n 64 small) refl) in
    subst (λ (x : List Bool). words_fit x ≡ true) (sym is) (set_fits (adds_word set n) n (added_len set n ∙ len) small has)
  where
    members_of : Option WordSet → List Bool
    members_of None = []
    members_of (Some w) = w

closed_len : (set : WordSet) (number : Option ℕ) (more : WordSet) → length set ≡ 64 → closed set number ≡ Some more → length more ≡ 64
closed_len set None more len e = absurd cc
closed_len set (Some n) more len e =
    let is : length more ≡ length (adds_word set n) = ap (λ (o : Option WordSet). len_of o) (sym e) in
    is ∙ added_len set n ∙ len
  where
    len_of : Option WordSet → ℕ
    len_of None = 0
    len_of (Some w) = length w

after_fits : (set : WordSet) (number : Option ℕ) (word : Text) (found : WordSet) → length set ≡ 64 → Small number → words_after set number word ≡ Some found → words_fit found ≡ true
after_fits set number [] found len small e = closed_fits set number found len small e
after_fits set number (byte ∷ bytes) found len small e =
    by (is_digit byte) (nat_lt (with_digit number byte) 64) (byte == 44) refl e
    (λ below. after_fits set (Some (with_digit number byte)) bytes found len below)
    (λ more longer. after_fits more None bytes found longer tt)
  where
    on_closed : (c : Option WordSet) → closed set number ≡ c → option_and_then (λ more. words_after more None bytes) c ≡ Some found
        → ((more : WordSet) → length more ≡ 64 → words_after more None bytes ≡ Some found → words_fit found ≡ true) → words_fit found ≡ true
    on_closed None is e more = absurd cc
    on_closed (Some set') is e more = more set' (closed_len set number set' len is) e

    by : (digit low comma : Bool) → nat_lt (with_digit number byte) 64 ≡ low
        → (if digit then (if low then words_after set (Some (with_digit number byte)) bytes else None) else (if comma then option_and_then (λ more. words_after more None bytes) (closed set number) else None)) ≡ Some found
        → (with_digit number byte < 64 → words_after set (Some (with_digit number byte)) bytes ≡ Some found → words_fit found ≡ true)
        → ((more : WordSet) → length more ≡ 64 → words_after more None bytes ≡ Some found → words_fit found ≡ true) → words_fit found ≡ true
    by true true comma low e digits commas = digits (ltb-true (with_digit number byte) 64 low) e
    by true false comma low e digits commas = absurd cc
    by false low true is e digits commas = on_closed (closed set number) refl e commas
    by false low false is e digits commas = absurd cc

-- a set of words that is read fits
pub read_words_fit : (word : Text) (found : WordSet) → words_of_word word ≡ Some found → words_fit found ≡ true
read_words_fit word found e = after_fits no_words None word found refl tt e
