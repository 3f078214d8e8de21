-- The printed words of a set are read as that set.
use Rattle.std.proofs.Common.{◌≡◌, ℕ, zero, suc, ◌+◌, ◌-◌, ◌*◌, ◌/◌, ◌%◌, ◌<◌, ◌≤◌, Bool, true, false, cond, ◌||◌, nat_lt, List, [], ◌∷◌, ◌++◌, length, Option, Some, None, refl, ap, sym, ◌∙◌, arith, append_assoc}
use Rattle.std.specs.Prelude.{◌==◌, if◌then◌else◌, filter}
use Rattle.std.specs.List.{list_all, list_any, flat_map, join_by, range_with_len}
use Rattle.std.specs.Fmt.{decimal}
use Rattle.std.proofs.lemmas.Bool.{lt-ltb, ltb-true, eqb-true}
use Rattle.std.proofs.lemmas.Fmt.{decimal_by_steps}
use Rattle.lemmas.specs.Bools.{and_second, and_first}
use Rattle.ir_tokens.specs.Bytes.{Text, is_digit}
use Rattle.pools.specs.WordSets.{no_words, has_word, adds_word}
use Rattle.pools.specs.declared.word_set.WordSet.{WordSet}
use Rattle.certificate.specs.Numbers.{with_digit, words_after, words_of_word}
use Rattle.certificate.specs.Print.{words_of, words_text}
use Rattle.certs.specs.Fits.{words_fit}
use Rattle.name_text.specs.Words.{is_word}
use Rattle.name_text.specs.Seams.{is_word_byte, bytes_close}
use Rattle.name_text.specs.Spelled.{number_is_inner, number_is_word}
use Rattle.certificate.proofs.PrintedWords.{digit_is}
use Rattle.certificate.proofs.ReadSets.{add_words, own_words, own_is}

digit_on : (set : WordSet) (number : Option ℕ) (d n : ℕ) (rest : Text) → is_digit d ≡ true → with_digit number d ≡ n → n < 64 → words_after set number (d ∷ rest) ≡ words_after set (Some n) rest
digit_on set number d n rest e w lt = rw (e, w, lt-ltb n 64 lt) refl

-- the bytes are read as this number
abbrev Reads : ℕ → Text → Type 0
Reads n ds = n < 64 → (set : WordSet) (rest : Text) → words_after set None (ds ++ rest) ≡ words_after set (Some n) rest

number_after : (n : ℕ) → n < 64 → (set : WordSet) (rest : Text) → words_after set None (decimal n ++ rest) ≡ words_after set (Some n) rest
number_after n small = decimal_by_steps Reads one more n (omega (arith, small)) small
  where
    one : (n : ℕ) → n < 10 → Reads n ((48 + n) ∷ [])
    one n lt small set rest = let is : 48 + n - 48 ≡ n = omega arith in digit_on set None (48 + n) n rest (digit_is n lt) is small

    more : (n : ℕ) (ds : Text) → 10 ≤ n → Reads (n / 10) ds → Reads n (ds ++ ((48 + n % 10) ∷ []))
    more n ds ge h small set rest =
        let low : n % 10 < 10 = omega arith in
        let fewer : n / 10 < 64 = omega (arith, small) in
        let value : 10 * (n / 10) + (48 + n % 10 - 48) ≡ n = omega arith in
        ap (words_after set None) (append_assoc ds ((48 + n % 10) ∷ []) rest) ∙ h fewer set ((48 + n % 10) ∷ rest) ∙ digit_on set (Some (n / 10)) (48 + n % 10) n rest (digit_is (n % 10) low) value small

-- these words are added
abbrev added : List ℕ → List Bool → List Bool
added [] own = own
added (word ∷ words) own = added words (adds_word own word)

abbrev are_small : List ℕ → Bool
are_small words = list_all (λ word. nat_lt word 64) words

abbrev after_commas : List ℕ → Text
after_commas words = flat_map (λ word. (44 ∷ []) ++ decimal word) words

first_small : (word : ℕ) (words : List ℕ) → are_small (word ∷ words) ≡ true → word < 64
first_small word words small = ltb-true word 64 (and_first (nat_lt word 64) (are_small words) small)

commas_read : (words : List ℕ) (set : WordSet) (n : ℕ) → are_small words ≡ true → words_after set (Some n) (after_commas words) ≡ Some (added words (adds_word set n))
commas_read [] set n small = refl
commas_read (word ∷ words) set n small =
    let next : WordSet = adds_word set n in
    number_after word (first_small word words small) next (after_commas words) ∙ commas_read words next word (and_second (nat_lt word 64) (are_small words) small)

joined_read : (words : List ℕ) → are_small words ≡ true → (words ≡ [] → ⊥) → words_of_word (join_by decimal (44 ∷ []) words) ≡ Some (added words no_words)
joined_read [] small some = absurd (some refl)
joined_read (word ∷ words) small some =
    let none : WordSet = no_words in
    number_after word (first_small word words small) none (after_commas words) ∙ commas_read words none word (and_second (nat_lt word 64) (are_small words) small)

-- ---- the words of a set

filtered_small : (test : ℕ → Bool) (count first : ℕ) → first + count ≤ 64 → are_small (filter test (range_with_len first count)) ≡ true
filtered_small test zero first le = refl
filtered_small test (suc count) first le = by (test first) (filtered_small test count (first + 1) (omega (arith, le)))
  where
    by : (b : Bool) → are_small (filter test (range_with_len (first + 1) count)) ≡ true
        → are_small (cond b (first ∷ filter test (range_with_len (first + 1) count)) (filter test (range_with_len (first + 1) count))) ≡ true
    by true more = rw (lt-ltb first 64 (omega (arith, le))) more
    by false more = more

filtered_added : (set : List Bool) (words : List ℕ) (own : List Bool) → added (filter (has_word set) words) own ≡ add_words set words own
filtered_added set [] own = refl
filtered_added set (word ∷ words) own = by (has_word set word) (λ own. filtered_added set words own)
  where
    by : (b : Bool) → ((own : List Bool) → added (filter (has_word set) words) own ≡ add_words set words own)
        → added (cond b (word ∷ filter (has_word set) words) (filter (has_word set) words)) own ≡ add_words set words (if b then adds_word own word else own)
    by true more = more (adds_word own word)
    by false more = more own

filtered_some : (test : ℕ → Bool) (words : List ℕ) → list_any test words ≡ true → filter test words ≡ [] → ⊥
filtered_some test [] some e = absurd cc
filtered_some test (word ∷ words) some e = by (test word) some e (filtered_some test words)
  where
    by : (b : Bool) → (b || list_any test words) ≡ true → cond b (word ∷ filter test words) (filter test words) ≡ [] → (list_any test words ≡ true → filter test words ≡ [] → ⊥) → ⊥
    by true some e more = absurd cc
    by false some e more = more some e

all_joined : (a b : Text) → list_all is_word_byte a ≡ true → list_all is_word_byte b ≡ true → list_all is_word_byte (a ++ b) ≡ true
all_joined [] b e f = f
all_joined (x ∷ a) b e f = rw (and_first (is_word_byte x) (list_all is_word_byte a) e) (all_joined a b (and_second (is_word_byte x) (list_all is_word_byte a) e) f)

commas_word : (words : List ℕ) → are_small words ≡ true → list_all is_word_byte (after_commas words) ≡ true
commas_word [] small = refl
commas_word (word ∷ words) small =
    let lt = first_small word words small in
    all_joined (decimal word) (after_commas words) (number_is_inner word (omega (arith, lt))) (commas_word words (and_second (nat_lt word 64) (are_small words) small))

word_joined : (a b : Text) → is_word a ≡ true → list_all is_word_byte a ≡ true → list_all is_word_byte b ≡ true → is_word (a ++ b) ≡ true
word_joined [] b is e f = absurd cc
word_joined (x ∷ a) b is e f = bytes_close (x ∷ (a ++ b)) (all_joined (x ∷ a) b e f)

joined_word : (words : List ℕ) → are_small words ≡ true → (words ≡ [] → ⊥) → is_word (join_by decimal (44 ∷ []) words) ≡ true
joined_word [] small some = absurd (some refl)
joined_word (word ∷ words) small some =
    let lt = first_small word words small in
    word_joined (decimal word) (after_commas words) (number_is_word word (omega (arith, lt))) (number_is_inner word (omega (arith, lt))) (commas_word words (and_second (nat_lt word 64) (are_small words) small))

-- a set that fits is read as it was printed, and is printed as one word
pub words_read : (set : List Bool) → words_fit set ≡ true → (words_of_word (words_text set) ≡ Some set) × (is_word (words_text set) ≡ true)
unfolding words_text own_words
words_read set e =
    let len = eqb-true (length set) 64 (and_first (length set == 64) (list_any (has_word set) (range_with_len 0 64)) e) in
    let some = and_second (length set == 64) (list_any (has_word set) (range_with_len 0 64)) e in
    let small = filtered_small (has_word set) 64 0 (omega arith) in
    let full = filtered_some (has_word set) (range_with_len 0 64) some in
    (joined_read (words_of set) small full ∙ ap (λ (s : List Bool). Some s) (filtered_added set (range_with_len 0 64) no_words ∙ own_is set len), joined_word (words_of set) small full)
