-- A word is looked for among the words that begin with its letter.
use Rattle.std.proofs.Common.{◌≡◌, ℕ, ◌+◌, ◌-◌, ◌<◌, Bool, true, false, cond, List, [], ◌∷◌, map, filter, get_or, refl, sym, ap, subst, ◌∙◌, arith}
use Rattle.std.specs.Prelude.{Some, None, ◌==◌, ◌&&◌, slice_index, nat_le}
use Rattle.std.proofs.lemmas.List.FromFn.{get_or-map-range_with_len}
use Rattle.std.proofs.lemmas.Slice.Eq.{bytes_eq-Decides}
use Rattle.std.specs.List.{range_with_len, list_all}
use Rattle.std.specs.Str.{bytes_eq}
use Rattle.std.proofs.lemmas.Bool.{leb-true}
use Rattle.lemmas.specs.Numbers.{test_same}
use Rattle.ir_tokens.specs.Bytes.{Text}
use Rattle.ir_tokens.specs.Keywords.{keywords, kind_in, is_lowercase}
use Rattle.ir_tokens.specs.declared.token.Kind.{Kind}
use Rattle.ir_tokens.specs.declared.keyword.TheConstants.{WORDS}

abbrev pub Entries : Type 0
Entries = List (Text × Kind)

abbrev pub starts : ℕ → Text × Kind → Bool
starts letter entry = slice_index entry.0 0 == letter

abbrev pub starting : Entries → ℕ → Entries
starting entries letter = filter (starts letter) entries

abbrev pub rows : List Entries
rows = map (λ row. map (λ entry. (entry.0.now, entry.1)) row.now) WORDS

-- each row of the table holds the words that begin with its letter
table_is : rows ≡ map (starting keywords) (range_with_len 97 26)
unfolding keywords
table_is = refl

same_word : (a b : Text) → bytes_eq a b ≡ true → a ≡ b
same_word a b e = (bytes_eq-Decides a b).0 e

same_start : (entry : Text × Kind) (word : Text) → bytes_eq entry.0 word ≡ true → starts (slice_index word 0) entry ≡ true
same_start entry word e = rw (same_word entry.0 word e) (test_same (slice_index word 0))

-- the words that begin with other letters can be passed over
filter_by : (t u : Bool) (entry : Text × Kind) (entries : Entries) (word : Text) → bytes_eq entry.0 word ≡ t → starts (slice_index word 0) entry ≡ u
    → kind_in (starting entries (slice_index word 0)) word ≡ kind_in entries word
    → kind_in (cond u (entry ∷ starting entries (slice_index word 0)) (starting entries (slice_index word 0))) word ≡ cond t (Some entry.1) (kind_in entries word)
filter_by true true entry entries word e f h = rw e refl
filter_by false true entry entries word e f h = rw e h
filter_by true false entry entries word e f h = absurd (let q = sym f ∙ same_start entry word e in cc)
filter_by false false entry entries word e f h = h

pub kind_in-starting : (entries : Entries) (word : Text) → kind_in (starting entries (slice_index word 0)) word ≡ kind_in entries word
kind_in-starting [] word = refl
kind_in-starting (entry ∷ entries) word =
    filter_by (bytes_eq entry.0 word) (starts (slice_index word 0) entry) entry entries word refl refl (kind_in-starting entries word)

-- a word that begins with no lower-case letter is in no list of lower-case words
upper_by : (t : Bool) (entry : Text × Kind) (entries : Entries) (word : Text) → bytes_eq entry.0 word ≡ t → is_lowercase (slice_index entry.0 0) ≡ true → is_lowercase (slice_index word 0) ≡ false
    → kind_in entries word ≡ None → cond t (Some entry.1) (kind_in entries word) ≡ None
upper_by true entry entries word e l f h =
    absurd (let q = subst (λ (x : Text). is_lowercase (slice_index x 0) ≡ true) (same_word entry.0 word e) l in let r = sym f ∙ q in cc)
upper_by false entry entries word e l f h = h

both : (t u : Bool) → (t && u) ≡ true → (t ≡ true) × (u ≡ true)
both true u e = (refl, e)
both false u e = absurd cc

kind_in-upper : (entries : Entries) (word : Text) → list_all (λ entry. is_lowercase (slice_index entry.0 0)) entries ≡ true → is_lowercase (slice_index word 0) ≡ false → kind_in entries word ≡ None
kind_in-upper [] word e f = refl
kind_in-upper (entry ∷ entries) word e f =
    let parts = both (is_lowercase (slice_index entry.0 0)) (list_all (λ entry. is_lowercase (slice_index entry.0 0)) entries) e in
    upper_by (bytes_eq entry.0 word) entry entries word refl parts.0 f (kind_in-upper entries word parts.1 f)

lowercase_words : list_all (λ entry. is_lowercase (slice_index entry.0 0)) keywords ≡ true
unfolding keywords
lowercase_words = refl

pub no_keyword : (word : Text) → is_lowercase (slice_index word 0) ≡ false → None ≡ kind_in keywords word
no_keyword word f = sym (kind_in-upper keywords word lowercase_words f)

row_is : (word : Text) (letter at : ℕ) → slice_index word 0 ≡ letter → at + 97 ≡ letter → at < 26 → kind_in (get_or rows at []) word ≡ kind_in keywords word
row_is word letter at e f h =
    let row : get_or rows at [] ≡ starting keywords letter = ap (λ (table : List Entries). get_or table at []) table_is ∙ get_or-map-range_with_len (starting keywords) 97 26 at letter [] h (omega arith) in
    ap (λ (entries : Entries). kind_in entries word) row ∙ ap (λ (n : ℕ). kind_in (starting keywords n) word) (sym e) ∙ kind_in-starting keywords word

pub row_of : (word : Text) → is_lowercase (slice_index word 0) ≡ true → kind_in (get_or rows (slice_index word 0 - 97) []) word ≡ kind_in keywords word
row_of word e =
    let parts = both (nat_le 97 (slice_index word 0)) (nat_le (slice_index word 0) 122) e in
    let low = leb-true 97 (slice_index word 0) parts.0 in
    let high = leb-true (slice_index word 0) 122 parts.1 in
    row_is word (slice_index word 0) (slice_index word 0 - 97) refl (omega arith) (omega arith)
