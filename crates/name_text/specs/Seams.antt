-- Where words end, and what follows them.
use Rattle.std.proofs.Common.{◌≡◌, ℕ, ◌-◌, Bool, true, false, not, ◌&&◌, ◌||◌, [], ◌∷◌, ◌++◌, length, refl, ap, ◌∙◌, arith, length-append, inl, inr}
use Rattle.std.specs.Prelude.{◌==◌}
use Rattle.std.specs.List.{list_all}
use Rattle.std.proofs.lemmas.Bool.{cases_eq, ne_eqb}
use Rattle.std.proofs.lemmas.List.{take_at}
use Rattle.lemmas.specs.Bools.{and_parts, not_true}
use Rattle.ir_tokens.specs.Bytes.{Text, is_letter, is_digit}
use Rattle.name_text.specs.Words.{may_end, turned, past_word, word_at, past_blanks, past_lines, closes, is_word, stops}

-- ---- words

four : (a b c d : Bool) → (a || b || c || d) ≡ false → (a ≡ false) × (b ≡ false) × (c ≡ false) × (d ≡ false)
four true b c d e = absurd cc
four false true c d e = absurd cc
four false false true d e = absurd cc
four false false false true e = absurd cc
four false false false false e = (refl, refl, refl, refl)

-- a byte that ends no word is none of these
pub inner_byte : (b : ℕ) → may_end b ≡ false → ((b == 32) ≡ false) × ((b == 10) ≡ false) × ((b == 13) ≡ false) × ((b == 59) ≡ false)
inner_byte b e = four (b == 32) (b == 10) (b == 13) (b == 59) e

-- so the word goes on there, whatever follows
pub goes_on : (b : ℕ) (t : Text) → may_end b ≡ false → stops (b ∷ t) ≡ false
goes_on b t e = let no = inner_byte b e in rw (no.0, no.1, no.2, no.3) refl

-- and so it does inside quotes
stays : (quoted : Bool) (b : ℕ) (t : Text) → (not quoted && may_end b) ≡ false → (not quoted && stops (b ∷ t)) ≡ false
stays true b t e = refl
stays false b t e = goes_on b t e

pub past_word_on : (quoted : Bool) (w t : Text) → closes quoted w ≡ true → stops t ≡ true → past_word quoted (w ++ t) ≡ t
past_word_on true [] t e s = absurd cc
past_word_on false [] [] e s = refl
past_word_on false [] (b ∷ t) e s = rw s refl
past_word_on quoted (b ∷ w) t e s =
    let parts = and_parts (not (not quoted && may_end b)) (closes (turned quoted b) w) e in
    let on = stays quoted b (w ++ t) (not_true (not quoted && may_end b) parts.0) in
    rw on (past_word_on (turned quoted b) w t parts.1 s)

pub all_bytes : (w : Text) → is_word w ≡ true → closes false w ≡ true
all_bytes [] e = refl
all_bytes (b ∷ w) e = e

-- the word before such a text
pub word_on : (w t : Text) → closes false w ≡ true → stops t ≡ true → word_at (w ++ t) ≡ w
word_on w t e s =
    let n : length (w ++ t) - length t ≡ length w = omega (arith, length-append w t) in
    rw (past_word_on false w t e s, n) (take_at w t (length w) refl)

-- there is no blank and no empty line before a word
pub blanks_on : (w t : Text) → is_word w ≡ true → past_blanks (w ++ t) ≡ w ++ t
blanks_on [] t e = absurd cc
blanks_on (b ∷ w) t e =
    let no = inner_byte b (not_true (may_end b) (and_parts (not (may_end b)) (closes (turned false b) w) e).0) in
    rw (no.3, no.0) refl

pub lines_on : (w t : Text) → is_word w ≡ true → past_lines false (w ++ t) ≡ w ++ t
lines_on [] t e = absurd cc
lines_on (b ∷ w) t e =
    let no = inner_byte b (not_true (may_end b) (and_parts (not (may_end b)) (closes (turned false b) w) e).0) in
    rw (no.3, no.0, no.1, no.2) refl

-- ---- bytes of words

-- a byte at which no word ends and no quoted text begins
abbrev pub is_word_byte : ℕ → Bool
is_word_byte b = not (may_end b) && not (b == 34)

-- such bytes are within a word
pub bytes_close : (w : Text) → list_all is_word_byte w ≡ true → closes false w ≡ true
bytes_close [] e = refl
bytes_close (b ∷ w) e =
    let parts = and_parts (is_word_byte b) (list_all is_word_byte w) e in
    let kinds = and_parts (not (may_end b)) (not (b == 34)) parts.0 in
    rw (not_true (may_end b) kinds.0, not_true (b == 34) kinds.1) (bytes_close w parts.1)

-- a letter or a digit is none of the other bytes
pub is_no : (b c : ℕ) → (is_letter c || is_digit c) ≡ false → (is_letter b || is_digit b) ≡ true → (b == c) ≡ false
is_no b c other here = elim (cases_eq b c) [
  | inl same ↦ let q : (is_letter b || is_digit b) ≡ false = ap (λ x. is_letter x || is_digit x) same ∙ other in absurd cc
  | inr differ ↦ ne_eqb b c differ
]

plain_byte : (b : ℕ) → (is_letter b || is_digit b) ≡ true → is_word_byte b ≡ true
plain_byte b e = rw (is_no b 32 refl e, is_no b 10 refl e, is_no b 13 refl e, is_no b 59 refl e, is_no b 34 refl e) refl

-- letters and digits are such bytes
pub plain_bytes : (w : Text) → list_all (λ byte. is_letter byte || is_digit byte) w ≡ true → list_all is_word_byte w ≡ true
plain_bytes [] e = refl
plain_bytes (b ∷ w) e =
    let parts = and_parts (is_letter b || is_digit b) (list_all (λ byte. is_letter byte || is_digit byte) w) e in
    rw (plain_byte b parts.0) (plain_bytes w parts.1)
