-- Where printed words end, and what follows them.
use Rattle.std.proofs.Common.{◌≡◌, ℕ, ◌-◌, ◌<◌, ◌^◌, true, false, not, [], ◌∷◌, ◌++◌, length, take, Some, refl, ap, ◌∙◌, arith, length-append}
use Rattle.std.specs.Prelude.{◌==◌, ◌||◌}
use Rattle.std.specs.List.{list_all}
use Rattle.std.specs.Fmt.{decimal}
use Rattle.std.proofs.Math.Seq.{take-append_seam}
use Rattle.lemmas.specs.Bools.{and_parts, not_true}
use Rattle.ir_tokens.specs.Bytes.{Text}
use Rattle.name_text.specs.Words.{may_end, past_word, word_at, past_blanks, ends_line, stops}
use Rattle.name_text.specs.Seams.{inner_byte, past_word_on, is_word_byte, bytes_close}
use Rattle.name_text.specs.Spelled.{number_is_one, number_is}
use Rattle.name_text.specs.Numbers.{is_nil}
use Rattle.trace_text.specs.Numbers.{count_of_word, capped}

-- a word ends where such a text begins
abbrev pub IsWord : Text → Type 0
IsWord w = (rest : Text) → stops rest ≡ true → past_word false (w ++ rest) ≡ rest

-- a word of inner bytes
pub inner_word : (w : Text) → list_all is_word_byte w ≡ true → IsWord w
inner_word w e rest ends = past_word_on false w rest (bytes_close w e) ends

-- the word before such a text
pub word_before : (w rest : Text) → IsWord w → stops rest ≡ true → word_at (w ++ rest) ≡ w
word_before w rest word ends =
    let long : length (w ++ rest) - length (past_word false (w ++ rest)) ≡ length w = let same = ap length (word rest ends) in omega (arith, same, length-append w rest) in
    ap (λ (n : ℕ). take n (w ++ rest)) long ∙ take-append_seam w rest

-- what is no blank and no comment stays
pub inner_stays : (w rest : Text) → 0 < length w → list_all is_word_byte w ≡ true → past_blanks (w ++ rest) ≡ w ++ rest
inner_stays [] rest some e = absurd (omega (arith, some))
inner_stays (byte ∷ w) rest some e =
    let parts = and_parts (is_word_byte byte) (list_all is_word_byte w) e in
    let no = inner_byte byte (not_true (may_end byte) (and_parts (not (may_end byte)) (not (byte == 34)) parts.0).0) in
    rw (no.3, no.0) refl

-- no line ends before an inner byte, nor does the text
pub inner_goes_on : (w rest : Text) → 0 < length w → list_all is_word_byte w ≡ true → (is_nil (w ++ rest) || ends_line (w ++ rest)) ≡ false
inner_goes_on [] rest some e = absurd (omega (arith, some))
inner_goes_on (byte ∷ w) rest some e =
    let parts = and_parts (is_word_byte byte) (list_all is_word_byte w) e in
    let no = inner_byte byte (not_true (may_end byte) (and_parts (not (may_end byte)) (not (byte == 34)) parts.0).0) in
    rw (no.1, no.2) refl

-- ---- numbers

pub count_read : (n : ℕ) → n < 2 ^ 32 → count_of_word (decimal n) ≡ Some n
count_read n less =
    let wide : n < 2 ^ 64 = omega (arith, less) in
    let same : capped n ≡ n = omega (arith, less) in
    rw (number_is_one n wide, number_is n wide) (ap (λ (k : ℕ). Some k) same)
