-- What follows a word, blanks or a line's end is no longer than the text. After a word that has bytes it is shorter.
use Rattle.std.specs.Prelude.{◌≡◌, ℕ, zero, suc, nat_eq, refl, ◌-◌, ◌<◌, ◌≤◌, Bool, true, false, cond, not, ◌||◌, ◌&&◌, ◌==◌, [], ◌∷◌, length, take}
use Rattle.std.proofs.Common.{arith, ap}
use Rattle.std.specs.Str.{bytes_eq}
use Rattle.lemmas.specs.Bools.{and_second}
use Rattle.ir_tokens.specs.Bytes.{Text}
use Rattle.name_text.specs.Words.{stops, turned, past_word, word_at, past_comment, past_blanks, past_lines, ends_line}

-- a bound of both texts bounds the one that is chosen
one_of : (t : Bool) (n : ℕ) (x y : Text) → length x ≤ n → length y ≤ n → length (cond t x y) ≤ n
one_of true n x y h k = h
one_of false n x y h k = k

-- no more is left after a word
past_word_len : (quoted : Bool) (bytes : Text) → length (past_word quoted bytes) ≤ length bytes
past_word_len quoted [] = omega arith
past_word_len quoted (byte ∷ bytes) =
    let rest = past_word_len (turned quoted byte) bytes in
    one_of (not quoted && stops (byte ∷ bytes)) (length (byte ∷ bytes)) (byte ∷ bytes) (past_word (turned quoted byte) bytes) (omega arith) (omega (arith, rest))

-- no more is left after a comment
past_comment_len : (bytes : Text) → length (past_comment bytes) ≤ length bytes
past_comment_len [] = omega arith
past_comment_len (byte ∷ bytes) =
    let rest = past_comment_len bytes in
    one_of (ends_line (byte ∷ bytes)) (length (byte ∷ bytes)) (byte ∷ bytes) (past_comment bytes) (omega arith) (omega (arith, rest))

-- no more is left after blanks
past_blanks_len : (bytes : Text) → length (past_blanks bytes) ≤ length bytes
past_blanks_len [] = omega arith
past_blanks_len (byte ∷ bytes) =
    let comment = past_comment_len bytes in
    let rest = past_blanks_len bytes in
    one_of (byte == 59) (length (byte ∷ bytes)) (past_comment bytes) (cond (byte == 32) (past_blanks bytes) (byte ∷ bytes)) (omega (arith, comment))
    (one_of (byte == 32) (length (byte ∷ bytes)) (past_blanks bytes) (byte ∷ bytes) (omega (arith, rest)) (omega arith))

-- no more is left after empty lines
pub past_lines_len : (comment : Bool) (bytes : Text) → length (past_lines comment bytes) ≤ length bytes
past_lines_len comment [] = omega arith
past_lines_len true (byte ∷ bytes) = let rest = past_lines_len (not (byte == 10)) bytes in omega (arith, rest)
past_lines_len false (byte ∷ bytes) =
    let rest = past_lines_len (byte == 59) bytes in
    one_of (byte == 32 || byte == 59 || ends_line (byte ∷ bytes)) (length (byte ∷ bytes)) (past_lines (byte == 59) bytes) (byte ∷ bytes) (omega (arith, rest)) (omega arith)

-- texts with the same bytes are equally long
same_len : (a b : Text) → bytes_eq a b ≡ true → length a ≡ length b
same_len [] [] e = refl
same_len [] (y ∷ ys) e = absurd cc
same_len (x ∷ xs) [] e = absurd cc
same_len (x ∷ xs) (y ∷ ys) e = ap suc (same_len xs ys (and_second (nat_eq x y) (bytes_eq xs ys) e))

-- no more than n bytes are among the first n
take_len : (n : ℕ) (bytes : Text) → length (take n bytes) ≤ n
take_len zero bytes = omega arith
take_len (suc n) [] = omega arith
take_len (suc n) (byte ∷ bytes) = let rest = take_len n bytes in omega (arith, rest)

-- what follows the next word and the blanks after it
abbrev pub after_word : Text → Text
after_word bytes = past_blanks (past_word false bytes)

-- no more is left after a word and the blanks after it
pub after_word_falls : (bytes : Text) → length (after_word bytes) ≤ length bytes
after_word_falls bytes =
    let word = past_word_len false bytes in
    let blanks = past_blanks_len (past_word false bytes) in
    omega (arith, word, blanks)

-- after a word that has bytes less is left
pub word_takes : (bytes : Text) → 0 < length (word_at bytes) → length (after_word bytes) < length bytes
word_takes bytes some =
    let within = take_len (length bytes - length (past_word false bytes)) bytes in
    let blanks = past_blanks_len (past_word false bytes) in
    omega (arith, within, blanks, some)

-- so is it after this word, which has bytes
pub wanted_takes : (wanted : Text) → 0 < length wanted → (bytes : Text) → bytes_eq (word_at bytes) wanted ≡ true → length (after_word bytes) < length bytes
wanted_takes wanted some bytes e =
    let same = same_len (word_at bytes) wanted e in
    word_takes bytes (omega (arith, same, some))
