-- The words, blanks and line ends of a text.
use Rattle.std.specs.Prelude.{ℕ, ◌-◌, Bool, true, false, not, ◌||◌, ◌&&◌, ◌==◌, if◌then◌else◌, [], ◌∷◌, length, take}
use Rattle.ir_tokens.specs.Bytes.{Text}

-- whether this byte is at the front
abbrev pub begins_with : ℕ → Text → Bool
begins_with byte [] = false
begins_with byte (first ∷ bytes) = first == byte

-- a line ends here, by LF or by CR and LF
abbrev pub ends_line : Text → Bool
ends_line [] = false
ends_line (byte ∷ bytes) = byte == 10 || (byte == 13 && begins_with 10 bytes)

-- a word ends before these bytes: at a blank, at a comment, or where a line or the text ends
abbrev pub stops : Text → Bool
stops [] = true
stops (byte ∷ bytes) = byte == 32 || byte == 59 || ends_line (byte ∷ bytes)

-- a quote begins quoted text, or ends it
abbrev pub turned : (quoted : Bool) → ℕ → Bool
turned quoted byte = if byte == 34 then not quoted else quoted

-- what follows a word; inside quotes every byte belongs to it
abbrev pub past_word : (quoted : Bool) → Text → Text
past_word quoted [] = []
past_word quoted (byte ∷ bytes) = if not quoted && stops (byte ∷ bytes) then byte ∷ bytes else past_word (turned quoted byte) bytes

-- the word at the front of a text
abbrev pub word_at : Text → Text
word_at bytes = take (length bytes - length (past_word false bytes)) bytes

-- where the line of a comment ends
abbrev pub past_comment : Text → Text
past_comment [] = []
past_comment (byte ∷ bytes) = if ends_line (byte ∷ bytes) then byte ∷ bytes else past_comment bytes

-- what follows the blanks and the comment of a line
abbrev pub past_blanks : Text → Text
past_blanks [] = []
past_blanks (byte ∷ bytes) = if byte == 59 then past_comment bytes else (if byte == 32 then past_blanks bytes else byte ∷ bytes)

-- the first word after blanks, comments and line ends
abbrev pub past_lines : (comment : Bool) → Text → Text
past_lines comment [] = []
past_lines true (byte ∷ bytes) = past_lines (not (byte == 10)) bytes
past_lines false (byte ∷ bytes) = if byte == 32 || byte == 59 || ends_line (byte ∷ bytes) then past_lines (byte == 59) bytes else byte ∷ bytes

-- ---- one word

-- words may end at a blank, LF, CR or `;` alone
abbrev pub may_end : ℕ → Bool
may_end byte = byte == 32 || byte == 10 || byte == 13 || byte == 59

-- outside quotes none of these bytes may end a word, and quotes are closed after them
abbrev pub closes : (quoted : Bool) → Text → Bool
closes quoted [] = not quoted
closes quoted (byte ∷ bytes) = not (not quoted && may_end byte) && closes (turned quoted byte) bytes

-- the bytes of one word
abbrev pub is_word : Text → Bool
is_word [] = false
is_word (byte ∷ bytes) = closes false (byte ∷ bytes)
