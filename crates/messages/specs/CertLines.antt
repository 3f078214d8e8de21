-- Where the lines of a certificate are, by their words.
use Rattle.std.specs.Prelude.{ℕ, ◌-◌, ◌==◌, Bool, true, false, ◌&&◌, if◌then◌else◌, [], ◌∷◌, length, Option, Some, None, codes}
use Rattle.std.specs.Str.{bytes_eq}
use Rattle.ir_tokens.specs.Bytes.{Text}
use Rattle.ir_tokens.specs.Position.{is_line_end}
use Rattle.name_text.specs.Words.{past_blanks, past_word, word_at}
use Rattle.messages.specs.Lines.{after_ends}
use Rattle.messages.specs.declared.cert_lines.CertLine.{CertLine}
use Rattle.messages.specs.declared.cert_lines.CertLine.TheVariants as line
use Rattle.messages.specs.declared.cert_lines.Sought.{Sought}
use Rattle.messages.specs.declared.cert_lines.Sought.TheVariants as sought

-- the first word of a line
abbrev pub first_word : Text → Text
first_word text = word_at (past_blanks text)

-- the second word of a line
abbrev pub second_word : Text → Text
second_word text = word_at (past_blanks (past_word false (past_blanks text)))

-- there is a byte
abbrev pub has_bytes : Text → Bool
has_bytes [] = false
has_bytes (byte ∷ bytes) = true

-- the line at the front of a text is sought: by its first two words, by its first one, or for having one
abbrev pub is_sought : Sought → (first second text : Text) → Bool
is_sought sought.Opens first second text = bytes_eq (first_word text) first && bytes_eq (second_word text) second
is_sought sought.Begins first second text = bytes_eq (first_word text) first
is_sought sought.Item first second text = has_bytes (first_word text)

-- a text from the line on that is sought for the time of this number, from 0; `begins` where a line begins
abbrev pub from_line : Sought → (first second : Text) → ℕ → (begins : Bool) → Text → Text
from_line s first second number begins [] = []
from_line s first second number begins (byte ∷ bytes) =
    if begins && is_sought s first second (byte ∷ bytes)
    then (if number == 0 then byte ∷ bytes else from_line s first second (number - 1) (is_line_end byte) bytes)
    else from_line s first second number (is_line_end byte) bytes

-- a text from the first line on that begins with these two words
abbrev pub from_opening : (first second text : Text) → Text
from_opening first second text = from_line sought.Opens first second 0 true text

-- the text from a line of the section of a function on; the claims of a block are the lines after its own that have a word
abbrev pub from_cert_line : (text function name : Text) → CertLine → Text
from_cert_line text function name line.Mark = from_opening (codes "function") function text
from_cert_line text function name line.Parameter = from_opening (codes "param") name (from_opening (codes "function") function text)
from_cert_line text function name line.Result = from_line sought.Begins (codes "result") [] 0 true (from_opening (codes "function") function text)
from_cert_line text function name line.Block = from_opening (codes "block") name (from_opening (codes "function") function text)
from_cert_line text function name (line.Claim number) =
    from_line sought.Item [] [] number true (after_ends 1 (from_opening (codes "block") name (from_opening (codes "function") function text)))

-- how many bytes come before the rest of a text, unless that is empty
abbrev pub before_rest : (text rest : Text) → Option ℕ
before_rest text [] = None
before_rest text (byte ∷ bytes) = Some (length text - length (byte ∷ bytes))

-- how many bytes come before a line of the section of a function, if it is there
abbrev pub cert_place : (text function name : Text) → CertLine → Option ℕ
cert_place text function name line = before_rest text (from_cert_line text function name line)
