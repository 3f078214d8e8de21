-- The words and lines of edits.
use Rattle.std.specs.Prelude.{◌≡◌, ℕ, ◌-◌, ◌<◌, Bool, true, false, not, if◌then◌else◌, length, take, codes, Option, Some, None, Result}
use Rattle.std.specs.Str.{bytes_eq}
use Rattle.grammar.specs.Grammar.{Grammar, pure, ◌>>◌, step, checked, look, refuse}
use Rattle.grammar.specs.Many.{many}
use Rattle.grammar.specs.Outcome as outcome
use Rattle.grammar.specs.Outcome.{Outcome}
use Rattle.grammar.specs.Takes.{Takes, checked_takes, step_takes}
use Rattle.ir_tokens.specs.Bytes.{Text}
use Rattle.name_text.specs.Falls.{after_word, after_word_falls, wanted_takes, past_lines_len}
use Rattle.name_text.specs.Naming.{name_in}
use Rattle.name_text.specs.Numbers.{is_nil}
use Rattle.name_text.specs.Words.{word_at, past_lines}
use Rattle.name_text.specs.declared.naming.Sigil.TheVariants as sigil
use Rattle.recheck.specs.Lines.{line_ends, is_dot, past_line, past_line_falls, past_line_takes}
use Rattle.recheck.specs.declared.frame_fault.FrameFault.{FrameFault}
use Rattle.recheck.specs.declared.frame_fault.FrameFault.TheVariants.{Syntax, Memory}
use Rattle.recheck.specs.declared.part.Part.{Part}
use Rattle.recheck.specs.declared.part.Part.TheVariants.{Code, Cert, Both}

-- how many bytes are left
abbrev pub left : Text → ℕ
left bytes = length bytes

-- a form of a text of edits, of which this is left
abbrev pub Form : Type 0 → Type 1
Form A = Grammar Text FrameFault left A

-- What a function that reads ensures: the outcome, unless memory runs out.
abbrev pub Reads : {A : Type 0} → Outcome Text FrameFault A → Result A FrameFault → Text → Type 0
Reads = outcome.Reads Memory

-- the fault of what stands next
abbrev pub here : Text → FrameFault
here bytes = Syntax (left bytes)

-- ---- words

-- the next word, whatever it is
unfoldable pub skip : Form (Unit {0})
skip = step (λ _. tt) after_word after_word_falls

-- the next word, if it means some value
abbrev pub taken_as : {A : Type 0} → Option A → Form A
taken_as None = refuse here
taken_as (Some a) = skip >> pure a

-- this word
unfoldable pub expect : (wanted : Text) → Form (Unit {0})
expect wanted = checked (λ bytes. bytes_eq (word_at bytes) wanted) here >> skip

-- a word that is wanted takes bytes
pub expect_takes : (wanted : Text) → 0 < length wanted → Takes (expect wanted)
unfolding expect skip
expect_takes wanted some =
    checked_takes (λ bytes. bytes_eq (word_at bytes) wanted) here skip
    (step_takes FrameFault (λ bytes. bytes_eq (word_at bytes) wanted ≡ true) (λ _. tt) after_word after_word_falls (wanted_takes wanted some))

-- the part that a word is
abbrev pub part_of_word : (word : Text) → Option Part
part_of_word word =
    if bytes_eq word (codes "code") then Some Code else (if bytes_eq word (codes "cert") then Some Cert else (if bytes_eq word (codes "both") then Some Both else None))

-- the word that tells what the edit replaces
unfoldable pub part : Form Part
part = look (λ bytes. part_of_word (word_at bytes)) taken_as

-- the name of a function
unfoldable pub name : Form Text
name = look (λ bytes. name_in sigil.Global (word_at bytes)) taken_as

-- the end of a line or of the text
unfoldable pub line_end : Form (Unit {0})
line_end = checked line_ends here >> step (λ _. tt) past_line past_line_falls

-- blanks, comments and line ends, if there are any
unfoldable pub gap : Form (Unit {0})
gap = step (λ _. tt) (past_lines false) (past_lines_len false)

-- ---- lines of which nothing is asked

-- whether the text goes on here
abbrev pub goes_on : Text → Bool
goes_on bytes = not (is_nil bytes)

-- a line, whatever stands on it
unfoldable pub line : Form (Unit {0})
line = checked goes_on here >> step (λ _. tt) past_line past_line_falls

-- a line takes bytes
pub line_takes : Takes line
unfolding line
line_takes =
    checked_takes goes_on here (step (λ _. tt) past_line past_line_falls)
    (step_takes FrameFault (λ bytes. goes_on bytes ≡ true) (λ _. tt) past_line past_line_falls past_line_takes)

-- the lines before the next `.` that stands alone on its line
unfoldable pub lines : Form (Unit {0})
lines = many is_dot line line_takes >> pure tt

-- the bytes from here to there
abbrev pub between : (from to : Text) → Text
between from to = take (left from - left to) from

-- the bytes of the lines before the next `.`, which is read too
abbrev pub text_from : (from : Text) → Form Text
text_from from = lines >> step (between from) past_line past_line_falls

-- the lines before the next `.`, and the line of the `.` itself; what is read are the bytes of the lines
unfoldable pub text : Form Text
text = look (λ bytes. bytes) text_from
