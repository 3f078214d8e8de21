-- A text that is read word by word: what is left of it, and what is read of it so far.
use Rattle.std.specs.Prelude.{◌≡◌, ℕ, ◌<◌, ◌≤◌, Bool, true, false, ◌||◌, Result, length}
use Rattle.std.proofs.Common.{arith}
use Rattle.std.specs.Str.{bytes_eq}
use Rattle.grammar.specs.Grammar.{Grammar}
use Rattle.grammar.specs.Outcome as outcome
use Rattle.grammar.specs.Outcome.{Outcome}
use Rattle.ir_tokens.specs.Bytes.{Text}
use Rattle.name_text.specs.Falls as words
use Rattle.name_text.specs.Falls.{past_lines_len, after_word_falls, wanted_takes}
use Rattle.name_text.specs.Numbers.{is_nil}
use Rattle.name_text.specs.Words.{past_word, past_blanks, past_lines, word_at, ends_line}
use Rattle.name_text.specs.declared.found.WordFault.{WordFault}
use Rattle.name_text.specs.declared.found.WordFault.TheVariants.{Memory}
use Rattle.name_text.specs.declared.reader.Reader.{Reader}

-- how many bytes are left
abbrev pub left : {D : Type 0} → Reader D → ℕ
left i = length i.rest

-- a form of a text of which this is read, and in which there may be such mistakes
abbrev pub Form : (D M A : Type 0) → Type 1
Form D M A = Grammar (Reader D) (WordFault M) left A

-- What a function that reads ensures: the outcome, unless memory runs out.
abbrev pub Reads : {D M A : Type 0} → Outcome (Reader D) (WordFault M) A → Result A (WordFault M) → Reader D → Type 0
Reads = outcome.Reads Memory

-- whether the text ends here
abbrev pub ended : {D : Type 0} → Reader D → Bool
ended i = is_nil i.rest

-- the next word; none where a line or the text ends
abbrev pub word : {D : Type 0} → Reader D → Text
word i = word_at i.rest

-- whether this is the next word
abbrev pub begins : {D : Type 0} → (wanted : Text) → Reader D → Bool
begins wanted i = bytes_eq (word i) wanted

-- after the next word and the blanks that follow it
unfoldable pub after : {D : Type 0} → Reader D → Reader D
after i = record i { rest = past_blanks (past_word false i.rest) }

-- whether a line ends here, or the text
abbrev pub line_ends : {D : Type 0} → Reader D → Bool
line_ends i = is_nil i.rest || ends_line i.rest

-- after the line's end, at the next word
unfoldable pub next_line : {D : Type 0} → Reader D → Reader D
next_line i = record i { rest = past_lines false i.rest }

-- with this change of what is read
abbrev pub recorded : {D : Type 0} → (change : D → D) → Reader D → Reader D
recorded change i = record i { read = change i.read }

-- ---- what is left never grows, and after a word that has bytes it is shorter

module _ {D : Type 0} where
  pub after_falls : (i : Reader D) → left (after i) ≤ left i
  unfolding after
  after_falls i = after_word_falls i.rest

  pub next_line_falls : (i : Reader D) → left (next_line i) ≤ left i
  unfolding next_line
  next_line_falls i = past_lines_len false i.rest

  pub recorded_falls : (change : D → D) (i : Reader D) → left (recorded change i) ≤ left i
  recorded_falls change i = omega arith

  pub after_takes : (wanted : Text) → 0 < length wanted → (i : Reader D) → begins wanted i ≡ true → left (after i) < left i
  unfolding after
  after_takes wanted some i e = wanted_takes wanted some i.rest e

  pub word_takes : (i : Reader D) → 0 < length (word i) → left (after i) < left i
  unfolding after
  word_takes i some = words.word_takes i.rest some
