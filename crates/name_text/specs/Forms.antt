-- The forms of words and lines, whatever is read of them.
use Rattle.std.specs.Prelude.{◌≡◌, ℕ, ◌<◌, true, length, Option, Some, None}
use Rattle.grammar.specs.Grammar.{pure, ◌>>◌, step, checked, refuse}
use Rattle.grammar.specs.Takes.{Takes, TakesWhere, first_takes_where, checked_takes, step_takes}
use Rattle.ir_tokens.specs.Bytes.{Text}
use Rattle.name_text.specs.Reader.{Form, left, word, begins, after, line_ends, next_line, recorded, after_falls, next_line_falls, recorded_falls, after_takes, word_takes}
use Rattle.name_text.specs.declared.found.WordFault.{WordFault}
use Rattle.name_text.specs.declared.found.WordFault.TheVariants.{Syntax, Wrong}

module _ {D M : Type 0} where
  -- no form continues with the next word
  abbrev pub syntax : {A : Type 0} → Form D M A
  syntax = refuse (λ i. Syntax (left i))

  -- the next word has this mistake
  abbrev pub wrong : {A : Type 0} → (mistake : ℕ → M) → Form D M A
  wrong mistake = refuse (λ i. Wrong (mistake (left i)))

  -- the next word, whatever it is
  unfoldable pub skip : Form D M (Unit {0})
  skip = step (λ _. tt) after after_falls

  -- the next word, which means this value
  abbrev pub taken : {A : Type 0} → A → Form D M A
  taken a = skip >> pure a

  -- the next word, if it means some value
  abbrev pub taken_as : {A : Type 0} → Option A → Form D M A
  taken_as None = syntax
  taken_as (Some a) = taken a

  -- this word
  unfoldable pub expect : (wanted : Text) → Form D M (Unit {0})
  expect wanted = checked (begins wanted) (λ i. Syntax (left i)) >> skip

  -- the end of a line or of the text, and empty lines
  unfoldable pub line_end : Form D M (Unit {0})
  line_end = checked line_ends (λ i. Syntax (left i)) >> step (λ _. tt) next_line next_line_falls

  -- what is read changes so; nothing of the text is taken
  abbrev pub update : (change : D → D) → Form D M (Unit {0})
  update change = step (λ _. tt) (recorded change) (recorded_falls change)

-- ---- words take something from what is left

module _ (D M : Type 0) where
  -- a word takes bytes where it is this one
  pub word_taken : (wanted : Text) → 0 < length wanted → TakesWhere (λ i. begins wanted i ≡ true) (skip {D = D} {M = M})
  unfolding skip
  word_taken wanted some = step_takes (WordFault M) (λ i. begins wanted i ≡ true) (λ _. tt) after after_falls (after_takes wanted some)

  -- a word that is wanted takes bytes
  pub expect_takes : (wanted : Text) → 0 < length wanted → Takes (expect {D = D} {M = M} wanted)
  unfolding expect
  expect_takes wanted some = checked_takes (begins wanted) (λ i. Syntax (left i)) skip (word_taken wanted some)

  -- the next word takes bytes where it has some
  pub skip_takes : TakesWhere (λ i. 0 < length (word i)) (skip {D = D} {M = M})
  unfolding skip
  skip_takes = step_takes (WordFault M) (λ i. 0 < length (word i)) (λ _. tt) after after_falls word_takes

  -- so it does where it means a value
  pub taken_takes : {A : Type 0} (a : A) → TakesWhere (λ i. 0 < length (word i)) (taken {D = D} {M = M} a)
  taken_takes a = first_takes_where (λ i. 0 < length (word i)) skip (λ _. pure a) skip_takes
