-- The forms of numbers of layouts.
use Rattle.std.specs.Prelude.{ℕ, Bool, true, false, not, List, [], if◌then◌else◌, Option, Some, None, codes}
use Rattle.std.proofs.Common.{lit<}
use Rattle.ir_ast.specs.declared.module.Module.{Module}
use Rattle.ir_ast.specs.declared.outside.LayoutNumber.{LayoutNumber}
use Rattle.ir_tokens.specs.Bytes.{Text}
use Rattle.grammar.specs.Grammar.{pure, ◌>>=◌, ◌>>◌, step, look}
use Rattle.grammar.specs.Many.{many}
use Rattle.grammar.specs.Takes.{Takes, first_takes}
use Rattle.name_text.specs.Numbers.{number_of_word}
use Rattle.name_text.specs.Reader.{word, begins, recorded, recorded_falls}
use Rattle.name_text.specs.Forms.{syntax, expect, expect_takes, line_end, update}
use Rattle.types.specs.LayoutNumbers.{is_layout_number}
use Rattle.certs.specs.NumbersFit.{has_layout, has_number}
use Rattle.certificate.specs.Forms.{unknown, free_by}
use Rattle.certificate.specs.Input.{Progress, Input, Form, with_number, without_numbers}
use Rattle.certificate.specs.Names.{layout_of_word}
use Rattle.certificate.specs.declared.mistake.Mistake.{Mistake}
use Rattle.certificate.specs.declared.naming.Naming.{Naming}
use Rattle.certificate.specs.declared.naming.Naming.TheVariants.{NoName, Unknown, Named}

-- the layout that is named has no number so far
abbrev pub unnumbered : Naming → Form ℕ
unnumbered NoName = syntax
unnumbered Unknown = unknown
unnumbered (Named layout) = look (λ i. has_layout i.read.numbers layout) (free_by layout)

-- the name of a layout that has no number so far
unfoldable pub new_layout : Module → Form ℕ
new_layout m = look (λ i. layout_of_word m (word i)) unnumbered

-- a number of 32 bits
abbrev pub short_number : Option ℕ → Option ℕ
short_number None = None
short_number (Some n) = if is_layout_number n then Some n else None

-- the number of 32 bits that a word is
abbrev pub short_of_word : Text → Option ℕ
short_of_word word = short_number (number_of_word word)

-- a number that no layout has so far
abbrev pub not_numbered : Option ℕ → Form ℕ
not_numbered None = syntax
not_numbered (Some n) = look (λ i. has_number i.read.numbers n) (free_by n)

-- a number of 32 bits that no layout has so far
unfoldable pub new_number : Form ℕ
new_number = look (λ i. short_of_word (word i)) not_numbered

-- the number of a layout, after the line's first word
abbrev pub number_after : Module → Form (Unit {0})
number_after m = do
  layout ← new_layout m
  number ← new_number
  line_end
  update (with_number (record { layout = layout; number = number }))

-- the number of a layout
unfoldable pub number_line : Module → Form (Unit {0})
number_line m = expect (codes "number") >> number_after m

-- no number of a layout comes here
abbrev pub past_numbers : Input → Bool
past_numbers i = not (begins (codes "number") i)

-- a line takes bytes
pub number_takes : (m : Module) → Takes (number_line m)
unfolding number_line
number_takes m = first_takes (expect (codes "number")) (λ _. number_after m) (expect_takes Progress Mistake (codes "number") (lit< tt))

-- numbers of layouts
unfoldable pub number_lines : Module → Form (Unit {0})
number_lines m = many past_numbers (number_line m) (number_takes m) >> pure tt

-- the numbers that are read
unfoldable pub taken_numbers : Form (List LayoutNumber)
taken_numbers = step (λ i. i.read.numbers) (recorded without_numbers) (recorded_falls without_numbers)

-- they are listed where the wide forms may stand, and nowhere else
abbrev pub numbers_by : Module → (wide : Bool) → Form (List LayoutNumber)
numbers_by m false = pure []
numbers_by m true = number_lines m >> taken_numbers

-- the numbers of layouts
unfoldable pub layout_numbers : Module → Form (List LayoutNumber)
layout_numbers m = numbers_by m m.wide
