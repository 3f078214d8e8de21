-- The forms of functions outside that are trusted.
use Rattle.std.specs.Prelude.{ℕ, Bool, true, false, not, ◌==◌, List, [], codes}
use Rattle.std.specs.List.{list_any}
use Rattle.std.proofs.Common.{lit<}
use Rattle.ir_ast.specs.declared.module.Module.{Module}
use Rattle.grammar.specs.Grammar.{pure, ◌>>=◌, ◌>>◌, step, look}
use Rattle.grammar.specs.Many.{many}
use Rattle.grammar.specs.Takes.{Takes, first_takes}
use Rattle.name_text.specs.Reader.{word, begins, recorded, recorded_falls}
use Rattle.name_text.specs.Forms.{syntax, expect, expect_takes, line_end, update}
use Rattle.certificate.specs.Forms.{unknown, free_by}
use Rattle.certificate.specs.Input.{Progress, Input, Form, with_foreign, without_foreign}
use Rattle.certificate.specs.Names.{outside_of_word}
use Rattle.certificate.specs.declared.mistake.Mistake.{Mistake}
use Rattle.certificate.specs.declared.naming.Naming.{Naming}
use Rattle.certificate.specs.declared.naming.Naming.TheVariants.{NoName, Unknown, Named}

-- the function outside that is named is not listed so far
abbrev pub outside_named : Naming → Form ℕ
outside_named NoName = syntax
outside_named Unknown = unknown
outside_named (Named symbol) = look (λ i. list_any (λ t. t == symbol) i.read.foreign) (free_by symbol)

-- the name of a function outside that is not listed so far
unfoldable pub new_outside : Module → Form ℕ
new_outside m = look (λ i. outside_of_word m (word i)) outside_named

-- a function outside, after the line's first word
abbrev pub foreign_after : Module → Form (Unit {0})
foreign_after m = do
  symbol ← new_outside m
  expect (codes "none")
  line_end
  update (with_foreign symbol)

-- a function outside that is trusted
unfoldable pub foreign_line : Module → Form (Unit {0})
foreign_line m = expect (codes "foreign") >> foreign_after m

-- no function outside comes here
abbrev pub past_foreign : Input → Bool
past_foreign i = not (begins (codes "foreign") i)

-- a line takes bytes
pub foreign_takes : (m : Module) → Takes (foreign_line m)
unfolding foreign_line
foreign_takes m = first_takes (expect (codes "foreign")) (λ _. foreign_after m) (expect_takes Progress Mistake (codes "foreign") (lit< tt))

-- functions outside
unfoldable pub foreign_lines : Module → Form (Unit {0})
foreign_lines m = many past_foreign (foreign_line m) (foreign_takes m) >> pure tt

-- the functions outside that are read
unfoldable pub taken_foreign : Form (List ℕ)
taken_foreign = step (λ i. i.read.foreign) (recorded without_foreign) (recorded_falls without_foreign)

-- they are listed where the wide forms may stand, and nowhere else
abbrev pub foreign_by : Module → (wide : Bool) → Form (List ℕ)
foreign_by m false = pure []
foreign_by m true = foreign_lines m >> taken_foreign

-- the functions outside that are trusted
unfoldable pub foreign_names : Module → Form (List ℕ)
foreign_names m = foreign_by m m.wide
