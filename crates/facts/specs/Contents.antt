-- The rows of which facts are made, as what is known.
use Rattle.facts.specs.declared.contents.Contents.{Contents}
use Rattle.std.specs.Prelude.{◌≡◌, ℕ, length}
use Rattle.facts.specs.Facts.{FactSet}

-- what is known by these rows
abbrev pub set_of : Contents → FactSet
set_of contents = record { values = contents.values.values; slots = contents.slots; classes = contents.values.classes; tests = contents.values.tests }

-- there are rows for this number of values and slots
abbrev pub HasRows : (values slots : ℕ) → Contents → Type 0
HasRows values slots contents = (length contents.values.values ≡ values) × (length contents.slots ≡ slots)
