-- Stores of references into cells: which may go without a barrier, and what is known after one.
use Rattle.std.specs.Prelude.{◌↔◌, ℕ, Bool, false, not, ◌&&◌}
use Rattle.fact_tables.specs.declared.known.Known.{Known}
use Rattle.fact_tables.specs.declared.known.Known.TheVariants.{Cell}
use Rattle.fact_tables.specs.Rows.{known_at, class_at}
use Rattle.facts.specs.Facts.{FactSet, drop_fresh_of}
use Rattle.facts.specs.Statements.{Statement, IsCurrent, IsFresh, Says, FreshOf}

-- what is known of a value is that it is a reference that is not stale, of a class that is fresh
abbrev pub is_fresh_cell : FactSet → Known → Bool
is_fresh_cell facts (Cell class layout stale) = (class_at facts.classes class).fresh && not stale
is_fresh_cell facts _ = false

-- a reference may be stored without a barrier in the cell to which a value refers: nothing else finds that cell
abbrev pub may_store_plain : FactSet → (v : ℕ) → Bool
may_store_plain facts v = is_fresh_cell facts (known_at facts.values v)

-- the same as what is said: the value is fresh, and is not stale
abbrev pub IsOwnCell : FactSet → (v : ℕ) → Type 0
IsOwnCell facts v = Says facts (IsFresh v) × Says facts (IsCurrent v)

-- what is known after a store of a value where others may find it
abbrev pub publish : (v : ℕ) → FactSet → FactSet
publish v facts = drop_fresh_of (known_at facts.values v) facts

-- exactly what says that the value, or what is the same, is fresh ends
abbrev pub EndsFresh : (v : ℕ) → (before after : FactSet) → Type 0
EndsFresh v before after = (statement : Statement) → Says after statement ↔ (Says before statement × (FreshOf before v statement → ⊥))
