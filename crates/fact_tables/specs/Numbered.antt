-- Rows with their numbers.
use Rattle.std.specs.Prelude.{ℕ, List, [], ◌∷◌, replicate, slice_set}
use Rattle.fact_tables.specs.declared.numbered.Numbered.{Numbered}
use Rattle.fact_tables.specs.declared.row.Row.{Row}
use Rattle.fact_tables.specs.Sheets.{row_at, blank}

-- a row, with its number
abbrev pub numbered_at : List Row → ℕ → Numbered
numbered_at rows u = record { number = u; row = row_at rows u }

-- its number
abbrev pub number_of : Numbered → ℕ
number_of one = one.number

-- each row is written where its number says
abbrev pub written : List Numbered → List Row → List Row
written [] rows = rows
written (one ∷ numbered) rows = written numbered (slice_set rows one.number one.row)

-- these rows among blank ones, in all this many
abbrev pub among_blank : (count : ℕ) → List Numbered → List Row
among_blank count numbered = written numbered (replicate count blank)
