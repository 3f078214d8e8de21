-- The words of all cells, in rows.
use Rattle.std.specs.Prelude.{ℕ, List, [], slice_set, slice_index_or}
use Rattle.runs.specs.Machine.{WordValue}
use Rattle.runs.specs.Moves.{null}

-- what a word of a cell holds; null outside the rows
abbrev pub word_at : List (List WordValue) → (cell word : ℕ) → WordValue
word_at rows cell word = slice_index_or (slice_index_or rows cell []) word null

-- the rows with another reference in one word
abbrev pub with_word : List (List WordValue) → (cell word : ℕ) → WordValue → List (List WordValue)
with_word rows cell word value = slice_set rows cell (slice_set (slice_index_or rows cell []) word value)
