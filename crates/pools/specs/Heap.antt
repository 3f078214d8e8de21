-- A heap as it is set up: its layouts, its pools of cells, its globals and its threads; and what each word may hold.
use Rattle.std.specs.Prelude.{ℕ, zero, suc, ◌-◌, ◌^◌, ◌<◌, ◌≡◌, Bool, false, Option, Some, None, List, [], ◌∷◌, sum, slice_get, slice_index, slice_index_or, if◌then◌else◌, nat_lt}
use Rattle.pools.specs.declared.word_kind.WordKind.{WordKind}
use Rattle.pools.specs.declared.word_kind.WordKind.TheVariants.{Integer, Reference}
use Rattle.pools.specs.Layouts.{words_of}

-- cell 0 is the cell of the globals
pub record Setup : Type 0 where
  pub threads : ℕ
  pub late : List Bool  -- which threads are absent at the start; one that is not named is present
  pub layouts : List (List WordKind)  -- the words of each layout
  pub pools : List ℕ  -- how many cells each layout has
  pub globals : List WordKind  -- the words of cell 0
  pub values : List ℕ  -- and what they hold at the start

-- the thread is absent at the start
unfoldable pub is_late : Setup → ℕ → Bool
is_late s t = slice_index_or s.late t false

-- how many cells there are, cell 0 among them
abbrev pub cells_in : List ℕ → ℕ
cells_in pools = suc (sum pools)

-- and of a heap
abbrev pub cells : Setup → ℕ
cells s = cells_in s.pools

-- the layout of a cell, by its place in the row of all pools
abbrev pub layout_at : List ℕ → ℕ → ℕ
layout_at [] place = 0
layout_at (count ∷ pools) place = if nat_lt place count then 0 else suc (layout_at pools (place - count))

-- cells are numbered from 1, the first layout's pool first
unfoldable pub layout_of : Setup → ℕ → ℕ
layout_of s cell = layout_at s.pools (cell - 1)

-- the cell is one of this layout's pool
abbrev pub IsOfLayout : Setup → ℕ → ℕ → Type 0
IsOfLayout s layout cell = (0 < cell) × (cell < cells s) × (layout_of s cell ≡ layout)

-- what the words of a cell hold
abbrev pub words_of_cell : Setup → ℕ → List WordKind
words_of_cell s zero = s.globals
words_of_cell s (suc cell) = words_of s.layouts (layout_of s (suc cell))

-- what this word of this cell holds; None outside the cell
unfoldable pub kind_of : Setup → ℕ → ℕ → Option WordKind
kind_of s cell word = slice_get (words_of_cell s cell) word

-- what a global may hold at the start: a number that fits it, and null where it is a reference
abbrev pub IsStartOf : Option WordKind → ℕ → Type 0
IsStartOf None value = value ≡ 0
IsStartOf (Some (Integer bits)) value = value < 2 ^ bits
IsStartOf (Some (Reference layout)) value = value ≡ 0

-- the values of the globals fit
abbrev pub IsSetup : Setup → Type 0
IsSetup s = (word : ℕ) → IsStartOf (kind_of s 0 word) (slice_index s.values word)
