-- The collector's token, as contracts see it; and where the collector may be.
use Rattle.std.specs.Prelude.{ℕ, ◌<◌, ◌≡◌, List}
use Rattle.lemmas.specs.Lists.{IsIn}
use Rattle.atomic_table.specs.Seated.{TableId}
use Rattle.pools.specs.Heap.{Setup, cells}
use Rattle.colours.specs.declared.turn.Turn.{Turn}
use Rattle.colours.specs.Collector.{Collection, Posting, Waiting, ShadingGlobals, Passing, Scanning, Shading, Sweeping, Clearing}
use Rattle.heap_words.specs.Tokens.{Shared}

-- the table that the token is of, how its heap was set up, and the collector's steps, the newest first
pub record SweeperLog : Type 0 where
  pub table : TableId
  pub setup : Setup
  pub log : List Turn

-- the token is of this heap
pub record IsSweeperOf (heap : Shared) (token : SweeperLog) : Type 0 where
  pub table : token.table ≡ heap.table
  pub setup : token.setup ≡ heap.setup

-- these are cells of the heap
abbrev pub AreCells : Setup → List ℕ → Type 0
AreCells s numbers = (cell : ℕ) → IsIn cell numbers → cell < cells s

-- the place names threads and cells of the heap
abbrev pub IsInRange : Setup → Collection → Type 0
IsInRange s Posting = Unit {0}
IsInRange s (Waiting thread) = thread < s.threads
IsInRange s ShadingGlobals = Unit {0}
IsInRange s (Passing p) = (p.next < cells s) × AreCells s p.shaded
IsInRange s (Scanning cell word p) = (cell < cells s) × AreCells s p.shaded
IsInRange s (Shading value cell word p) = (value < cells s) × (cell < cells s) × AreCells s p.shaded
IsInRange s (Sweeping cell) = cell < cells s
IsInRange s (Clearing cell word) = cell < cells s

-- the same token, whose log is this
abbrev pub IsNowAt : SweeperLog → List Turn → SweeperLog → Type 0
IsNowAt before log after = after ≡ record { table = before.table; setup = before.setup; log = log }
