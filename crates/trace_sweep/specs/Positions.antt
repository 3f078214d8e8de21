-- The positions of the collector's code.
use Rattle.std.specs.Prelude.{ℕ, ◌+◌, ◌<◌, ◌≤◌, [], length}
use Rattle.pools.specs.Heap.{Setup, cells, words_of_cell}
use Rattle.colours.specs.Collector as order
use Rattle.trace_sweep.specs.declared.position.Pass.{Pass}
use Rattle.trace_sweep.specs.declared.position.CyclePosition.{CyclePosition}
use Rattle.trace_sweep.specs.declared.position.CyclePosition.TheVariants.{Posting, Waiting, MarkingGlobals, Passing, Scanning, Marking, Sweeping, Clearing}

-- a pass and a place of the collector's order, without its list of shaded cells
abbrev pub pass_of : Pass → order.Pass
pass_of p = record { next = p.next; met_grey = p.met_grey; shaded = [] }

-- a position of the code as a place in the collector's order
abbrev pub collection_of : CyclePosition → order.Collection
collection_of Posting = order.Posting
collection_of (Waiting thread) = order.Waiting thread
collection_of MarkingGlobals = order.ShadingGlobals
collection_of (Passing p) = order.Passing (pass_of p)
collection_of (Scanning cell word p) = order.Scanning cell word (pass_of p)
collection_of (Marking value cell word p) = order.Shading value cell word (pass_of p)
collection_of (Sweeping cell) = order.Sweeping cell
collection_of (Clearing cell word) = order.Clearing cell word

-- the cell under way, or 0
abbrev pub cell_of : CyclePosition → ℕ
cell_of (Passing p) = p.next
cell_of (Scanning cell word p) = cell
cell_of (Marking value cell word p) = cell
cell_of (Sweeping cell) = cell
cell_of (Clearing cell word) = cell
cell_of position = 0

-- how many of its words are done
abbrev pub word_of : CyclePosition → ℕ
word_of (Scanning cell word p) = word
word_of (Marking value cell word p) = word
word_of (Clearing cell word) = word
word_of position = 0

-- the value in hand, or 0
abbrev pub hand_of : CyclePosition → ℕ
hand_of (Marking value cell word p) = value
hand_of position = 0

-- the number of threads that a wait has reached, or 0
abbrev pub thread_of : CyclePosition → ℕ
thread_of (Waiting thread) = thread + 1
thread_of position = 0

-- the cell at which the pass goes on
abbrev pub next_of : CyclePosition → ℕ
next_of (Scanning cell word p) = p.next
next_of (Marking value cell word p) = p.next
next_of position = 0

-- the numbers of a position are those of threads, cells and words of the heap
pub record IsPlacedAt (s : Setup) (p : CyclePosition) : Type 0 where
  pub cell : cell_of p < cells s
  pub word : word_of p ≤ length (words_of_cell s (cell_of p))
  pub thread : thread_of p ≤ s.threads
  pub next : next_of p ≤ cells s
