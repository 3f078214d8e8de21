-- A collector as contracts see it.
use Rattle.std.specs.Prelude.{ℕ, ◌<◌, ◌^◌, ◌==◌, max, Bool, true, false, Option, Some, None, List, [], length, IsTrue, if◌then◌else◌}
use Rattle.pools.specs.declared.word_kind.WordKind.{WordKind}
use Rattle.pools.specs.Heap.{Setup, cells, words_of_cell, kind_of}
use Rattle.pools.specs.Layouts.{is_reference_kind}
use Rattle.colours.specs.declared.place.Place.{Place}
use Rattle.colours.specs.declared.place.Place.TheVariants.{Word}
use Rattle.colours.specs.declared.ask.Ask.{Ask}
use Rattle.colours.specs.declared.ask.Ask.TheVariants.{Load, Store, FetchMax, CompareExchange}
use Rattle.colours.specs.declared.turn.Turn.{Turn}
use Rattle.colours.specs.declared.turn.Turn.TheVariants.{PostStage, ScanWord}
use Rattle.colours.specs.Collector.{Collection, Posting, Passing, Scanning, Shading, Pass}
use Rattle.trace_sweep.specs.Turns.{asked, turn_in, afterwards, list_after, kept_list}

-- what the collector knows of a heap: its threads, layouts, pools and globals
abbrev pub plan : (threads : ℕ) (layouts : List (List WordKind)) (pools : List ℕ) (globals : List WordKind) → Setup
plan threads layouts pools globals = record { threads = threads; late = []; layouts = layouts; pools = pools; globals = globals; values = [] }

-- the part of a heap that its collector knows
abbrev pub plan_of : Setup → Setup
plan_of s = plan s.threads s.layouts s.pools s.globals

-- each word of each cell has a number below 2^32
abbrev pub IsNumbered : Setup → Type 0
IsNumbered s = (cell : ℕ) → length (words_of_cell s cell) < 2 ^ 32

-- a pass without its list of shaded cells: the collector keeps a part of it elsewhere
abbrev pub without_list : Pass → Pass
without_list p = record { next = p.next; met_grey = p.met_grey; shaded = [] }

-- the place of a collector: its order's place without that list
abbrev pub in_order : Collection → Collection
in_order (Passing p) = Passing (without_list p)
in_order (Scanning cell word p) = Scanning cell word (without_list p)
in_order (Shading value cell word p) = Shading value cell word (without_list p)
in_order c = c

-- a collector: what it knows of the heap, the stage that it posted last, where it is, and the grey cells that it looks at out of
-- turn, the newest first
pub record Collecting : Type 0 where
  pub heap : Setup
  pub posted : ℕ
  pub at : Collection
  pub listed : List ℕ

-- a collector before its first step
abbrev pub begun : Setup → Collecting
begun s = record { heap = s; posted = 0; at = Posting; listed = [] }

-- the operation that it asks for
abbrev pub ask_of : Collecting → Option Ask
ask_of c = asked c.heap c.posted c.listed c.at

-- the step reads a reference
abbrev pub scans : Turn → Bool
scans (ScanWord cell word value) = true
scans turn = false

-- the step that it makes, where its word holds this number
abbrev pub turn_of : Collecting → (found : ℕ) → Turn
turn_of c found = turn_in c.heap c.posted c.listed c.at found

-- the stage posted last, after a step
abbrev pub posted_by : Turn → (stage : ℕ) → ℕ
posted_by (PostStage to) stage = to
posted_by turn stage = stage

-- a step was made whose word held this number
abbrev pub moved : Collecting → (found : ℕ) → Collecting
moved c found = record {
  heap = c.heap;
  posted = posted_by (turn_of c found) c.posted;
  at = in_order (afterwards c.heap c.posted c.listed c.at found);
  listed = kept_list (in_order (afterwards c.heap c.posted c.listed c.at found)) (list_after c.posted c.listed c.at found);
}

-- a reference is read next: it is the number of a cell
abbrev pub FitsNext : Collecting → (found : ℕ) → Type 0
FitsNext c found = IsTrue (scans (turn_of c found)) → found < cells c.heap

-- ---- the world that is looked at

-- each reference word holds a cell's number
abbrev pub NamesCells : Setup → (Place → ℕ) → Type 0
NamesCells s word_at = (cell word : ℕ) → IsTrue (is_reference_kind (kind_of s cell word)) → word_at (Word cell word) < cells s

-- what a step leaves in its word, where it stores
abbrev pub stored_by : Ask → (found : ℕ) → Option ℕ
stored_by (Load place) found = None
stored_by (Store place value) found = Some value
stored_by (FetchMax place value) found = Some (max found value)
stored_by (CompareExchange place old new) found = Some (if found == old then new else found)
