-- The collector's places and the log of its steps.
use Rattle.std.specs.Prelude.{ℕ, ◌≡◌, ◌<◌, ◌^◌, List, ◌∷◌, length, slice_index, IsTrue}
use Rattle.lemmas.specs.Lists.{IsIn}
use Rattle.pools.specs.Heap.{Setup, cells, kind_of}
use Rattle.pools.specs.Layouts.{is_reference_kind}
use Rattle.colours.specs.declared.turn.Turn.{Turn}
use Rattle.colours.specs.declared.turn.Turn.TheVariants.{ScanWord}
use Rattle.colours.specs.Colours.{cycle_of}
use Rattle.colours.specs.Collector.{Collection, posted_of, Collects}
use Rattle.collector_places.specs.declared.spot.Spot.{Spot}
use Rattle.collector_places.specs.Counts.{looks_at, shades_of}
use Rattle.collector_places.specs.Spots.{IsAt, IsSame, IsBehind, IsPlaced}

-- the places of a collector: its heap, the stage posted last, how many steps it made, how often each cell was
-- looked at and made grey, and where it may be
pub record Places : Type 0 where
  pub heap : Setup
  pub posted : ℕ
  pub turns : ℕ
  pub looks : List ℕ
  pub shades : List ℕ
  pub spots : List Spot

-- the numbers are those of this log
pub record AreOf (s : Setup) (log : List Turn) (v : Places) : Type 0 where
  pub heap : v.heap ≡ s
  pub posted : v.posted ≡ posted_of log
  pub turns : v.turns ≡ length log
  pub low : cycle_of (posted_of log) < 2 ^ 60
  pub looks_length : length v.looks ≡ cells s
  pub shades_length : length v.shades ≡ cells s
  pub looks : (c : ℕ) → c < cells s → slice_index v.looks c ≡ looks_at log c
  pub shades : (c : ℕ) → c < cells s → slice_index v.shades c ≡ shades_of log c

-- each spot stands for a place to which the log leads, and each such place is one of these or behind one
pub record Stands (s : Setup) (log : List Turn) (v : Places) : Type 0 where
  pub numbers : AreOf s log v
  pub placed : (spot : Spot) → IsIn spot v.spots → IsPlaced s v.turns spot
  pub each : (spot : Spot) → IsIn spot v.spots → (c : Collection) × Collects s log c × IsAt IsSame s log spot c
  pub all : (c : Collection) → Collects s log c → (spot : Spot) × IsIn spot v.spots × IsAt IsBehind s log spot c

-- a reference word that is scanned holds a cell's number
abbrev pub NamesCell : Setup → Turn → Type 0
NamesCell s (ScanWord cell word value) = IsTrue (is_reference_kind (kind_of s cell word)) → value < cells s
NamesCell s turn = Unit {0}
