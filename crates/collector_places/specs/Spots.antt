-- Places of the collector's order, as the code keeps them.
use Rattle.std.specs.Prelude.{ℕ, suc, ◌+◌, ◌≡◌, ◌<◌, ◌≤◌, ◌⊎◌, List, if◌then◌else◌, nat_lt}
use Rattle.pools.specs.Heap.{Setup, cells}
use Rattle.colours.specs.declared.turn.Turn.{Turn}
use Rattle.colours.specs.Collector as order
use Rattle.collector_places.specs.declared.spot.Pass.{Pass}
use Rattle.collector_places.specs.declared.spot.Spot.{Spot}
use Rattle.collector_places.specs.declared.spot.Spot.TheVariants.{Posting, Waiting, ShadingGlobals, Passing, Scanning, Shading, Sweeping, Clearing}
use Rattle.collector_places.specs.Counts.{count_of, looks_at, shades_of}

-- how often a trace has looked at the cell in turn, whose earlier passes are so many
abbrev pub looks_in_turn : (rounds next : ℕ) → ℕ → ℕ
looks_in_turn rounds next c = rounds + (if nat_lt c next then 1 else 0)

-- A cell may be looked at out of turn as often as it was made grey, less the looks at it that were out of turn: these are all but
-- those in turn.
pub record IsTold (s : Setup) (log : List Turn) (rounds : ℕ) (p : order.Pass) : Type 0 where
  pub balance : (c : ℕ) → c < cells s → count_of c p.shaded + looks_at log c ≡ shades_of log c + looks_in_turn rounds p.next c
  pub cells_alone : (c : ℕ) → cells s ≤ c → count_of c p.shaded ≡ 0
  pub within : p.next ≤ cells s

-- how far a place is from the one that stands for it: it is at the same next cell
abbrev pub IsSame : Setup → (next stands : ℕ) → Type 0
IsSame s next stands = next ≡ stands

-- or at an earlier one within the pass
abbrev pub IsBehind : Setup → (next stands : ℕ) → Type 0
IsBehind s next stands = (next ≡ stands) ⊎ ((0 < next) × (next < stands) × (stands < cells s))

-- the pass of the order that the code's pass stands for
pub record IsPassAt (near : Setup → ℕ → ℕ → Type 0) (s : Setup) (log : List Turn) (p : Pass) (q : order.Pass) : Type 0 where
  pub next : near s q.next p.next
  pub met : q.met_grey ≡ p.met_grey
  pub told : IsTold s log p.rounds q

-- no cell was looked at or made grey since the last post
abbrev pub IsUnlooked : List Turn → Type 0
IsUnlooked log = (c : ℕ) → (looks_at log c ≡ 0) × (shades_of log c ≡ 0)

-- the place of the order that a spot of the code stands for
abbrev pub IsAt : (near : Setup → ℕ → ℕ → Type 0) → Setup → List Turn → Spot → order.Collection → Type 0
IsAt near s log Posting c = c ≡ order.Posting
IsAt near s log (Waiting thread) c = (c ≡ order.Waiting thread) × IsUnlooked log
IsAt near s log ShadingGlobals c = c ≡ order.ShadingGlobals
IsAt near s log (Passing p) c = (q : order.Pass) × (c ≡ order.Passing q) × IsPassAt near s log p q × (p.next < cells s)
IsAt near s log (Scanning cell word p) c = (q : order.Pass) × (c ≡ order.Scanning cell word q) × IsPassAt near s log p q
IsAt near s log (Shading value cell word p) c = (q : order.Pass) × (c ≡ order.Shading value cell word q) × IsPassAt near s log p q × (value < cells s)
IsAt near s log (Sweeping cell) c = c ≡ order.Sweeping cell
IsAt near s log (Clearing cell word) c = c ≡ order.Clearing cell word

-- the cell under way, or 0
abbrev pub cell_of : Spot → ℕ
cell_of (Passing p) = p.next
cell_of (Scanning cell word p) = cell
cell_of (Shading value cell word p) = cell
cell_of (Sweeping cell) = cell
cell_of (Clearing cell word) = cell
cell_of spot = 0

-- the next cell of a pass under way, or 0
abbrev pub next_of : Spot → ℕ
next_of (Passing p) = p.next
next_of (Scanning cell word p) = p.next
next_of (Shading value cell word p) = p.next
next_of spot = 0

-- how many passes of the trace are over, or 0
abbrev pub rounds_of : Spot → ℕ
rounds_of (Passing p) = p.rounds
rounds_of (Scanning cell word p) = p.rounds
rounds_of (Shading value cell word p) = p.rounds
rounds_of spot = 0

-- the number of threads up to the one that is waited for, or 0
abbrev pub thread_of : Spot → ℕ
thread_of (Waiting thread) = suc thread
thread_of spot = 0

-- the numbers of a spot are those of the heap, after this number of steps
pub record IsPlaced (s : Setup) (turns : ℕ) (spot : Spot) : Type 0 where
  pub cell : cell_of spot < cells s
  pub next : next_of spot ≤ cells s
  pub rounds : rounds_of spot ≤ turns
  pub thread : thread_of spot ≤ s.threads
