-- Tries of cells, from a thread's hint to the pool's end and then from the pool's first cell up to the hint.
use Rattle.std.specs.Prelude.{ℕ, suc, ◌-◌, ◌<◌, ◌≡◌, Option, Some, slice_set, ◌==◌, min, true, List, [], ◌∷◌, length, slice_index, MatchOption, if◌then◌else◌}
use Rattle.pools.specs.Heap.{Setup, layout_of}
use Rattle.pools.specs.Pools.{first_cell}
use Rattle.colours.specs.Steps.{Step, Claim}
use Rattle.colours.specs.Calls.{cells_from}
use Rattle.colours.specs.Mutator.{Phase, Trying, phase_of}
use Rattle.runs.specs.Machine.{Action, Alloc, Machine}
use Rattle.runs.specs.Moves.{Move, Claims, steps_of, state_after}
use Rattle.runs.specs.ModuleRuns.{Happening, share_of, IsModuleRun}
use Rattle.runs.specs.NextMoves.{next_move_in, sight_after, TriesInPoolAfter}

-- a thread's hint for a layout: the place in the pool after the cell that it won last, at first 0
abbrev pub hint_in : Setup → (layout : ℕ) → List Step → ℕ
hint_in s layout [] = 0
hint_in s layout (Claim cell true ∷ log) = if layout_of s cell == layout then suc cell - first_cell s.pools layout else hint_in s layout log
hint_in s layout (_ ∷ log) = hint_in s layout log

-- these are the hints of a thread with this log, one for each layout
pub record AreHints (s : Setup) (log : List Step) (hints : List ℕ) : Type 0 where
  pub one_each : length hints ≡ length s.pools
  pub each : (layout : ℕ) → layout < length s.pools → slice_index hints layout ≡ hint_in s layout log

-- the hints after a step: a won cell's layout gets the place after that cell
abbrev pub hints_by : Setup → List ℕ → Option Step → List ℕ
hints_by s hints (Some (Claim cell true)) = slice_set hints (layout_of s cell) (suc cell - first_cell s.pools (layout_of s cell))
hints_by s hints step = hints

-- the cells of a layout's pool, in the order in which a thread with this hint tries them
abbrev pub cells_of_pool : Setup → (layout hint : ℕ) → List ℕ
cells_of_pool s layout hint = cells_from (first_cell s.pools layout) (slice_index s.pools layout) (min hint (slice_index s.pools layout))

-- the cell that a thread with this log tries after these
abbrev pub by_hint : Setup → List Step → (layout : ℕ) → (tried : List ℕ) → ℕ
by_hint s log layout tried = slice_index (cells_of_pool s layout (hint_in s layout log)) (length tried)

-- the cells that were tried in the call under way
abbrev pub tried_at : Phase → List ℕ
tried_at (Trying tried) = tried
tried_at phase = []

-- the move, if it is a try, is that of the cell that comes next by the hint
abbrev pub IsByHint : Setup → List Step → Action → Phase → Move → Type 0
IsByHint s log (Alloc layout) phase (Claims r won) = r.cell ≡ by_hint s log layout (tried_at phase)
IsByHint s log action phase move = Unit {0}

-- the same for each move of a share
abbrev pub TriesByHint : (s : Setup) (m : Machine) (thread : ℕ) → m.State → List Move → Type 0
TriesByHint s m t start [] = Unit {0}
TriesByHint s m t start (move ∷ share) = TriesByHint s m t start share × IsByHint s (steps_of share) (m.action (state_after s m t start share)) (phase_of s t (steps_of share)) move

-- the cell that is tried next in this order is one of the pool that was not tried, and the next move follows the order
pub record KeepsOrder (s : Setup) (m : Machine) (starts : ℕ → m.State) (run : List Happening) (t : ℕ) : Type 0 where
  pub in_pool : TriesInPoolAfter s m starts run (sight_after s run (by_hint s (steps_of (share_of t run)))) t
  pub next : MatchOption (next_move_in s m starts run (sight_after s run (by_hint s (steps_of (share_of t run)))) t) (Unit {0}) (λ move. TriesByHint s m t (starts t) (move ∷ share_of t run))

-- the law of that order
abbrev pub HintsInOrder : (s : Setup) (m : Machine) → Type 0
HintsInOrder s m = (starts : ℕ → m.State) (run : List Happening) (t : ℕ) → IsModuleRun s m starts run → TriesByHint s m t (starts t) (share_of t run) → KeepsOrder s m starts run t
