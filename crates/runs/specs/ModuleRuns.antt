-- Runs of a module: lists of happenings, the newest first, each by one actor, on the words as those before left them.
use Rattle.std.specs.Prelude.{ℕ, suc, ◌<◌, ◌≡◌, ◌==◌, ◌&&◌, Option, Some, None, List, [], ◌∷◌, MatchOption, if◌then◌else◌}
use Rattle.pools.specs.Heap.{Setup}
use Rattle.colours.specs.declared.turn.Turn.{Turn}
use Rattle.colours.specs.declared.turn.Turn.TheVariants.{ClearWord}
use Rattle.colours.specs.Steps.{Step}
use Rattle.colours.specs.Runs.{Event, ByThread, ByCollector, births_after, MayHappen}
use Rattle.runs.specs.Machine.{Machine}
use Rattle.runs.specs.Moves.{Move, ReadsWord, ReadsOldValue, StoresAfterBarrier, StoresPlain, Claims, step_of, IsAsked}

-- a thread's move or a step of the collector
pub data Happening : Type 0 where
  OfThread : (thread : ℕ) → Move → Happening
  OfCollector : Turn → Happening

-- ---- the shares, and the run of the heap

-- a thread's moves
abbrev pub share_of : ℕ → List Happening → List Move
share_of t [] = []
share_of t (OfThread u move ∷ run) = if u == t then move ∷ share_of t run else share_of t run
share_of t (OfCollector turn ∷ run) = share_of t run

-- a heap run with this step, if it is one
abbrev pub with_step : (thread : ℕ) → Option Step → List Event → List Event
with_step t None run = run
with_step t (Some step) run = ByThread t step ∷ run

-- the steps on the heap
abbrev pub heap_of : List Happening → List Event
heap_of [] = []
heap_of (OfThread t move ∷ run) = with_step t (step_of move) (heap_of run)
heap_of (OfCollector turn ∷ run) = ByCollector turn ∷ heap_of run

-- ---- births. Those of words come from the moves that stored there

-- of a cell: how often it was claimed
abbrev pub birth_of : Setup → List Happening → (cell : ℕ) → ℕ
birth_of s run c = (births_after s (heap_of run)).of_cell c

-- of the reference that a move leaves in a word, from the birth that was there
abbrev pub left_birth : Move → (cell word birth : ℕ) → ℕ
left_birth (StoresAfterBarrier base word value) c i b = if (base.cell == c) && (word == i) then value.birth else b
left_birth (StoresPlain base word value) c i b = if (base.cell == c) && (word == i) then value.birth else b
left_birth move c i b = b

-- and a step of the collector
abbrev pub cleared_birth : Turn → (cell word birth : ℕ) → ℕ
cleared_birth (ClearWord cell word) c i b = if (cell == c) && (word == i) then 0 else b
cleared_birth turn c i b = b

-- of the reference in a word
abbrev pub birth_in : List Happening → (cell word : ℕ) → ℕ
birth_in [] c i = 0
birth_in (OfThread t move ∷ run) c i = left_birth move c i (birth_in run c i)
birth_in (OfCollector turn ∷ run) c i = cleared_birth turn c i (birth_in run c i)

-- what a move brings has the birth that is there
abbrev pub FindsBirth : Setup → List Happening → Move → Type 0
FindsBirth s run (ReadsWord base word value) = value.birth ≡ birth_in run base.cell word
FindsBirth s run (ReadsOldValue base word value) = value.birth ≡ birth_in run base.cell word
FindsBirth s run (Claims r won) = r.birth ≡ suc (birth_of s run r.cell)
FindsBirth s run move = Unit {0}

-- ---- runs

-- this may happen next: the thread's machine asks for the move, and the words are as it says; or the collector's order allows the step
abbrev pub IsNext : (s : Setup) (m : Machine) (starts : ℕ → m.State) → List Happening → Happening → Type 0
IsNext s m starts run (OfThread t move) =
    (t < s.threads)
    × IsAsked s m t (starts t) (share_of t run) move
    × MatchOption (step_of move) (Unit {0}) (λ step. MayHappen s (heap_of run) (ByThread t step))
    × FindsBirth s run move
IsNext s m starts run (OfCollector turn) = MayHappen s (heap_of run) (ByCollector turn)

-- a run of threads of one machine, begun in these states, and of the collector
abbrev pub IsModuleRun : (s : Setup) (m : Machine) (starts : ℕ → m.State) → List Happening → Type 0
IsModuleRun s m starts [] = Unit {0}
IsModuleRun s m starts (happening ∷ run) = IsModuleRun s m starts run × IsNext s m starts run happening
