-- What is reachable after a module run, what is gone, and when the run's end is broken, with the cause.
use Rattle.std.specs.Prelude.{ℕ, ◌<◌, ◌≡◌, ◌≢◌, ◌⊎◌, Option, Some, None, List, ◌∷◌, IsTrue, MatchOption}
use Rattle.lemmas.specs.Lists.{IsIn}
use Rattle.pools.specs.Heap.{Setup, kind_of}
use Rattle.pools.specs.Layouts.{is_reference_kind}
use Rattle.colours.specs.declared.place.Place.TheVariants.{Colour, Word}
use Rattle.colours.specs.Mutator.{Phase, Ended, HasBegun, phase_of}
use Rattle.colours.specs.Runs.{word_after}
use Rattle.runs.specs.Machine.{WordValue, Machine}
use Rattle.runs.specs.Moves.{Move, GoesWrong, ReadsWord, ReadsOldValue, Marks, StoresAfterBarrier, StoresPlain, null, steps_of, state_after}
use Rattle.runs.specs.ModuleRuns.{Happening, OfThread, share_of, heap_of, birth_of, birth_in}

-- ---- reachable

-- the thread has begun, and has not ended
abbrev pub IsUnderWay : Phase → Type 0
IsUnderWay Ended = ⊥
IsUnderWay phase = HasBegun phase

-- a root of a thread under way
pub record IsRoot (s : Setup) (m : Machine) (starts : ℕ → m.State) (run : List Happening) (r : WordValue) : Type 0 where
  pub thread : ℕ
  pub is_thread : thread < s.threads
  pub is_under_way : IsUnderWay (phase_of s thread (steps_of (share_of thread run)))
  pub is_root : IsIn r (m.roots (state_after s m thread (starts thread) (share_of thread run)))

-- what a path of reference words reaches, from the cell of the globals or from one of these: a cell, with the birth on the path
pub data Reached (s : Setup) (run : List Happening) (From : WordValue → Type 0) : WordValue → Type 0 where
  globals : Reached s run From null
  from : (r : WordValue) → From r → r.cell ≢ 0 → Reached s run From r
  further : (r : WordValue) (word : ℕ) → Reached s run From r → IsTrue (is_reference_kind (kind_of s r.cell word)) → word_after s (heap_of run) (Word r.cell word) ≢ 0
      → Reached s run From (record { cell = word_after s (heap_of run) (Word r.cell word); birth = birth_in run r.cell word })

-- the reference is at the end of a path from the globals or from a root
abbrev pub IsReachable : (s : Setup) (m : Machine) (starts : ℕ → m.State) → List Happening → WordValue → Type 0
IsReachable s m starts run r = Reached s run (IsRoot s m starts run) r

-- ---- gone

-- the cell is free
abbrev pub IsBlue : Setup → List Happening → WordValue → Type 0
IsBlue s run r = word_after s (heap_of run) (Colour r.cell) ≡ 0

-- the cell was claimed again since the reference was made
abbrev pub IsReborn : Setup → List Happening → WordValue → Type 0
IsReborn s run r = birth_of s run r.cell ≢ r.birth

-- the cell is blue, or of another birth than the reference
abbrev pub IsGone : Setup → List Happening → WordValue → Type 0
IsGone s run r = IsBlue s run r ⊎ IsReborn s run r

-- ---- broken

-- the last move is that of a thread that goes wrong
abbrev pub WentWrong : List Happening → Type 0
WentWrong (OfThread t GoesWrong ∷ run) = Unit {0}
WentWrong run = ⊥

-- the reference by which a move reads, writes or marks a cell. To claim one is no touch
abbrev pub used_by : Move → Option WordValue
used_by (ReadsWord base word value) = Some base
used_by (ReadsOldValue base word value) = Some base
used_by (Marks r) = Some r
used_by (StoresAfterBarrier base word value) = Some base
used_by (StoresPlain base word value) = Some base
used_by move = None

-- the last move touched a cell of which this held before the move, by the reference used
abbrev pub Touched : (List Happening → WordValue → Type 0) → List Happening → Type 0
Touched P (OfThread t move ∷ run) = MatchOption (used_by move) ⊥ (P run)
Touched P run = ⊥

-- the last move touched a cell that was gone
abbrev pub TouchedGone : Setup → List Happening → Type 0
TouchedGone s run = Touched (IsGone s) run

-- the end of the run is broken: the last move went wrong, or touched a cell that was gone, or a reachable cell is gone
abbrev pub IsBroken : (s : Setup) (m : Machine) (starts : ℕ → m.State) → List Happening → Type 0
IsBroken s m starts run = WentWrong run ⊎ TouchedGone s run ⊎ ((r : WordValue) × IsReachable s m starts run r × IsGone s run r)

-- ---- the cause that is named

-- one way in which the end of a run is broken, with the cell
pub data Cause : Type 0 where
  Wrong : Cause
  TouchBlue : (cell : ℕ) → Cause
  TouchBirth : (cell : ℕ) → Cause
  ReachBlue : (cell : ℕ) → Cause
  ReachBirth : (cell : ℕ) → Cause

-- the cause is there
abbrev pub Shows : (s : Setup) (m : Machine) (starts : ℕ → m.State) → List Happening → Cause → Type 0
Shows s m starts run Wrong = WentWrong run
Shows s m starts run (TouchBlue cell) = Touched (λ before r. (r.cell ≡ cell) × IsBlue s before r) run
Shows s m starts run (TouchBirth cell) = Touched (λ before r. (r.cell ≡ cell) × IsReborn s before r) run
Shows s m starts run (ReachBlue cell) = (r : WordValue) × IsReachable s m starts run r × (r.cell ≡ cell) × IsBlue s run r
Shows s m starts run (ReachBirth cell) = (r : WordValue) × IsReachable s m starts run r × (r.cell ≡ cell) × IsReborn s run r

-- the causes in their order: first by kind ..
abbrev pub rank : Cause → ℕ
rank Wrong = 0
rank (TouchBlue cell) = 1
rank (TouchBirth cell) = 2
rank (ReachBlue cell) = 3
rank (ReachBirth cell) = 4

-- .. and then by cell
abbrev pub cell_of : Cause → ℕ
cell_of Wrong = 0
cell_of (TouchBlue cell) = cell
cell_of (TouchBirth cell) = cell
cell_of (ReachBlue cell) = cell
cell_of (ReachBirth cell) = cell

-- this one goes before that
abbrev pub GoesBefore : Cause → Cause → Type 0
GoesBefore c d = (rank c < rank d) ⊎ ((rank c ≡ rank d) × (cell_of c < cell_of d))

-- the cause is there, and none that goes before it
pub record IsCause (s : Setup) (m : Machine) (starts : ℕ → m.State) (run : List Happening) (cause : Cause) : Type 0 where
  pub shows : Shows s m starts run cause
  pub first : (other : Cause) → GoesBefore other cause → ¬ Shows s m starts run other

-- the cause of a run's end says that it is broken, there is at most one, and only an end that isn't broken has none
pub record CausesName (s : Setup) (m : Machine) (starts : ℕ → m.State) (run : List Happening) : Type 0 where
  pub broken : (cause : Cause) → IsCause s m starts run cause → IsBroken s m starts run
  pub one : (c d : Cause) → IsCause s m starts run c → IsCause s m starts run d → c ≡ d
  pub some : ((cause : Cause) → ¬ IsCause s m starts run cause) → ¬ IsBroken s m starts run
