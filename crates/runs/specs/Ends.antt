-- The end of a module run, as one state of all actors and words; and how a thread goes on from it.
use Rattle.std.specs.Prelude.{ℕ, ◌≡◌, ◌≢◌, Option, Some, List, ◌∷◌, length, replicate, slice_get, slice_index, if◌then◌else◌}
use Rattle.pools.specs.Heap.{Setup, is_late}
use Rattle.colours.specs.declared.place.Place.TheVariants.{Posted, Stage, Colour, Word}
use Rattle.colours.specs.declared.turn.Turn.{Turn}
use Rattle.colours.specs.Collector.{Collection, Collects}
use Rattle.colours.specs.Mutator.{Phase, Ready, Absent, stage_of, phase_of}
use Rattle.colours.specs.Runs.{word_after, turns_of}
use Rattle.runs.specs.Machine.{WordValue, Machine}
use Rattle.runs.specs.Moves.{Move, ReadsOldValue, StoresStage, EntersStage, null, step_of, steps_of, phase_afterwards, ends_call, answer_of, state_after, old_of}
use Rattle.runs.specs.ModuleRuns.{Happening, OfThread, OfCollector, share_of, heap_of, birth_of, birth_in}
use Rattle.runs.specs.NextMoves.{Sight, next_move, next_move_in}
use Rattle.runs.specs.Tries.{AreHints, hints_by}

-- one thread, perhaps within a call
pub record Standing (State : Type 0) : Type 0 where
  pub state : State
  pub stage : ℕ  -- that it stored last
  pub phase : Phase
  pub old : WordValue  -- what a write under way has read
  pub hints : List ℕ  -- for each layout, the place in its pool where tries begin

-- ---- one thread

-- the thread has this state after its share
pub record StandsAfter (s : Setup) (m : Machine) (starts : ℕ → m.State) (run : List Happening) (t : ℕ) (thread_state : Standing m.State) : Type 0 where
  pub state : thread_state.state ≡ state_after s m t (starts t) (share_of t run)
  pub stage : thread_state.stage ≡ stage_of (steps_of (share_of t run))
  pub phase : thread_state.phase ≡ phase_of s t (steps_of (share_of t run))
  pub old : thread_state.old ≡ old_of (share_of t run)
  pub hints : AreHints s (steps_of (share_of t run)) thread_state.hints

-- a thread before its first move
abbrev pub begun : (s : Setup) (m : Machine) (starts : ℕ → m.State) (thread : ℕ) → Standing m.State
begun s m starts t = record { state = starts t; stage = 0; phase = if is_late s t then Absent else Ready; old = null; hints = replicate (length s.pools) 0 }

-- the stage after a move
abbrev pub stage_afterwards : (stage : ℕ) → Move → ℕ
stage_afterwards stage (StoresStage next roots) = next
stage_afterwards stage (EntersStage next) = next
stage_afterwards stage move = stage

-- what a write under way has read, if this was its move
abbrev pub old_by : Move → WordValue
old_by (ReadsOldValue base word value) = value
old_by move = null

-- the thread after a move
abbrev pub moved : (s : Setup) (m : Machine) → Standing m.State → Move → Standing m.State
moved s m thread_state move = record {
  state = if ends_call move (phase_afterwards s thread_state.stage thread_state.phase (step_of move)) then m.after_answer thread_state.state (answer_of (m.action thread_state.state) move) else thread_state.state;
  stage = stage_afterwards thread_state.stage move;
  phase = phase_afterwards s thread_state.stage thread_state.phase (step_of move);
  old = old_by move;
  hints = hints_by s thread_state.hints (step_of move);
}

-- the next move of a thread in this state
abbrev pub next_move_of : (s : Setup) (m : Machine) → Sight → Standing m.State → Option Move
next_move_of s m h thread_state = next_move s h thread_state.stage (m.roots thread_state.state) thread_state.old (m.action thread_state.state) thread_state.phase

-- how a thread goes on from where it is after a run: its next move, and where it is after one more happening
pub record GoesOn (s : Setup) (m : Machine) (starts : ℕ → m.State) (run : List Happening) (t : ℕ) (thread_state : Standing m.State) : Type 0 where
  pub next : (h : Sight) → next_move_of s m h thread_state ≡ next_move_in s m starts run h t
  pub own : (move : Move) → StandsAfter s m starts (OfThread t move ∷ run) t (moved s m thread_state move)
  pub other : (u : ℕ) (move : Move) → u ≢ t → StandsAfter s m starts (OfThread u move ∷ run) t thread_state
  pub collector : (turn : Turn) → StandsAfter s m starts (OfCollector turn ∷ run) t thread_state

-- ---- the whole end

-- the actors and the words
pub record WorldState (State : Type 0) : Type 0 where
  pub threads : List (Standing State)
  pub stages : List ℕ
  pub posted : ℕ
  pub colours : List ℕ  -- by cell
  pub births : List ℕ
  pub words : List (List WordValue)
  pub collector : Collection

-- the reference is what this word holds
pub record IsInWord (s : Setup) (run : List Happening) (cell word : ℕ) (r : WordValue) : Type 0 where
  pub cell_is : r.cell ≡ word_after s (heap_of run) (Word cell word)
  pub birth_is : r.birth ≡ birth_in run cell word

-- the run ends in this state
pub record IsEndOf (s : Setup) (m : Machine) (starts : ℕ → m.State) (run : List Happening) (w : WorldState m.State) : Type 0 where
  pub count : length w.threads ≡ s.threads
  pub threads : (t : ℕ) (thread_state : Standing m.State) → slice_get w.threads t ≡ Some thread_state → StandsAfter s m starts run t thread_state
  pub stages : (t : ℕ) → slice_index w.stages t ≡ word_after s (heap_of run) (Stage t)
  pub posted : w.posted ≡ word_after s (heap_of run) Posted
  pub colours : (c : ℕ) → slice_index w.colours c ≡ word_after s (heap_of run) (Colour c)
  pub births : (c : ℕ) → slice_index w.births c ≡ birth_of s run c
  pub words : (c i : ℕ) (r : WordValue) (row : List WordValue) → slice_get w.words c ≡ Some row → slice_get row i ≡ Some r → IsInWord s run c i r
  pub collector : Collects s (turns_of (heap_of run)) w.collector
