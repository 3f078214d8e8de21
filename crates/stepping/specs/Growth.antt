-- What a next step leaves of the words and births after a run.
use Rattle.std.specs.Prelude.{ℕ, ◌≡◌, ◌<◌, ◌≤◌, ◌^◌, Option, Some, None, List, ◌∷◌, slice_index}
use Rattle.pools.specs.Heap.{Setup, cells}
use Rattle.colours.specs.Collector.{Collection, Posting, Waiting, ShadingGlobals, Passing, Scanning, Shading, Sweeping, Clearing}
use Rattle.colours.specs.Runs.{turns_of}
use Rattle.trace_sweep.specs.Below.{AreBelow}
use Rattle.trace_sweep.specs.Collecting.{Collecting, NamesCells}
use Rattle.trace_sweep.specs.Stands as collector
use Rattle.trace_sweep.specs.Stands.{IsStepOn}
use Rattle.trace_sweep.specs.declared.motion.Motion.{Motion}
use Rattle.runs.specs.Machine.{WordValue, Machine, Action, Answer, machine_of}
use Rattle.runs.specs.Moves.{answer_of}
use Rattle.runs.specs.ModuleRuns.{Happening, OfThread, OfCollector, share_of, heap_of, IsModuleRun}
use Rattle.runs.specs.Ends.{StandsAfter, moved, next_move_of}
use Rattle.runs.specs.Tries.{TriesByHint}
use Rattle.moves.specs.declared.call.Call.{Call}
use Rattle.moves.specs.declared.moves.Move.{Move}
use Rattle.moves.specs.declared.shared.Shared.{Shared}
use Rattle.moves.specs.declared.thread_state.ThreadState.{ThreadState}
use Rattle.moves.specs.Calls.{action_of, move_in}
use Rattle.moves.specs.Kinds.{AnswersByKind}
use Rattle.moves.specs.Moving.{HasHint, MayMake}
use Rattle.moves.specs.Shared.{ThreadStateAfter, CanHold, CanTake, with_move, with_number, held_at}
use Rattle.moves.specs.Stands.{HasTryLeft, standing, sight_in}

-- ---- threads

-- where a thread of a run is, with a state that fits the heap, and the words and births after the run
pub record ThreadIsAfter (s : Setup) (m : Machine) (Fits : m.State → Type 0) (starts : ℕ → m.State) (run : List Happening) (t : ℕ) (thread_state : ThreadState m.State) (h : Shared) : Type 0 where
  pub few_cells : cells s ≤ 2 ^ 32
  pub is_run : IsModuleRun s m starts run
  pub tries : TriesByHint s m t (starts t) (share_of t run)
  pub is_thread : t < s.threads
  pub stands : StandsAfter s m starts run t (standing s m thread_state)
  pub fits : Fits thread_state.state
  pub replaced : thread_state.replaced.cell < cells s
  pub words : ThreadStateAfter s run h

-- a next move of the thread may be made, and leaves the words and births after the longer run
pub record MoveGrows (s : Setup) (m : Machine) (Fits : m.State → Type 0) (run : List Happening) (t : ℕ) (thread_state : ThreadState m.State) (h : Shared) (made : Move) : Type 0 where
  pub may_make : (call : Call) → action_of call ≡ m.action thread_state.state → MayMake s thread_state.hints (m.roots thread_state.state) call thread_state.call_phase made
  pub hint : HasHint s.pools thread_state.hints made (m.action thread_state.state)
  pub can_take : CanTake h t thread_state.stage made
  pub words : ThreadStateAfter s (OfThread t (move_in (m.roots thread_state.state) made) ∷ run) (with_move h t thread_state.stage made)
  pub answers : AnswersByKind s (m.action thread_state.state) (answer_of (m.action thread_state.state) (move_in (m.roots thread_state.state) made))
  pub fits : Fits (moved s m (standing s m thread_state) (move_in (m.roots thread_state.state) made)).state
  pub replaced : (moved s m (standing s m thread_state) (move_in (m.roots thread_state.state) made)).old.cell < cells s

-- what the next move of a thread needs, and each move that is the next one
pub record ThreadGrows (s : Setup) (m : Machine) (Fits : m.State → Type 0) (run : List Happening) (t : ℕ) (thread_state : ThreadState m.State) (h : Shared) : Type 0 where
  pub births : (cell : ℕ) → slice_index h.births cell < 2 ^ 62
  pub try_left : HasTryLeft s.pools (m.action thread_state.state) thread_state.call_phase
  pub move : (made : Move) → next_move_of s m (sight_in s h thread_state.hints) (standing s m thread_state) ≡ Some (move_in (m.roots thread_state.state) made) → MoveGrows s m Fits run t thread_state h made

-- the same for each thread of a machine that obeys the kinds of words
abbrev pub ThreadsGrow : (s : Setup) {State : Type 0} (action : State → Action) (after_answer : State → Answer → State) (roots : State → List WordValue) (Fits : State → Type 0) → Type 0
ThreadsGrow s {State} action after_answer roots Fits = (starts : ℕ → State) (run : List Happening) (t : ℕ) (thread_state : ThreadState State) (h : Shared)
    → ThreadIsAfter s (machine_of action after_answer roots) Fits starts run t thread_state h → ThreadGrows s (machine_of action after_answer roots) Fits run t thread_state h

-- ---- the collector

-- a place of a collector is at a thread or at a cell of the heap, and what it has in hand is a cell
abbrev pub IsPlaceInHeap : Setup → Collection → Type 0
IsPlaceInHeap s Posting = Unit {0}
IsPlaceInHeap s (Waiting thread) = thread < s.threads
IsPlaceInHeap s ShadingGlobals = Unit {0}
IsPlaceInHeap s (Passing p) = p.next < cells s
IsPlaceInHeap s (Scanning cell word p) = cell < cells s
IsPlaceInHeap s (Shading value cell word p) = (value < cells s) × (cell < cells s)
IsPlaceInHeap s (Sweeping cell) = cell < cells s
IsPlaceInHeap s (Clearing cell word) = cell < cells s

-- a collector is at such a place, and lists only cells of the heap
abbrev pub IsInHeap : Setup → Collecting → Type 0
IsInHeap s c = IsPlaceInHeap s c.at × AreBelow (cells s) c.listed

-- the words after a step of the collector: another number in its word, if it stores one
abbrev pub with_stored : Shared → Motion → Option ℕ → Shared
with_stored h motion None = h
with_stored h motion (Some n) = with_number h motion.place n

-- where the collector of a run is, and the words and births after the run
pub record CollectorIsAfter (s : Setup) (run : List Happening) (c : Collecting) (h : Shared) : Type 0 where
  pub stands : collector.StandsAfter s (turns_of (heap_of run)) c
  pub in_heap : IsInHeap s c
  pub words : ThreadStateAfter s run h

-- its next step may be made, and leaves the words and births after the longer run
pub record MotionGrows (s : Setup) (run : List Happening) (h : Shared) (motion : Motion) (afterwards : Collecting) : Type 0 where
  pub can_hold : CanHold h motion.place
  pub stands : collector.StandsAfter s (turns_of (heap_of (OfCollector motion.turn ∷ run))) afterwards
  pub in_heap : IsInHeap s afterwards
  pub words : ThreadStateAfter s (OfCollector motion.turn ∷ run) (with_stored h motion motion.stored)

-- the same after each run
abbrev pub CollectorGrows : Setup → Type 0
CollectorGrows s = (run : List Happening) (c : Collecting) (h : Shared) → CollectorIsAfter s run c h
    → NamesCells c.heap (held_at h) × ((motion : Motion) (afterwards : Collecting) → IsStepOn (held_at h) c motion afterwards → MotionGrows s run h motion afterwards)
