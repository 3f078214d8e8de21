-- A thread of the code as one of a run.
use Rattle.std.specs.Prelude.{ℕ, zero, suc, ◌<◌, ◌^◌, List, [], ◌∷◌, length, reverse, take, slice_index, ◌==◌}
use Rattle.pools.specs.Heap.{Setup}
use Rattle.colours.specs.Mutator as order
use Rattle.colours.specs.Mutator.{Phase, non_null}
use Rattle.runs.specs.Machine.{WordValue, Action, Alloc, Machine}
use Rattle.runs.specs.Moves.{cells_of}
use Rattle.runs.specs.NextMoves.{Sight}
use Rattle.runs.specs.Ends.{Standing}
use Rattle.runs.specs.Tries.{cells_of_pool}
use Rattle.moves.specs.declared.shared.Shared.{Shared}
use Rattle.moves.specs.declared.thread_state.CallPhase.{CallPhase}
use Rattle.moves.specs.declared.thread_state.CallPhase.TheVariants.{Ready, MarkingOld, MarkingNew, Writing, Trying, Answering, Ended, Absent, Arriving, Entering, Leaving}
use Rattle.moves.specs.declared.thread_state.ThreadState.{ThreadState}
use Rattle.moves.specs.Rows.{word_at}

-- the cells of a layout's pool, in the order in which a thread with these hints tries them
abbrev pub cells_by : Setup → (hints : List ℕ) → (layout : ℕ) → List ℕ
cells_by s hints layout = cells_of_pool s layout (slice_index hints layout)

-- the cells that a thread with these hints tries for what it asks for
abbrev pub cells_to_try : Setup → (hints : List ℕ) → Action → List ℕ
cells_to_try s hints (Alloc layout) = cells_by s hints layout
cells_to_try s hints action = []

-- the first cells of a list, this number of them, the last one first
abbrev pub tried_of : (cells : List ℕ) → (count : ℕ) → List ℕ
tried_of cells zero = []
tried_of cells (suc count) = slice_index cells count ∷ tried_of cells count

-- the first roots that are not null, this number of them, the last one first
abbrev pub marked_of : List WordValue → (count : ℕ) → List ℕ
marked_of roots count = reverse (take count (non_null (cells_of roots)))

-- where a thread with these cells to try and these roots is
abbrev pub phase_at : (cells : List ℕ) → (roots : List WordValue) → CallPhase → Phase
phase_at cells roots Ready = order.Ready
phase_at cells roots (MarkingOld cell word old) = order.MarkingOld cell word old
phase_at cells roots (MarkingNew cell word old) = order.MarkingNew cell word old
phase_at cells roots (Writing cell word old new) = order.Writing cell word old new
phase_at cells roots (Trying tried) = order.Trying (tried_of cells tried)
phase_at cells roots (Answering stage marked) = order.Answering stage (marked_of roots marked)
phase_at cells roots Ended = order.Ended
phase_at cells roots Absent = order.Absent
phase_at cells roots (Arriving stage) = order.Arriving stage
phase_at cells roots Entering = order.Entering
phase_at cells roots Leaving = order.Leaving

-- there is a pool of the layout that is asked for, a cell of it was not tried, and fewer than 2^32 were
abbrev pub MayTryMore : (pools : List ℕ) → Action → (tried : ℕ) → Type 0
MayTryMore pools (Alloc layout) tried = (layout < length pools) × (tried < slice_index pools layout) × (tried < 2 ^ 32)
MayTryMore pools action tried = Unit {0}

-- the same for a thread that tries cells
abbrev pub HasTryLeft : (pools : List ℕ) → Action → CallPhase → Type 0
HasTryLeft pools action (Trying tried) = MayTryMore pools action tried
HasTryLeft pools action call_phase = Unit {0}

-- a thread of this machine
abbrev pub standing : (s : Setup) (m : Machine) → ThreadState m.State → Standing m.State
standing s m thread_state = record {
  state = thread_state.state;
  stage = thread_state.stage;
  phase = phase_at (cells_to_try s thread_state.hints (m.action thread_state.state)) (m.roots thread_state.state) thread_state.call_phase;
  old = thread_state.replaced;
  hints = thread_state.hints;
}

-- what a thread with these hints sees of the shared words
abbrev pub sight_in : Setup → Shared → (hints : List ℕ) → Sight
sight_in s h hints = record {
  word = word_at h.words;
  posted = h.posted;
  claim = λ layout tried. let cell = slice_index (cells_by s hints layout) (length tried) in record { cell = cell; birth = suc (slice_index h.births cell) };
  is_blue = λ cell. slice_index h.colours cell == 0;
}
