-- The words of a heap and the threads before the first step.
use Rattle.std.specs.Prelude.{Bool, if◌then◌else◌, ℕ, zero, suc, ◌≡◌, ◌<◌, Some, List, [], length, replicate, slice_index, slice_index_or}
use Rattle.pools.specs.declared.word_kind.WordKind.{WordKind}
use Rattle.pools.specs.Heap.{Setup, kind_of, words_of_cell}
use Rattle.colours.specs.declared.place.Place.TheVariants.{Word}
use Rattle.colours.specs.Colours.{done}
use Rattle.colours.specs.Runs.{word_at_start}
use Rattle.runs.specs.Machine.{WordValue}
use Rattle.runs.specs.Moves.{null}
use Rattle.moves.specs.declared.thread_state.CallPhase.{CallPhase}
use Rattle.moves.specs.declared.thread_state.CallPhase.TheVariants.{Ready, Absent}
use Rattle.moves.specs.declared.thread_state.ThreadState.{ThreadState}
use Rattle.moves.specs.Kinds.{MayHold}
use Rattle.stepping.specs.declared.beginning.NewThread.{NewThread}

-- what a word of a cell holds, where these are the values of the globals
abbrev pub value_at_start : (values : List ℕ) → (cell word : ℕ) → ℕ
value_at_start values zero word = slice_index values word
value_at_start values (suc cell) word = 0

-- the words of a cell hold their values before the first step, with birth 0
pub record IsRowAtStart (s : Setup) (cell : ℕ) (row : List WordValue) : Type 0 where
  pub count : length row ≡ length (words_of_cell s cell)
  pub holds : (word : ℕ) → (slice_index_or row word null).cell ≡ word_at_start s (Word cell word)
  pub births : (word : ℕ) → (slice_index_or row word null).birth ≡ 0
  pub kinds : (word : ℕ) (kind : WordKind) → kind_of s cell word ≡ Some kind → MayHold s (Some kind) (slice_index_or row word null)

-- so do those of the first cells, this number of them
pub record AreRowsAtStart (s : Setup) (count : ℕ) (rows : List (List WordValue)) : Type 0 where
  pub count_is : length rows ≡ count
  pub rows_are : (cell : ℕ) → cell < count → IsRowAtStart s cell (slice_index_or rows cell [])

-- the stage word of a thread, which may be late
abbrev pub stage_at_start : (late : Bool) → ℕ
stage_at_start late = if late then done else 0

-- where it is
abbrev pub call_phase_at_start : (late : Bool) → CallPhase
call_phase_at_start late = if late then Absent else Ready

-- a thread before its first move, with a hint for each of this number of layouts
abbrev pub thread_state_at_start : {State : Type 0} → (layouts : ℕ) → NewThread State → ThreadState State
thread_state_at_start layouts thread = record { state = thread.machine; stage = 0; call_phase = call_phase_at_start thread.is_late; replaced = null; hints = replicate layouts 0 }
