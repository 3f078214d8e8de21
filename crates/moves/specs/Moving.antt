-- What is known of the next move of a thread of the code, so that it may be made.
use Rattle.std.specs.Prelude.{ℕ, ◌≡◌, ◌<◌, ◌^◌, ◌≤◌, ◌==◌, not, true, Option, Some, None, List, length, filter, slice_get, slice_index, nat_lt, if◌then◌else◌}
use Rattle.pools.specs.Heap.{Setup, IsOfLayout, layout_of}
use Rattle.pools.specs.Pools.{first_cell}
use Rattle.colours.specs.Mutator as order
use Rattle.colours.specs.Mutator.{Phase}
use Rattle.runs.specs.Machine as machine
use Rattle.runs.specs.Machine.{WordValue, Action}
use Rattle.moves.specs.Stands.{cells_by, tried_of}
use Rattle.moves.specs.declared.call.Call.{Call}
use Rattle.moves.specs.declared.call.Call.TheVariants.{Alloc}
use Rattle.moves.specs.declared.moves.Move.{Move}
use Rattle.moves.specs.declared.moves.Move.TheVariants.{Marks, Claims}
use Rattle.moves.specs.declared.thread_state.CallPhase.{CallPhase}
use Rattle.moves.specs.declared.thread_state.CallPhase.TheVariants.{Trying, Answering}

-- the roots that are not null
abbrev pub not_null : List WordValue → List WordValue
not_null roots = filter (λ r. not (r.cell == 0)) roots

-- how many cells were tried in the call under way
abbrev pub tried_in : CallPhase → ℕ
tried_in (Trying tried) = tried
tried_in call_phase = 0

-- the cell is the next one of these cells of a layout's pool, after this number of them
pub record IsNextTry (s : Setup) (layout : ℕ) (cells : List ℕ) (tried cell : ℕ) : Type 0 where
  pub is_next : cell ≡ slice_index cells tried
  pub of_layout : IsOfLayout s layout cell
  pub left : tried < slice_index s.pools layout

-- a try is that of the next cell of the pool by the hint
abbrev pub TriesNext : Setup → (hints : List ℕ) → Call → CallPhase → (cell : ℕ) → Type 0
TriesNext s hints (Alloc layout) call_phase cell = IsNextTry s layout (cells_by s hints layout) (tried_in call_phase) cell
TriesNext s hints call call_phase cell = ⊥

-- a mark in an answer is that of the next root
abbrev pub MarksNext : (roots : List WordValue) → CallPhase → (cell : ℕ) → Type 0
MarksNext roots (Answering stage marked) cell = (r : WordValue) × (slice_get (not_null roots) marked ≡ Some r) × (r.cell ≡ cell)
MarksNext roots call_phase cell = Unit {0}

-- one more cell may be counted among those that were tried
abbrev pub CountsTry : CallPhase → Type 0
CountsTry (Trying tried) = tried < 2 ^ 32
CountsTry call_phase = Unit {0}

-- one more root may be counted among those that are marked
abbrev pub CountsMark : CallPhase → Type 0
CountsMark (Answering stage marked) = marked < 2 ^ 63
CountsMark call_phase = Unit {0}

-- what the move adds may be counted
abbrev pub HasRoom : CallPhase → Move → Type 0
HasRoom call_phase (Marks r) = CountsMark call_phase
HasRoom call_phase (Claims r won) = CountsTry call_phase
HasRoom call_phase made = Unit {0}

-- the same for a next move, if there is one
abbrev pub HasRoomForNext : CallPhase → Option Move → Type 0
HasRoomForNext call_phase None = Unit {0}
HasRoomForNext call_phase (Some made) = HasRoom call_phase made

-- where a thread is that tried this number of cells of the pool that is asked for, each in vain
abbrev pub phase_left : (pools : List ℕ) → Action → (cells : List ℕ) → (tried : ℕ) → Phase
phase_left pools (machine.Alloc layout) cells tried = if nat_lt tried (slice_index pools layout) then order.Trying (tried_of cells tried) else order.Ready
phase_left pools action cells tried = order.Ready

-- the move is one that the thread may make where it is: a mark in an answer is that of the next root, and a try that of the next cell
abbrev pub MayMake : Setup → (hints : List ℕ) → (roots : List WordValue) → Call → CallPhase → Move → Type 0
MayMake s hints roots call call_phase (Marks r) = MarksNext roots call_phase r.cell
MayMake s hints roots call call_phase (Claims r won) = TriesNext s hints call call_phase r.cell
MayMake s hints roots call call_phase made = Unit {0}

-- ---- hints

-- a won cell is of the layout that is asked for
abbrev pub WinsOfLayout : Setup → Move → Call → Type 0
WinsOfLayout s (Claims r true) (Alloc layout) = layout_of s r.cell ≡ layout
WinsOfLayout s (Claims r true) call = ⊥
WinsOfLayout s made call = Unit {0}

-- there is a hint for the layout of a won cell, and the place after the cell in its pool fits
pub record CanRecord (pools hints : List ℕ) (layout cell : ℕ) : Type 0 where
  pub is_layout : layout < length pools
  pub has_hint : layout < length hints
  pub in_pool : first_cell pools layout ≤ cell
  pub fits : cell < 2 ^ 32

-- the same for the move that is made and what is asked for
abbrev pub HasHint : (pools hints : List ℕ) → Move → Action → Type 0
HasHint pools hints (Claims r true) (machine.Alloc layout) = CanRecord pools hints layout r.cell
HasHint pools hints made action = Unit {0}
