-- A thread of the code after a move is the thread of the run after it.
use Rattle.std.proofs.Common.{◌≡◌, ℕ, true, false, List, refl, sym, ap, ◌∙◌}
use Rattle.pools.specs.Heap.{Setup}
use Rattle.colours.specs.Mutator as order
use Rattle.colours.specs.Mutator.{Phase}
use Rattle.runs.specs.Machine as machine
use Rattle.runs.specs.Machine.{WordValue, Action, Answer, Machine}
use Rattle.runs.specs.Moves.{step_of, phase_afterwards, ends_call, answer_of}
use Rattle.runs.specs.Moves as moves
use Rattle.runs.specs.Ends.{moved, stage_afterwards, old_by}
use Rattle.runs.specs.Tries.{hints_by}
use Rattle.moves.specs.declared.call.Call.{Call}
use Rattle.moves.specs.declared.call.Call.TheVariants as call
use Rattle.moves.specs.declared.moves.Move.{Move}
use Rattle.moves.specs.declared.thread_state.CallPhase.{CallPhase}
use Rattle.moves.specs.declared.thread_state.CallPhase.TheVariants as call_phase
use Rattle.moves.specs.declared.thread_state.ThreadState.{ThreadState}
use Rattle.moves.specs.Calls.{action_of, move_in}
use Rattle.moves.specs.Stands.{cells_to_try, phase_at, standing}

-- the call of an action
pub call_of : Action → Call
call_of machine.Local = call.Local
call_of (machine.Read base word) = call.Read base word
call_of (machine.StorePlain base word value) = call.StorePlain base word value
call_of (machine.Write base word value) = call.Write base word value
call_of (machine.Alloc layout) = call.Alloc layout
call_of machine.Safepoint = call.Safepoint
call_of machine.End = call.End
call_of machine.Wrong = call.Wrong

-- back from a call's action to the call
call_of-action_of : (c : Call) → call_of (action_of c) ≡ c
unfolding call_of
call_of-action_of call.Local = refl
call_of-action_of (call.Read base word) = refl
call_of-action_of (call.StorePlain base word value) = refl
call_of-action_of (call.Write base word value) = refl
call_of-action_of (call.Alloc layout) = refl
call_of-action_of call.Safepoint = refl
call_of-action_of call.End = refl
call_of-action_of call.Wrong = refl

-- and from an action's call to the action
pub action_of-call_of : (a : Action) → action_of (call_of a) ≡ a
unfolding call_of
action_of-call_of machine.Local = refl
action_of-call_of (machine.Read base word) = refl
action_of-call_of (machine.StorePlain base word value) = refl
action_of-call_of (machine.Write base word value) = refl
action_of-call_of (machine.Alloc layout) = refl
action_of-call_of machine.Safepoint = refl
action_of-call_of machine.End = refl
action_of-call_of machine.Wrong = refl

-- calls of one action are one
pub same-call : (a b : Call) → action_of a ≡ action_of b → a ≡ b
same-call a b e = sym (call_of-action_of a) ∙ ap call_of e ∙ call_of-action_of b

-- a call is over only where none is under way
pub ends-between : (m : moves.Move) (phase : Phase) → ends_call m phase ≡ true → order.is_between phase ≡ true
ends-between (moves.ReadsPostedAgain stage) phase e = absurd cc
ends-between moves.Works phase e = e
ends-between moves.GoesWrong phase e = e
ends-between (moves.ReadsWord base word value) phase e = e
ends-between (moves.ReadsOldValue base word value) phase e = e
ends-between (moves.Marks r) phase e = e
ends-between (moves.StoresAfterBarrier base word value) phase e = e
ends-between (moves.StoresPlain base word value) phase e = e
ends-between (moves.Claims r won) phase e = e
ends-between (moves.ReadsPosted stage) phase e = e
ends-between (moves.StoresStage stage roots) phase e = e
ends-between (moves.ReadsPostedFirst stage) phase e = e
ends-between (moves.EntersStage stage) phase e = e

-- between two calls neither the cells to try nor the roots matter
pub between-phase : (cells to_try : List ℕ) (roots others : List WordValue) (at : CallPhase) → order.is_between (phase_at cells roots at) ≡ true → phase_at to_try others at ≡ phase_at cells roots at
between-phase cells to_try roots others call_phase.Ready e = refl
between-phase cells to_try roots others call_phase.Ended e = refl
between-phase cells to_try roots others (call_phase.MarkingOld c w o) e = absurd cc
between-phase cells to_try roots others (call_phase.MarkingNew c w o) e = absurd cc
between-phase cells to_try roots others (call_phase.Writing c w o n) e = absurd cc
between-phase cells to_try roots others (call_phase.Trying n) e = absurd cc
between-phase cells to_try roots others (call_phase.Answering p n) e = absurd cc
between-phase cells to_try roots others call_phase.Absent e = absurd cc
between-phase cells to_try roots others (call_phase.Arriving p) e = absurd cc
between-phase cells to_try roots others call_phase.Entering e = absurd cc
between-phase cells to_try roots others call_phase.Leaving e = absurd cc

-- a cell is won only at a call's end, so until then the hints stay
hints-within : (s : Setup) (hints : List ℕ) (stage : ℕ) (phase : Phase) (m : moves.Move) → ends_call m (phase_afterwards s stage phase (step_of m)) ≡ false → hints_by s hints (step_of m) ≡ hints
hints-within s hints stage phase (moves.Claims r true) e = absurd cc
hints-within s hints stage phase (moves.Claims r false) e = refl
hints-within s hints stage phase moves.Works e = refl
hints-within s hints stage phase moves.GoesWrong e = refl
hints-within s hints stage phase (moves.ReadsWord base word value) e = refl
hints-within s hints stage phase (moves.ReadsOldValue base word value) e = refl
hints-within s hints stage phase (moves.Marks r) e = refl
hints-within s hints stage phase (moves.StoresAfterBarrier base word value) e = refl
hints-within s hints stage phase (moves.StoresPlain base word value) e = refl
hints-within s hints stage phase (moves.ReadsPosted posted) e = refl
hints-within s hints stage phase (moves.StoresStage to roots) e = refl
hints-within s hints stage phase (moves.ReadsPostedFirst posted) e = refl
hints-within s hints stage phase (moves.EntersStage to) e = refl
hints-within s hints stage phase (moves.ReadsPostedAgain posted) e = refl

-- the thread after a move, where its call ends ..
pub moved-between : (s : Setup) (m : Machine) (thread_state : ThreadState m.State) (move : Move) (state : m.State) (stage : ℕ) (at : CallPhase) (replaced : WordValue) (hints : List ℕ) (answer : Answer)
    → (let cells = cells_to_try s thread_state.hints (m.action thread_state.state) in phase_at cells (m.roots thread_state.state) at ≡ phase_afterwards s thread_state.stage (phase_at cells (m.roots thread_state.state) thread_state.call_phase) (step_of (move_in (m.roots thread_state.state) move)))
    → ends_call (move_in (m.roots thread_state.state) move) (phase_at (cells_to_try s thread_state.hints (m.action thread_state.state)) (m.roots thread_state.state) at) ≡ true
    → state ≡ m.after_answer thread_state.state answer → answer ≡ answer_of (m.action thread_state.state) (move_in (m.roots thread_state.state) move)
    → stage ≡ stage_afterwards thread_state.stage (move_in (m.roots thread_state.state) move) → replaced ≡ old_by (move_in (m.roots thread_state.state) move) → hints ≡ hints_by s thread_state.hints (step_of (move_in (m.roots thread_state.state) move))
    → standing s m (record { state = state; stage = stage; call_phase = at; replaced = replaced; hints = hints }) ≡ moved s m (standing s m thread_state) (move_in (m.roots thread_state.state) move)
moved-between s m thread_state move state stage at replaced hints answer phase between after given is_stage is_old are_hints =
    let ends = ap (ends_call (move_in (m.roots thread_state.state) move)) (sym phase) ∙ between in
    let same = between-phase (cells_to_try s thread_state.hints (m.action thread_state.state)) (cells_to_try s hints (m.action state)) (m.roots thread_state.state) (m.roots state) at (ends-between (move_in (m.roots thread_state.state) move) (phase_at (cells_to_try s thread_state.hints (m.action thread_state.state)) (m.roots thread_state.state) at) between) ∙ phase in
    rw (ends, same, after, given, is_stage, is_old, are_hints) refl

-- .. and where it does not
pub moved-within : (s : Setup) (m : Machine) (thread_state : ThreadState m.State) (move : Move) (stage : ℕ) (at : CallPhase) (replaced : WordValue) (hints : List ℕ)
    → (let cells = cells_to_try s thread_state.hints (m.action thread_state.state) in phase_at cells (m.roots thread_state.state) at ≡ phase_afterwards s thread_state.stage (phase_at cells (m.roots thread_state.state) thread_state.call_phase) (step_of (move_in (m.roots thread_state.state) move)))
    → ends_call (move_in (m.roots thread_state.state) move) (phase_at (cells_to_try s thread_state.hints (m.action thread_state.state)) (m.roots thread_state.state) at) ≡ false
    → stage ≡ stage_afterwards thread_state.stage (move_in (m.roots thread_state.state) move) → replaced ≡ old_by (move_in (m.roots thread_state.state) move) → hints ≡ hints_by s thread_state.hints (step_of (move_in (m.roots thread_state.state) move))
    → standing s m (record { state = thread_state.state; stage = stage; call_phase = at; replaced = replaced; hints = hints }) ≡ moved s m (standing s m thread_state) (move_in (m.roots thread_state.state) move)
moved-within s m thread_state move stage at replaced hints phase within is_stage is_old are_hints =
    let ends = ap (ends_call (move_in (m.roots thread_state.state) move)) (sym phase) ∙ within in
    let kept = hints-within s thread_state.hints thread_state.stage (phase_at (cells_to_try s thread_state.hints (m.action thread_state.state)) (m.roots thread_state.state) thread_state.call_phase) (move_in (m.roots thread_state.state) move) ends in
    rw (ends, are_hints, kept, phase, is_stage, is_old) refl
