-- The roots of the threads under way.
use Rattle.std.specs.Prelude.{List, [], ◌∷◌, ◌++◌}
use Rattle.runs.specs.Machine.{WordValue}
use Rattle.moves.specs.declared.moves.Move.{Move}
use Rattle.moves.specs.declared.moves.Move.TheVariants.{ReadsPostedAgain}
use Rattle.moves.specs.declared.thread_state.CallPhase.{CallPhase}
use Rattle.moves.specs.declared.thread_state.CallPhase.TheVariants.{Ended, Absent, Arriving, Entering, Leaving}
use Rattle.moves.specs.declared.thread_state.ThreadState.{ThreadState}

-- a thread that has ended has none, nor one that has not begun
abbrev pub under_way : CallPhase → List WordValue → List WordValue
under_way Ended roots = []
under_way Absent roots = []
under_way (Arriving stage) roots = []
under_way Entering roots = []
under_way Leaving roots = []
under_way call_phase roots = roots

-- those of one thread
abbrev pub own_roots : {State : Type 0} → (roots : State → List WordValue) → ThreadState State → List WordValue
own_roots roots thread_state = under_way thread_state.call_phase (roots thread_state.state)

-- and of all, one thread after the other
abbrev pub roots_of : {State : Type 0} → (roots : State → List WordValue) → List (ThreadState State) → List WordValue
roots_of roots [] = []
roots_of roots (thread_state ∷ stands) = own_roots roots thread_state ++ roots_of roots stands

-- roots of a thread after a move, among which is each that was none before it: of a thread that has begun by it, all; else those of its newest frames
abbrev pub new_roots : {State : Type 0} → (roots newest : State → List WordValue) → ThreadState State → Move → List WordValue
new_roots roots newest thread_state (ReadsPostedAgain stage) = own_roots roots thread_state
new_roots roots newest thread_state made = newest thread_state.state
