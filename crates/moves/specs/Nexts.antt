-- The next move of a thread of the code, by where it is and what it asks for.
use Rattle.std.proofs.Common.{◌≡◌, ℕ, zero, suc, List, Option, Some, None, length, refl, sym, ap, ◌∙◌, subst}
use Rattle.pools.specs.Heap.{Setup}
use Rattle.runs.specs.Machine.{Action, Machine}
use Rattle.runs.specs.NextMoves.{Sight, next_move}
use Rattle.runs.specs.Ends.{next_move_of}
use Rattle.moves.specs.declared.moves.Move.{Move}
use Rattle.moves.specs.declared.moves.Move.TheVariants as made
use Rattle.moves.specs.declared.thread_state.CallPhase.{CallPhase}
use Rattle.moves.specs.declared.thread_state.ThreadState.{ThreadState}
use Rattle.moves.specs.Moving.{CountsTry, CountsMark, HasRoom, HasRoomForNext}
use Rattle.moves.specs.Stands.{cells_to_try, tried_of, phase_at, standing}

-- of a thread that is there and asks for this
pub stands-next : (s : Setup) (m : Machine) (h : Sight) (thread_state : ThreadState m.State) (call_phase : CallPhase) (asked : Action) → thread_state.call_phase ≡ call_phase → asked ≡ m.action thread_state.state
    → next_move_of s m h (standing s m thread_state) ≡ next_move s h thread_state.stage (m.roots thread_state.state) thread_state.replaced asked (phase_at (cells_to_try s thread_state.hints asked) (m.roots thread_state.state) call_phase)
stands-next s m h thread_state call_phase asked e f =
    ap (λ (v : CallPhase). next_move s h thread_state.stage (m.roots thread_state.state) thread_state.replaced (m.action thread_state.state) (phase_at (cells_to_try s thread_state.hints (m.action thread_state.state)) (m.roots thread_state.state) v)) e
    ∙ ap (λ (a : Action). next_move s h thread_state.stage (m.roots thread_state.state) thread_state.replaced a (phase_at (cells_to_try s thread_state.hints a) (m.roots thread_state.state) call_phase)) (sym f)

-- this number of cells were tried
pub tried_of-length : (cells : List ℕ) (count : ℕ) → length (tried_of cells count) ≡ count
tried_of-length cells zero = refl
tried_of-length cells (suc count) = ap suc (tried_of-length cells count)

-- a move may be counted where one more try and one more mark may
counted : (call_phase : CallPhase) → CountsTry call_phase → CountsMark call_phase → (move : Move) → HasRoom call_phase move
counted call_phase try mark (made.Marks r) = mark
counted call_phase try mark (made.Claims r won) = try
counted call_phase try mark made.Works = tt
counted call_phase try mark made.GoesWrong = tt
counted call_phase try mark (made.ReadsWord base word value) = tt
counted call_phase try mark (made.ReadsOldValue base word value) = tt
counted call_phase try mark (made.StoresAfterBarrier base word value) = tt
counted call_phase try mark (made.StoresPlain base word value) = tt
counted call_phase try mark (made.ReadsPosted stage) = tt
counted call_phase try mark (made.Answers stage) = tt
counted call_phase try mark made.Ends = tt
counted call_phase try mark (made.ReadsPostedFirst stage) = tt
counted call_phase try mark (made.EntersStage stage) = tt
counted call_phase try mark (made.ReadsPostedAgain stage) = tt

-- so may each next move of a thread that is there
pub counts-none : (at call_phase : CallPhase) → at ≡ call_phase → CountsTry call_phase → CountsMark call_phase → (next : Option Move) → HasRoomForNext at next
counts-none at call_phase e try mark None = tt
counts-none at call_phase e try mark (Some move) = subst (λ (v : CallPhase). HasRoom v move) (sym e) (counted call_phase try mark move)
