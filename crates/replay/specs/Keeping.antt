-- What a world keeps of the ends of its threads.
use Rattle.std.specs.Prelude.{ℕ, Option, Some, None, List, slice_get, slice_set, unwrap_or}
use Rattle.program_runner.specs.Threads.{ProgramThread}
use Rattle.moves.specs.declared.actor.Actor.{Actor}
use Rattle.moves.specs.declared.actor.Actor.TheVariants.{Thread, Collector}
use Rattle.moves.specs.declared.thread_state.CallPhase.{CallPhase}
use Rattle.moves.specs.declared.thread_state.CallPhase.TheVariants.{Ended, Absent, Arriving, Entering, Leaving}
use Rattle.moves.specs.declared.thread_state.ThreadState.{ThreadState}
use Rattle.replay.specs.declared.thread_outcome.ThreadOutcome.{ThreadOutcome}
use Rattle.replay.specs.declared.thread_outcome.ThreadOutcome.TheVariants as thread
use Rattle.replay.specs.Worlds.{ending_at}

-- how a thread in this phase of a call has ended, if its next step is its last one: what is kept where it has ended already, else what it says
abbrev pub ending_in : CallPhase → ProgramThread → (kept : Option ThreadOutcome) → ThreadOutcome
ending_in Ended t kept = unwrap_or kept thread.Ended
ending_in call_phase t kept = ending_at t

-- so of a thread of a list, if it is there
abbrev pub ending_after : Option (ThreadState ProgramThread) → (kept : Option ThreadOutcome) → ThreadOutcome
ending_after None kept = unwrap_or kept thread.Ended
ending_after (Some thread_state) kept = ending_in thread_state.call_phase thread_state.state kept

-- how an actor ends, if its next step is its last one; the collector ends no thread
abbrev pub ending_to_keep : Actor → List (ThreadState ProgramThread) → List ThreadOutcome → ThreadOutcome
ending_to_keep (Thread t) threads endings = ending_after (slice_get threads t) (slice_get endings t)
ending_to_keep Collector threads endings = thread.Ended

-- the endings with that of an actor, if it is a thread
abbrev pub with_ending : Actor → ThreadOutcome → List ThreadOutcome → List ThreadOutcome
with_ending (Thread t) ending endings = slice_set endings t ending
with_ending Collector ending endings = endings

-- the endings after a step of an actor
abbrev pub endings_after : Actor → List (ThreadState ProgramThread) → List ThreadOutcome → List ThreadOutcome
endings_after actor threads endings = with_ending actor (ending_to_keep actor threads endings) endings

-- where a thread in this phase of a call is, at this stage, and how it ended if it has
abbrev pub end_at : CallPhase → (stage : ℕ) → (ending : ThreadOutcome) → ThreadOutcome
end_at Ended stage ending = ending
end_at Absent stage ending = thread.Absent
end_at (Arriving posted) stage ending = thread.Absent
end_at Entering stage ending = thread.Absent
end_at Leaving stage ending = thread.Absent
end_at call_phase stage ending = thread.Running stage

-- so of a thread of a list, if it is there
abbrev pub end_told : Option (ThreadState ProgramThread) → Option ThreadOutcome → ThreadOutcome
end_told None ending = thread.Ended
end_told (Some thread_state) ending = end_at thread_state.call_phase thread_state.stage (unwrap_or ending thread.Ended)
