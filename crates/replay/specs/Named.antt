-- The roots that a thread names at an answer.
use Rattle.std.specs.Prelude.{◌≡◌, Option, Some, None, List, []}
use Rattle.runs.specs.Machine.{WordValue}
use Rattle.runs.specs.ModuleRuns as runs
use Rattle.moves.specs.Runs.{next_by}
use Rattle.moves.specs.declared.actor.Actor.{Actor}
use Rattle.moves.specs.declared.thread_state.CallPhase.{CallPhase}
use Rattle.moves.specs.declared.thread_state.CallPhase.TheVariants.{Answering}
use Rattle.moves.specs.declared.thread_state.ThreadState.{ThreadState}
use Rattle.stepping.specs.Ends.{Tells}
use Rattle.stepping.specs.declared.happening.MadeStep.{MadeStep}
use Rattle.program_runner.specs.Threads.{ProgramThread, program_machine}
use Rattle.program_runner.specs.Heaps.{heap_of}
use Rattle.program_runner.specs.Setups.{starts_of}
use Rattle.replay.specs.Worlds.{World, run_of}

-- with these roots, the step tells what the actor does next after this world
abbrev pub IsToldWith : World → (before : List Actor) → Actor → (roots : List WordValue) → Option MadeStep → Type 0
IsToldWith w before actor roots None = next_by (heap_of w.program w.setup) program_machine (starts_of w.program w.setup) (run_of w.program w.setup before) actor ≡ None
IsToldWith w before actor roots (Some step) =
    (happening : runs.Happening) × (next_by (heap_of w.program w.setup) program_machine (starts_of w.program w.setup) (run_of w.program w.setup before) actor ≡ Some happening)
    × Tells (λ t. roots) step.happening happening

-- a thread that is in an answer names its roots, and another one names none
abbrev pub named_in : CallPhase → (roots : List WordValue) → List WordValue
named_in (Answering stage marked) roots = roots
named_in call_phase roots = []

-- so does a thread of a list, if it is there
abbrev pub AreNamedBy : Option (ThreadState ProgramThread) → (roots : List WordValue) → Type 0
AreNamedBy None roots = roots ≡ []
AreNamedBy (Some thread_state) roots = roots ≡ named_in thread_state.call_phase (program_machine.roots thread_state.state)
