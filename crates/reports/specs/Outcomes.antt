-- The lines that the outcome of a trace is printed as, and the status that the program then ends with.
use Rattle.std.specs.Prelude.{◌++◌, ℕ, List, [], ◌∷◌, Option, Some, None, codes}
use Rattle.std.specs.Fmt.{decimal}
use Rattle.std.specs.List.{enumerate_from, flat_map}
use Rattle.moves.specs.declared.actor.Actor.{Actor}
use Rattle.moves.specs.declared.actor.Actor.TheVariants as actor
use Rattle.machine.specs.declared.value.Value.{Value}
use Rattle.machine.specs.declared.value.Value.TheVariants as value
use Rattle.program_runner.specs.declared.setup_fault.SetupFault.{SetupFault}
use Rattle.program_runner.specs.declared.setup_fault.SetupFault.TheVariants as setup
use Rattle.replay.specs.declared.thread_outcome.ThreadOutcome.{ThreadOutcome}
use Rattle.replay.specs.declared.thread_outcome.ThreadOutcome.TheVariants as thread
use Rattle.replay.specs.declared.outcome.Break.{Break}
use Rattle.replay.specs.declared.outcome.Outcome.{Outcome}
use Rattle.replay.specs.declared.outcome.Outcome.TheVariants as outcome
use Rattle.replay.specs.declared.outcome.Report.{Report}
use Rattle.replay.specs.CauseNames.{cause_name}
use Rattle.reports.specs.Report.{Answer, no_memory, unread}

-- ---- faults

-- a thread that does not begin
abbrev pub of_setup_fault : SetupFault → Answer
of_setup_fault (setup.WrongArguments t) = unread (codes "K13 t " ++ decimal t)
of_setup_fault (setup.ReferenceParameter t) = unread (codes "K20 t " ++ decimal t)
of_setup_fault setup.Memory = no_memory

-- ---- runs

-- who makes a step
abbrev pub actor_text : Actor → List ℕ
actor_text (actor.Thread t) = codes "t " ++ decimal t
actor_text actor.Collector = codes "c"

-- the first step after which a run is broken
abbrev pub break_text : Break → List ℕ
break_text at = decimal at.step ++ 32 ∷ actor_text at.actor ++ 32 ∷ cause_name at.cause ++ 10 ∷ []

-- what a thread returned
abbrev pub returned_text : Value → List ℕ
returned_text value.Unset = []
returned_text (value.Number n) = 32 ∷ decimal n
returned_text value.Null = codes " null"
returned_text (value.Cell layout at) = codes " ref " ++ decimal at.cell
returned_text (value.Address place) = []

-- what a thread returned, if anything
abbrev pub given_back : Option Value → List ℕ
given_back None = codes " returned"
given_back (Some value) = codes " returned" ++ returned_text value

-- where a thread is
abbrev pub standing_text : ThreadOutcome → List ℕ
standing_text thread.Absent = codes " absent"
standing_text (thread.Returned value) = given_back value
standing_text thread.Ended = codes " ended"
standing_text (thread.Running stage) = codes " running " ++ decimal stage

-- the line of a thread
abbrev pub end_text : ℕ × ThreadOutcome → List ℕ
end_text end = codes "t " ++ decimal end.0 ++ standing_text end.1 ++ 10 ∷ []

-- the line of what was counted
abbrev pub counts_text : Report → List ℕ
counts_text report = codes "claims " ++ decimal report.claims ++ codes " frees " ++ decimal report.frees ++ codes " posted " ++ decimal report.posted ++ 10 ∷ []

-- where the actors are after a run that no step broke: a line for the steps, one for each thread, and one for what was counted
abbrev pub report_text : Report → List ℕ
report_text report = codes "sound " ++ decimal report.steps ++ 10 ∷ [] ++ flat_map end_text (enumerate_from 0 report.threads) ++ counts_text report

-- the outcome of a trace: the status is 1 where its run is broken, 0 otherwise
abbrev pub of_outcome : Outcome → Answer
of_outcome (outcome.Broken at) = record { text = codes "broken " ++ break_text at; status = 1 }
of_outcome (outcome.Sound report) = record { text = report_text report; status = 0 }
