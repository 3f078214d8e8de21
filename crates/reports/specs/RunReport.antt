-- The lines that a run on real threads is printed as.
use Rattle.std.specs.Prelude.{◌++◌, ℕ, List, [], ◌∷◌, codes}
use Rattle.std.specs.Fmt.{decimal}
use Rattle.std.specs.List.{enumerate_from, flat_map}
use Rattle.mutators.specs.declared.report.RunReport.{RunReport}
use Rattle.mutators.specs.declared.thread_end.ThreadEnd.{ThreadEnd}
use Rattle.mutators.specs.declared.thread_end.ThreadEnd.TheVariants.{Returned, Ended, Stopped, Memory, Absent}
use Rattle.reports.specs.Report.{Answer}
use Rattle.reports.specs.Outcomes.{given_back}

-- how a thread came to its end
abbrev pub end_text : ThreadEnd → List ℕ
end_text (Returned value) = given_back value
end_text Ended = codes " ended"
end_text Stopped = codes " stopped"
end_text Memory = codes " memory"
end_text Absent = codes " absent"

-- the line of a thread
abbrev pub thread_text : ℕ × ThreadEnd → List ℕ
thread_text thread = codes "t " ++ decimal thread.0 ++ end_text thread.1 ++ 10 ∷ []

-- the line of the collector
abbrev pub collector_text : RunReport → List ℕ
collector_text report = codes "collector turns " ++ decimal report.turns ++ codes " cycles " ++ decimal report.cycles ++ 10 ∷ []

-- a line for each thread, and one for the collector
abbrev pub of_report : RunReport → Answer
of_report report = record { text = flat_map thread_text (enumerate_from 0 report.threads) ++ collector_text report; status = 0 }
