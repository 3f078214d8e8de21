-- What is counted of the runs of seeds.
use Rattle.std.specs.Prelude.{ℕ, ◌+◌, ◌-◌, ◌/◌, Bool, true, false, length, reverse, count_by}
use Rattle.layout.specs.Layouts.{LaidOut}
use Rattle.trace_text.specs.declared.trace.Setup.{Setup}
use Rattle.replay.specs.Outcomes.{Reports}
use Rattle.replay.specs.Soaks.{actors_drawn}
use Rattle.replay.specs.declared.outcome.Report.{Report}
use Rattle.replay.specs.declared.thread_outcome.ThreadOutcome.{ThreadOutcome}
use Rattle.replay.specs.declared.thread_outcome.ThreadOutcome.TheVariants.{Absent, Returned, Ended, Running}
use Rattle.hunting.specs.declared.counting.Happened.{Happened}

-- the thread returned from its first function, or ended otherwise
abbrev pub is_ended : ThreadOutcome → Bool
is_ended Absent = false
is_ended (Returned value) = true
is_ended Ended = true
is_ended (Running stage) = false

-- how many threads of a run ended
abbrev pub ends_in : Report → ℕ
ends_in r = count_by is_ended r.threads

-- how many cycles of the collector ended: each has three stages, and after its end the first stage of the next one is posted
abbrev pub cycles_in : Report → ℕ
cycles_in r = (r.posted - 1) / 3

-- the counts of no run
abbrev pub nothing : Happened
nothing = record { seeds = 0; claims = 0; frees = 0; cycles = 0; ends = 0 }

-- counts, with those of one more run
abbrev pub with_report : Happened → Report → Happened
with_report h r = record {
  seeds = h.seeds + 1;
  claims = h.claims + r.claims;
  frees = h.frees + r.frees;
  cycles = h.cycles + cycles_in r;
  ends = h.ends + ends_in r;
}

-- where the actors are after this number of steps that a seed draws, from the setup with which its run begins
abbrev pub IsReportOfSeed : LaidOut → (begins : ℕ → Setup) → (steps seed : ℕ) → Report → Type 0
IsReportOfSeed p begins steps seed r = Reports p (begins seed) (reverse (actors_drawn (length (begins seed).starts) seed steps)) r

-- the counts of the runs of some seeds, one after the other from the first one on
pub data IsCounted (p : LaidOut) (begins : ℕ → Setup) (steps first : ℕ) : Happened → Type 0 where
  NoSeed : IsCounted p begins steps first nothing
  Further :
      (h : Happened) (r : Report) → IsCounted p begins steps first h
      → IsReportOfSeed p begins steps (first + h.seeds) r
      → IsCounted p begins steps first (with_report h r)
