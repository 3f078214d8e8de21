-- The law of bounds, of every machine.
use Rattle.std.proofs.Common.{◌≢◌, ◌^◌, ◌<◌, List, subst}
use Rattle.pools.specs.Heap.{Setup}
use Rattle.colours.specs.Steps.{Step}
use Rattle.colours.specs.Mutator.{Ended, HasBegun, stage_of, phase_of}
use Rattle.runs.specs.Machine.{Machine, machine_of}
use Rattle.runs.specs.ModuleRuns.{heap_of}
use Rattle.runs.specs.Shares.{log_is, heap_run}
use Rattle.stepping.specs.Bounds.{AreBounded}
use Rattle.stepping.proofs.Births.{births_low}
use Rattle.stepping.proofs.Stages.{stage_low}
use Rattle.stepping.proofs.bounds_laws.bounds_law.Goals as goal

-- the heap run of a module run has its stages and births
bounded : (s : Setup) (m : Machine) → AreBounded s m
bounded s m starts run r = record {
  stages = λ t lt. subst (λ (log : List Step). HasBegun (phase_of s t log) → phase_of s t log ≢ Ended → stage_of log < 2 ^ 62) (log_is t run)
      (stage_low s (heap_of run) t (heap_run s m starts run r) lt);
  births = λ c. births_low s (heap_of run) c (heap_run s m starts run r);
}

pub returns : goal.returns
returns g c s = bounded s (machine_of g.M.Machine.action g.M.Machine.after_answer g.M.Machine.roots)
