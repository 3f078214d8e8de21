-- the counts are those of the seeds so far
use Rattle.std.proofs.Common.{◌≡◌, ◌+◌, false}
use Rattle.replay.specs.DrawnValues.{setup_of_seed}
use Rattle.hunting.specs.Happened.{IsCounted}
use Rattle.hunting.proofs.counting.counted.Given as goal

abbrev pub invariant-loop-seed : goal.invariant-loop-seed
invariant-loop-seed l = record {
  counted : l.sample.biased ≡ false → IsCounted l.program (setup_of_seed l.sample.schedules.drawn_values l.program l.start.setup) l.few.schedules.steps l.sample.schedules.first l.happened;
  seeds : l.sample.schedules.first + l.happened.seeds ≡ l.seed;
}
