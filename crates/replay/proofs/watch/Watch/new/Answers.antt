-- Nothing is counted before the first step, and the run is not broken there.
use Rattle.std.proofs.Common.{[], refl, sym, subst}
use Rattle.moves.specs.Runs.{run_by}
use Rattle.program_runner.specs.Setups.{starts_of}
use Rattle.stepping.specs.declared.cover.Cover.{Cover}
use Rattle.stepping.specs.Covers.{IsCovered}
use Rattle.replay.specs.Runs.{program_machine, heap_of}
use Rattle.replay.proofs.StartsLemmas.{unbroken_start}
use Rattle.replay.proofs.watch.Watch.new.Goals as goal

pub returns-clause-ok : goal.returns-clause-ok
unfolding run_by
returns-clause-ok c = record {
  program = c.in_ok-new.ensures.ok.0;
  setup_is = c.in_ok-new.ensures.ok.1;
  afterwards = c.in_ok-new.ensures.ok.2;
  unbroken = unbroken_start c.args.program.now c.args.setup.now;
  steps = refl;
  claims_are = refl;
  frees_are = refl;
  covered = subst (λ (cover : Cover). IsCovered (heap_of c.args.program.now c.args.setup.now) program_machine (starts_of c.args.program.now c.args.setup.now) [] cover) (sym c.unknown.ensures) tt;
}
