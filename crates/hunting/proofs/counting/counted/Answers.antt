-- The counts of one more seed are those of its report.
use Rattle.std.proofs.Common.{◌≡◌, ◌∙◌, ◌+◌, IfSome, sym, ap, subst, arith}
use Rattle.replay.specs.DrawnValues.{setup_of_seed}
use Rattle.replay.specs.declared.outcome.Report.{Report}
use Rattle.hunting.specs.declared.counting.Happened.{Happened}
use Rattle.hunting.specs.declared.counting.Sample.{Sample}
use Rattle.hunting.specs.Happened.{IsCounted, IsReportOfSeed, NoSeed, Further}
use Rattle.hunting.proofs.counting.counted.Goals as goal

pub loop-seed-init : goal.loop-seed-init
loop-seed-init c =
    let p = c.args.program.now in
    let schedules = c.args.sample.schedules in
    let none = c.nothing-happened.ensures in
    let seeds = ap (λ (h : Happened). h.seeds) none in
    record {
      counted = λ uniform. subst (λ (h : Happened). IsCounted p (setup_of_seed schedules.drawn_values p c.args.start.now.setup) c.within_limit-few.result.schedules.steps schedules.first h) (sym none) NoSeed;
      seeds = omega (arith, seeds);
    }

pub loop-seed-preserved : goal.loop-seed-preserved
loop-seed-preserved c =
    let p = c.args.program.now in
    let schedules = c.args.sample.schedules in
    let begins = setup_of_seed schedules.drawn_values p c.args.start.now.setup in
    let few = c.within_limit-few.result in
    let steps = few.schedules.steps in
    let first = schedules.first in
    let before = c.loop-seed.happened in
    let r = c.in-Some.report in
    let more = c.in-Some-with.ensures in
    let seeds = ap (λ (h : Happened). h.seeds) more in
    let same = c.loop-seed.invariant.seeds in
    let limit = c.within_limit-few.ensures in
    record {
      counted = λ uniform.
          (let uniform_too = ap (λ (s : Sample). s.biased) limit ∙ uniform in
          let told = subst (λ o. IfSome o (IsReportOfSeed p (setup_of_seed few.schedules.drawn_values p c.args.start.now.setup) steps c.loop-seed.seed)) c.in-Some.is (c.in_ok-report.ensures.report uniform_too) in
          let of_seed : IsReportOfSeed p begins steps c.loop-seed.seed r =
          subst (λ drawn. IsReportOfSeed p (setup_of_seed drawn p c.args.start.now.setup) steps c.loop-seed.seed r) (ap (λ (s : Sample). s.schedules.drawn_values) limit) told in
          let report = subst (λ seed. IsReportOfSeed p begins steps seed r) (sym same) of_seed in
          subst (λ (h : Happened). IsCounted p begins steps first h) (sym more) (Further before r (c.loop-seed.invariant.counted uniform) report));
      seeds = omega (arith, seeds, same);
    }
