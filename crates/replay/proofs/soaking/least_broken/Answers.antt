-- What the search over a range of seeds returns.
use Rattle.std.proofs.Common.{◌≡◌, ◌∙◌, ℕ, sym, ap, subst}
use Rattle.std.specs.Prelude.{IfOk, IfErr, ◌≢◌}
use Rattle.std.specs.List.{AllZip}
use Rattle.rayon.specs.Numbers.{nat_range}
use Rattle.program_runner.specs.Setups.{IsSetupFault}
use Rattle.program_runner.specs.declared.setup_fault.SetupFault.TheVariants.{Memory}
use Rattle.replay.specs.declared.soaking.SeedEnd.{SeedEnd}
use Rattle.replay.specs.DrawnValues.{setup_of_seed}
use Rattle.replay.specs.Soaks.{IsTold, IsLeastFrom}
use Rattle.replay.proofs.Firsts.{Found}
use Rattle.replay.proofs.SeedsLemmas.{Ends, stops, found, all_passed, stopped}
use Rattle.replay.proofs.soaking.least_broken.Goals as goal

pub returns-in-None-clause-least : goal.returns-in-None-clause-least
returns-in-None-clause-least g c =
    let p = c.args.program.now in
    let setup = c.args.setup.now in
    let drawn = c.args.schedules.drawn_values in
    let ends = c.into_par_iter.ensures in
    let all = c.find_first-found.ensures in
    let base = ap (λ it. it.base) c.map.ensures.base ∙ c.with_min_len.ensures.base in
    let places = all.2.1 ∙ (λ i. nat_range (base i).start (base i).end) ∙ (λ i. nat_range (ends.0 i) (ends.1 i)) in
    let told = subst (λ f. AllZip (λ (seed : ℕ) (end : SeedEnd). (end.seed ≡ seed) × IsTold f.1.now f.2.now f.4.now f.3.now seed end.told) all.2.0 all.0) c.map.ensures.f all.2.2 in
    let known = found p setup drawn c.args.schedules.steps c.args.schedules.first c.args.schedules.past all.2.0 all.0 all.1 c.find_first-found.result c.requires.range places told all.3 all.4 in
    all_passed p setup drawn c.args.schedules.steps c.args.schedules.first c.args.schedules.past (subst (λ r. Found (Ends p setup drawn c.args.schedules.steps) stops c.args.schedules.first c.args.schedules.past r) c.in-None.is known)

pub returns-in-Some-clause-least : goal.returns-in-Some-clause-least
returns-in-Some-clause-least g c =
    let p = c.args.program.now in
    let setup = c.args.setup.now in
    let drawn = c.args.schedules.drawn_values in
    let ends = c.into_par_iter.ensures in
    let all = c.find_first-found.ensures in
    let base = ap (λ it. it.base) c.map.ensures.base ∙ c.with_min_len.ensures.base in
    let places = all.2.1 ∙ (λ i. nat_range (base i).start (base i).end) ∙ (λ i. nat_range (ends.0 i) (ends.1 i)) in
    let told = subst (λ f. AllZip (λ (seed : ℕ) (end : SeedEnd). (end.seed ≡ seed) × IsTold f.1.now f.2.now f.4.now f.3.now seed end.told) all.2.0 all.0) c.map.ensures.f all.2.2 in
    let known = found p setup drawn c.args.schedules.steps c.args.schedules.first c.args.schedules.past all.2.0 all.0 all.1 c.find_first-found.result c.requires.range places told all.3 all.4 in
    let both = stopped p setup drawn c.args.schedules.steps c.args.schedules.first c.args.schedules.past c.in-Some.end (subst (λ r. Found (Ends p setup drawn c.args.schedules.steps) stops c.args.schedules.first c.args.schedules.past r) c.in-Some.is known) in
    subst (λ r. IfOk r (IsLeastFrom p (setup_of_seed drawn p setup) c.args.schedules.steps c.args.schedules.first c.args.schedules.past)) (sym c.answer.ensures) both.0

pub returns-in-Some-clause-fault : goal.returns-in-Some-clause-fault
returns-in-Some-clause-fault g c =
    let p = c.args.program.now in
    let setup = c.args.setup.now in
    let drawn = c.args.schedules.drawn_values in
    let ends = c.into_par_iter.ensures in
    let all = c.find_first-found.ensures in
    let base = ap (λ it. it.base) c.map.ensures.base ∙ c.with_min_len.ensures.base in
    let places = all.2.1 ∙ (λ i. nat_range (base i).start (base i).end) ∙ (λ i. nat_range (ends.0 i) (ends.1 i)) in
    let told = subst (λ f. AllZip (λ (seed : ℕ) (end : SeedEnd). (end.seed ≡ seed) × IsTold f.1.now f.2.now f.4.now f.3.now seed end.told) all.2.0 all.0) c.map.ensures.f all.2.2 in
    let known = found p setup drawn c.args.schedules.steps c.args.schedules.first c.args.schedules.past all.2.0 all.0 all.1 c.find_first-found.result c.requires.range places told all.3 all.4 in
    let both = stopped p setup drawn c.args.schedules.steps c.args.schedules.first c.args.schedules.past c.in-Some.end (subst (λ r. Found (Ends p setup drawn c.args.schedules.steps) stops c.args.schedules.first c.args.schedules.past r) c.in-Some.is known) in
    subst (λ r. IfErr r (λ e. e ≢ Memory → IsSetupFault p setup e)) (sym c.answer.ensures) both.1
