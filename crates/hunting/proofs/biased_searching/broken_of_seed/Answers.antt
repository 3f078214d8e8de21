-- Where numbers are drawn, the run begins with them; otherwise as the trace does.
use Rattle.std.proofs.Common.{◌≡◌, ◌∙◌, IfSome, ap, sym, subst}
use Rattle.std.specs.Prelude.{◌&&◌, IfOk}
use Rattle.std.proofs.lemmas.Result.{IfErr-weaker}
use Rattle.program_runner.specs.Setups.{IsCertifiedSetup, IsSetupFault}
use Rattle.trace_text.specs.declared.trace.Setup.{Setup}
use Rattle.replay.specs.DrawnValues.{setup_of_seed}
use Rattle.replay.proofs.DrawnSetups.{certified_of_seed, fault_of_seed}
use Rattle.hunting.proofs.biased_searching.broken_of_seed.Goals as goal

-- ---- the trace that is searched from begins as the run of the seed

pub returns-clause-setup : goal.returns-clause-setup
returns-clause-setup c =
    let p = c.args.program.now in
    let drawn = c.args.schedules.drawn_values in
    let begun = c.in_ok-begun.ensures.setup ∙ ap (λ (setup : Setup). setup_of_seed drawn p setup c.args.seed) c.in_ok-before.ensures.setup in
    subst (λ (setup : Setup). IfOk c.broken_by_seed-found.result (λ found. IfSome found (λ f. f.trace.setup ≡ setup))) begun c.broken_by_seed-found.ensures.setup

pub returns-clause-safe : goal.returns-clause-safe
returns-clause-safe c certs is =
    let p = c.args.program.now in
    let drawn = c.args.schedules.drawn_values in
    let begun = c.in_ok-begun.ensures.setup ∙ ap (λ (setup : Setup). setup_of_seed drawn p setup c.args.seed) c.in_ok-before.ensures.setup in
    c.broken_by_seed-found.ensures.safe certs
    (subst (λ (setup : Setup). IsCertifiedSetup p setup certs) (sym begun) (certified_of_seed p c.args.seed c.args.start.now.setup (drawn && p.of_module.wide) certs is))

pub returns-clause-fault : goal.returns-clause-fault
returns-clause-fault c =
    let p = c.args.program.now in
    let drawn = c.args.schedules.drawn_values in
    let begun = c.in_ok-begun.ensures.setup ∙ ap (λ (setup : Setup). setup_of_seed drawn p setup c.args.seed) c.in_ok-before.ensures.setup in
    IfErr-weaker c.broken_by_seed-found.result _ _
    (λ e faulty other. fault_of_seed p c.args.seed c.args.start.now.setup (drawn && p.of_module.wide) e (subst (λ (setup : Setup). IsSetupFault p setup e) begun (faulty other)))
    c.broken_by_seed-found.ensures.fault
