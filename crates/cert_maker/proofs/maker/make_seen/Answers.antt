use Rattle.std.proofs.Common.{Ok, ap, sym, subst, ◌∙◌}
use Rattle.ir_ast.specs.declared.module.Module.{Module}
use Rattle.layout.specs.Layouts.{IsLayoutFault}
use Rattle.module_check.specs.Accepted.{CertifiedProgram}
use Rattle.cert_maker.specs.Made.{IsMade}
use Rattle.cert_maker.proofs.Lacks.{accepted_with, fit_with, layouts_answer, layouts_fault, layouts_memory, no_layout_fault, none_accepted, plainly_refused, refused_with}
use Rattle.cert_maker.proofs.maker.make_seen.Goals as goal

-- ---- there are no layouts

pub returns-in-Err : goal.returns-in-Err
returns-in-Err g c =
    let fault = layouts_answer c.args.of_module c.in-Err.refused.fault c.from.result c.from.ensures in
    record {
      kept = tt;
      fits = tt;
      shapes = tt;
      foreign = tt;
      certified = tt;
      none = λ answered _. fault answered;
      plain = λ answered. absurd (fault answered);
      layout = layouts_fault c.args.of_module c.in-Err.refused.fault c.from.result c.from.ensures c.in-Err.ensures.fault;
      only_so = λ words laid. layouts_memory c.args.of_module c.in-Err.refused.fault c.from.result c.from.ensures (c.in-Err.ensures.refused_only_so words laid);
      refused = tt;
      given_back = c.in-Err.ensures.given_back;
    }

-- ---- certificates are made

pub returns-in-Ok-shaped_certs_for : goal.returns-in-Ok-shaped_certs_for
returns-in-Ok-shaped_certs_for g c =
    let found = c.in-Ok.ensures.found in
    let certs = c.in-Ok-shaped_certs_for.certs in
    let good = c.in-Ok-shaped_certs_for.ensures.good in
    subst (λ (accepted : CertifiedProgram). IsMade c.args.of_module (Ok accepted)) (sym c.of.ensures.holds) (record {
      kept = found.0;
      fits = fit_with c.in-Ok.program c.args.of_module found.0 found.1 found.2 certs good;
      shapes = c.in-Ok-shaped_certs_for.ensures.shapes ∙ ap (λ (x : Module). x.shapes) found.0;
      foreign = c.in-Ok-shaped_certs_for.ensures.foreign ∙ ap (λ (x : Module). x.trusted) found.0;
      certified = accepted_with c.in-Ok.program c.args.of_module found.0 found.1 found.2 certs good;
      none = tt;
      plain = tt;
      layout = tt;
      only_so = λ words laid. tt;
      refused = tt;
      given_back = tt;
    })

-- ---- none are

pub returns-in-Err-shaped_certs_for : goal.returns-in-Err-shaped_certs_for
returns-in-Err-shaped_certs_for g c =
    let found = c.in-Ok.ensures.found in
    let failure = c.in-Err-shaped_certs_for.none.make_failure in
    let made = c.from-in-Err-shaped_certs_for.result in
    let is = c.from-in-Err-shaped_certs_for.ensures in
    let has = c.in-Err-shaped_certs_for.ensures.make_failure in
    record {
      kept = tt;
      fits = tt;
      shapes = tt;
      foreign = tt;
      certified = tt;
      none = none_accepted c.in-Ok.program c.args.of_module found.0 found.1 found.2 failure made is has;
      plain = plainly_refused c.in-Ok.program c.args.of_module found.0 found.1 found.2 failure made is has;
      layout = no_layout_fault (IsLayoutFault c.args.of_module) failure made is;
      only_so = λ words laid. no_layout_fault (λ _. ⊥) failure made is;
      refused = refused_with c.in-Ok.program c.args.of_module found.0 found.1 found.2 c.in-Err-shaped_certs_for.none.refused c.in-Err-shaped_certs_for.ensures.refused;
      given_back = c.into_module.ensures ∙ found.0;
    }
