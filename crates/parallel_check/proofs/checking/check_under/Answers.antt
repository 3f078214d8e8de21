use Rattle.std.proofs.Common.{◌∙◌, length, sym, subst}
use Rattle.certs.specs.declared.certs.Certs.{Certs}
use Rattle.layout.specs.Layouts.{LaidOut}
use Rattle.module_check.specs.Accepted.{IsModuleCertified, IsModuleFault}
use Rattle.parallel_check.proofs.checking.check_under.Goals as goal

pub of-requires : goal.of-requires
of-requires g c =
    let under = c.args.under in
    let of_program = subst (λ (p : LaidOut). IsModuleCertified p c.certs.result.now.sections (length p.of_module.functions)) c.program.ensures c.in-None.ensures in
    let all = subst (λ (k : Certs). IsModuleCertified under.program k.sections (length under.program.of_module.functions)) c.certs.ensures of_program in
    subst (λ (parts : LaidOut × Certs). IsModuleCertified parts.0 parts.1.sections (length parts.0.of_module.functions)) (sym c.into_parts-program.ensures) all

pub returns-in-None-clause-certified : goal.returns-in-None-clause-certified
returns-in-None-clause-certified g c =
    let under = c.args.under in
    let of_program = subst (λ (p : LaidOut). IsModuleCertified p c.certs.result.now.sections (length p.of_module.functions)) c.program.ensures c.in-None.ensures in
    subst (λ (k : Certs). IsModuleCertified under.program k.sections (length under.program.of_module.functions)) c.certs.ensures of_program

pub returns-in-Some-clause-refused : goal.returns-in-Some-clause-refused
returns-in-Some-clause-refused g c =
    let under = c.args.under in
    let of_program = subst (λ (p : LaidOut). IsModuleFault p c.certs.result.now.sections (length p.of_module.functions) c.in-Some.fault) c.program.ensures c.in-Some.ensures in
    let fault = subst (λ (k : Certs). IsModuleFault under.program k.sections (length under.program.of_module.functions) c.in-Some.fault) c.certs.ensures of_program in
    (c.in-Some.fault, fault, c.refused.ensures.verdict ∙ c.from.ensures)
