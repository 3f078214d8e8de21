use Rattle.std.proofs.Common.{inr, sym, subst}
use Rattle.layout.specs.Layouts.{AreLayouts, AreSizes, IsLayoutFault}
use Rattle.reports.specs.Files.{HasShaped}
use Rattle.reports.proofs.files.program_in.Goals as goal

pub returns-in-Ok-clause-ok : goal.returns-in-Ok-clause-ok
returns-in-Ok-clause-ok c =
    let program = c.in-Ok.program in
    let found = c.in-Ok.ensures.found in
    (subst (HasShaped _ _) (sym found.0) c.in_ok-of_module.ensures.ok, subst (λ m. AreLayouts m program.layouts) (sym found.0) found.1, subst (λ m. AreSizes m program.sizes) (sym found.0) found.2)

pub returns-in-Err-clause-err : goal.returns-in-Err-clause-err
returns-in-Err-clause-err c =
    let refused = c.in-Err.refused in
    let same = sym c.in-Err.ensures.given_back in
    inr (subst (HasShaped _ _) same c.in_ok-of_module.ensures.ok, λ other. subst (λ m. IsLayoutFault m refused.fault) same (c.in-Err.ensures.fault other))
