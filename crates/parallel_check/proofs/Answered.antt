-- What is answered of a module, by what is found of it as it is checked.
use Rattle.std.proofs.Common.{◌≡◌, ◌∙◌, IfErr, IfOk, OnOk, Ok, Err, Result, length, subst, sym}
use Rattle.ir_ast.specs.declared.module.Module.{Module}
use Rattle.certs.specs.declared.certs.Certs.{Certs}
use Rattle.layout.specs.Layouts.{AreLayouts, AreSizes, LaidOut}
use Rattle.block_rules.specs.declared.block_fault.BlockFault.{BlockFault}
use Rattle.module_check.specs.Accepted.{CertifiedProgram, IsAccepted, IsModuleCertified, IsModuleFault, IsProgramCertified, IsVerdictOf, accepted_program, certified_program, reason_of_block, shaped, verdict_of_fault}
use Rattle.module_check.specs.Exclusive.{only_memory}
use Rattle.module_check.specs.declared.verdict.NotAccepted.{NotAccepted}
use Rattle.module_check.specs.declared.verdict.Reason.{Reason}
use Rattle.module_check.specs.declared.verdict.Reason.TheVariants.{Memory}

-- all functions of a program are certified
abbrev All : LaidOut → Certs → Type 0
All program certs = IsModuleCertified program certs.sections (length program.of_module.functions)

-- the verdict is that of a fault of the program
abbrev pub IsOfFault : LaidOut → Certs → Reason → Type 0
IsOfFault program certs verdict = (fault : BlockFault) × IsModuleFault program certs.sections (length program.of_module.functions) fault × (verdict ≡ reason_of_block fault)

module _ (program : LaidOut) (m : Module) (certs given : Certs) (same : program.of_module ≡ shaped m given) (kept : certs ≡ given) (laid_out : AreLayouts (shaped m given) program.layouts) (sized : AreSizes (shaped m given) program.sizes) where
  pub accepted : (result : Result CertifiedProgram NotAccepted) → IfOk result (λ _. All program certs) → OnOk result (IsAccepted (shaped m given) given.sections)
  accepted (Ok made) all = accepted_program program (shaped m given) given.sections same laid_out sized (subst (All program) kept all)
  accepted (Err refused) all = tt

  pub certified : (result : Result CertifiedProgram NotAccepted) → IfOk result (λ made. (made.program ≡ program) × (made.certs ≡ certs)) → IfOk result (λ _. All program certs)
      → IfOk result (λ made. IsProgramCertified made.program made.certs.sections)
  certified (Ok made) is all =
      subst (λ (p : LaidOut). IsProgramCertified p made.certs.sections) (sym is.0)
      (subst (λ (c : Certs). IsProgramCertified program c.sections) (sym is.1) (certified_program program (shaped m given) certs.sections same laid_out sized all))
  certified (Err refused) is all = tt

  pub verdict : (result : Result CertifiedProgram NotAccepted) → IfErr result (λ refused. IsOfFault program certs refused.verdict)
      → IfErr result (λ refused. IsVerdictOf (shaped m given) given.sections refused.verdict)
  verdict (Ok made) of_fault = tt
  verdict (Err refused) of_fault =
      subst (λ (v : Reason). IsVerdictOf (shaped m given) given.sections v) (sym of_fault.2)
      (verdict_of_fault program (shaped m given) given.sections of_fault.0 same laid_out sized (subst (λ (c : Certs). IsModuleFault program c.sections (length program.of_module.functions) of_fault.0) kept of_fault.1))

  pub only : (result : Result CertifiedProgram NotAccepted) → IfErr result (λ refused. IsOfFault program certs refused.verdict) → IsAccepted (shaped m given) given.sections → IfErr result (λ refused. refused.verdict ≡ Memory)
  only (Ok made) of_fault is_accepted = tt
  only (Err refused) of_fault is_accepted =
      of_fault.2 ∙ only_memory program (shaped m given) given.sections of_fault.0 same laid_out sized (subst (λ (c : Certs). IsModuleFault program c.sections (length program.of_module.functions) of_fault.0) kept of_fault.1) is_accepted
