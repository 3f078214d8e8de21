-- What is said of a module of which all blocks are checked.
use Rattle.std.proofs.Common.{◌≡◌, ℕ, List, Option, Some, None, IfSome, length, slice_get, subst, sym}
use Rattle.ir_ast.specs.declared.module.Module.{Module}
use Rattle.certs.specs.declared.certs.Certs.{Certs}
use Rattle.layout.specs.Layouts.{AreLayouts, AreSizes, LaidOut}
use Rattle.block_rules.specs.declared.block_fault.BlockFault.TheVariants as fault
use Rattle.block_rules.specs.declared.block_fault.Refusal.{Refusal}
use Rattle.module_check.specs.Accepted.{IsFirstInModule, IsLayoutReason, shaped, verdict_of_fault}
use Rattle.module_check.specs.declared.verdict.Reason.{Reason}
use Rattle.module_check.specs.declared.verdict.Reason.TheVariants as verdict
use Rattle.reports.specs.Report.{of_layout_reason}
use Rattle.reports.specs.Said.{Said, OnError}
use Rattle.check_commands.specs.Checks.{OfAll, OfRejected, all_not_checked, all_not_laid_out, all_told}

-- where it has no layouts
pub unlaid : (limit : ℕ) (m : Module) (certs : Certs) (v : Reason) → IsLayoutReason (shaped m certs) v → OfAll limit m certs (OnError (of_layout_reason m v))
unlaid limit m certs (verdict.Refused refusal) h = absurd h
unlaid limit m certs (verdict.Layout fault) h = all_not_laid_out fault h
unlaid limit m certs verdict.Memory h = all_not_checked

-- the first of these is the first refusal of the program
abbrev pub IsFirstOf : LaidOut → Certs → List Refusal → Type 0
IsFirstOf program certs each = (refusal : Refusal) × (slice_get each 0 ≡ Some refusal) × IsFirstInModule program certs.sections (length program.of_module.functions) refusal

-- where it has, and is not accepted
pub rejected : (limit : ℕ) (program : LaidOut) (m : Module) (certs given : Certs) (refusals : Option (List Refusal)) (said : Said) → program.of_module ≡ shaped m given → certs ≡ given
    → AreLayouts (shaped m given) program.layouts → AreSizes (shaped m given) program.sizes → IfSome refusals (IsFirstOf program certs)
    → OfRejected limit program certs.sections refusals said → OfAll limit m given said
rejected limit program m certs given None said same kept laid_out sized first told = subst (OfAll limit m given) (sym told) all_not_checked
rejected limit program m certs given (Some each) said same kept laid_out sized first told =
    let here : IsFirstOf program given each = subst (λ (k : Certs). IsFirstOf program k each) kept first in
    let is = verdict_of_fault program (shaped m given) given.sections (fault.Refused here.0) same laid_out sized here.2 in
    all_told here.0 program said is same laid_out sized (subst (λ (k : Certs). OfRejected limit program k.sections (Some each) said) kept told)
