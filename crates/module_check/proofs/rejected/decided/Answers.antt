use Rattle.std.proofs.Common.{◌≡◌, ◌∙◌, List, MatchOption, Option, length, slice_get, subst, sym}
use Rattle.certs.specs.declared.certs.Certs.{Certs}
use Rattle.block_rules.specs.declared.block_fault.Refusal.{Refusal}
use Rattle.layout.specs.Layouts.{LaidOut}
use Rattle.module_check.specs.Accepted.{IsFirstInModule, IsModuleCertified}
use Rattle.module_check.specs.Refusals.{AreOfFunctions}
use Rattle.module_check.specs.declared.under_check.UnderCheck.{UnderCheck}
use Rattle.module_check.proofs.First.{first_in_module}
use Rattle.module_check.proofs.rejected.decided.Goals as goal

-- the first refusal, or acceptance
abbrev Found : UnderCheck → Option Refusal → Type 0
Found under first =
    let count = length under.program.of_module.functions in
    MatchOption first (IsModuleCertified under.program under.certs.sections count) (IsFirstInModule under.program under.certs.sections count)

found : (under : UnderCheck) (refusals : List Refusal) (first : Option Refusal) → AreOfFunctions under.program under.certs.sections (length under.program.of_module.functions) refusals → slice_get refusals 0 ≡ first → Found under first
found under refusals first are is = subst (Found under) is (first_in_module under.program under.certs.sections (length under.program.of_module.functions) refusals are)

pub of-requires : goal.of-requires
of-requires c =
    let all = found c.args.under c.args.refusals _ c.requires (sym c.first.ensures ∙ c.in-None.is) in
    subst (λ (parts : LaidOut × Certs). IsModuleCertified parts.0 parts.1.sections (length parts.0.of_module.functions)) (sym c.into_parts-program.ensures) all

pub returns-in-None-clause-certified : goal.returns-in-None-clause-certified
returns-in-None-clause-certified c = found c.args.under c.args.refusals _ c.requires (sym c.first.ensures ∙ c.in-None.is)

pub returns-in-Some-clause-first : goal.returns-in-Some-clause-first
returns-in-Some-clause-first c =
    let is = sym c.first.ensures ∙ c.in-Some.is in
    (c.in-Some.field-0, is, found c.args.under c.args.refusals _ c.requires is)
