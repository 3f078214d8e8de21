use Rattle.std.proofs.Common.{List, Option, IfSome, length, refl, subst}
use Rattle.std.proofs.lemmas.Result.{IfOk-weaker}
use Rattle.block_rules.specs.declared.block_fault.Refusal.{Refusal}
use Rattle.module_check.specs.Refusals.{AreOfFunctions}
use Rattle.reports.specs.Said.{OnError}
use Rattle.check_commands.proofs.refusing.print_rejected.Goals as goal

pub print_refusals-status-requires : goal.print_refusals-status-requires
print_refusals-status-requires g c =
    let under = c.args.rejected.under in
    subst (λ (refusals : Option (List Refusal)). IfSome refusals (AreOfFunctions under.program under.certs.sections (length under.program.of_module.functions))) c.in-Some.is c.requires

pub returns-in-Some : goal.returns-in-Some
returns-in-Some g c = rw c.in-Some.is c.print_refusals-status.ensures

pub returns-in-None : goal.returns-in-None
returns-in-None g c = rw c.in-None.is (IfOk-weaker c.memory.result _ _ (λ status told. (OnError _, refl, (refl, told))) c.memory.ensures)
