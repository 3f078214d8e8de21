use Rattle.std.proofs.Common.{◌+◌, List, subst, sym}
use Rattle.block_rules.specs.Certified.{FirstRefusal}
use Rattle.block_rules.specs.declared.block_fault.Refusal.{Refusal}
use Rattle.block_check.specs.RefusedBlocks.{AreOfBlocks, Certified, Refused}
use Rattle.block_check.proofs.all_refusals.add_block.Goals as goal

pub returns-in-Ok : goal.returns-in-Ok
returns-in-Ok c = Certified c.args.block c.args.found.now.items c.requires.before c.in-Ok.ensures

pub returns-in_ok-push-in-Err-Refused : goal.returns-in_ok-push-in-Err-Refused
returns-in_ok-push-in-Err-Refused c =
    let s = c.args.under_check.now in
    let refused : FirstRefusal s.context.program.now s.context.certs.now.sections s.func c.args.block c.in-Err-Refused.refusal = rw c.in-Err-Refused.field-0-is at c.in-Err-Refused.ensures in
    subst (λ (found : List Refusal). AreOfBlocks s.context.program.now s.context.certs.now.sections s.func (c.args.block + 1) found) (sym c.in_ok-push-in-Err-Refused.ensures.items)
    (Refused c.args.block c.args.found.now.items c.in-Err-Refused.refusal c.requires.before refused)
