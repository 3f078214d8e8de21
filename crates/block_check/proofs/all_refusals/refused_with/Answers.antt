use Rattle.std.proofs.Common.{List, subst, sym}
use Rattle.block_rules.specs.declared.block_fault.Refusal.{Refusal}
use Rattle.block_check.specs.RefusedBlocks.{AreOfBlocks, NoBlock}
use Rattle.block_check.proofs.all_refusals.refused_with.Goals as goal

pub loop-number-init : goal.loop-number-init
loop-number-init c =
    let s = c.args.under_check.now in
    subst (λ (found : List Refusal). AreOfBlocks s.context.program.now s.context.certs.now.sections s.func 0 found) (sym c.new-found.ensures.items) NoBlock
