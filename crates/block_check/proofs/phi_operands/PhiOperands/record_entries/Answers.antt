use Rattle.std.proofs.Common.{refl, arith}
use Rattle.block_check.proofs.Operands.{adds_none, adds_more}
use Rattle.block_check.proofs.phi_operands.PhiOperands.record_entries.Goals as goal

pub loop-entry-init : goal.loop-entry-init
loop-entry-init c = adds_none c.args.self.now c.args.place _ (λ from. refl)

pub loop-entry-preserved : goal.loop-entry-preserved
loop-entry-preserved c =
    adds_more c.args.function.now c.args.place c.args.incoming.now c.loop-entry.entry-index c.entry-item.result c.args.self.now c.loop-entry.self c.record_entry.new.self (omega arith) c.entry-item.is c.loop-entry.invariant c.in_ok-record_entry.ensures
