use Rattle.std.proofs.Common.{arith}
use Rattle.copies.proofs.Added.{one_name_more}
use Rattle.copies.proofs.tables.copy_names.Goals as goal

pub loop-number-preserved : goal.loop-number-preserved
loop-number-preserved c = one_name_more c.args.names.now c.loop-number.copy c.number.new.self c.name_at.result.now c.loop-number.number c.in_ok-number.field-0
    (omega arith) c.loop-number.invariant c.name_at.ensures c.in_ok-number.ensures.number (omega arith) c.in_ok-number.ensures.names
