use Rattle.std.proofs.Common.{slice_get, ap, sym, ◌∙◌, arith}
use Rattle.copies.proofs.Added.{one_type_more}
use Rattle.copies.proofs.tables.copy_types.Goals as goal

pub loop-number-preserved : goal.loop-number-preserved
loop-number-preserved c = one_type_more c.args.types.now c.loop-number.copy c.number.new.self c.in-Some.written c.loop-number.number c.in_ok-number.field-0
    (omega arith) c.loop-number.invariant (ap (slice_get c.args.types.now) (sym c.new.ensures) ∙ sym c.get.ensures ∙ c.in-Some.is)
    c.in_ok-number.ensures.number (omega arith) c.in_ok-number.ensures.types
