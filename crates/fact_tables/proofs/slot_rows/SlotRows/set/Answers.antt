use Rattle.std.proofs.Common.{sym, subst}
use Rattle.fact_tables.specs.SlotRows.{AreRecorded}
use Rattle.fact_tables.proofs.Keepers.{recorded_written}
use Rattle.fact_tables.proofs.slot_rows.SlotRows.set.Goals as goal

pub invariant_of-self : goal.invariant_of-self
invariant_of-self c = subst (AreRecorded c.record_one.new.filled.items c.record_one.new.holding.items c.record_one.new.keepers) c.deref.ensures.value
    (c.record_one.ensures.kept (subst (AreRecorded c.self.inside.filled.items c.self.inside.holding.items c.self.inside.keepers) (sym c.deref.ensures.value) c.self.invariant))

pub invariant_of-self-2 : goal.invariant_of-self-2
invariant_of-self-2 c = recorded_written c.record_one.new.filled.items c.record_one.new.holding.items c.record_one.new.keepers c.deref.result.now c.self.inside.slots.items c.write.new.slots.items c.number-at.result c.args.slot c.deref.ensures.value c.write.ensures
    (c.in_ok-record_one.ensures.recorded (subst (AreRecorded c.self.inside.filled.items c.self.inside.holding.items c.self.inside.keepers) (sym c.deref.ensures.value) c.self.invariant))
