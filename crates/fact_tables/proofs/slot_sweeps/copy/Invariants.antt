use Rattle.std.proofs.Common.{◌≡◌, drop}
use Rattle.fact_tables.specs.EachListed.{each_listed, copied}
use Rattle.fact_tables.specs.Rows.{open_slot}
use Rattle.fact_tables.proofs.slot_sweeps.copy.Given as goal

abbrev pub invariant-loop-s : goal.invariant-loop-s
invariant-loop-s l = each_listed open_slot (copied open_slot l.others) l.listed l.fn.slots.items ≡ each_listed open_slot (copied open_slot l.others) (drop l.s-index l.listed) l.slots.items
