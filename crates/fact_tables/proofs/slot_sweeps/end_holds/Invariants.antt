use Rattle.std.proofs.Common.{◌≡◌, drop}
use Rattle.fact_tables.specs.EachListed.{each_listed}
use Rattle.fact_tables.specs.Rows.{open_slot, end_hold}
use Rattle.fact_tables.proofs.slot_sweeps.end_holds.Given as goal

abbrev pub invariant-loop-s : goal.invariant-loop-s
invariant-loop-s l = each_listed open_slot (λ s. end_hold l.values.classes) l.listed l.fn.slots.items ≡ each_listed open_slot (λ s. end_hold l.values.classes) (drop l.s-index l.listed) l.slots.items
