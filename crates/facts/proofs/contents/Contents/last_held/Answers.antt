use Rattle.std.proofs.Common.{◌≡◌, false}
use Rattle.std.specs.List.{list_any}
use Rattle.fact_tables.specs.Rows.{holds, values_without}
use Rattle.facts.proofs.Slots.{free_slots}
use Rattle.facts.proofs.contents.Contents.last_held.Goals as goal

pub returns-then-not-may_hold : goal.returns-then-not-may_hold
returns-then-not-may_hold c =
    let here = c.args.self.now in
    let none : list_any (holds c.args.c) here.slots ≡ false = c.may_hold.ensures c.if-not-may_hold.true in
    λ classes. free_slots c.args.c (values_without c.args.v here.values.values) classes here.slots none
