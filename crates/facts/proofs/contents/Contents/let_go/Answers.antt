use Rattle.std.proofs.Common.{◌≡◌, sym, false}
use Rattle.std.specs.List.{list_any}
use Rattle.fact_tables.specs.Rows.{holds}
use Rattle.facts.proofs.Slots.{free_slots}
use Rattle.facts.proofs.contents.Contents.let_go.Goals as goal

pub returns-then-not-may_hold-clause-slots : goal.returns-then-not-may_hold-clause-slots
returns-then-not-may_hold-clause-slots c =
    let here = c.args.self.now in
    let none : list_any (holds c.args.c) here.slots ≡ false = c.may_hold.ensures c.if-not-may_hold.true in
    sym (free_slots c.args.c here.values.values here.values.classes here.slots none)
