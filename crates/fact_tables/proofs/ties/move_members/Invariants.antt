use Rattle.std.proofs.Common.{drop}
use Rattle.std.specs.Prelude.{nat_eq}
use Rattle.indexmap.specs.IndexMap.{get}
use Rattle.fact_tables.specs.Chains.{listed}
use Rattle.fact_tables.specs.Ties.{AreListed}
use Rattle.fact_tables.proofs.Groups.{IsPart, AreMoved}
use Rattle.fact_tables.proofs.ties.move_members.Given as goal

abbrev pub invariant-loop-number : goal.invariant-loop-number
invariant-loop-number l = record {
  listed : AreListed (get nat_eq l.places) (listed l.members);
  part : IsPart l.from l.to (get nat_eq l.initial.places) (get nat_eq l.places);
  moved : AreMoved l.from l.to (drop l.number-index l.list) (get nat_eq l.initial.places) (get nat_eq l.places);
}
