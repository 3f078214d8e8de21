use Rattle.std.specs.Prelude.{nat_eq}
use Rattle.indexmap.specs.IndexMap.{get}
use Rattle.fact_tables.specs.Chains.{listed}
use Rattle.fact_tables.proofs.Groups.{listed_more}
use Rattle.fact_tables.proofs.ties.move_member.Goals as goal

pub returns-in_ok-insert-clause-listed : goal.returns-in_ok-insert-clause-listed
returns-in_ok-insert-clause-listed c =
    listed_more (get nat_eq c.args.places.now) (get nat_eq c.insert.new.self) c.args.number c.args.to c.in_ok-insert.ensures.updates.0 (listed c.args.members.now) (listed c.add.new.self) c.add.ensures.kept c.in_ok-add.ensures.added c.requires
