use Rattle.std.proofs.Common.{ℕ, List, Option, slice_set}
use Rattle.std.proofs.lemmas.List.{length-set}
use Rattle.std.specs.Prelude.{nat_eq}
use Rattle.indexmap.specs.IndexMap.{get}
use Rattle.fact_tables.specs.declared.ties.Group.{Group}
use Rattle.fact_tables.proofs.Groups.{class_set, merged_classes, merged_tied}
use Rattle.fact_tables.proofs.ties.Ties.merge.Goals as goal

pub returns-clause-ties : goal.returns-clause-ties
returns-clause-ties c =
    let places : ℕ → Option ℕ = get nat_eq c.args.self.now.places in
    let next : ℕ → Option ℕ = get nat_eq c.move_members.new.places in
    let groups : List Group = c.args.self.now.groups.items in
    let group : Group = record { class = c.args.class; size = c.saturating_add.result } in (
      c.in_ok-move_members.ensures.listed,
      merged_classes places next c.args.from c.args.to c.in_ok-move_members.ensures.moved groups (slice_set groups c.args.to group) c.requires.ties.1 c.args.class (class_set groups c.args.to group c.requires.within) (length-set groups c.args.to group) c.requires.within c.requires.of,
      merged_tied places next c.args.from c.args.to c.in_ok-move_members.ensures.moved c.args.self.now.tied.items c.requires.ties.2,
    )
