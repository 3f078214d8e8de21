use Rattle.std.proofs.Common.{◌∙◌, ◌++◌, ap, subst, map, List}
use Rattle.std.specs.List.{enumerate_from, zip}
use Rattle.fact_tables.specs.declared.known.Class.{Class}
use Rattle.fact_tables.specs.Rows.{stale_of, stale_class}
use Rattle.fact_tables.specs.Sheets.{EachRow, class_of, stale_row}
use Rattle.fact_tables.specs.Values.{ValueFacts}
use Rattle.fact_tables.proofs.Changes.{stale_facts, stale_only}
use Rattle.fact_tables.proofs.values.Values.make_stale.Goals as goal

pub invariant_of-self : goal.invariant_of-self
invariant_of-self c = stale_only c.self.inside.sheet c.make_stale.new.self c.self.inside.added.items (subst (λ (added : List Class). EachRow (stale_row (map class_of c.self.inside.sheet ++ added)) c.self.inside.sheet c.make_stale.new.self) c.deref.ensures.value c.make_stale.ensures) c.self.inside.uses.items c.self.invariant

pub returns : goal.returns
returns c = stale_facts c.self.inside.sheet c.make_stale.new.self c.self.inside.added.items (subst (λ (added : List Class). EachRow (stale_row (map class_of c.self.inside.sheet ++ added)) c.self.inside.sheet c.make_stale.new.self) c.deref.ensures.value c.make_stale.ensures) c.clear.new.self.items c.clear.ensures.items
    ∙ ap (λ (f : ValueFacts). record f { values = map stale_of (enumerate_from 0 f.values); classes = map (stale_class f.classes) (zip f.classes f.values) }) c.self.view_is
