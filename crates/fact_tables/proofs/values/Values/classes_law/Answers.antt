use Rattle.std.proofs.Common.{◌≤◌, ◌++◌, arith, length, map, subst, List}
use Rattle.std.proofs.lemmas.List.{length-append, length-map}
use Rattle.fact_tables.specs.declared.known.Class.{Class}
use Rattle.fact_tables.specs.declared.row.Row.{Row}
use Rattle.fact_tables.specs.Sheets.{known_of, class_of}
use Rattle.fact_tables.specs.Values.{ValueFacts}
use Rattle.fact_tables.proofs.values.Values.classes_law.Goals as goal

enough : (rows : List Row) (added : List Class) → length (map known_of rows) ≤ length (map class_of rows ++ added)
enough rows added = rw (length-append (map class_of rows) added, length-map rows class_of, length-map rows known_of) (omega arith)

pub returns : goal.returns
returns c = subst (λ (f : ValueFacts). length f.values ≤ length f.classes) c.self.view_is (enough c.self.inside.sheet c.self.inside.added.items)
