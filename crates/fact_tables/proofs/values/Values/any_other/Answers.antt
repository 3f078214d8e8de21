use Rattle.std.proofs.Common.{◌∙◌, ap}
use Rattle.std.specs.Prelude.{map}
use Rattle.std.specs.List.{list_any}
use Rattle.fact_tables.specs.Rows.{is_of, values_without}
use Rattle.fact_tables.specs.Sheets.{known_of}
use Rattle.fact_tables.specs.Values.{ValueFacts}
use Rattle.fact_tables.proofs.Defines.{any_without}
use Rattle.fact_tables.proofs.values.Values.any_other.Goals as goal

pub returns : goal.returns
returns c = c.any_other.ensures ∙ any_without c.args.v c.args.c (map known_of c.self.inside.sheet) ∙ ap (λ (f : ValueFacts). list_any (is_of c.args.c) (values_without c.args.v f.values)) c.self.view_is
