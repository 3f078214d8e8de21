use Rattle.std.proofs.Common.{◌∙◌, ap, length, sym}
use Rattle.std.proofs.lemmas.List.{length-map}
use Rattle.fact_tables.specs.Sheets.{known_of}
use Rattle.fact_tables.specs.Values.{ValueFacts, no_values}
use Rattle.fact_tables.proofs.Changes.{blank_facts}
use Rattle.fact_tables.proofs.values.Values.clear.Goals as goal

pub returns : goal.returns
returns c = blank_facts (length c.self.inside.sheet) c.clear.new.self c.clear-2.new.self.items c.clear.ensures c.clear-2.ensures.items ∙ ap no_values (sym (length-map c.self.inside.sheet known_of)) ∙ ap (λ (f : ValueFacts). no_values (length f.values)) c.self.view_is
