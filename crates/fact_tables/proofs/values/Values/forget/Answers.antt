use Rattle.std.proofs.Common.{◌≡◌, ◌∙◌, ap, sym, subst, List, ℕ, slice_set}
use Rattle.fact_tables.specs.declared.row.Row.{Row}
use Rattle.fact_tables.specs.declared.uses.Use.{Use}
use Rattle.fact_tables.specs.Rows.{values_without, tests_without}
use Rattle.fact_tables.specs.Sheets.{row_at}
use Rattle.fact_tables.specs.Uses.{OnlyUsers}
use Rattle.fact_tables.specs.Values.{ValueFacts, facts_of_rows, ended_row}
use Rattle.fact_tables.proofs.Changes.{ended_facts, ended_only}
use Rattle.fact_tables.proofs.values.Values.forget.Goals as goal

pub end_names-requires : goal.end_names-requires
end_names-requires c = subst (λ (uses : List Use). OnlyUsers uses c.self.inside.sheet) (sym c.deref.ensures.value) c.self.invariant

now_changed : (c : goal.After-change) → c.change.new.self ≡ slice_set c.end_names.new.self c.args.v (ended_row (row_at c.end_names.new.self c.args.v))
now_changed c = c.change.ensures ∙ ap (λ (row : Row). slice_set c.end_names.new.self c.number-at.result (ended_row row)) c.row-row.ensures ∙ ap (λ (at : ℕ). slice_set c.end_names.new.self at (ended_row (row_at c.end_names.new.self at))) c.number-at.ensures

pub invariant_of-self : goal.invariant_of-self
invariant_of-self c = subst (λ (rows : List Row). OnlyUsers c.self.inside.uses.items rows) (sym (now_changed c)) (ended_only c.args.v c.self.inside.sheet c.end_names.new.self c.end_names.ensures c.self.inside.uses.items c.self.invariant)

pub returns : goal.returns
returns c = ap (λ (rows : List Row). facts_of_rows rows c.self.inside.added.items) (now_changed c) ∙ ended_facts c.args.v c.self.inside.sheet c.end_names.new.self c.end_names.ensures c.self.inside.added.items ∙ ap (λ (f : ValueFacts). record f { values = values_without c.args.v f.values; tests = tests_without c.args.v f.tests }) c.self.view_is
