use Rattle.std.proofs.Common.{◌≡◌, ◌∙◌, ◌++◌, ◌-◌, ap, length, replicate, [], ℕ, List}
use Rattle.std.specs.Prelude.{take}
use Rattle.fact_tables.specs.EachListed.{each_listed, copied}
use Rattle.fact_tables.specs.declared.row.Row.{Row}
use Rattle.fact_tables.specs.Sheets.{blank}
use Rattle.fact_tables.proofs.Current.{blank_current}
use Rattle.fact_tables.proofs.OwnersOf.{blank_non_owners}
use Rattle.fact_tables.proofs.Resized.{resized_wiped}
use Rattle.fact_tables.proofs.Sheets.{all_blank}
use Rattle.fact_tables.proofs.sheet.Sheet.resize.Goals as goal

cut : (c : goal.After-clear-4) → c.resize.new.list.items ≡ take c.args.count c.self.inside.rows.items ++ replicate (c.args.count - length c.self.inside.rows.items) blank
cut c = c.in_ok-resize.ensures.ok ∙ ap (λ (row : Row). take c.args.count c.self.inside.rows.items ++ replicate (c.args.count - length c.self.inside.rows.items) row) c.blank.ensures

empty : (c : goal.After-clear-4) → c.copy.new.rows.items ≡ replicate c.args.count blank
empty c =
    c.copy.ensures ∙ ap (λ (m : List ℕ). each_listed blank (copied blank []) m c.resize.new.list.items) c.deref.ensures.value
    ∙ ap (λ (rows : List Row). each_listed blank (copied blank []) c.self.inside.marked.items rows) (cut c)
    ∙ resized_wiped blank c.self.inside.marked.items c.args.count c.self.inside.rows.items c.self.invariant.0

pub invariant_of-self-2 : goal.invariant_of-self-2
invariant_of-self-2 c = (
  all_blank c.clear.new.self.items c.args.count c.copy.new.rows.items (empty c),
  blank_current c.clear-2.new.self.items c.args.count c.copy.new.rows.items (empty c),
  blank_non_owners c.clear-4.new.self.items c.clear-3.new.self.items c.args.count c.copy.new.rows.items (empty c),
)

pub returns-clause-ok : goal.returns-clause-ok
returns-clause-ok c = empty c
