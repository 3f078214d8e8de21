use Rattle.std.proofs.Common.{◌≡◌, ◌∙◌, ap, sym, subst, refl, map, List, slice_set}
use Rattle.std.proofs.lemmas.Result.{on_ok_weaker}
use Rattle.fact_tables.specs.declared.row.Row.{Row}
use Rattle.fact_tables.specs.Sheets.{row_at, off_row}
use Rattle.fact_tables.specs.Uses.{OnlyUsers}
use Rattle.fact_tables.specs.Values.{facts_of_rows, defined_row}
use Rattle.fact_tables.proofs.Defines.{defined_facts, defined_users}
use Rattle.fact_tables.proofs.Says.{by_result}
use Rattle.fact_tables.proofs.values.define_row.Goals as goal

module _ (c : goal.After-define) where
  abbrev rows : List Row
  rows = c.args.sheet.now

  abbrev row : Row
  row = defined_row c.args.known c.args.test (row_at rows c.args.v)

  abbrev next : List Row
  next = slice_set (map (off_row c.args.v) rows) c.args.v row

  is_row : c.row-row.result ≡ row_at rows c.args.v
  is_row = c.row-row.ensures ∙ ap (row_at rows) c.number.ensures

  written : c.define.new.self ≡ slice_set (map (off_row c.args.v) rows) c.args.v (defined_row c.args.known c.args.test c.row-row.result) → c.define.new.self ≡ next
  written e = e ∙ ap (λ (r : Row). slice_set (map (off_row c.args.v) rows) c.args.v (defined_row c.args.known c.args.test r)) is_row

pub returns-clause-ok : goal.returns-clause-ok
returns-clause-ok c = on_ok_weaker c.define.result (λ e added. ap (λ (l : List Row). facts_of_rows l added) (written c e) ∙ defined_facts c.args.v (rows c) c.args.known c.args.test added) c.define.ensures.ok

pub returns-clause-users : goal.returns-clause-users
returns-clause-users c = by_result c.define.result c.define.ensures.ok c.define.ensures.err
    (λ e. subst (OnlyUsers c.args.uses.now) (sym (written c e)) (defined_users c.args.v (rows c) (row c) c.args.uses.now c.requires.only refl c.requires.recorded))
    (λ e. subst (OnlyUsers c.args.uses.now) (sym e) c.requires.only)
