use Rattle.std.proofs.Common.{◌≡◌, ◌∙◌, ap, sym, subst, length, List, Some, slice_set}
use Rattle.std.specs.Prelude.{not}
use Rattle.fact_tables.specs.declared.row.Row.{Row}
use Rattle.fact_tables.specs.Uses.{OnlyUsers, SayTheSame}
use Rattle.fact_tables.proofs.Learns.{filled_row, filled_same, filled_users, none_is}
use Rattle.fact_tables.proofs.values.fill.Goals as goal
use Rattle.fact_tables.proofs.values.fill.Goals.{In_ok-set}

module _ (c : In_ok-set) where
  abbrev rows : List Row
  rows = c.args.sheet.now

  is : c.set.new.self ≡ slice_set rows c.args.at (filled_row rows c.args.at (length c.args.uses.now))
  is = c.in_ok-set.ensures.ok ∙ ap (λ (row : Row). slice_set rows c.args.at (record row { used = Some (length c.args.uses.now) })) c.row-row.ensures

pub returns-in_ok-set-clause-same : goal.returns-in_ok-set-clause-same
returns-in_ok-set-clause-same c = subst (SayTheSame (rows c)) (sym (is c)) (filled_same (rows c) c.args.at (length c.args.uses.now))

pub returns-in_ok-set-clause-users : goal.returns-in_ok-set-clause-users
returns-in_ok-set-clause-users c only = subst (OnlyUsers c.args.uses.now) (sym (is c)) (filled_users (rows c) c.args.at (length c.args.uses.now) c.args.uses.now (sym (ap (λ (row : Row). row.used) c.row-row.ensures) ∙ none_is c.row-row.result.used (ap not (c.is_none.ensures ∙ ap not c.if-is_none.true))) only)
