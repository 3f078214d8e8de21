use Rattle.std.proofs.Common.{◌≡◌, ◌<◌, ◌∙◌, ◌++◌, [], ◌∷◌, ap, sym, subst, arith, List, ℕ, length, slice_set, Option, Some}
use Rattle.std.proofs.lemmas.List.{length-set}
use Rattle.fact_tables.specs.declared.row.Row.{Row}
use Rattle.fact_tables.specs.declared.uses.Use.{Use}
use Rattle.fact_tables.specs.Sheets.{row_at}
use Rattle.fact_tables.specs.Values.{facts_of_rows}
use Rattle.fact_tables.specs.Uses.{IsUser, OnlyUsers, use_more, use_row}
use Rattle.fact_tables.proofs.Users.{users_kept, use_users, use_recorded, use_same}
use Rattle.fact_tables.proofs.values.use_value.Goals as goal
use Rattle.fact_tables.proofs.values.use_value.Goals.{In_ok-set}

pub returns-in_err-push-clause-users : goal.returns-in_err-push-clause-users
returns-in_err-push-clause-users c = λ only. subst (λ (uses : List Use). OnlyUsers uses c.args.sheet.now) (sym c.in_err-push.ensures.items) only

abbrev the_use : ℕ → Option ℕ → Use
the_use user before = record { user = user; before = before }

-- what is pushed
push_is : (after uses : List Use) (user v at : ℕ) (rows : List Row) (row : Row) → after ≡ uses ++ record { user = user; before = row.used } ∷ [] → row ≡ row_at rows at → at ≡ v → after ≡ use_more user v rows uses
push_is after uses user v at rows row e f g = e ∙ ap (λ (before : Option ℕ). uses ++ the_use user before ∷ []) (ap (λ (r : Row). r.used) f ∙ ap (λ (i : ℕ). (row_at rows i).used) g)

pub returns-in_err-set-clause-long : goal.returns-in_err-set-clause-long
returns-in_err-set-clause-long c = ap length c.in_err-set.ensures.err

pub returns-in_err-set-clause-same : goal.returns-in_err-set-clause-same
returns-in_err-set-clause-same c = λ added. ap (λ (rows : List Row). facts_of_rows rows added) c.in_err-set.ensures.err

pub returns-in_err-set-clause-users : goal.returns-in_err-set-clause-users
returns-in_err-set-clause-users c = λ only. subst (λ (rows : List Row). OnlyUsers c.push.new.self.items rows) (sym c.in_err-set.ensures.err)
    (subst (λ (uses : List Use). OnlyUsers uses c.args.sheet.now) (sym (push_is c.push.new.self.items c.args.uses.now.items c.args.user c.args.v c.number-at.result c.args.sheet.now c.row-row.result c.in_ok-push.ensures.items c.row-row.ensures c.number-at.ensures)) (users_kept c.args.uses.now.items (the_use c.args.user (row_at c.args.sheet.now c.args.v).used) c.args.sheet.now only))

module _ (c : In_ok-set) where
  abbrev rows : List Row
  rows = c.args.sheet.now

  abbrev uses : List Use
  uses = c.args.uses.now.items

  pushed : c.push.new.self.items ≡ use_more c.args.user c.args.v rows uses
  pushed = push_is c.push.new.self.items uses c.args.user c.args.v c.number-at.result rows c.row-row.result c.in_ok-push.ensures.items c.row-row.ensures c.number-at.ensures

  written : c.set.new.self ≡ use_row c.args.v uses rows
  written =
      let last : c.len-newest.result ≡ length uses = omega (arith, c.len-newest.ensures, c.args.uses.now.ok.0) in
      c.in_ok-set.ensures.ok ∙ ap (λ (row : Row). slice_set rows c.number-at.result (record row { used = Some c.len-newest.result })) c.row-row.ensures
      ∙ ap (λ (at : ℕ). slice_set rows at (record (row_at rows at) { used = Some c.len-newest.result })) c.number-at.ensures
      ∙ ap (λ (n : ℕ). slice_set rows c.args.v (record (row_at rows c.args.v) { used = Some n })) last

pub returns-clause-long : goal.returns-clause-long
returns-clause-long c = ap length (written (goal.at.returns-clause-long c).In_ok-set) ∙ length-set (rows (goal.at.returns-clause-long c).In_ok-set) c.args.v (record (row_at (rows (goal.at.returns-clause-long c).In_ok-set) c.args.v) { used = Some (length (uses (goal.at.returns-clause-long c).In_ok-set)) })

pub returns-clause-same : goal.returns-clause-same
returns-clause-same c = λ added. ap (λ (l : List Row). facts_of_rows l added) (written (goal.at.returns-clause-same c).In_ok-set) ∙ use_same c.args.user c.args.v (uses (goal.at.returns-clause-same c).In_ok-set) (rows (goal.at.returns-clause-same c).In_ok-set) added

pub returns-clause-users : goal.returns-clause-users
returns-clause-users c = λ only. subst (λ (l : List Row). OnlyUsers c.push.new.self.items l) (sym (written (goal.at.returns-clause-users c).In_ok-set)) (subst (λ (us : List Use). OnlyUsers us (use_row c.args.v (uses (goal.at.returns-clause-users c).In_ok-set) (rows (goal.at.returns-clause-users c).In_ok-set))) (sym (pushed (goal.at.returns-clause-users c).In_ok-set)) (use_users c.args.user c.args.v (uses (goal.at.returns-clause-users c).In_ok-set) (rows (goal.at.returns-clause-users c).In_ok-set) only))

pub returns-clause-recorded : goal.returns-clause-recorded
returns-clause-recorded c = λ lt. subst (λ (l : List Row). IsUser c.push.new.self.items l c.args.user c.args.v) (sym (written (goal.at.returns-clause-recorded c).In_ok-set)) (subst (λ (us : List Use). IsUser us (use_row c.args.v (uses (goal.at.returns-clause-recorded c).In_ok-set) (rows (goal.at.returns-clause-recorded c).In_ok-set)) c.args.user c.args.v) (sym (pushed (goal.at.returns-clause-recorded c).In_ok-set)) (use_recorded c.args.user c.args.v (uses (goal.at.returns-clause-recorded c).In_ok-set) (rows (goal.at.returns-clause-recorded c).In_ok-set) (subst (λ (l : List Row). c.args.v < length l) (written (goal.at.returns-clause-recorded c).In_ok-set) lt)))
