use Rattle.std.proofs.Common.{◌≡◌, ◌<◌, ◌∙◌, ap, sym, subst, true, List, ℕ, length, slice_set}
use Rattle.fact_tables.specs.declared.row.Row.{Row}
use Rattle.fact_tables.specs.declared.uses.Use.{Use}
use Rattle.fact_tables.specs.Rows.{is_on}
use Rattle.fact_tables.specs.Sheets.{row_at}
use Rattle.fact_tables.specs.Values.{ValueFacts, facts_of_rows}
use Rattle.fact_tables.specs.Uses.{IsUser, OnlyUsers}
use Rattle.fact_tables.proofs.Says.{on_err, known_row_facts}
use Rattle.fact_tables.proofs.Users.{known_users}
use Rattle.fact_tables.proofs.values.Values.set_known.Goals as goal

pub invariant_of-self : goal.invariant_of-self
invariant_of-self c = c.use_base.ensures.users c.self.invariant

pub returns-in_err-use_base-clause-err : goal.returns-in_err-use_base-clause-err
returns-in_err-use_base-clause-err c = on_err c.from_residual.result (c.use_base.ensures.same c.self.inside.added.items ∙ c.self.view_is)

pub invariant_of-self-in_err-set : goal.invariant_of-self-in_err-set
invariant_of-self-in_err-set c = subst (λ (rows : List Row). OnlyUsers c.use_base.new.uses.items rows) (sym c.in_err-set.ensures.err) (c.use_base.ensures.users c.self.invariant)

pub returns-in_err-set-clause-err : goal.returns-in_err-set-clause-err
returns-in_err-set-clause-err c = on_err c.from_residual-in_err-set.result (ap (λ (rows : List Row). facts_of_rows rows c.self.inside.added.items) c.in_err-set.ensures.err ∙ c.use_base.ensures.same c.self.inside.added.items ∙ c.self.view_is)

module _ (c : goal.In_ok-set) where
  abbrev between : List Row
  between = c.use_base.new.sheet

  abbrev uses : List Use
  uses = c.use_base.new.uses.items

  written : c.set.new.self ≡ slice_set between c.args.v (record (row_at between c.args.v) { known = c.args.known })
  written = c.in_ok-set.ensures.ok ∙ ap (λ (row : Row). slice_set between c.number-at.result (record row { known = c.args.known })) c.row-row.ensures
      ∙ ap (λ (at : ℕ). slice_set between at (record (row_at between at) { known = c.args.known })) c.number-at.ensures

  recorded : (w : ℕ) → is_on w c.args.known ≡ true → w < length between → IsUser uses between c.args.v w
  recorded w e lt = subst (λ (user : ℕ). IsUser uses between user w) c.number-at.ensures (c.in_ok-use_base.ensures.recorded w e lt)

pub invariant_of-self-2 : goal.invariant_of-self-2
invariant_of-self-2 c = subst (λ (rows : List Row). OnlyUsers (uses c) rows) (sym (written c)) (known_users (uses c) (between c) c.args.v (c.use_base.ensures.users c.self.invariant) c.args.known (recorded c))

pub returns-clause-ok : goal.returns-clause-ok
returns-clause-ok c = ap (λ (rows : List Row). facts_of_rows rows c.self.inside.added.items) (written c) ∙ known_row_facts (between c) c.self.inside.added.items c.args.v c.args.known
    ∙ ap (λ (f : ValueFacts). record f { values = slice_set f.values c.args.v c.args.known }) (c.use_base.ensures.same c.self.inside.added.items ∙ c.self.view_is)
