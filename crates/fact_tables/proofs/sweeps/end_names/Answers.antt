use Rattle.std.proofs.Common.{◌≡◌, ◌<◌, ◌∙◌, ap, arith, sym, subst, refl, length, List, ℕ, Option}
use Rattle.fact_tables.specs.EachListed.{each_listed}
use Rattle.fact_tables.specs.declared.row.Row.{Row}
use Rattle.fact_tables.specs.declared.sweeps.Change.TheVariants.{Off}
use Rattle.fact_tables.specs.Sheets.{blank, EachRow, row_at, changed}
use Rattle.fact_tables.specs.Uses.{chain}
use Rattle.fact_tables.proofs.Marked.{each_all, changed_twice}
use Rattle.fact_tables.proofs.Users.{off_users}
use Rattle.fact_tables.proofs.sweeps.end_names.Goals as goal

pub returns-then-at-len : goal.returns-then-at-len
returns-then-at-len c =
    let before : List Row = c.args.rows.now.items in
    let used : c.row_at-row.result.used ≡ (row_at before c.args.v).used = ap (λ (row : Row). row.used) (c.row_at-row.ensures ∙ ap (λ (rows : List Row). row_at rows c.number-at.result) c.deref.ensures.value ∙ ap (row_at before) c.number-at.ensures) in
    let lt : c.args.v < length before = omega (arith, c.number-at.ensures, c.if-at-len.true, c.len.ensures, c.args.rows.now.ok.0) in
    λ users marked. subst (λ (rows : List Row). EachRow (changed (Off c.args.v)) before rows) (sym (c.sweep_uses.ensures ∙ ap (λ (newest : Option ℕ). each_listed blank (changed (Off c.args.v)) (chain (length c.args.uses.now) c.args.uses.now newest) before) used)) (off_users c.args.v c.args.uses.now before lt users)

pub returns-else-at-len : goal.returns-else-at-len
returns-else-at-len c = λ users marked. subst (λ (rows : List Row). EachRow (changed (Off c.args.v)) c.args.rows.now.items rows) (sym c.sweep.ensures) (each_all (changed (Off c.args.v)) (changed_twice (Off c.args.v)) (λ u. refl) c.args.marked.now c.args.rows.now.items marked)
