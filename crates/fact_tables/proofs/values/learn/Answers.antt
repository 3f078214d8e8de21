use Rattle.std.proofs.Common.{◌≡◌, ◌<◌, ◌≤◌, ◌∙◌, ◌++◌, ◌-◌, ap, sym, subst, arith, map, ℕ, List, length, slice_set}
use Rattle.fact_tables.specs.declared.known.Class.{Class}
use Rattle.fact_tables.specs.declared.row.Row.{Row}
use Rattle.fact_tables.specs.Rows.{class_at}
use Rattle.fact_tables.specs.Sheets.{row_at, class_of}
use Rattle.fact_tables.specs.Uses.{OnlyUsers}
use Rattle.fact_tables.specs.Values.{ValueFacts, facts_of_rows, learned_row}
use Rattle.fact_tables.proofs.Learns.{nonnull_class, learned_row_facts, learned_users, is_learned}
use Rattle.fact_tables.proofs.Says.{class_added_facts}
use Rattle.fact_tables.proofs.values.learn.Goals as goal

abbrev with_class : List Row → List Class → ℕ → Class → ValueFacts
with_class rows added c class = record (facts_of_rows rows added) { classes = slice_set (map class_of rows ++ added) c class }

module _ (c : goal.After-change) where
  abbrev rows : List Row
  rows = c.args.sheet.now

  abbrev class : Class
  class = nonnull_class c.class.result

  is : c.change.new.self ≡ slice_set rows c.args.c (learned_row class (row_at rows c.args.c))
  is = c.change.ensures ∙ ap (slice_set rows c.number-at.result) (c.learned_row.ensures ∙ ap (learned_row class) c.row.ensures) ∙ ap (λ (at : ℕ). slice_set rows at (learned_row class (row_at rows at))) c.number-at.ensures

  within : c.args.c < length rows
  within = omega (arith, c.number-at.ensures, c.len-own.ensures.count, c.if-at-own.true)

pub returns-then-at-own-clause-facts : goal.returns-then-at-own-clause-facts
returns-then-at-own-clause-facts c = ap (λ (l : List Row). facts_of_rows l c.args.added.now.items) (is c) ∙ learned_row_facts (rows c) c.args.added.now.items c.args.c (class c) (within c)
    ∙ ap (λ (k : Class). with_class (rows c) c.args.added.now.items c.args.c (nonnull_class k)) (c.class.ensures ∙ ap (λ (added : List Class). class_at (map class_of (rows c) ++ added) c.args.c) c.deref.ensures.value) ∙ is_learned (rows c) c.args.added.now.items c.args.c

pub returns-then-at-own-clause-users : goal.returns-then-at-own-clause-users
returns-then-at-own-clause-users c = λ uses only. subst (OnlyUsers uses) (sym (is c)) (learned_users uses (rows c) c.args.c (class c) only)

pub returns-else-at-own-clause-facts : goal.returns-else-at-own-clause-facts
returns-else-at-own-clause-facts c =
    let rows : List Row = c.args.sheet.now in
    let added : List Class = c.args.added.now.items in
    let class : Class = nonnull_class c.class.result in
    let past : length rows ≤ c.args.c = omega (arith, c.number-at.ensures, c.len-own.ensures.count, c.if-at-own.false) in
    let written : c.set_added.new.added.items ≡ slice_set added (c.args.c - length rows) class = c.set_added.ensures ∙ ap (λ (at : ℕ). slice_set added (at - c.len-own.result) class) c.number-at.ensures ∙ ap (λ (own : ℕ). slice_set added (c.args.c - own) class) c.len-own.ensures.count in
    ap (facts_of_rows rows) written ∙ class_added_facts rows added c.args.c class past
    ∙ ap (λ (k : Class). with_class rows added c.args.c (nonnull_class k)) (c.class.ensures ∙ ap (λ (l : List Class). class_at (map class_of rows ++ l) c.args.c) c.deref.ensures.value) ∙ is_learned rows added c.args.c
