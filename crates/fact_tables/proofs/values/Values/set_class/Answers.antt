use Rattle.std.proofs.Common.{◌≡◌, ◌∙◌, ◌-◌, ap, arith, List, ℕ, length, slice_set}
use Rattle.fact_tables.specs.declared.known.Class.{Class}
use Rattle.fact_tables.specs.declared.row.Row.{Row}
use Rattle.fact_tables.specs.Sheets.{row_at}
use Rattle.fact_tables.specs.Values.{ValueFacts, facts_of_rows}
use Rattle.fact_tables.proofs.Says.{class_row_facts, class_added_facts}
use Rattle.fact_tables.proofs.values.Values.set_class.Goals as goal

pub returns-in_ok-set-clause-ok : goal.returns-in_ok-set-clause-ok
returns-in_ok-set-clause-ok c =
    let rows : List Row = c.self.inside.sheet in
    let written : c.set.new.self ≡ slice_set rows c.args.c (record (row_at rows c.args.c) { class = c.args.class }) = c.in_ok-set.ensures.ok ∙ ap (λ (row : Row). slice_set rows c.number-at.result (record row { class = c.args.class })) c.row-row.ensures
    ∙ ap (λ (at : ℕ). slice_set rows at (record (row_at rows at) { class = c.args.class })) c.number-at.ensures in
    ap (λ (next : List Row). facts_of_rows next c.self.inside.added.items) written ∙ class_row_facts rows c.self.inside.added.items c.args.c c.args.class (omega (arith, c.number-at.ensures, c.len-own.ensures.count, c.if-at-own.true))
    ∙ ap (λ (f : ValueFacts). record f { classes = slice_set f.classes c.args.c c.args.class }) c.self.view_is

pub returns-else-at-own-clause-ok : goal.returns-else-at-own-clause-ok
returns-else-at-own-clause-ok c =
    let rows : List Row = c.self.inside.sheet in
    let written : c.set_added.new.added.items ≡ slice_set c.self.inside.added.items (c.args.c - length rows) c.args.class = c.set_added.ensures ∙ ap (λ (at : ℕ). slice_set c.self.inside.added.items (at - c.len-own.result) c.args.class) c.number-at.ensures
    ∙ ap (λ (own : ℕ). slice_set c.self.inside.added.items (c.args.c - own) c.args.class) c.len-own.ensures.count in
    ap (λ (added : List Class). facts_of_rows rows added) written ∙ class_added_facts rows c.self.inside.added.items c.args.c c.args.class (omega (arith, c.number-at.ensures, c.len-own.ensures.count, c.if-at-own.false))
    ∙ ap (λ (f : ValueFacts). record f { classes = slice_set f.classes c.args.c c.args.class }) c.self.view_is
