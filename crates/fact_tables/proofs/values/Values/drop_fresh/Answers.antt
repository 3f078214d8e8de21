use Rattle.std.proofs.Common.{◌≡◌, ◌<◌, ◌∙◌, ◌-◌, ◌++◌, ap, sym, subst, arith, true, false, List, ℕ, length, slice_set}
use Rattle.fact_tables.specs.declared.known.Class.{Class}
use Rattle.fact_tables.specs.declared.row.Row.{Row}
use Rattle.std.proofs.Math.ListN.{get_or-map}
use Rattle.std.proofs.lemmas.List.{get_or_append_left, length-map}
use Rattle.std.specs.Prelude.{map}
use Rattle.fact_tables.specs.Rows.{lost_class, class_at}
use Rattle.fact_tables.specs.Sheets.{blank, row_at, class_of, is_settled_as, is_settled}
use Rattle.fact_tables.specs.Uses.{OnlyUsers}
use Rattle.fact_tables.proofs.Current.{stale_settled}
use Rattle.fact_tables.specs.Values.{ValueFacts, facts_of_rows}
use Rattle.fact_tables.proofs.Says.{class_row_facts, class_added_facts}
use Rattle.fact_tables.proofs.Users.{class_users}
use Rattle.fact_tables.proofs.values.Values.drop_fresh.Goals as goal

-- a class that is fresh no more
abbrev stale : Class → Class
stale class = record class { fresh = false }

own_class : (rows : List Row) (added : List Class) (v : ℕ) → v < length rows → class_at (map class_of rows ++ added) v ≡ (row_at rows v).class
own_class rows added v lt = get_or_append_left (map class_of rows) added lost_class v (rw length-map lt) ∙ get_or-map class_of rows v blank

still_settled : (at : ℕ) (row before : Row) (class : Class) → row ≡ before → class ≡ before.class → is_settled at before ≡ true → is_settled at (record row { class = stale class }) ≡ true
still_settled at row before class e f h = subst (λ (c : Class). is_settled_as at row.aside (stale c) row.known ≡ true) (sym (f ∙ ap class_of (sym e))) (stale_settled at row.aside row.class row.known (subst (λ (r : Row). is_settled at r ≡ true) (sym e) h))

pub change-requires-clause-settled : goal.change-requires-clause-settled
change-requires-clause-settled c =
    let rows : List Row = c.self.inside.sheet in
    let same : c.class.result ≡ (row_at rows c.number-at.result).class = c.class.ensures ∙ ap (λ (f : ValueFacts). class_at f.classes c.args.c) (sym c.self.view_is)
    ∙ own_class rows c.self.inside.added.items c.args.c (omega (arith, c.number-at.ensures, c.len-own.ensures.count, c.if-at-own.true)) ∙ ap (λ (at : ℕ). (row_at rows at).class) (sym c.number-at.ensures) in
    still_settled c.number-at.result c.row-row.result (row_at rows c.number-at.result) c.class.result c.row-row.ensures same

changed : (c : goal.After-change) → c.change.new.self ≡ slice_set c.self.inside.sheet c.args.c (record (row_at c.self.inside.sheet c.args.c) { class = stale c.class.result })
changed c = c.change.ensures ∙ ap (λ (row : Row). slice_set c.self.inside.sheet c.number-at.result (record row { class = stale c.class.result })) c.row-row.ensures
    ∙ ap (λ (at : ℕ). slice_set c.self.inside.sheet at (record (row_at c.self.inside.sheet at) { class = stale c.class.result })) c.number-at.ensures

pub invariant_of-self : goal.invariant_of-self
invariant_of-self c = subst (λ (rows : List Row). OnlyUsers c.self.inside.uses.items rows) (sym (changed c)) (class_users c.self.inside.uses.items c.self.inside.sheet c.args.c c.self.invariant (stale c.class.result))

pub returns-then-at-own : goal.returns-then-at-own
returns-then-at-own c =
    let rows : List Row = c.self.inside.sheet in
    ap (λ (next : List Row). facts_of_rows next c.self.inside.added.items) (changed c) ∙ class_row_facts rows c.self.inside.added.items c.args.c (stale c.class.result) (omega (arith, c.number-at.ensures, c.len-own.ensures.count, c.if-at-own.true))
    ∙ ap (λ (f : ValueFacts). record f { classes = slice_set f.classes c.args.c (stale c.class.result) }) c.self.view_is
    ∙ ap (λ (class : Class). record c.args.self.now { classes = slice_set c.args.self.now.classes c.args.c (stale class) }) c.class.ensures

pub returns-else-at-own : goal.returns-else-at-own
returns-else-at-own c =
    let rows : List Row = c.self.inside.sheet in
    let written : c.set_added.new.added.items ≡ slice_set c.self.inside.added.items (c.args.c - length rows) (stale c.class.result) = c.set_added.ensures ∙ ap (λ (at : ℕ). slice_set c.self.inside.added.items (at - c.len-own.result) (stale c.class.result)) c.number-at.ensures
    ∙ ap (λ (own : ℕ). slice_set c.self.inside.added.items (c.args.c - own) (stale c.class.result)) c.len-own.ensures.count in
    ap (λ (added : List Class). facts_of_rows rows added) written ∙ class_added_facts rows c.self.inside.added.items c.args.c (stale c.class.result) (omega (arith, c.number-at.ensures, c.len-own.ensures.count, c.if-at-own.false))
    ∙ ap (λ (f : ValueFacts). record f { classes = slice_set f.classes c.args.c (stale c.class.result) }) c.self.view_is
    ∙ ap (λ (class : Class). record c.args.self.now { classes = slice_set c.args.self.now.classes c.args.c (stale class) }) c.class.ensures
