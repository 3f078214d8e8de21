use Rattle.std.proofs.Common.{◌≡◌, ◌<◌, ◌∙◌, ◌++◌, ap, sym, subst, List, ℕ, length, []}
use Rattle.std.proofs.Math.ListN.{get_or-map}
use Rattle.std.proofs.lemmas.List.{get_or_append_left, length-map}
use Rattle.std.specs.Prelude.{map}
use Rattle.fact_tables.specs.EachListed.{each_listed}
use Rattle.fact_tables.specs.declared.known.Class.{Class}
use Rattle.fact_tables.specs.declared.row.Row.{Row}
use Rattle.fact_tables.specs.Rows.{lost_class, class_at}
use Rattle.fact_tables.specs.Sheets.{blank, row_at, EachRow, OnlyMarked, OnlyCurrent, class_of, keep_row, settle_row, stale_row}
use Rattle.fact_tables.proofs.Current.{stale_all, stale_marked, stale_none}
use Rattle.fact_tables.proofs.OwnersOf.{stale_non_owners}
use Rattle.fact_tables.proofs.Marked.{settle_twice}
use Rattle.fact_tables.proofs.sheet.Sheet.make_stale.Goals as goal

module _ (c : goal.After-clear-3) where
  abbrev before : List Row
  before = c.self.inside.rows.items

  abbrev current : List ℕ
  current = c.self.inside.current.items

  abbrev classes : List Class
  classes = map class_of before ++ c.args.added.now

  abbrev between : List Row
  between = each_listed blank (keep_row classes) current before

  own : (v : ℕ) → v < length before → class_at classes v ≡ (row_at before v).class
  own v lt = get_or_append_left (map class_of before) c.args.added.now lost_class v (rw length-map lt) ∙ get_or-map class_of before v blank

  is : c.sweep.new.rows.items ≡ each_listed blank settle_row current between
  is = c.sweep.ensures ∙ ap (λ (us : List ℕ). each_listed blank settle_row us c.keep_rows.new.rows.items) c.deref-2.ensures.value
      ∙ ap (each_listed blank settle_row current) (c.keep_rows.ensures ∙ ap (λ (us : List ℕ). each_listed blank (keep_row classes) us before) c.deref.ensures.value)

  stale : EachRow (stale_row classes) before c.sweep.new.rows.items
  stale = subst (λ (rows : List Row). EachRow (stale_row classes) before rows) (sym is) (stale_all classes current before own c.self.invariant.1 settle_twice)

pub invariant_of-self : goal.invariant_of-self
invariant_of-self c = (
  subst (λ (rows : List Row). OnlyMarked c.self.inside.marked.items rows) (sym (is c)) (stale_marked (classes c) (current c) (before c) (own c) c.self.invariant.1 settle_twice c.self.inside.marked.items c.self.invariant.0),
  subst (λ (us : List ℕ). OnlyCurrent us c.sweep.new.rows.items) (sym c.clear.ensures.items) (subst (λ (rows : List Row). OnlyCurrent [] rows) (sym (is c)) (stale_none (classes c) (current c) (before c) (own c) c.self.invariant.1 settle_twice)),
  stale_non_owners (classes c) c.clear-3.new.self.items c.clear-2.new.self.items (before c) c.sweep.new.rows.items (stale c),
)

pub returns : goal.returns
returns c = subst (λ (rows : List Row). EachRow (stale_row (map class_of rows ++ c.args.added.now)) rows c.sweep.new.rows.items) c.self.view_is (stale c)
