use Rattle.std.proofs.Common.{◌≡◌, ◌<◌, ◌∙◌, ap, sym, subst, arith, length, true, false, Option, Some, None, not, is_some, refl}
use Rattle.std.specs.Prelude.{slice_set}
use Rattle.lemmas.specs.Numbers.{lt_no}
use Rattle.fact_tables.specs.declared.row.Row.{Row}
use Rattle.fact_tables.specs.declared.known.Known.TheVariants.{Nothing}
use Rattle.fact_tables.specs.Rows.{values_without, tests_without}
use Rattle.fact_tables.specs.Sheets.{row_at}
use Rattle.fact_tables.specs.Values.{ValueFacts}
use Rattle.fact_tables.proofs.Unnamed.{values_alone, tests_alone}
use Rattle.fact_tables.proofs.values.Values.is_unnamed.Goals as goal
use Rattle.fact_tables.proofs.values.Values.is_unnamed.Goals.{then-at-len, else-at-len}

none : {X : Type 0} (x : Option X) → is_some x ≡ false → x ≡ None
none (Some x) e = absurd cc
none None e = refl

module _ (c : goal.After-is_none-then-is_none) where
  is_row : c.row-row.result ≡ row_at c.self.inside.sheet c.args.v
  is_row = c.row-row.ensures ∙ ap (row_at c.self.inside.sheet) c.number-at.ensures

  within : c.args.v < length c.self.inside.sheet
  within = elim c.if-at-len.branch [
    | then-at-len w ↦ omega (arith, w.if-at-len.true, c.number-at.ensures, c.len.ensures.count)
    | else-at-len w ↦ let bad = sym (w.value-is ∙ lt_no c.number-at.result c.len.result w.if-at-len.false) ∙ c.if-is_none.true in absurd cc
  ]

  unused : (row_at c.self.inside.sheet c.args.v).used ≡ None
  unused = elim c.if-at-len.branch [
    | then-at-len w ↦ sym (ap (λ (row : Row). row.used) is_row) ∙ none c.row-row.result.used (w.is_none.ensures ∙ ap not (sym w.value-is ∙ c.if-is_none.true))
    | else-at-len w ↦ let bad = sym (w.value-is ∙ lt_no c.number-at.result c.len.result w.if-at-len.false) ∙ c.if-is_none.true in absurd cc
  ]

  untested : c.is_none-then-is_none.result ≡ true → (row_at c.self.inside.sheet c.args.v).test ≡ None
  untested e = sym (ap (λ (row : Row). row.test) is_row) ∙ none c.row-row.result.test (c.is_none-then-is_none.ensures ∙ ap not e)

pub returns-then-is_none-clause-values : goal.returns-then-is_none-clause-values
returns-then-is_none-clause-values c = λ e. subst (λ (f : ValueFacts). values_without c.args.v f.values ≡ slice_set f.values c.args.v Nothing) c.self.view_is
    (values_alone c.args.v c.self.inside.uses.items c.self.inside.sheet c.self.invariant (within c) (unused c))

pub returns-then-is_none-clause-tests : goal.returns-then-is_none-clause-tests
returns-then-is_none-clause-tests c = λ e. subst (λ (f : ValueFacts). tests_without c.args.v f.tests ≡ f.tests) c.self.view_is
    (tests_alone c.args.v c.self.inside.uses.items c.self.inside.sheet c.self.invariant (within c) (unused c) (untested c e))
