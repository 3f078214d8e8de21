-- Printed promises are read as what they were printed for.
use Rattle.std.proofs.Common.{◌≡◌, ℕ, Bool, true, false, not, ◌&&◌, ◌||◌, [], ◌∷◌, ◌++◌, slice_get, codes, Option, Some, None, refl, ap, sym, subst, ◌∙◌, append_assoc}
use Rattle.std.specs.Prelude.{if◌then◌else◌}
use Rattle.std.specs.List.{list_any}
use Rattle.std.specs.Str.{bytes_eq}
use Rattle.std.specs.Fmt.{decimal}
use Rattle.std.proofs.lemmas.Bool.{eq-eqb}
use Rattle.lemmas.specs.Bools.{and_second, and_first}
use Rattle.ir_ast.specs.declared.function.Function.{Function}
use Rattle.ir_ast.specs.declared.function.LocalSort.{LocalSort}
use Rattle.ir_ast.specs.declared.function.LocalSort.TheVariants as local
use Rattle.ir_ast.specs.declared.function.Parameter.{Parameter}
use Rattle.ir_ast.specs.declared.module.Module.{Module}
use Rattle.ir_tokens.specs.Bytes.{Text}
use Rattle.name_text.specs.Words.{past_blanks, past_lines, word_at, stops}
use Rattle.certificate.specs.Names.{value_of_word}
use Rattle.certs.specs.Families.{family_of_type, family_of_value, family_of_sort, is_reference, is_integer, may_be_outside, refers_to}
use Rattle.certificate.specs.Input.{Input, with_promise}
use Rattle.name_text.specs.Reader.{recorded, word}
use Rattle.certificate.specs.Forms.{is_parameter, is_named, unpromised, parameter_by, parameter_named, new_parameter}
use Rattle.certificate.specs.Lines.{no_promise, promised_in, promise_by, promised_fact, more_facts, promise}
use Rattle.certificate.specs.Text as text
use Rattle.certs.specs.Fits.{is_count, stands_for, layout_fits, says_something, promised_layout_fits, promised_below_fits, promised_number_fits, promise_fits, promised_fits, is_value_sort, is_value}
use Rattle.certificate.specs.Named.{IsNamed, IsNamedFunction}
use Rattle.certificate.specs.Print.{local_text, layout_text, promise_text, parameter_text, result_text}
use Rattle.name_text.specs.Seams.{blanks_on}
use Rattle.certificate.proofs.PrintedWords.{count_read}
use Rattle.certificate.proofs.PrintedNames.{value_printed, layout_printed}
use Rattle.certificate.proofs.PrintedLines.{at, ComesAfter, skip_on, word_is, taken_on, expect_on, line_end_on, count_on, layout_on, refers_is}
use Rattle.certs.specs.declared.family.Family.{Family}
use Rattle.certs.specs.declared.family.Family.TheVariants as fam
use Rattle.certificate.specs.declared.promises.Promised.TheVariants as promised
use Rattle.certs.specs.declared.section.Promise.{Promise}

module _ (m : Module) (f : Function) (named : IsNamed m) (own : IsNamedFunction f) where
  -- no more facts where the line ends
  no_more : (i : Input) (family : Family) (p : Promise) (t : Text) → (more_facts m family p).says (at i (10 ∷ t)) p (at i (10 ∷ t))
  unfolding more_facts
  no_more i family p t = (refl, refl)

  -- `nonnull`, which is not promised so far
  null_fact : (i : Input) (family : Family) (layout : Option ℕ) (t : Text) → is_reference family ≡ true
      → (promised_fact m family (record { layout = layout; nonnull = false; below = None; number = false })).says (at i (codes "nonnull" ++ 10 ∷ t)) (record { layout = layout; nonnull = true; below = None; number = false }) (at i (10 ∷ t))
  unfolding promised_fact
  null_fact i family layout t refers =
      let p : Promise = record { layout = layout; nonnull = false; below = None; number = false } in
      let q : Promise = record { layout = layout; nonnull = true; below = None; number = false } in
      let is = word_is i (codes "nonnull") (10 ∷ t) (10 ∷ t) refl (refl, refl) in
      let kind : promised_in m family p (word (at i (codes "nonnull" ++ 10 ∷ t))) ≡ promised.Nonnull = ap (promised_in m family p) is ∙ ap (λ (x : Bool). if x then promised.Nonnull else promised.Other) refers in
      subst (λ x. (promise_by m family p x).says (at i (codes "nonnull" ++ 10 ∷ t)) q (at i (10 ∷ t))) (sym kind) (taken_on q i (codes "nonnull") (10 ∷ t) (10 ∷ t) refl (refl, refl))

  -- a layout, with which the line begins
  layout_fact : (i : Input) (family : Family) (layout : ℕ) (t u : Text) → is_reference family ≡ true → layout_fits m family layout ≡ true → ComesAfter t u
      → (promised_fact m family no_promise).says (at i (codes "ref" ++ 32 ∷ (layout_text m layout ++ t))) (record { layout = Some layout; nonnull = false; below = None; number = false }) (at i u)
  unfolding promised_fact
  layout_fact i family layout t u refers fits b =
      let w = layout_text m layout in
      let p = layout_printed m layout named (and_second (refers_to layout family) (list_any (stands_for layout) m.struct_of) fits) in
      let q : Promise = record { layout = Some layout; nonnull = false; below = None; number = false } in
      let afterwards : ComesAfter (32 ∷ (w ++ t)) (w ++ t) = (refl, blanks_on w t p.1) in
      let is = word_is i (codes "ref") (32 ∷ (w ++ t)) (w ++ t) refl afterwards in
      let kind : promised_in m family no_promise (word (at i (codes "ref" ++ 32 ∷ (w ++ t)))) ≡ promised.Layout = ap (promised_in m family no_promise) is ∙ ap (λ (x : Bool). if x then promised.Layout else promised.Other) refers in
      subst (λ x. (promise_by m family no_promise x).says (at i (codes "ref" ++ 32 ∷ (w ++ t))) q (at i u)) (sym kind)
      (layout, at i u, (tt, at i (w ++ t), skip_on i (codes "ref") (32 ∷ (w ++ t)) (w ++ t) refl afterwards, layout_on m f named own i family layout t u fits b), (refl, refl))

  -- a bound, with which the line begins
  below_fact : (i : Input) (family : Family) (n : ℕ) (t : Text) → is_integer family ≡ true → is_count n ≡ true
      → (promised_fact m family no_promise).says (at i (codes "below" ++ 32 ∷ (decimal n ++ 10 ∷ t))) (record { layout = None; nonnull = false; below = Some n; number = false }) (at i (10 ∷ t))
  unfolding promised_fact
  below_fact i family n t integer fits =
      let q : Promise = record { layout = None; nonnull = false; below = Some n; number = false } in
      let end = decimal n ++ 10 ∷ t in
      let afterwards : ComesAfter (32 ∷ end) end = (refl, blanks_on (decimal n) (10 ∷ t) (count_read n fits).1) in
      let is = word_is i (codes "below") (32 ∷ end) end refl afterwards in
      let kind : promised_in m family no_promise (word (at i (codes "below" ++ 32 ∷ end))) ≡ promised.Below = ap (promised_in m family no_promise) is ∙ ap (λ (x : Bool). if x then promised.Below else promised.Other) integer in
      subst (λ x. (promise_by m family no_promise x).says (at i (codes "below" ++ 32 ∷ end)) q (at i (10 ∷ t))) (sym kind)
      (n, at i (10 ∷ t), (tt, at i end, skip_on i (codes "below") (32 ∷ end) end refl afterwards, count_on i n (10 ∷ t) (10 ∷ t) fits (refl, refl)), (refl, refl))

  -- an address outside, with which the line begins
  number_fact : (i : Input) (family : Family) (t : Text) → may_be_outside m family ≡ true
      → (promised_fact m family no_promise).says (at i (codes "i64" ++ 10 ∷ t)) (record { layout = None; nonnull = false; below = None; number = true }) (at i (10 ∷ t))
  unfolding promised_fact
  number_fact i family t outside =
      let q : Promise = record { layout = None; nonnull = false; below = None; number = true } in
      let is = word_is i (codes "i64") (10 ∷ t) (10 ∷ t) refl (refl, refl) in
      let kind : promised_in m family no_promise (word (at i (codes "i64" ++ 10 ∷ t))) ≡ promised.Number = ap (promised_in m family no_promise) is ∙ ap (λ (x : Bool). if x && true then promised.Number else promised.Other) outside in
      subst (λ x. (promise_by m family no_promise x).says (at i (codes "i64" ++ 10 ∷ t)) q (at i (10 ∷ t))) (sym kind) (taken_on q i (codes "i64") (10 ∷ t) (10 ∷ t) refl (refl, refl))

  -- the word is `nonnull`, so that the line goes on
  null_more : (i : Input) (family : Family) (layout : Option ℕ) (t : Text) → is_reference family ≡ true
      → (more_facts m family (record { layout = layout; nonnull = false; below = None; number = false })).says (at i (codes "nonnull" ++ 10 ∷ t)) (record { layout = layout; nonnull = true; below = None; number = false }) (at i (10 ∷ t))
  unfolding more_facts
  null_more i family layout t refers = null_fact i family layout t refers

  not_both : (family : Family) → is_reference family ≡ true → is_integer family ≡ true → ⊥
  not_both (fam.Reference own) e g = cc
  not_both fam.AnyReference e g = cc
  not_both (fam.Number bits) e g = cc
  not_both fam.Address e g = cc
  not_both fam.Opaque e g = cc
  not_both fam.Nothing e g = cc

  -- what is promised, and the line's end
  abbrev PromiseOn : Input → Family → Promise → (t u : Text) → Type 0
  PromiseOn i family p t u = (stops (promise_text m p ++ t) ≡ true) × (promise m family).says (at i (past_blanks (promise_text m p ++ t))) p (at i u)

  parts_on : (i : Input) (family : Family) (layout : Option ℕ) (nonnull : Bool) (n : Option ℕ) (t u : Text)
      → says_something (record { layout = layout; nonnull = nonnull; below = n; number = false }) ≡ true → promised_layout_fits m family layout ≡ true → (not nonnull || is_reference family) ≡ true → promised_below_fits family n ≡ true
      → past_lines false t ≡ u → PromiseOn i family (record { layout = layout; nonnull = nonnull; below = n; number = false }) t u
  unfolding promise
  parts_on i family (Some l) false None t u some fits null low e =
      let w = layout_text m l in
      let refers = refers_is family l (and_first (refers_to l family) (list_any (stands_for l) m.struct_of) fits) in
      let p : Promise = record { layout = Some l; nonnull = false; below = None; number = false } in
      let text : promise_text m p ++ t ≡ codes " ref " ++ (w ++ 10 ∷ t) = ap (λ (x : Text). codes " ref " ++ x) (ap (λ (x : Text). x ++ t) (end_only w) ∙ append_assoc w (10 ∷ []) t) in (
        refl,
        subst (λ x. (promise m family).says (at i (past_blanks x)) p (at i u)) (sym text) (
          p,
          at i (10 ∷ t),
          layout_fact i family l (10 ∷ t) (10 ∷ t) refers fits (refl, refl),
          (p, at i (10 ∷ t), no_more i family p t, (p, at i (10 ∷ t), no_more i family p t, (p, at i (10 ∷ t), no_more i family p t, (tt, at i u, line_end_on i t u e, (refl, refl))))),
        ),
      )
    where
      end_only : (w : Text) → w ++ [] ++ [] ++ 10 ∷ [] ≡ w ++ 10 ∷ []
      end_only [] = refl
      end_only (b ∷ w) = ap (λ (x : Text). b ∷ x) (end_only w)
  parts_on i family (Some l) true None t u some fits null low e =
      let w = layout_text m l in
      let refers = refers_is family l (and_first (refers_to l family) (list_any (stands_for l) m.struct_of) fits) in
      let one : Promise = record { layout = Some l; nonnull = false; below = None; number = false } in
      let p : Promise = record { layout = Some l; nonnull = true; below = None; number = false } in
      let a = codes " nonnull" ++ 10 ∷ t in
      let b = codes "nonnull" ++ 10 ∷ t in
      let text : promise_text m p ++ t ≡ codes " ref " ++ (w ++ a) = ap (λ (x : Text). codes " ref " ++ x) (ap (λ (x : Text). x ++ t) (null_only w) ∙ append_assoc w (codes " nonnull" ++ 10 ∷ []) t) in (
        refl,
        subst (λ x. (promise m family).says (at i (past_blanks x)) p (at i u)) (sym text) (
          one,
          at i b,
          layout_fact i family l a b refers fits (refl, refl),
          (p, at i (10 ∷ t), null_more i family (Some l) t refers, (p, at i (10 ∷ t), no_more i family p t, (p, at i (10 ∷ t), no_more i family p t, (tt, at i u, line_end_on i t u e, (refl, refl))))),
        ),
      )
    where
      null_only : (w : Text) → w ++ codes " nonnull" ++ [] ++ 10 ∷ [] ≡ w ++ (codes " nonnull" ++ 10 ∷ [])
      null_only [] = refl
      null_only (b ∷ w) = ap (λ (x : Text). b ∷ x) (null_only w)
  parts_on i family None true None t u some fits null low e =
      let p : Promise = record { layout = None; nonnull = true; below = None; number = false } in (
        refl,
        (
          p,
          at i (10 ∷ t),
          null_fact i family None t null,
          (p, at i (10 ∷ t), no_more i family p t, (p, at i (10 ∷ t), no_more i family p t, (p, at i (10 ∷ t), no_more i family p t, (tt, at i u, line_end_on i t u e, (refl, refl))))),
        ),
      )
  parts_on i family None false (Some n) t u some fits null low e =
      let p : Promise = record { layout = None; nonnull = false; below = Some n; number = false } in
      let text : promise_text m p ++ t ≡ codes " below " ++ (decimal n ++ 10 ∷ t) = ap (λ (x : Text). codes " below " ++ x) (append_assoc (decimal n) (10 ∷ []) t) in (
        refl,
        subst (λ x. (promise m family).says (at i (past_blanks x)) p (at i u)) (sym text) (
          p,
          at i (10 ∷ t),
          below_fact i family n t (and_first (is_integer family) (is_count n) low) (and_second (is_integer family) (is_count n) low),
          (p, at i (10 ∷ t), no_more i family p t, (p, at i (10 ∷ t), no_more i family p t, (p, at i (10 ∷ t), no_more i family p t, (tt, at i u, line_end_on i t u e, (refl, refl))))),
        ),
      )
  parts_on i family None false None t u some fits null low e = absurd cc
  parts_on i family None true (Some n) t u some fits null low e = absurd (not_both family null (and_first (is_integer family) (is_count n) low))
  parts_on i family (Some l) nonnull (Some n) t u some fits null low e =
      absurd (not_both family (refers_is family l (and_first (refers_to l family) (list_any (stands_for l) m.struct_of) fits)) (and_first (is_integer family) (is_count n) low))

  -- an address outside, of which nothing else is promised
  number_on : (i : Input) (family : Family) (layout : Option ℕ) (nonnull : Bool) (n : Option ℕ) (t u : Text) → promised_number_fits m family (record { layout = layout; nonnull = nonnull; below = n; number = true }) ≡ true
      → past_lines false t ≡ u → PromiseOn i family (record { layout = layout; nonnull = nonnull; below = n; number = true }) t u
  unfolding promise
  number_on i family None false None t u fits e =
      let p : Promise = record { layout = None; nonnull = false; below = None; number = true } in (
        refl,
        (
          p,
          at i (10 ∷ t),
          number_fact i family t (and_first (may_be_outside m family) true fits),
          (p, at i (10 ∷ t), no_more i family p t, (p, at i (10 ∷ t), no_more i family p t, (p, at i (10 ∷ t), no_more i family p t, (tt, at i u, line_end_on i t u e, (refl, refl))))),
        ),
      )
  number_on i family None false (Some n) t u fits e = let no : false ≡ true = and_second (may_be_outside m family) false fits in absurd cc
  number_on i family None true n t u fits e = let no : false ≡ true = and_second (may_be_outside m family) false fits in absurd cc
  number_on i family (Some l) nonnull n t u fits e = let no : false ≡ true = and_second (may_be_outside m family) false fits in absurd cc

  pub promise_on : (i : Input) (family : Family) (p : Promise) (t u : Text) → promise_fits m family p ≡ true → past_lines false t ≡ u → PromiseOn i family p t u
  promise_on i family p t u e lines = by p.layout p.nonnull p.below p.number e
    where
      parts : (a b c d : Bool) → (a && true && b && c && d) ≡ true → (a ≡ true) × (b ≡ true) × (c ≡ true) × (d ≡ true)
      parts true true true true e = (refl, refl, refl, refl)
      parts false b c d e = absurd cc
      parts true false c d e = absurd cc
      parts true true false d e = absurd cc
      parts true true true false e = absurd cc

      second : (a b c d x : Bool) → (a && x && b && c && d) ≡ true → x ≡ true
      second true b c d true e = refl
      second true b c d false e = absurd cc
      second false b c d x e = absurd cc

      by : (layout : Option ℕ) (nonnull : Bool) (n : Option ℕ) (number : Bool) → promise_fits m family (record { layout = layout; nonnull = nonnull; below = n; number = number }) ≡ true → PromiseOn i family (record { layout = layout; nonnull = nonnull; below = n; number = number }) t u
      by layout nonnull n true e =
          let p : Promise = record { layout = layout; nonnull = nonnull; below = n; number = true } in
          number_on i family layout nonnull n t u (second (says_something p) (promised_layout_fits m family layout) (not nonnull || is_reference family) (promised_below_fits family n) (promised_number_fits m family p) e) lines
      by layout nonnull n false e =
          let p : Promise = record { layout = layout; nonnull = nonnull; below = n; number = false } in
          let all = parts (says_something p) (promised_layout_fits m family layout) (not nonnull || is_reference family) (promised_below_fits family n) e in
          parts_on i family layout nonnull n t u all.0 all.1 all.2 all.3 lines

  -- ---- parameters and the result

  -- a value of which something may be promised is a value
  value_is : (value : ℕ) (p : Promise) → promise_fits m (family_of_value m f value) p ≡ true → is_value f value ≡ true
  value_is value p e = by (slice_get f.sorts value) e
    where
      nothing : (layout : Option ℕ) (nonnull : Bool) (n : Option ℕ) (number : Bool) → promise_fits m fam.Nothing (record { layout = layout; nonnull = nonnull; below = n; number = number }) ≡ true → ⊥
      nothing None false None false e = cc
      nothing None false (Some n) false e = cc
      nothing None true n false e = cc
      nothing (Some l) false n false e = cc
      nothing (Some l) true n false e = cc
      nothing None false None true e = cc
      nothing None false (Some n) true e = cc
      nothing None true n true e = cc
      nothing (Some l) false n true e = cc
      nothing (Some l) true n true e = cc

      none : promise_fits m fam.Nothing p ≡ true → ⊥
      none e = nothing p.layout p.nonnull p.below p.number e

      by : (s : Option LocalSort) → promise_fits m (family_of_sort m f s) p ≡ true → is_value_sort s ≡ true
      by (Some (local.Value written)) e = refl
      by (Some (local.Slot held)) e = refl
      by (Some (local.Element block place)) e = refl
      by (Some local.Unknown) e = absurd (none e)
      by (Some (local.Block block)) e = absurd (none e)
      by None e = absurd (none e)

  -- with what is promised of a parameter
  pub parameter_on : (i : Input) (place : ℕ) (parameter : Parameter) (p : Promise) (t u : Text) → slice_get f.parameters place ≡ Some parameter → slice_get i.read.draft.parameters place ≡ Some None
      → promise_fits m (family_of_value m f parameter.value) p ≡ true → past_lines false t ≡ u
      → (text.parameter m f).says (at i (parameter_text m f parameter (Some p) ++ t)) tt (at (recorded (with_promise place p) i) u)
  unfolding text.parameter new_parameter with_promise
  parameter_on i place parameter p t u is free fits e =
      let same : parameter.value ≡ place = own.parameters place parameter is in
      let value = parameter.value in
      let w = local_text f value in
      let a = promise_text m p ++ t in
      let printed = value_printed f value own (value_is value p fits) in
      let said = promise_on i (family_of_value m f value) p t u fits e in
      let one : parameter_text m f parameter (Some p) ++ t ≡ codes "param " ++ (w ++ a) = ap (λ (x : Text). codes "param " ++ x) (append_assoc w (promise_text m p) t) in
      let first : ComesAfter (32 ∷ (w ++ a)) (w ++ a) = (refl, blanks_on w a printed.1) in
      let b : ComesAfter a (past_blanks a) = (said.0, refl) in
      let is_one : is_parameter f value ≡ true = ap (λ x. is_parameter f x) same ∙ ap (is_named place) is ∙ eq-eqb parameter.value place same in
      let still_free : slice_get i.read.draft.parameters value ≡ Some None = ap (slice_get i.read.draft.parameters) same ∙ free in
      let name : (new_parameter f).says (at i (w ++ a)) value (at i (past_blanks a)) =
      subst (λ x. (parameter_named f x).says (at i (w ++ a)) value (at i (past_blanks a))) (sym (ap (value_of_word f) (word_is i w a (past_blanks a) printed.1 b) ∙ printed.0))
      (subst (λ x. (parameter_by value x).says (at i (w ++ a)) value (at i (past_blanks a))) (sym is_one)
      (subst (λ x. (unpromised value x).says (at i (w ++ a)) value (at i (past_blanks a))) (sym still_free) (taken_on value i w a (past_blanks a) printed.1 b))) in
      subst (λ x. (text.parameter m f).says (at i x) tt (at (recorded (with_promise place p) i) u)) (sym one) (
        tt,
        at i (w ++ a),
        expect_on i (codes "param") (32 ∷ (w ++ a)) (w ++ a) refl first,
        (value, at i (past_blanks a), name, (p, at i u, said.1, (refl, ap (λ x. at (recorded (with_promise x p) i) u) same))),
      )

  -- with the line of the result, if something is promised of it
  pub result_on : (i : Input) (p : Option Promise) (t u : Text) → promised_fits m (family_of_type m f.returned) p ≡ true → past_lines false t ≡ u → past_lines false u ≡ u → bytes_eq (word_at u) (codes "result") ≡ false → t ≡ u
      → (text.result_line m f).says (at i (result_text m p ++ t)) p (at i u)
  unfolding text.result_line
  result_on i None t u fits e start other same =
      subst (λ x. (text.result_by m f x).says (at i t) None (at i u)) (sym (ap (λ x. bytes_eq (word_at x) (codes "result")) same ∙ other)) (refl, ap (at i) same)
  result_on i (Some p) t u fits e start other same =
      let a = promise_text m p ++ t in
      let said = promise_on i (family_of_type m f.returned) p t u fits e in
      let b : ComesAfter a (past_blanks a) = (said.0, refl) in
      let is = word_is i (codes "result") a (past_blanks a) refl b in
      subst (λ x. (text.result_by m f x).says (at i (codes "result" ++ a)) (Some p) (at i u)) (sym (ap (λ x. bytes_eq x (codes "result")) is))
      (p, at i u, (tt, at i (past_blanks a), skip_on i (codes "result") a (past_blanks a) refl b, said.1), (refl, refl))
