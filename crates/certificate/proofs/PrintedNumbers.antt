-- Printed numbers of layouts are read as they were printed.
use Rattle.std.proofs.Common.{◌≡◌, ◌<◌, ◌^◌, ℕ, Bool, true, false, not, ◌&&◌, ◌||◌, [], ◌∷◌, ◌++◌, codes, List, Option, Some, None, refl, ap, sym, subst, ◌∙◌, append_assoc, arith}
use Rattle.std.specs.Prelude.{◌==◌}
use Rattle.std.specs.Fmt.{decimal}
use Rattle.std.specs.List.{list_all, list_any}
use Rattle.std.specs.Str.{bytes_eq}
use Rattle.std.proofs.lemmas.Bool.{ltb-true}
use Rattle.std.proofs.lemmas.List.{append-nil}
use Rattle.lemmas.specs.Bools.{and_parts, not_true, or_neither}
use Rattle.grammar.specs.Many.{Listed}
use Rattle.ir_ast.specs.declared.module.Module.{Module}
use Rattle.ir_ast.specs.declared.outside.LayoutNumber.{LayoutNumber}
use Rattle.ir_tokens.specs.Bytes.{Text}
use Rattle.name_text.specs.Reader.{recorded, word}
use Rattle.name_text.specs.Seams.{blanks_on}
use Rattle.name_text.specs.Spelled.{number_read, number_is_word}
use Rattle.name_text.specs.Words.{past_lines}
use Rattle.types.specs.LayoutNumbers.{is_layout_number}
use Rattle.certs.specs.Fits.{stands_for}
use Rattle.certs.specs.NumbersFit.{are_numbered_once, has_layout, has_number, may_number, numbers_fit}
use Rattle.certificate.specs.Forms.{free_by}
use Rattle.certificate.specs.Input.{Progress, Input, with_number, without_numbers}
use Rattle.certificate.specs.NameTexts.{layout_text}
use Rattle.certificate.specs.Named.{IsNamed}
use Rattle.certificate.specs.Names.{layout_of_word}
use Rattle.certificate.specs.NumberForms.{unnumbered, new_layout, short_number, short_of_word, not_numbered, new_number, number_line, past_numbers, number_lines, taken_numbers, numbers_by, layout_numbers}
use Rattle.certificate.specs.NumbersPrint.{number_line_text, numbers_text}
use Rattle.certificate.proofs.PrintedLines.{at, ComesAfter, word_is, taken_on, expect_on, line_end_on}
use Rattle.certificate.proofs.PrintedNames.{layout_printed}
use Rattle.certificate.proofs.ReadForeign.{other_name}

-- ---- layouts and numbers that stand once

any_there : {A : Type 0} (p : A → Bool) (xs : List A) (s : A) (ys : List A) → list_any p (xs ++ s ∷ ys) ≡ false → p s ≡ false
any_there p [] s ys none = (or_neither (p s) (list_any p ys) none).0
any_there p (x ∷ xs) s ys none = any_there p xs s ys (or_neither (p x) (list_any p (xs ++ s ∷ ys)) none).1

-- where lines stand once, the layout and the number of one are in none of those before it
once_before : (xs : List LayoutNumber) (s : LayoutNumber) (ys : List LayoutNumber) → are_numbered_once (xs ++ s ∷ ys) ≡ true → (has_layout xs s.layout ≡ false) × (has_number xs s.number ≡ false)
once_before [] s ys once = (refl, refl)
once_before (x ∷ xs) s ys once =
    let all = xs ++ s ∷ ys in
    let parts = and_parts (not (has_layout all x.layout || has_number all x.number)) (are_numbered_once all) once in
    let none = or_neither (has_layout all x.layout) (has_number all x.number) (not_true (has_layout all x.layout || has_number all x.number) parts.0) in
    let layout : x.layout == s.layout ≡ false = other_name s.layout x.layout (any_there (λ (line : LayoutNumber). line.layout == x.layout) xs s ys none.0) in
    let number : x.number == s.number ≡ false = other_name s.number x.number (any_there (λ (line : LayoutNumber). line.number == x.number) xs s ys none.1) in
    let more = once_before xs s ys parts.1 in
    (rw (layout, more.0) refl, rw (number, more.1) refl)

pub begins_numbers : (m : Module) (lines : List LayoutNumber) (t : Text) → past_lines false t ≡ t → past_lines false (numbers_text m lines ++ t) ≡ numbers_text m lines ++ t
begins_numbers m [] t e = e
begins_numbers m (s ∷ lines) t e = refl

-- ---- the lines

-- a number of 32 bits has 64
is_small : (n : ℕ) → is_layout_number n ≡ true → n < 2 ^ 64
is_small n e = let less = ltb-true n 4294967296 e in omega (arith, less)

-- with these numbers of layouts, too
abbrev more_numbers : List LayoutNumber → Progress → Progress
more_numbers lines p = record p { numbers = p.numbers ++ lines }

module _ (m : Module) (named : IsNamed m) where
  new_layout_on : (i : Input) (layout : ℕ) (t u : Text) → list_any (stands_for layout) m.struct_of ≡ true → has_layout i.read.numbers layout ≡ false → ComesAfter t u → (new_layout m).says (at i (layout_text m layout ++ t)) layout (at i u)
  unfolding new_layout
  new_layout_on i layout t u is free b =
      let p = layout_printed m layout named is in
      let w = layout_text m layout in
      let o = at i u in
      let j : Input = at i (w ++ t) in
      subst (λ x. (unnumbered x).says j layout o) (sym (ap (layout_of_word m) (word_is i w t u p.1 b) ∙ p.0)) (subst (λ x. (free_by layout x).says j layout o) (sym free) (taken_on layout i w t u p.1 b))

  new_number_on : (i : Input) (n : ℕ) (t u : Text) → is_layout_number n ≡ true → has_number i.read.numbers n ≡ false → ComesAfter t u → new_number.says (at i (decimal n ++ t)) n (at i u)
  unfolding new_number
  new_number_on i n t u short free b =
      let w = decimal n in
      let is = number_is_word n (is_small n short) in
      let o = at i u in
      let j : Input = at i (w ++ t) in
      let read : short_of_word (word j) ≡ Some n = ap short_of_word (word_is i w t u is b) ∙ ap short_number (number_read n (is_small n short)) ∙ rw short refl in
      subst (λ x. (not_numbered x).says j n o) (sym read) (subst (λ x. (free_by n x).says j n o) (sym free) (taken_on n i w t u is b))

  line_on : (i : Input) (line : LayoutNumber) (t : Text) → may_number m line ≡ true → has_layout i.read.numbers line.layout ≡ false → has_number i.read.numbers line.number ≡ false → past_lines false t ≡ t
      → (past_numbers (at i (number_line_text m line ++ t)) ≡ false) × (number_line m).says (at i (number_line_text m line ++ t)) tt (at (recorded (with_number line) i) t)
  unfolding number_line
  line_on i line t is unlisted free e =
      let parts = and_parts (list_any (stands_for line.layout) m.struct_of) (is_layout_number line.number) is in
      let l = layout_text m line.layout in
      let d = decimal line.number in
      let x : Text = d ++ 10 ∷ t in
      let y = l ++ 32 ∷ x in
      let p = layout_printed m line.layout named parts.0 in
      let first : ComesAfter (32 ∷ y) y = (refl, blanks_on l (32 ∷ x) p.1) in
      let second : ComesAfter (32 ∷ x) x = (refl, blanks_on d (10 ∷ t) (number_is_word line.number (is_small line.number parts.1))) in
      let whole : number_line_text m line ++ t ≡ codes "number" ++ 32 ∷ y =
      ap (λ (z : Text). codes "number " ++ z) (append_assoc l (32 ∷ (d ++ 10 ∷ [])) t ∙ ap (λ (z : Text). l ++ 32 ∷ z) (append_assoc d (10 ∷ []) t)) in
      let o = at (recorded (with_number line) i) t in
      let j : Input = at i (codes "number" ++ 32 ∷ y) in
      let one : (number_line m).says j tt o = (
        tt,
        at i y,
        expect_on i (codes "number") (32 ∷ y) y refl first,
        (
          line.layout,
          at i x,
          new_layout_on i line.layout (32 ∷ x) x parts.0 unlisted second,
          (line.number, at i (10 ∷ t), new_number_on i line.number (10 ∷ t) (10 ∷ t) parts.1 free (refl, refl), (tt, at i t, line_end_on i t t e, (refl, refl))),
        ),
      ) in
      let stop : past_numbers j ≡ false = ap (λ z. not (bytes_eq z (codes "number"))) (word_is i (codes "number") (32 ∷ y) y refl first) in
      (ap (λ z. past_numbers (at i z)) whole ∙ stop, subst (λ z. (number_line m).says (at i z) tt o) (sym whole) one)

  lines_on : (lines : List LayoutNumber) (i : Input) (t : Text) → list_all (may_number m) lines ≡ true → are_numbered_once (i.read.numbers ++ lines) ≡ true → past_lines false t ≡ t → past_numbers (at i t) ≡ true
      → (count : List (Unit {0})) × Listed past_numbers (number_line m).says (at i (numbers_text m lines ++ t)) count (at (recorded (more_numbers lines) i) t)
  unfolding with_number
  lines_on [] i t all once e stop = ([], (stop, ap (λ (x : List LayoutNumber). at (recorded (λ (p : Progress). record p { numbers = x }) i) t) (sym (append-nil i.read.numbers))))
  lines_on (s ∷ lines) i t all once e stop =
      let parts = and_parts (may_number m s) (list_all (may_number m) lines) all in
      let rest = numbers_text m lines ++ t in
      let new = once_before i.read.numbers s lines once in
      let one = line_on i s rest parts.0 new.0 new.1 (begins_numbers m lines t e) in
      let next : Input = recorded (with_number s) i in
      let same : (i.read.numbers ++ s ∷ []) ++ lines ≡ i.read.numbers ++ s ∷ lines = append_assoc i.read.numbers (s ∷ []) lines in
      let more = lines_on lines next t parts.1 (ap are_numbered_once same ∙ once) e stop in
      let out : at (recorded (more_numbers lines) next) t ≡ at (recorded (more_numbers (s ∷ lines)) i) t = ap (λ (x : List LayoutNumber). at (recorded (λ (p : Progress). record p { numbers = x }) i) t) same in
      let whole : numbers_text m (s ∷ lines) ++ t ≡ number_line_text m s ++ rest = append_assoc (number_line_text m s) (numbers_text m lines) t in
      let count = tt ∷ more.0 in
      let said : Listed past_numbers (number_line m).says (at i (number_line_text m s ++ rest)) count (at (recorded (more_numbers lines) next) t) = (one.0, at next rest, one.1, more.1) in
      (count, subst (λ x. Listed past_numbers (number_line m).says (at i x) count (at (recorded (more_numbers (s ∷ lines)) i) t)) (sym whole) (subst (λ x. Listed past_numbers (number_line m).says (at i (number_line_text m s ++ rest)) count x) out said))

  -- numbers of layouts that fit the module are read where none is read so far
  pub numbers_on : (i : Input) (lines : List LayoutNumber) (t : Text) → numbers_fit m lines ≡ true → i.read.numbers ≡ [] → past_lines false t ≡ t → past_numbers (at i t) ≡ true → (layout_numbers m).says (at i (numbers_text m lines ++ t)) lines (at i t)
  unfolding layout_numbers number_lines taken_numbers without_numbers
  numbers_on i lines t fit none e stop = by m.wide refl lines fit
    where
      wide_on : (lines : List LayoutNumber) → list_all (may_number m) lines ≡ true → are_numbered_once lines ≡ true → (numbers_by m true).says (at i (numbers_text m lines ++ t)) lines (at i t)
      wide_on lines all once =
          let read = lines_on lines i t all (ap (λ (x : List LayoutNumber). are_numbered_once (x ++ lines)) none ∙ once) e stop in
          let o : Input = at (recorded (more_numbers lines) i) t in
          let names : o.read.numbers ≡ lines = ap (λ (x : List LayoutNumber). x ++ lines) none in
          let back : recorded without_numbers o ≡ at i t = ap (λ (x : List LayoutNumber). at (recorded (λ (p : Progress). record p { numbers = x }) i) t) (sym none) in
          (tt, o, (read.0, o, read.1, (refl, refl)), (names, back))

      by : (wide : Bool) → m.wide ≡ wide → (lines : List LayoutNumber) → numbers_fit m lines ≡ true → (numbers_by m wide).says (at i (numbers_text m lines ++ t)) lines (at i t)
      by false is [] fit = (refl, refl)
      by false is (s ∷ lines) fit = (let no : true ≡ false = sym (and_parts m.wide (list_all (may_number m) (s ∷ lines) && are_numbered_once (s ∷ lines)) fit).0 ∙ is in absurd cc)
      by true is [] fit = wide_on [] refl refl
      by true is (s ∷ lines) fit =
          let both = and_parts m.wide (list_all (may_number m) (s ∷ lines) && are_numbered_once (s ∷ lines)) fit in
          let parts = and_parts (list_all (may_number m) (s ∷ lines)) (are_numbered_once (s ∷ lines)) both.1 in
          wide_on (s ∷ lines) parts.0 parts.1
