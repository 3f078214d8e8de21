-- Printed functions outside are read as they were printed.
use Rattle.std.proofs.Common.{◌≡◌, ℕ, Bool, true, false, not, ◌&&◌, [], ◌∷◌, ◌++◌, codes, List, refl, ap, sym, subst, ◌∙◌, append_assoc}
use Rattle.std.specs.Prelude.{◌==◌}
use Rattle.std.specs.List.{list_all, list_any}
use Rattle.std.specs.Str.{bytes_eq}
use Rattle.std.proofs.lemmas.List.{append-nil}
use Rattle.lemmas.specs.Bools.{and_parts}
use Rattle.grammar.specs.Many.{Listed}
use Rattle.ir_ast.specs.declared.module.Module.{Module}
use Rattle.ir_tokens.specs.Bytes.{Text}
use Rattle.name_text.specs.Reader.{recorded}
use Rattle.name_text.specs.Seams.{blanks_on}
use Rattle.name_text.specs.Words.{past_lines}
use Rattle.types.specs.RuntimeCall.{is_outside}
use Rattle.certs.specs.ForeignFit.{are_once, functions_fit}
use Rattle.certificate.specs.ForeignForms.{outside_named, new_outside, foreign_line, past_foreign, foreign_lines, taken_foreign, foreign_by, foreign_names}
use Rattle.certificate.specs.ForeignPrint.{foreign_line_text, foreign_text}
use Rattle.certificate.specs.Forms.{free_by}
use Rattle.certificate.specs.Input.{Progress, Input, with_foreign, without_foreign}
use Rattle.certificate.specs.NameTexts.{global_text}
use Rattle.certificate.specs.Named.{IsNamed}
use Rattle.certificate.specs.Names.{outside_of_word}
use Rattle.certificate.proofs.PrintedLines.{at, ComesAfter, word_is, taken_on, expect_on, line_end_on}
use Rattle.certificate.proofs.PrintedNames.{outside_printed}
use Rattle.certificate.proofs.ReadForeign.{once_before}

pub begins_foreign : (m : Module) (symbols : List ℕ) (t : Text) → past_lines false t ≡ t → past_lines false (foreign_text m symbols ++ t) ≡ foreign_text m symbols ++ t
begins_foreign m [] t e = e
begins_foreign m (s ∷ symbols) t e = refl

-- ---- the lines

-- with these functions outside, too
abbrev more_foreign : List ℕ → Progress → Progress
more_foreign symbols p = record p { foreign = p.foreign ++ symbols }

module _ (m : Module) (named : IsNamed m) where
  new_outside_on : (i : Input) (symbol : ℕ) (t u : Text) → is_outside m symbol ≡ true → list_any (λ t. t == symbol) i.read.foreign ≡ false → ComesAfter t u → (new_outside m).says (at i (global_text m symbol ++ t)) symbol (at i u)
  unfolding new_outside
  new_outside_on i symbol t u is free b =
      let p = outside_printed m symbol named is in
      let w = global_text m symbol in
      let o = at i u in
      let j : Input = at i (w ++ t) in
      subst (λ x. (outside_named x).says j symbol o) (sym (ap (outside_of_word m) (word_is i w t u p.1 b) ∙ p.0)) (subst (λ x. (free_by symbol x).says j symbol o) (sym free) (taken_on symbol i w t u p.1 b))

  line_on : (i : Input) (symbol : ℕ) (t : Text) → is_outside m symbol ≡ true → list_any (λ t. t == symbol) i.read.foreign ≡ false → past_lines false t ≡ t
      → (past_foreign (at i (foreign_line_text m symbol ++ t)) ≡ false) × (foreign_line m).says (at i (foreign_line_text m symbol ++ t)) tt (at (recorded (with_foreign symbol) i) t)
  unfolding foreign_line
  line_on i symbol t is free e =
      let g = global_text m symbol in
      let r : Text = codes "none" ++ 10 ∷ t in
      let y = g ++ 32 ∷ r in
      let p = outside_printed m symbol named is in
      let first : ComesAfter (32 ∷ y) y = (refl, blanks_on g (32 ∷ r) p.1) in
      let second : ComesAfter (32 ∷ r) r = (refl, refl) in
      let whole : foreign_line_text m symbol ++ t ≡ codes "foreign" ++ 32 ∷ y = ap (λ (z : Text). codes "foreign " ++ z) (append_assoc g (codes " none" ++ 10 ∷ []) t) in
      let o = at (recorded (with_foreign symbol) i) t in
      let j : Input = at i (codes "foreign" ++ 32 ∷ y) in
      let one : (foreign_line m).says j tt o = (
        tt,
        at i y,
        expect_on i (codes "foreign") (32 ∷ y) y refl first,
        (symbol, at i r, new_outside_on i symbol (32 ∷ r) r is free second, (tt, at i (10 ∷ t), expect_on i (codes "none") (10 ∷ t) (10 ∷ t) refl (refl, refl), (tt, at i t, line_end_on i t t e, (refl, refl)))),
      ) in
      let stop : past_foreign j ≡ false = ap (λ z. not (bytes_eq z (codes "foreign"))) (word_is i (codes "foreign") (32 ∷ y) y refl first) in
      (ap (λ z. past_foreign (at i z)) whole ∙ stop, subst (λ z. (foreign_line m).says (at i z) tt o) (sym whole) one)

  lines_on : (symbols : List ℕ) (i : Input) (t : Text) → list_all (is_outside m) symbols ≡ true → are_once (i.read.foreign ++ symbols) ≡ true → past_lines false t ≡ t → past_foreign (at i t) ≡ true
      → (count : List (Unit {0})) × Listed past_foreign (foreign_line m).says (at i (foreign_text m symbols ++ t)) count (at (recorded (more_foreign symbols) i) t)
  unfolding with_foreign
  lines_on [] i t all once e stop = ([], (stop, ap (λ (x : List ℕ). at (recorded (λ (p : Progress). record p { foreign = x }) i) t) (sym (append-nil i.read.foreign))))
  lines_on (s ∷ symbols) i t all once e stop =
      let parts = and_parts (is_outside m s) (list_all (is_outside m) symbols) all in
      let rest = foreign_text m symbols ++ t in
      let one = line_on i s rest parts.0 (once_before i.read.foreign s symbols once) (begins_foreign m symbols t e) in
      let next : Input = recorded (with_foreign s) i in
      let same : (i.read.foreign ++ s ∷ []) ++ symbols ≡ i.read.foreign ++ s ∷ symbols = append_assoc i.read.foreign (s ∷ []) symbols in
      let more = lines_on symbols next t parts.1 (ap are_once same ∙ once) e stop in
      let out : at (recorded (more_foreign symbols) next) t ≡ at (recorded (more_foreign (s ∷ symbols)) i) t = ap (λ (x : List ℕ). at (recorded (λ (p : Progress). record p { foreign = x }) i) t) same in
      let whole : foreign_text m (s ∷ symbols) ++ t ≡ foreign_line_text m s ++ rest = append_assoc (foreign_line_text m s) (foreign_text m symbols) t in
      let count = tt ∷ more.0 in
      let said : Listed past_foreign (foreign_line m).says (at i (foreign_line_text m s ++ rest)) count (at (recorded (more_foreign symbols) next) t) = (one.0, at next rest, one.1, more.1) in
      (count, subst (λ x. Listed past_foreign (foreign_line m).says (at i x) count (at (recorded (more_foreign (s ∷ symbols)) i) t)) (sym whole) (subst (λ x. Listed past_foreign (foreign_line m).says (at i (foreign_line_text m s ++ rest)) count x) out said))

  -- functions outside that fit the module are read where none is read so far
  pub foreign_on : (i : Input) (symbols : List ℕ) (t : Text) → functions_fit m symbols ≡ true → i.read.foreign ≡ [] → past_lines false t ≡ t → past_foreign (at i t) ≡ true → (foreign_names m).says (at i (foreign_text m symbols ++ t)) symbols (at i t)
  unfolding foreign_names foreign_lines taken_foreign without_foreign
  foreign_on i symbols t fit none e stop = by m.wide refl symbols fit
    where
      wide_on : (symbols : List ℕ) → list_all (is_outside m) symbols ≡ true → are_once symbols ≡ true → (foreign_by m true).says (at i (foreign_text m symbols ++ t)) symbols (at i t)
      wide_on symbols all once =
          let lines = lines_on symbols i t all (ap (λ (x : List ℕ). are_once (x ++ symbols)) none ∙ once) e stop in
          let o : Input = at (recorded (more_foreign symbols) i) t in
          let names : o.read.foreign ≡ symbols = ap (λ (x : List ℕ). x ++ symbols) none in
          let back : recorded without_foreign o ≡ at i t = ap (λ (x : List ℕ). at (recorded (λ (p : Progress). record p { foreign = x }) i) t) (sym none) in
          (tt, o, (lines.0, o, lines.1, (refl, refl)), (names, back))

      by : (wide : Bool) → m.wide ≡ wide → (symbols : List ℕ) → functions_fit m symbols ≡ true → (foreign_by m wide).says (at i (foreign_text m symbols ++ t)) symbols (at i t)
      by false is [] fit = (refl, refl)
      by false is (s ∷ symbols) fit = (let no : true ≡ false = sym (and_parts m.wide (list_all (is_outside m) (s ∷ symbols) && are_once (s ∷ symbols)) fit).0 ∙ is in absurd cc)
      by true is [] fit = wide_on [] refl refl
      by true is (s ∷ symbols) fit =
          let both = and_parts m.wide (list_all (is_outside m) (s ∷ symbols) && are_once (s ∷ symbols)) fit in
          let parts = and_parts (list_all (is_outside m) (s ∷ symbols)) (are_once (s ∷ symbols)) both.1 in
          wide_on (s ∷ symbols) parts.0 parts.1
