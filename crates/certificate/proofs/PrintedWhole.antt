-- What is printed of certificates is a text of certificates that say the same.
use Rattle.std.proofs.Common.{◌≡◌, Bool, true, false, not, ◌&&◌, ◌||◌, [], ◌∷◌, ◌++◌, codes, ℕ, List, map, drop, Option, Some, None, refl, ap, sym, subst, ◌∙◌, append_assoc}
use Rattle.std.specs.Prelude.{if◌then◌else◌}
use Rattle.std.specs.List.{list_all}
use Rattle.std.specs.Str.{bytes_eq}
use Rattle.lemmas.specs.Bools.{and_first, and_second, or_second, and_true}
use Rattle.ir_ast.specs.declared.function.Function.{Function}
use Rattle.ir_ast.specs.declared.module.Module.{Module}
use Rattle.ir_ast.specs.declared.outside.Outside.{Outside}
use Rattle.ir_ast.specs.declared.shapes.Shapes.{Shapes}
use Rattle.ir_ast.specs.PointerKinds.{has_typed}
use Rattle.ir_tokens.specs.Bytes.{Text}
use Rattle.layout.specs.PointerRows.{one_rows}
use Rattle.name_text.specs.Forms.{taken}
use Rattle.name_text.specs.Numbers.{is_number}
use Rattle.name_text.specs.Reader.{recorded, word, begins}
use Rattle.name_text.specs.Seams.{word_on}
use Rattle.name_text.specs.Words.{past_lines, word_at}
use Rattle.certs.specs.Families.{is_opaque_text}
use Rattle.certs.specs.Fits.{fits}
use Rattle.certs.specs.ForeignFit.{foreign_fits}
use Rattle.certs.specs.ShapesFit.{row_fits, root_row_fits, global_fits, roots_fit, all_shapes_fit}
use Rattle.certs.specs.declared.certs.Certs.{Certs}
use Rattle.certs.specs.declared.section.Section.{Section}
use Rattle.certificate.specs.Alike.{are_alike, are_whole, HasWordShapes, HasRootShapes, IsCertAlike}
use Rattle.certificate.specs.Input.{Input, start_of, emptied, unshaped}
use Rattle.certificate.specs.Laws.{ArePrintedAlike}
use Rattle.certificate.specs.Named.{IsNamed, HasGlobals, HasStructs, HasRootValues}
use Rattle.certificate.specs.Print.{sections_text, outside_text, head_text, shapes_with, cert_text}
use Rattle.certificate.specs.ShapeDrafts.{shapes_begun}
use Rattle.certificate.specs.ShapeForms.{past_shapes, taken_shapes, none_missing, whole_by}
use Rattle.certificate.specs.ShapesPrint.{shapes_text}
use Rattle.certificate.specs.Starts.{goes_with, may_be_shaped, AreStart}
use Rattle.certificate.specs.Text as text
use Rattle.certificate.specs.Text.{shapes_of}
use Rattle.certificate.specs.declared.mistake.Mistake.{Mistake}
use Rattle.certificate.specs.declared.shape_draft.ShapeDraft.{ShapeDraft}
use Rattle.certificate.proofs.CertShapes.{opaque_begun}
use Rattle.certificate.proofs.PrintedCerts.{cert_printed, sections_begin, sections_follow, sections_printed}
use Rattle.certificate.proofs.PrintedOutside.{PastOutside, begins_outside, none_outside_before, outside_on}
use Rattle.certificate.proofs.PrintedLines.{at, ComesAfter, word_is, taken_on, expect_on, line_end_on}
use Rattle.certificate.proofs.PrintedShapeRoots.{AreRooted}
use Rattle.certificate.proofs.PrintedShapes.{ShapesOn, begins_shapes, shapes_on}
use Rattle.certificate.proofs.ReadShapes.{lines_keep}

-- no shape comes where a section begins, or the text ends
sections_stop : (m : Module) (i : Input) (fs : List Function) (ss : List Section) → past_shapes (at i (sections_text m fs ss)) ≡ true
sections_stop m i [] ss = refl
sections_stop m i (f ∷ fs) [] = refl
sections_stop m i (f ∷ fs) (s ∷ ss) =
    let first : word_at (sections_text m (f ∷ fs) (s ∷ ss)) ≡ codes "function" = word_on (codes "function") (drop 8 (sections_text m (f ∷ fs) (s ∷ ss))) refl refl in
    ap (λ w. not (bytes_eq w (codes "layout") || bytes_eq w (codes "global") || bytes_eq w (codes "root"))) first

module _ (m : Module) (named : IsNamed m) (globals : HasGlobals m) (structs : HasStructs m) (values : HasRootValues m) where
  opaque_printed : (begun : ShapeDraft) (ss : List Section) (shapes : Shapes) (foreign : Outside) → AreStart m begun → is_opaque_text m ≡ true → fits m ss ≡ true → foreign_fits m foreign ≡ true
      → all_shapes_fit m shapes ≡ true → HasWordShapes m shapes → HasRootShapes m shapes
      → IsCertAlike (codes "cert 2" ++ 10 ∷ (outside_text m foreign ++ (shapes_text m shapes ++ sections_text m m.functions ss))) m (record { sections = ss; shapes = Some shapes; foreign = foreign })
  unfolding text.file text.version text.with_shapes taken_shapes none_missing unshaped emptied
  opaque_printed begun ss shapes foreign start opaque fit trusted all words roots =
      let sect = sections_text m m.functions ss in
      let shaped = shapes_text m shapes ++ sect in
      let rest = outside_text m foreign ++ shaped in
      let i : Input = start_of m begun (codes "cert 2" ++ 10 ∷ rest) in
      let a = list_all (row_fits m) shapes.words in
      let b = row_fits m shapes.globals in
      let c = list_all (root_row_fits m) shapes.roots in
      let d = list_all (global_fits m shapes) m.globals in
      let e = list_all (roots_fit m shapes) m.functions in
      let abcd = and_first (a && b && c && d) e all in
      let abc = and_first (a && b && c) d abcd in
      let ab = and_first (a && b) c abc in
      let own = opaque_begun m begun opaque start in
      let same : begun ≡ shapes_begun m words.0 = own.2 ∙ ap (λ (p : List (List Bool)). shapes_begun m p) (one_rows m own.0 words.0 own.1 words.1) in
      let rooted : AreRooted m shapes = record { values = values; given = roots; fit = and_second (a && b) c abc } in
      let s : ShapesOn m shapes i sect = shapes_on m named globals structs shapes rooted words.0 words.1 (and_first a b ab) (and_second a b ab) (and_second (a && b && c) d abcd) words.2 i sect same (sections_begin m named m.functions ss) (sections_stop m i m.functions ss) in
      let draft = s.out.read.shapes in
      let p : Input = recorded unshaped s.out in
      let kept : p.read.sections ≡ map (λ _. None) m.functions = sym (lines_keep m (at i shaped) tt (at s.out sect) s.read) in
      let read = sections_printed m named p ss fit kept in
      let o = read.0 in
      let out = recorded emptied (at o []) in
      let afterwards : ComesAfter (32 ∷ (codes "2" ++ 10 ∷ rest)) (codes "2" ++ 10 ∷ rest) = (refl, refl) in
      let one = word_is i (codes "2") (10 ∷ rest) (10 ∷ rest) refl (refl, refl) in
      let j : Input = at i (codes "2" ++ 10 ∷ rest) in
      let may : may_be_shaped m ≡ true = ap (λ x. x || not (has_typed m.types)) opaque in
      let goes : goes_with m (word j) ≡ true = ap (goes_with m) one ∙ or_second (bytes_eq (codes "2") (49 ∷ []) && not (is_opaque_text m)) (bytes_eq (codes "2") (50 ∷ []) && may_be_shaped m) (and_true (bytes_eq (codes "2") (50 ∷ [])) (may_be_shaped m) refl may) in
      let two : begins (50 ∷ []) j ≡ true = ap (λ x. bytes_eq x (50 ∷ [])) one in
      let number : (text.version m).says j true (at i (10 ∷ rest)) =
      (tt, j, (ap is_number one, refl), (tt, j, (goes, refl), subst (λ (x : Bool). (taken {M = Mistake} x).says j true (at i (10 ∷ rest))) (sym two) (taken_on true i (codes "2") (10 ∷ rest) (10 ∷ rest) refl (refl, refl)))) in
      let again : Certs = record { sections = ss; shapes = shapes_of m draft.shapes; foreign = foreign } in
      let none : (none_missing m draft).says (at o []) tt (at o []) = subst (λ x. (whole_by x).says (at o []) tt (at o [])) (sym s.whole) (refl, refl) in
      let shapes_begin : past_lines false shaped ≡ shaped = begins_shapes m shapes sect (sections_begin m named m.functions ss) in
      let shapes_follow : PastOutside (at i shaped) = none_outside_before m (at i shaped) tt (at s.out sect) s.read (sections_follow m named s.out m.functions ss) in
      let names = outside_on m named i foreign shaped trusted refl refl shapes_begin shapes_follow in
      let from_there : (text.with_shapes m foreign).says (at i shaped) again out = (tt, at s.out sect, s.read, (draft, at p sect, (refl, refl), (tt, at o [], read.1, (tt, at o [], none, (ss, out, read.2, (refl, refl)))))) in (
        again,
        (
          begun,
          start,
          out,
          (
            tt,
            j,
            expect_on i (codes "cert") (32 ∷ (codes "2" ++ 10 ∷ rest)) (codes "2" ++ 10 ∷ rest) refl afterwards,
            (true, at i (10 ∷ rest), number, (tt, at i rest, line_end_on i rest rest (begins_outside m foreign shaped shapes_begin), (foreign, at i shaped, names, from_there))),
          ),
        ),
        refl,
        subst (λ (x : Bool). are_alike m (Some shapes) (if x then Some draft.shapes else None)) (sym opaque) s.alike,
        refl,
      )

-- what is printed of certificates that fit, and of which no shape is missing, is a text of such certificates
pub printed_alike : ArePrintedAlike
printed_alike m certs begun start named globals structs values own fit trusted whole = by certs.shapes refl whole
  where
    sect : Text
    sect = sections_text m m.functions certs.sections

    names : Text
    names = outside_text m certs.foreign

    by : (shapes : Option Shapes) → certs.shapes ≡ shapes → are_whole m shapes → IsCertAlike (cert_text certs m) m certs
    by None none typed = (certs, cert_printed m certs begun start named typed own none fit trusted, refl, subst (λ (x : Option Shapes). are_alike m x x) (sym none) tt, refl)
    by (Some shapes) some is =
        let shaped = shapes_text m shapes in
        let text : Text = codes "cert 2" ++ 10 ∷ (names ++ (shaped ++ sect)) in
        let printed : text ≡ cert_text certs m = sym (ap (λ (x : Text). codes "cert 2" ++ 10 ∷ x) (append_assoc names shaped sect)) ∙ ap (λ x. head_text m certs.foreign x ++ sect) (sym (ap (λ x. shapes_with x m.shapes) some)) in
        let same : ◌≡◌ {A = Certs} (record { sections = certs.sections; shapes = Some shapes; foreign = certs.foreign }) certs = ap (λ (x : Option Shapes). record { sections = certs.sections; shapes = x; foreign = certs.foreign }) (sym some) in
        subst (λ x. IsCertAlike x m certs) printed (subst (λ x. IsCertAlike text m x) same (opaque_printed m named globals structs values begun certs.sections shapes certs.foreign start is.0 fit trusted is.1 is.2 is.3))
