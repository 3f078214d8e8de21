-- A printed line of shapes is read as what it was printed for.
use Rattle.std.proofs.Common.{◌≡◌, ◌<◌, ◌^◌, ℕ, true, false, not, ◌||◌, [], ◌∷◌, ◌++◌, codes, Option, Some, is_some, slice_get, refl, ap, sym, subst, ◌∙◌, append_assoc}
use Rattle.std.specs.Str.{bytes_eq}
use Rattle.std.specs.Fmt.{decimal}
use Rattle.ir_ast.specs.declared.function.Function.{Function}
use Rattle.ir_ast.specs.declared.module.Module.{Module}
use Rattle.ir_tokens.specs.Bytes.{Text}
use Rattle.name_text.specs.Numbers.{number_of_word}
use Rattle.name_text.specs.Reader.{recorded, left, word}
use Rattle.name_text.specs.Seams.{blanks_on}
use Rattle.name_text.specs.Spelled.{number_read, number_is_word}
use Rattle.name_text.specs.Words.{past_lines}
use Rattle.certs.specs.Fits.{is_value}
use Rattle.certs.specs.declared.family.Family.TheVariants.{Opaque}
use Rattle.types.specs.Globals.{global_named}
use Rattle.certificate.specs.Forms.{layout_by, layout_name}
use Rattle.certificate.specs.Input.{Input, shaping}
use Rattle.ir_ast.specs.StructNames.{struct_name}
use Rattle.ir_ast.specs.declared.items_of_module.StructType.{StructType}
use Rattle.certificate.specs.NameTexts.{name_text, global_text, layout_text, local_text}
use Rattle.certificate.specs.Named.{IsNamed, IsNamedFunction}
use Rattle.certificate.specs.Names.{function_of_word, global_of_word, layout_of_word, value_of_word}
use Rattle.certificate.specs.ShapeDrafts.{is_pointer, name_of, has_word_shape, is_opaque_global, has_global_shape, is_root_slot, has_root_shape, with_word_shape, with_global_shape, with_root_shape}
use Rattle.certificate.specs.ShapeForms.{a_layout, a_function, mentioned, referred, word_free, word_by, word_numbered, new_word, word_line, free_by, global_by, new_global, global_line, slot_by, slot_named, new_root, root_in, root_line, other_by, line_by, shape_line, past_shapes}
use Rattle.certificate.specs.ShapeForms as form
use Rattle.certificate.specs.ShapesPrint as print
use Rattle.certificate.specs.ShapesPrint.{target_text, struct_text, word_text, slot_text}
use Rattle.certificate.proofs.PrintedLines.{at, ComesAfter, word_is, taken_on, expect_on, line_end_on}
use Rattle.certificate.proofs.PrintedNames.{function_printed, global_printed, layout_printed, value_printed}
use Rattle.certificate.proofs.ReadShapes.{IsTarget}

-- what something refers to, without the blank before it
abbrev ref_text : Module → (target : ℕ) → Text → Text
ref_text m target t = codes "ref" ++ 32 ∷ (layout_text m target ++ 10 ∷ t)

target_is : (m : Module) (target : ℕ) (t : Text) → target_text m target ++ t ≡ 32 ∷ ref_text m target t
target_is m target t = ap (λ (x : Text). codes " ref " ++ x) (append_assoc (layout_text m target) (10 ∷ []) t)

module _ (m : Module) (named : IsNamed m) where
  layout_on : (i : Input) (layout : ℕ) (t u : Text) → IsTarget m layout → ComesAfter t u → (a_layout m).says (at i (layout_text m layout ++ t)) layout (at i u)
  unfolding layout_name
  layout_on i layout t u is b =
      let p = layout_printed m layout named is in
      let w = layout_text m layout in
      subst (λ x. (layout_by Opaque x).says (at i (w ++ t)) layout (at i u)) (sym (ap (layout_of_word m) (word_is i w t u p.1 b) ∙ p.0)) (taken_on layout i w t u p.1 b)

  target_on : (i : Input) (target : ℕ) (t : Text) → IsTarget m target → past_lines false t ≡ t → (referred m).says (at i (ref_text m target t)) target (at i t)
  unfolding referred
  target_on i target t is e =
      let p = layout_printed m target named is in
      let w = layout_text m target in
      let a = w ++ 10 ∷ t in
      let first : ComesAfter (32 ∷ a) a = (refl, blanks_on w (10 ∷ t) p.1) in
      (tt, at i a, expect_on i (codes "ref") (32 ∷ a) a refl first, (target, at i (10 ∷ t), layout_on i target (10 ∷ t) (10 ∷ t) is (refl, refl), (tt, at i t, line_end_on i t t e, (refl, refl))))

  -- ---- words

  new_word_on : (i : Input) (from layout word_at : ℕ) (t u : Text) → word_at < 2 ^ 64 → is_pointer i.read.shapes layout word_at ≡ true → has_word_shape i.read.shapes (name_of m layout) word_at ≡ false → ComesAfter t u
      → (new_word m from layout).says (at i (decimal word_at ++ t)) word_at (at i u)
  unfolding new_word
  new_word_on i from layout n t u small pointer free b =
      let w = decimal n in
      let is = number_is_word n small in
      let o = at i u in
      let j : Input = at i (w ++ t) in
      subst (λ x. (word_numbered m from layout x).says j n o) (sym (ap number_of_word (word_is i w t u is b) ∙ number_read n small))
      (subst (λ x. (word_by m from layout n x).says j n o) (sym pointer) (subst (λ x. (word_free from n x).says j n o) (sym free) (taken_on n i w t u is b)))

  pub word_on : (i : Input) (layout : ℕ) (struct : StructType) (n target : ℕ) (t : Text) → slice_get m.structs layout ≡ Some struct → n < 2 ^ 64 → IsTarget m layout → IsTarget m target → is_pointer i.read.shapes layout n ≡ true → has_word_shape i.read.shapes (name_of m layout) n ≡ false → past_lines false t ≡ t
      → (past_shapes (at i (word_text m struct.name n (Some target) ++ t)) ≡ false) × (shape_line m).says (at i (word_text m struct.name n (Some target) ++ t)) tt (at (recorded (shaping (with_word_shape m layout n target)) i) t)
  unfolding shape_line word_line
  word_on i layout struct n target t there small own to pointer free e =
      let l = layout_text m layout in
      let d = decimal n in
      let r = ref_text m target t in
      let named_layout = layout_printed m layout named own in
      let x = d ++ 32 ∷ r in
      let y = l ++ 32 ∷ x in
      let first : ComesAfter (32 ∷ y) y = (refl, blanks_on l (32 ∷ x) named_layout.1) in
      let second : ComesAfter (32 ∷ x) x = (refl, blanks_on d (32 ∷ r) (number_is_word n small)) in
      let third : ComesAfter (32 ∷ r) r = (refl, refl) in
      let name : struct_text m struct.name ≡ l = sym (ap (λ (z : Option StructType). name_text (struct_name m z)) there) in
      let whole : word_text m struct.name n (Some target) ++ t ≡ codes "layout" ++ 32 ∷ y =
      ap (λ (z : Text). (codes "layout " ++ (z ++ 32 ∷ (d ++ target_text m target))) ++ t) name
      ∙ ap (λ (z : Text). codes "layout " ++ z) (append_assoc l (32 ∷ (d ++ target_text m target)) t ∙ ap (λ (z : Text). l ++ 32 ∷ z) (append_assoc d (target_text m target) t ∙ ap (λ (z : Text). d ++ z) (target_is m target t))) in
      let o = at (recorded (shaping (with_word_shape m layout n target)) i) t in
      let j : Input = at i (codes "layout" ++ 32 ∷ y) in
      let begins_so : word j ≡ codes "layout" = word_is i (codes "layout") (32 ∷ y) y refl first in
      let one : (word_line m).says j tt o = (
        tt,
        at i y,
        expect_on i (codes "layout") (32 ∷ y) y refl first,
        (layout, at i x, layout_on i layout (32 ∷ x) x own second, (n, at i r, new_word_on i (left (at i y)) layout n (32 ∷ r) r small pointer free third, (target, at i t, target_on i target t to e, (refl, refl)))),
      ) in
      let said : (shape_line m).says j tt o = subst (λ b. (line_by m b).says j tt o) (sym (ap (λ z. bytes_eq z (codes "layout")) begins_so)) one in
      let stop : past_shapes j ≡ false = ap (λ z. not (bytes_eq z (codes "layout") || bytes_eq z (codes "global") || bytes_eq z (codes "root"))) begins_so in
      (ap (λ z. past_shapes (at i z)) whole ∙ stop, subst (λ z. (shape_line m).says (at i z) tt o) (sym whole) said)

  -- ---- globals

  new_global_on : (i : Input) (symbol : ℕ) (t u : Text) → is_some (global_named m symbol) ≡ true → is_opaque_global m symbol ≡ true → has_global_shape i.read.shapes symbol ≡ false → ComesAfter t u
      → (new_global m).says (at i (global_text m symbol ++ t)) symbol (at i u)
  unfolding new_global
  new_global_on i symbol t u is opaque free b =
      let p = global_printed m symbol named is in
      let w = global_text m symbol in
      let o = at i u in
      let j : Input = at i (w ++ t) in
      subst (λ x. (form.global_named m x).says j symbol o) (sym (ap (global_of_word m) (word_is i w t u p.1 b) ∙ p.0))
      (subst (λ x. (global_by symbol x).says j symbol o) (sym opaque) (subst (λ x. (free_by symbol x).says j symbol o) (sym free) (taken_on symbol i w t u p.1 b)))

  pub global_on : (i : Input) (symbol target : ℕ) (t : Text) → is_some (global_named m symbol) ≡ true → IsTarget m target → is_opaque_global m symbol ≡ true → has_global_shape i.read.shapes symbol ≡ false → past_lines false t ≡ t
      → (past_shapes (at i (print.global_line m symbol (Some target) ++ t)) ≡ false) × (shape_line m).says (at i (print.global_line m symbol (Some target) ++ t)) tt (at (recorded (shaping (with_global_shape symbol target)) i) t)
  unfolding shape_line global_line
  global_on i symbol target t is to opaque free e =
      let g = global_text m symbol in
      let r = ref_text m target t in
      let y = g ++ 32 ∷ r in
      let p = global_printed m symbol named is in
      let first : ComesAfter (32 ∷ y) y = (refl, blanks_on g (32 ∷ r) p.1) in
      let second : ComesAfter (32 ∷ r) r = (refl, refl) in
      let whole : print.global_line m symbol (Some target) ++ t ≡ codes "global" ++ 32 ∷ y =
      ap (λ (z : Text). codes "global " ++ z) (append_assoc g (target_text m target) t ∙ ap (λ (z : Text). g ++ z) (target_is m target t)) in
      let o = at (recorded (shaping (with_global_shape symbol target)) i) t in
      let j : Input = at i (codes "global" ++ 32 ∷ y) in
      let begins_so : word j ≡ codes "global" = word_is i (codes "global") (32 ∷ y) y refl first in
      let one : (global_line m).says j tt o =
      (tt, at i y, expect_on i (codes "global") (32 ∷ y) y refl first, (symbol, at i r, new_global_on i symbol (32 ∷ r) r is opaque free second, (target, at i t, target_on i target t to e, (refl, refl)))) in
      let other : (line_by m false).says j tt o = subst (λ b. (other_by m b).says j tt o) (sym (ap (λ z. bytes_eq z (codes "global")) begins_so)) one in
      let said : (shape_line m).says j tt o = subst (λ b. (line_by m b).says j tt o) (sym (ap (λ z. bytes_eq z (codes "layout")) begins_so)) other in
      let stop : past_shapes j ≡ false = ap (λ z. not (bytes_eq z (codes "layout") || bytes_eq z (codes "global") || bytes_eq z (codes "root"))) begins_so in
      (ap (λ z. past_shapes (at i z)) whole ∙ stop, subst (λ z. (shape_line m).says (at i z) tt o) (sym whole) said)

  -- ---- root slots

  new_root_on : (i : Input) (function : ℕ) (f : Function) (slot : ℕ) (t u : Text) → IsNamedFunction f → is_value f slot ≡ true → is_root_slot i.read.shapes function slot ≡ true → has_root_shape i.read.shapes f slot ≡ false → ComesAfter t u
      → (new_root function f).says (at i (local_text f slot ++ t)) slot (at i u)
  unfolding new_root
  new_root_on i function f slot t u own value root free b =
      let p = value_printed f slot own value in
      let w = local_text f slot in
      let o = at i u in
      let j : Input = at i (w ++ t) in
      subst (λ x. (slot_named function f x).says j slot o) (sym (ap (value_of_word f) (word_is i w t u p.1 b) ∙ p.0))
      (subst (λ x. (slot_by f slot x).says j slot o) (sym root) (subst (λ x. (free_by slot x).says j slot o) (sym free) (taken_on slot i w t u p.1 b)))

  pub root_on : (i : Input) (function : ℕ) (f : Function) (slot target : ℕ) (t : Text) → slice_get m.functions function ≡ Some f → is_value f slot ≡ true → IsTarget m target → is_root_slot i.read.shapes function slot ≡ true → has_root_shape i.read.shapes f slot ≡ false → past_lines false t ≡ t
      → (past_shapes (at i (slot_text m f slot (Some target) ++ t)) ≡ false) × (shape_line m).says (at i (slot_text m f slot (Some target) ++ t)) tt (at (recorded (shaping (with_root_shape f slot target)) i) t)
  unfolding shape_line root_line a_function
  root_on i function f slot target t there value to root free e =
      let own = (named.functions function f there).2 in
      let g = global_text m f.symbol in
      let s = local_text f slot in
      let r = ref_text m target t in
      let x = s ++ 32 ∷ r in
      let y = g ++ 32 ∷ x in
      let p = function_printed m function f named there in
      let q = value_printed f slot own value in
      let first : ComesAfter (32 ∷ y) y = (refl, blanks_on g (32 ∷ x) p.1) in
      let second : ComesAfter (32 ∷ x) x = (refl, blanks_on s (32 ∷ r) q.1) in
      let third : ComesAfter (32 ∷ r) r = (refl, refl) in
      let whole : slot_text m f slot (Some target) ++ t ≡ codes "root" ++ 32 ∷ y =
      ap (λ (z : Text). codes "root " ++ z) (append_assoc g (32 ∷ (s ++ target_text m target)) t ∙ ap (λ (z : Text). g ++ 32 ∷ z) (append_assoc s (target_text m target) t ∙ ap (λ (z : Text). s ++ z) (target_is m target t))) in
      let o = at (recorded (shaping (with_root_shape f slot target)) i) t in
      let j : Input = at i (codes "root" ++ 32 ∷ y) in
      let begins_so : word j ≡ codes "root" = word_is i (codes "root") (32 ∷ y) y refl first in
      let name : (a_function m).says (at i y) function (at i x) =
      subst (λ z. (mentioned z).says (at i y) function (at i x)) (sym (ap (function_of_word m) (word_is i g (32 ∷ x) x p.1 second) ∙ p.0)) (taken_on function i g (32 ∷ x) x p.1 second) in
      let slot_here : (form.root_of m function f).says (at i x) tt o = (slot, at i r, new_root_on i function f slot (32 ∷ r) r own value root free third, (target, at i t, target_on i target t to e, (refl, refl))) in
      let by_name : (root_in m function (slice_get m.functions function)).says (at i x) tt o = subst (λ z. (root_in m function z).says (at i x) tt o) (sym there) slot_here in
      let one : (root_line m).says j tt o = (tt, at i y, expect_on i (codes "root") (32 ∷ y) y refl first, (function, at i x, name, by_name)) in
      let other : (line_by m false).says j tt o = subst (λ b. (other_by m b).says j tt o) (sym (ap (λ z. bytes_eq z (codes "global")) begins_so)) one in
      let said : (shape_line m).says j tt o = subst (λ b. (line_by m b).says j tt o) (sym (ap (λ z. bytes_eq z (codes "layout")) begins_so)) other in
      let stop : past_shapes j ≡ false = ap (λ z. not (bytes_eq z (codes "layout") || bytes_eq z (codes "global") || bytes_eq z (codes "root"))) begins_so in
      (ap (λ z. past_shapes (at i z)) whole ∙ stop, subst (λ z. (shape_line m).says (at i z) tt o) (sym whole) said)
