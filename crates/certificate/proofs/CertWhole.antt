-- Of the shapes that a text is, none is missing, and there is none for another word.
use Rattle.std.proofs.Common.{◌≡◌, ◌<◌, ℕ, zero, suc, ◌+◌, Bool, true, false, not, ◌&&◌, [], ◌∷◌, List, length, Option, Some, None, is_some, slice_get, unwrap_or, refl, ap, sym, subst, ◌∙◌, arith}
use Rattle.std.specs.Prelude.{if◌then◌else◌}
use Rattle.lemmas.specs.Bools.{same_truth}
use Rattle.lemmas.specs.Lists.{get_some}
use Rattle.ir_ast.specs.declared.function.Function.{Function}
use Rattle.ir_ast.specs.declared.items_of_module.StructType.{StructType}
use Rattle.ir_ast.specs.declared.module.Module.{Module}
use Rattle.ir_ast.specs.declared.outside.Outside.{Outside}
use Rattle.ir_ast.specs.declared.shapes.Shapes.{Shapes}
use Rattle.ir_tokens.specs.Bytes.{Text}
use Rattle.layout.specs.PointerRows.{ArePointerRows}
use Rattle.certs.specs.Families.{is_opaque_text}
use Rattle.certs.specs.RootNames.{root_names}
use Rattle.certs.specs.ShapesFit.{all_shapes_fit}
use Rattle.certs.specs.declared.certs.Certs.{Certs}
use Rattle.certificate.specs.Input.{Input, start_of}
use Rattle.certificate.specs.ShapeForms.{taken_shapes}
use Rattle.certificate.specs.Starts.{AreBegun}
use Rattle.certificate.specs.Text as text
use Rattle.certificate.specs.Text.{IsCert}
use Rattle.certificate.specs.Alike.{word_shape, HasWordShapes, HasRootShapes, are_whole}
use Rattle.certificate.specs.Named.{HasGlobals, HasStructs}
use Rattle.certificate.specs.ShapeDrafts.{pointers_at, name_in, is_pointer, has_word_shape, first_of, word_gap, struct_gap, words_gap, globals_gap, slot_gap, roots_gap_in, roots_gap, has_root_shape}
use Rattle.certificate.specs.declared.mistake.Mistake.TheVariants.{MissingWord}
use Rattle.certificate.specs.declared.shape_draft.ShapeDraft.{ShapeDraft}
use Rattle.certificate.proofs.CertFits.{still_head}
use Rattle.certificate.proofs.CertShapes.{Shaped, map_at, slot_there, first_none, begun_shaped, lines_shaped, shaped_fit, version_one, opaque_begun}
use Rattle.certificate.proofs.ReadShapes.{none_is_missing}
use Rattle.certificate.proofs.ReadOutside.{outside_are}

-- ---- what is not missing is there

word_there : (d : ShapeDraft) (layout name n : ℕ) (row : List Bool) → word_gap d layout name n row ≡ None → (k : ℕ) → unwrap_or (slice_get row k) false ≡ true → has_word_shape d name (n + k) ≡ true
word_there d layout name n [] e k is = absurd cc
word_there d layout name n (pointer ∷ row) e k is = by pointer (word_there d layout name (n + 1) row) (has_word_shape d name n) refl e k is
  where
    by : (p : Bool) → (word_gap d layout name (n + 1) row ≡ None → (k : ℕ) → unwrap_or (slice_get row k) false ≡ true → has_word_shape d name ((n + 1) + k) ≡ true) → (there : Bool) → has_word_shape d name n ≡ there
        → (if p && not there then Some (MissingWord layout n) else word_gap d layout name (n + 1) row) ≡ None → (k : ℕ) → unwrap_or (slice_get (p ∷ row) k) false ≡ true → has_word_shape d name (n + k) ≡ true
    by true more false has e k is = absurd cc
    by true more true has e zero is = (let z : n + 0 ≡ n = omega arith in ap (has_word_shape d name) z ∙ has)
    by false more there has e zero is = absurd cc
    by true more true has e (suc k) is = (let z : n + suc k ≡ (n + 1) + k = omega arith in ap (has_word_shape d name) z ∙ more e k is)
    by false more there has e (suc k) is = (let z : n + suc k ≡ (n + 1) + k = omega arith in ap (has_word_shape d name) z ∙ more e k is)

struct_there : (d : ShapeDraft) (n : ℕ) (structs : List StructType) → words_gap d n structs ≡ None → (k : ℕ) (struct : StructType) → slice_get structs k ≡ Some struct → struct_gap d (n + k) struct ≡ None
struct_there d n [] e k struct at = absurd cc
struct_there d n (s ∷ structs) e zero struct at =
    let same : s ≡ struct = cc in
    let z : n + 0 ≡ n = omega arith in
    ap (λ x. struct_gap d x struct) z ∙ ap (struct_gap d n) (sym same) ∙ (first_none (struct_gap d n s) (words_gap d (n + 1) structs) e).0
struct_there d n (s ∷ structs) e (suc k) struct at =
    let z : n + suc k ≡ (n + 1) + k = omega arith in
    ap (λ x. struct_gap d x struct) z ∙ struct_there d (n + 1) structs (first_none (struct_gap d n s) (words_gap d (n + 1) structs) e).1 k struct at

-- ---- and nothing else is

-- a word of type `ptr` is one of a struct
pointer_within : (rows : List (List Bool)) (layout word : ℕ) → unwrap_or (slice_get (pointers_at rows layout) word) false ≡ true → layout < length rows
pointer_within [] layout word e = absurd cc
pointer_within (row ∷ rows) zero word e = omega arith
pointer_within (row ∷ rows) (suc layout) word e = let more = pointer_within rows layout word e in omega (arith, more)

some_is : (x y : ℕ) → ◌≡◌ {A = Option (Option ℕ)} (Some (Some x)) (Some (Some y)) → x ≡ y
some_is x y e = cc

-- exactly the words of type `ptr` have a shape
pub has_words : (m : Module) (pointers : List (List Bool)) (d : ShapeDraft) → ArePointerRows m pointers → HasStructs m → Shaped m pointers d → words_gap d 0 m.structs ≡ None → HasWordShapes m d.shapes
has_words m pointers d rows named s gap = (pointers, rows, λ layout struct row at row_at word. same_truth (is_some (word_shape d.shapes struct word)) (unwrap_or (slice_get row word) false) (only layout struct row at row_at word) (there layout struct row at row_at word))
  where
    own_row : (layout : ℕ) (row : List Bool) → slice_get pointers layout ≡ Some row → pointers_at d.pointers layout ≡ row
    own_row layout row at = ap (λ x. pointers_at x layout) s.rows ∙ ap (λ (x : Option (List Bool)). unwrap_or x []) at

    there : (layout : ℕ) (struct : StructType) (row : List Bool) → slice_get m.structs layout ≡ Some struct → slice_get pointers layout ≡ Some row → (word : ℕ) → unwrap_or (slice_get row word) false ≡ true → is_some (word_shape d.shapes struct word) ≡ true
    there layout struct row at row_at word is =
        let z : layout ≡ 0 + layout = omega arith in
        let none : struct_gap d layout struct ≡ None = ap (λ x. struct_gap d x struct) z ∙ struct_there d 0 m.structs gap layout struct at in
        let e : word_gap d layout struct.name 0 row ≡ None = ap (word_gap d layout struct.name 0) (sym (own_row layout row row_at)) ∙ none in
        (let y : word ≡ 0 + word = omega arith in ap (has_word_shape d struct.name) y ∙ word_there d layout struct.name 0 row e word is)

    only : (layout : ℕ) (struct : StructType) (row : List Bool) → slice_get m.structs layout ≡ Some struct → slice_get pointers layout ≡ Some row → (word : ℕ) → is_some (word_shape d.shapes struct word) ≡ true → unwrap_or (slice_get row word) false ≡ true
    only layout struct row at row_at word is =
        let w = s.of_words struct.name word is in
        let within : w.0 < length pointers = pointer_within pointers w.0 word (ap (λ x. unwrap_or (slice_get (pointers_at x w.0) word) false) (sym s.rows) ∙ w.2) in
        let other = get_some m.structs w.0 (omega (arith, within, rows.one_each)) in
        let names : other.0.name ≡ struct.name = sym (ap name_in other.1) ∙ w.1 in
        let same : w.0 ≡ layout = some_is w.0 layout (sym (named w.0 other.0 other.1) ∙ ap (slice_get m.struct_of) names ∙ named layout struct at) in
        ap (λ x. unwrap_or (slice_get x word) false) (sym (own_row layout row row_at)) ∙ ap (λ x. is_pointer d x word) (sym same) ∙ w.2

-- ---- root slots

root_there : (d : ShapeDraft) (n : ℕ) (fs : List Function) → roots_gap d n fs ≡ None → (k : ℕ) (f : Function) → slice_get fs k ≡ Some f → roots_gap_in d (n + k) f (slice_get d.slots (n + k)) ≡ None
root_there d n [] e k f at = absurd cc
root_there d n (g ∷ fs) e zero f at =
    let same : g ≡ f = cc in
    let z : n + 0 ≡ n = omega arith in
    ap (λ x. roots_gap_in d x f (slice_get d.slots x)) z ∙ ap (λ x. roots_gap_in d n x (slice_get d.slots n)) (sym same) ∙ (first_none (roots_gap_in d n g (slice_get d.slots n)) (roots_gap d (n + 1) fs) e).0
root_there d n (g ∷ fs) e (suc k) f at =
    let z : n + suc k ≡ (n + 1) + k = omega arith in
    ap (λ x. roots_gap_in d x f (slice_get d.slots x)) z ∙ root_there d (n + 1) fs (first_none (roots_gap_in d n g (slice_get d.slots n)) (roots_gap d (n + 1) fs) e).1 k f at

-- each root slot has a shape
has_roots : (m : Module) (pointers : List (List Bool)) (d : ShapeDraft) → Shaped m pointers d → roots_gap d 0 m.functions ≡ None → HasRootShapes m d.shapes
has_roots m pointers d s gap function f at slot is =
    let z : function ≡ 0 + function = omega arith in
    let y : slot ≡ 0 + slot = omega arith in
    let none : roots_gap_in d function f (slice_get d.slots function) ≡ None = ap (λ x. roots_gap_in d x f (slice_get d.slots x)) z ∙ root_there d 0 m.functions gap function f at in
    let own : slice_get d.slots function ≡ Some (root_names m f) = ap (λ x. slice_get x function) s.slots ∙ map_at (root_names m) m.functions function f at in
    let gone : slot_gap d function f 0 (root_names m f) ≡ None = sym (ap (roots_gap_in d function f) own) ∙ none in
    ap (has_root_shape d f) y ∙ slot_there d function f 0 (root_names m f) gone slot (ap (λ (x : Option Bool). unwrap_or x false) is)

-- ---- the whole

whole_if : (m : Module) (shapes : Shapes) (opaque : Bool) → is_opaque_text m ≡ opaque → (opaque ≡ true → (all_shapes_fit m shapes ≡ true) × HasWordShapes m shapes × HasRootShapes m shapes) → are_whole m (if opaque then Some shapes else None)
whole_if m shapes true e all = let both = all refl in (e, both.0, both.1, both.2)
whole_if m shapes false e all = e

head_whole : (m : Module) (foreign : Outside) (i : Input) (certs : Certs) (o : Input) → HasGlobals m → HasStructs m → (is_opaque_text m ≡ true → AreBegun m i.read.shapes) → (text.with_shapes m foreign).says i certs o → are_whole m certs.shapes
unfolding text.with_shapes taken_shapes
head_whole m foreign i certs o globals structs begun h =
    let b = h.3 in
    let c = b.3 in
    let d = c.3 in
    let e = d.3 in
    let gap = (none_is_missing m b.0 c.1 d.0 d.1 d.2).0 in
    let others = (first_none (words_gap b.0 0 m.structs) (first_of (globals_gap m b.0 m.globals) (roots_gap b.0 0 m.functions)) gap).1 in
    let roots = (first_none (globals_gap m b.0 m.globals) (roots_gap b.0 0 m.functions) others).1 in
    let words = (first_none (words_gap b.0 0 m.structs) (first_of (globals_gap m b.0 m.globals) (roots_gap b.0 0 m.functions)) gap).0 in
    let all : is_opaque_text m ≡ true → (all_shapes_fit m b.0.shapes ≡ true) × HasWordShapes m b.0.shapes × HasRootShapes m b.0.shapes = λ opaque.
    (let are = begun opaque in
    let start : Shaped m are.0 i.read.shapes = subst (Shaped m are.0) (sym are.2) (begun_shaped m are.0) in
    let read : Shaped m are.0 b.0 = subst (Shaped m are.0) b.2.0 (lines_shaped m are.0 i h.0 h.1 h.2 start) in
    (shaped_fit m are.0 b.0 globals read gap, has_words m are.0 b.0 are.1 structs read words, has_roots m are.0 b.0 read roots)) in
    subst (λ (x : Certs). are_whole m x.shapes) e.3.0 (whole_if m b.0.shapes (is_opaque_text m) refl all)

-- of the shapes that a text is none is missing
pub cert_whole : (bytes : Text) (m : Module) (certs : Certs) → HasGlobals m → HasStructs m → IsCert bytes m certs → are_whole m certs.shapes
unfolding text.file text.without_shapes
cert_whole bytes m certs globals structs h =
    let a = h.3 in
    let b = a.3 in
    let c = b.3 in
    let d = c.3 in
    let same = still_head m (start_of m h.0 bytes) a.0 a.1 a.2 b.0 b.1 b.2 c.0 c.1 c.2 in
    let names = outside_are m c.1 d.0 d.1 d.2 (sym (ap (λ (x : Input). x.read.numbers) same)) (sym (ap (λ (x : Input). x.read.foreign) same)) in
    let start : h.0 ≡ d.1.read.shapes = ap (λ (x : Input). x.read.shapes) same ∙ names.2 in
    by d.0 b.0 d.1 (λ is. version_one m a.1 b.0 b.1 b.2 is) (λ opaque. subst (AreBegun m) start (opaque_begun m h.0 opaque h.1)) d.3
  where
    by : (foreign : Outside) (shaped : Bool) (i : Input) → (shaped ≡ false → is_opaque_text m ≡ false) → (is_opaque_text m ≡ true → AreBegun m i.read.shapes) → (text.certs_by m foreign shaped).says i certs h.2 → are_whole m certs.shapes
    by foreign true i typed begun says = head_whole m foreign i certs h.2 globals structs begun says
    by foreign false i typed begun says = subst (λ (x : Certs). are_whole m x.shapes) says.3.3.0 (typed refl)
