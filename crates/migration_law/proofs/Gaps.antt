-- Where no shape is missing, each pointer has one.
use Rattle.std.proofs.Common.{◌≡◌, ◌+◌, ℕ, zero, suc, Bool, true, false, not, ◌&&◌, if◌then◌else◌, List, [], ◌∷◌, map, slice_get, unwrap_or, Option, None, Some, is_some, option_map, refl, sym, ap, ◌∙◌, subst, arith}
use Rattle.std.proofs.lemmas.Option.{slice_get-map}
use Rattle.ir_ast.specs.Shapes.{row_at, shape_at}
use Rattle.ir_ast.specs.declared.items_of_module.Global.{Global}
use Rattle.ir_ast.specs.declared.items_of_module.StructType.{StructType}
use Rattle.ir_ast.specs.declared.module.Module.{Module}
use Rattle.types.specs.References.{is_opaque}
use Rattle.certificate.specs.ShapeDrafts.{first_of, globals_gap, has_global_shape, has_word_shape, pointers_at, roots_gap, shapes_gap, struct_gap, word_gap, words_gap}
use Rattle.certificate.specs.declared.mistake.Mistake.{Mistake}
use Rattle.certificate.specs.declared.mistake.Mistake.TheVariants.{MissingGlobal, MissingWord}
use Rattle.certificate.specs.declared.shape_draft.ShapeDraft.{ShapeDraft}

neither : (a b : Option Mistake) → first_of a b ≡ None → (a ≡ None) × (b ≡ None)
neither None b e = (refl, e)
neither (Some x) b e = absurd cc

unless : (b : Bool) (x : Mistake) (other : Option Mistake) → (if b then Some x else other) ≡ None → (b ≡ false) × (other ≡ None)
unless true x other e = absurd cc
unless false x other e = (refl, e)

shaped_if : (pointer shaped : Bool) → (pointer && not shaped) ≡ false → pointer ≡ true → shaped ≡ true
shaped_if true true e is = refl
shaped_if true false e is = absurd cc
shaped_if false shaped e is = absurd cc

module _ (draft : ShapeDraft) where
  word_shaped : (layout name word : ℕ) (pointers : List Bool) (i : ℕ) → word_gap draft layout name word pointers ≡ None → slice_get pointers i ≡ Some true → has_word_shape draft name (word + i) ≡ true
  word_shaped layout name word [] i none at = absurd cc
  word_shaped layout name word (pointer ∷ pointers) zero none at =
      let missing = pointer && not (has_word_shape draft name word) in
      let here = (unless missing (MissingWord layout word) (word_gap draft layout name (word + 1) pointers) none).0 in
      let is : pointer ≡ true = cc in
      let same : word ≡ word + zero = omega arith in
      subst (λ place. has_word_shape draft name place ≡ true) same (shaped_if pointer (has_word_shape draft name word) here is)
  word_shaped layout name word (pointer ∷ pointers) (suc i) none at =
      let missing = pointer && not (has_word_shape draft name word) in
      let more = (unless missing (MissingWord layout word) (word_gap draft layout name (word + 1) pointers) none).1 in
      let same : word + 1 + i ≡ word + suc i = omega arith in
      subst (λ place. has_word_shape draft name place ≡ true) same (word_shaped layout name (word + 1) pointers i more at)

  struct_shaped : (layout : ℕ) (structs : List StructType) (i : ℕ) (struct : StructType) → words_gap draft layout structs ≡ None → slice_get structs i ≡ Some struct → struct_gap draft (layout + i) struct ≡ None
  struct_shaped layout [] i struct none at = absurd cc
  struct_shaped layout (first ∷ structs) zero struct none at =
      let here = (neither (struct_gap draft layout first) (words_gap draft (layout + 1) structs) none).0 in
      let is : first ≡ struct = cc in
      let same : layout ≡ layout + zero = omega arith in
      subst (λ k. struct_gap draft k struct ≡ None) same (subst (λ x. struct_gap draft layout x ≡ None) is here)
  struct_shaped layout (first ∷ structs) (suc i) struct none at =
      let more = (neither (struct_gap draft layout first) (words_gap draft (layout + 1) structs) none).1 in
      let same : layout + 1 + i ≡ layout + suc i = omega arith in
      subst (λ k. struct_gap draft k struct ≡ None) same (struct_shaped (layout + 1) structs i struct more at)

  global_shaped : (m : Module) (globals : List Global) (g : ℕ) (global : Global) → globals_gap m draft globals ≡ None → slice_get globals g ≡ Some global → is_opaque m global.held ≡ true → has_global_shape draft global.symbol ≡ true
  global_shaped m [] g global none at opaque = absurd cc
  global_shaped m (first ∷ globals) zero global none at opaque =
      let missing = is_opaque m first.held && not (has_global_shape draft first.symbol) in
      let here = (unless missing (MissingGlobal first.symbol) (globals_gap m draft globals) none).0 in
      let is : first ≡ global = cc in
      subst (λ (x : Global). is_opaque m x.held ≡ true → has_global_shape draft x.symbol ≡ true) is (shaped_if (is_opaque m first.held) (has_global_shape draft first.symbol) here) opaque
  global_shaped m (first ∷ globals) (suc g) global none at opaque =
      let missing = is_opaque m first.held && not (has_global_shape draft first.symbol) in
      let more = (unless missing (MissingGlobal first.symbol) (globals_gap m draft globals) none).1 in
      global_shaped m globals g global more at opaque

  -- nothing is missing of words, and nothing of globals
  parts : (m : Module) → shapes_gap m draft ≡ None → (words_gap draft 0 m.structs ≡ None) × (globals_gap m draft m.globals ≡ None)
  parts m none =
      let first = neither (words_gap draft 0 m.structs) (first_of (globals_gap m draft m.globals) (roots_gap draft 0 m.functions)) none in
      (first.0, (neither (globals_gap m draft m.globals) (roots_gap draft 0 m.functions) first.1).0)

  -- a word of a struct that is a pointer has a shape
  pub pointer_shaped : (m : Module) → shapes_gap m draft ≡ None → (layout : ℕ) (struct : StructType) (word : ℕ) → slice_get m.structs layout ≡ Some struct → slice_get (pointers_at draft.pointers layout) word ≡ Some true
      → is_some (shape_at (row_at draft.shapes.words struct.name) word) ≡ true
  pointer_shaped m none layout struct word at pointer =
      let from : 0 + layout ≡ layout = omega arith in
      let same : 0 + word ≡ word = omega arith in
      let none_of : struct_gap draft layout struct ≡ None = subst (λ k. struct_gap draft k struct ≡ None) from (struct_shaped 0 m.structs layout struct (parts m none).0 at) in
      subst (λ place. has_word_shape draft struct.name place ≡ true) same (word_shaped layout struct.name 0 (pointers_at draft.pointers layout) word none_of pointer)

  -- so has a global of type `ptr`
  pub opaque_shaped : (m : Module) → shapes_gap m draft ≡ None → (g : ℕ) (global : Global) → slice_get m.globals g ≡ Some global → is_opaque m global.held ≡ true → is_some (shape_at draft.shapes.globals global.symbol) ≡ true
  opaque_shaped m none g global at opaque = global_shaped m m.globals g global (parts m none).1 at opaque
