-- The layouts and the globals of a module are those of its opaque text, with the shapes that its types say.
use Rattle.std.proofs.Common.{◌≡◌, inl, inr, ◌≤◌, ◌+◌, ℕ, zero, suc, Bool, true, false, List, [], ◌∷◌, ◌++◌, map, length, slice_get, unwrap_or, is_none, is_some, if◌then◌else◌, Option, None, Some, option_map, refl, sym, ap, ◌∙◌, subst, arith}
use Rattle.std.specs.List.{list_any}
use Rattle.std.proofs.lemmas.List.{map-append}
use Rattle.std.proofs.lemmas.Option.{slice_get-map, slice_get_within}
use Rattle.lemmas.specs.Bools.{or_neither}
use Rattle.lemmas.specs.Lists.{get_some}
use Rattle.ir_ast.specs.Places.{is_some-position, map-length}
use Rattle.ir_ast.specs.Shapes.{global_shape, row_at, shape_at}
use Rattle.ir_ast.specs.Types.{is_same_type}
use Rattle.ir_ast.specs.declared.items_of_module.Global.{Global}
use Rattle.ir_ast.specs.declared.items_of_module.StructType.{StructType}
use Rattle.ir_ast.specs.declared.ir_type.IrType.{IrType}
use Rattle.ir_ast.specs.declared.ir_type.IrType.TheVariants as type
use Rattle.ir_ast.specs.declared.module.Module.{Module}
use Rattle.ir_ast.specs.declared.shapes.Shapes.{Shapes}
use Rattle.pools.specs.declared.word_kind.WordKind.{WordKind}
use Rattle.pools.specs.declared.word_kind.WordKind.TheVariants as kind
use Rattle.copies.specs.Opaque.{new_number, opaque_global, opaque_module, opaque_struct, opaque_type, opaque_types}
use Rattle.types.specs.Elements.{body_in, body_of_layout, body_named}
use Rattle.types.specs.Globals.{held_in}
use Rattle.types.specs.References.{is_opaque_type, layout_after, part_of_pointer, referenced_layout, struct_named}
use Rattle.layout.specs.FieldRows.{AreFieldRows, IsFieldRow}
use Rattle.layout.specs.Functions.{with_shapes}
use Rattle.layout.specs.Globals.{AreGlobals, globals_of, word_of_global}
use Rattle.layout.specs.Layouts.{AreLayouts, AreLayoutsOf, IsLayout}
use Rattle.layout.specs.Rings.{one_list}
use Rattle.layout.specs.Words.{AreWords, Scalars, copies, is_scalar, pointer_word, reference_to, shaped_word, shapes_of, word_of_type}
use Rattle.certs.specs.Families.{is_opaque_text}
use Rattle.certificate.specs.Named.{HasGlobals, HasStructs}
use Rattle.certificate.specs.TypedShapes.{typed_global, typed_held, typed_row}
use Rattle.migration_law.specs.PartsBefore.{ArePartsBefore}
use Rattle.migration_law.proofs.ShapesAfter.{map_twice}
use Rattle.migration_law.proofs.Tables.{type_after, type_in_order, none_after}

-- ---- lists

-- what is at a place of the second list is the same, made of what is at that place in the first
same_lists : {A B C : Type 0} (f : B → C) (g : A → B) (h : A → C) (xs : List A) → ((k : ℕ) (x : A) → slice_get xs k ≡ Some x → f (g x) ≡ h x) → map f (map g xs) ≡ map h xs
same_lists f g h [] each = refl
same_lists f g h (x ∷ xs) each = rw (each 0 x refl, same_lists f g h xs (λ k y e. each (suc k) y e)) refl

copies_map : (f : ℕ → ℕ) (count : ℕ) (xs : List ℕ) → copies count (map f xs) ≡ map f (copies count xs)
copies_map f zero xs = refl
copies_map f (suc count) xs = ap (λ l. map f xs ++ l) (copies_map f count xs) ∙ sym (map-append f xs (copies count xs))

-- no type of a typed text is `ptr`
not_there : (types : List IrType) (n : ℕ) → list_any (is_same_type type.Opaque) types ≡ false → slice_get types n ≡ Some type.Opaque → ⊥
not_there [] n none at = absurd cc
not_there (x ∷ types) zero none at =
    let here = (or_neither (is_same_type type.Opaque x) (list_any (is_same_type type.Opaque) types) none).0 in
    let same : x ≡ type.Opaque = cc in
    let other : is_same_type type.Opaque type.Opaque ≡ false = subst (λ (y : IrType). is_same_type type.Opaque y ≡ false) same here in
    absurd cc
not_there (x ∷ types) (suc n) none at = not_there types n (or_neither (is_same_type type.Opaque x) (list_any (is_same_type type.Opaque) types) none).1 at

no_opaque : (m : Module) (n : ℕ) → is_opaque_text m ≡ false → slice_get m.types n ≡ Some type.Opaque → ⊥
no_opaque m n typed at = not_there m.types n (sym (is_some-position (is_same_type type.Opaque) m.types) ∙ typed) at

module _ (m : Module) (given : Shapes) (typed : is_opaque_text m ≡ false) where
  abbrev numbers : List ℕ
  numbers = (opaque_types m.types).numbers

  abbrev n : Module
  n = with_shapes (opaque_module m) (Some given)

  -- ---- words

  -- a pointer to a named struct is a reference
  pointer_by : (wide : Bool) (pointee : Option IrType) (layout : Option ℕ) → is_some layout ≡ true → reference_to layout ≡ pointer_word wide pointee layout
  pointer_by wide pointee None some = absurd cc
  pointer_by wide pointee (Some layout) some = refl

  -- a typed pointer has a shape
  abbrev IsShaped : Option IrType → (shape : Option ℕ) → Type 0
  IsShaped found shape = is_some (part_of_pointer found) ≡ true → is_some shape ≡ true

  -- under the shape that its type says, a scalar holds what it held
  word_by : (shape old : Option ℕ) (field : ℕ) (found : Option IrType) → slice_get m.types field ≡ found → shape ≡ layout_after m (part_of_pointer found) → IsShaped found shape
      → shaped_word n shape (new_number numbers field) ≡ (if is_opaque_type found then reference_to old else word_of_type m found)
  word_by shape old field None at is shaped = rw (none_after m.types field at) refl
  word_by shape old field (Some type.Void) at is shaped = rw ((type_after m.types field type.Void at).1) refl
  word_by shape old field (Some (type.Integer bits)) at is shaped = rw ((type_after m.types field (type.Integer bits) at).1) refl
  word_by shape old field (Some type.Float) at is shaped = rw ((type_after m.types field type.Float at).1) refl
  word_by shape old field (Some type.Double) at is shaped = rw ((type_after m.types field type.Double at).1) refl
  word_by shape old field (Some (type.Pointer part)) at is shaped =
      let known : is_some (layout_after m (Some part)) ≡ true = subst (λ x. is_some x ≡ true) is (shaped refl) in
      rw ((type_after m.types field (type.Pointer part) at).1) (ap reference_to is ∙ pointer_by m.wide (slice_get m.types part) (layout_after m (Some part)) known)
  word_by shape old field (Some type.Opaque) at is shaped = absurd (no_opaque m field typed at)
  word_by shape old field (Some (type.Array length part)) at is shaped = rw ((type_after m.types field (type.Array length part) at).1) refl
  word_by shape old field (Some type.EmptyStruct) at is shaped = rw ((type_after m.types field type.EmptyStruct at).1) refl
  word_by shape old field (Some (type.Struct first rest)) at is shaped = rw ((type_after m.types field (type.Struct first rest) at).1) refl
  word_by shape old field (Some (type.Named name)) at is shaped = rw ((type_after m.types field (type.Named name) at).1) refl

  word_after : (shape old : Option ℕ) (field : ℕ) → shape ≡ referenced_layout m field → IsShaped (slice_get m.types field) shape → shaped_word n shape (new_number numbers field) ≡ shaped_word m old field
  word_after shape old field is shaped = word_by shape old field (slice_get m.types field) refl is shaped

  -- the shapes from this place on are those that the types of these fields say, and each pointer has one
  abbrev SayShapes : List (Option ℕ) → (place : ℕ) → List ℕ → Type 0
  SayShapes shapes place fields =
      (i field : ℕ) → slice_get fields i ≡ Some field → (shape_at shapes (place + i) ≡ referenced_layout m field) × IsShaped (slice_get m.types field) (shape_at shapes (place + i))

  words_after : (shapes old : List (Option ℕ)) (place : ℕ) (fields : List ℕ) (words : List WordKind) → SayShapes shapes place fields → AreWords m old place fields words
      → AreWords n shapes place (map (new_number numbers) fields) words
  words_after shapes old place [] [] say are = tt
  words_after shapes old place [] (word ∷ words) say are = absurd are
  words_after shapes old place (field ∷ fields) [] say are = absurd are
  words_after shapes old place (field ∷ fields) (word ∷ words) say are =
      let first : place ≡ place + 0 = omega arith in
      let here = say 0 field refl in
      let says = λ (at : ℕ) (x : ℕ). (shape_at shapes at ≡ referenced_layout m x) × IsShaped (slice_get m.types x) (shape_at shapes at) in
      let said : says place field = subst (λ at. says at field) (sym first) here in (
        word_after (shape_at shapes place) (shape_at old place) field said.0 said.1 ∙ are.0,
        words_after shapes old (suc place) fields words (λ i x e. let next : place + suc i ≡ suc place + i = omega arith in subst (λ at. says at x) next (say (suc i) x e)) are.1,
      )

  -- ---- scalars

  module _ (ordered : ArePartsBefore m.types) where
    after : (written : ℕ) (t : IrType) → slice_get m.types written ≡ Some t → slice_get n.types (new_number numbers written) ≡ Some (opaque_type numbers t)
    after written t at = type_in_order m.types written t at (ordered written t at)

    body_by : (found : Option StructType) → body_in (option_map (opaque_struct numbers) found) ≡ option_map (new_number numbers) (body_in found)
    body_by None = refl
    body_by (Some struct) = refl

    body_at : (layout : Option ℕ) → body_of_layout n layout ≡ option_map (new_number numbers) (body_of_layout m layout)
    body_at None = refl
    body_at (Some layout) = ap body_in (slice_get-map (opaque_struct numbers) m.structs layout) ∙ body_by (slice_get m.structs layout)

    none_still : (body : Option ℕ) → is_none body ≡ true → is_none (option_map (new_number numbers) body) ≡ true
    none_still None h = refl
    none_still (Some body) h = absurd cc

    scalar_by : (written : ℕ) (found : Option IrType) → slice_get m.types written ≡ found → is_scalar m found ≡ true → is_scalar n (slice_get n.types (new_number numbers written)) ≡ true
    scalar_by written None at h = absurd cc
    scalar_by written (Some type.Void) at h = rw (after written type.Void at) refl
    scalar_by written (Some (type.Integer bits)) at h = rw (after written (type.Integer bits) at) refl
    scalar_by written (Some type.Float) at h = rw (after written type.Float at) refl
    scalar_by written (Some type.Double) at h = rw (after written type.Double at) refl
    scalar_by written (Some (type.Pointer part)) at h = rw (after written (type.Pointer part) at) refl
    scalar_by written (Some type.Opaque) at h = rw (after written type.Opaque at) refl
    scalar_by written (Some (type.Array length part)) at h = absurd cc
    scalar_by written (Some type.EmptyStruct) at h = absurd cc
    scalar_by written (Some (type.Struct first rest)) at h = absurd cc
    scalar_by written (Some (type.Named name)) at h =
        rw (after written (type.Named name) at) (ap is_none (body_at (struct_named m name)) ∙ none_still (body_named m name) h)

    scalars_after : (written : ℕ) (fields : List ℕ) → Scalars m written fields → Scalars n (new_number numbers written) (map (new_number numbers) fields)
    scalars_after written fields (Scalars.Scalar _ h) = Scalars.Scalar (new_number numbers written) (scalar_by written (slice_get m.types written) refl h)
    scalars_after written fields (Scalars.Elements _ count part inner at h) =
        subst (Scalars n (new_number numbers written)) (copies_map (new_number numbers) count inner)
        (Scalars.Elements (new_number numbers written) count (new_number numbers part) (map (new_number numbers) inner) (after written (type.Array count part) at) (scalars_after part inner h))
    scalars_after written fields (Scalars.NoField _ at) = Scalars.NoField (new_number numbers written) (after written type.EmptyStruct at)
    scalars_after written fields (Scalars.Fields _ first rest of_first afterwards at h k) =
        subst (Scalars n (new_number numbers written)) (sym (map-append (new_number numbers) of_first afterwards))
        (Scalars.Fields (new_number numbers written) (new_number numbers first) (new_number numbers rest) (map (new_number numbers) of_first) (map (new_number numbers) afterwards)
        (after written (type.Struct first rest) at) (scalars_after first of_first h) (scalars_after rest afterwards k))
    scalars_after written fields (Scalars.Body _ name body inner at is h) =
        Scalars.Body (new_number numbers written) name (new_number numbers body) (map (new_number numbers) inner) (after written (type.Named name) at)
        (body_at (struct_named m name) ∙ ap (option_map (new_number numbers)) is) (scalars_after body inner h)

    -- ---- layouts

    -- each pointer of a struct, whose fields these are, has a shape
    abbrev AreShaped : (rows : List (List ℕ)) → Type 0
    AreShaped rows = (layout : ℕ) (struct : StructType) (fields : List ℕ) (i field : ℕ) → slice_get m.structs layout ≡ Some struct → slice_get rows layout ≡ Some fields → slice_get fields i ≡ Some field
        → IsShaped (slice_get m.types field) (shape_at (row_at given.words struct.name) i)

    module _ (rows : List (List ℕ)) (are_rows : AreFieldRows m rows) (own : HasStructs m) (words_given : given.words ≡ map (typed_row m rows) m.struct_of) (shaped : AreShaped rows) where
      row_is : (struct : StructType) (fields row : List ℕ) → Scalars m struct.body fields → length fields ≤ 64 → IsFieldRow m struct row → row ≡ fields
      row_is struct fields row scalars few (inl p) = one_list m struct.body row fields p.0 scalars
      row_is struct fields row scalars few (inr p) = absurd (let many = p.0 fields scalars in omega (arith, few, many))

      row_there : (layout : ℕ) (struct : StructType) (fields : List ℕ) → slice_get m.structs layout ≡ Some struct → Scalars m struct.body fields → length fields ≤ 64 → slice_get rows layout ≡ Some fields
      row_there layout struct fields at scalars few =
          let less = slice_get_within m.structs layout struct at in
          let many = are_rows.one_each in
          let row = get_some rows layout (omega (arith, less, many)) in
          row.1 ∙ ap Some (row_is struct fields row.0 scalars few (are_rows.each layout struct row.0 at row.1))

      -- the shapes of a struct's words
      given_row : (layout : ℕ) (struct : StructType) (fields : List ℕ) → slice_get m.structs layout ≡ Some struct → slice_get rows layout ≡ Some fields
          → row_at given.words struct.name ≡ map (referenced_layout m) fields
      given_row layout struct fields at there =
          ap (λ words. row_at words struct.name) words_given
          ∙ ap (λ row. unwrap_or row []) (slice_get-map (typed_row m rows) m.struct_of struct.name)
          ∙ ap (λ found. unwrap_or (option_map (typed_row m rows) found) []) (own layout struct at)
          ∙ ap (λ row. map (referenced_layout m) (unwrap_or row [])) there

      say_shapes : (layout : ℕ) (struct : StructType) (fields : List ℕ) → slice_get m.structs layout ≡ Some struct → slice_get rows layout ≡ Some fields → SayShapes (shapes_of n struct) 0 fields
      say_shapes layout struct fields at there i field e =
          let first : i ≡ 0 + i = omega arith in
          let says : shape_at (row_at given.words struct.name) i ≡ referenced_layout m field =
          ap (λ row. shape_at row i) (given_row layout struct fields at there)
          ∙ ap (λ found. unwrap_or found None) (slice_get-map (referenced_layout m) fields i)
          ∙ ap (λ found. unwrap_or (option_map (referenced_layout m) found) None) e in
          subst (λ place. (shape_at (row_at given.words struct.name) place ≡ referenced_layout m field) × IsShaped (slice_get m.types field) (shape_at (row_at given.words struct.name) place)) first
          (says, shaped layout struct fields i field at there e)

      layout_after_it : (layout : ℕ) (struct : StructType) (words : List WordKind) → slice_get m.structs layout ≡ Some struct → IsLayout m struct words → IsLayout n (opaque_struct numbers struct) words
      layout_after_it layout struct words at h =
          let there = row_there layout struct h.fields at h.scalars h.few in
          let as_many = map-length (new_number numbers) h.fields in
          record {
            fields = map (new_number numbers) h.fields;
            scalars = scalars_after struct.body h.fields h.scalars;
            few = let few = h.few in omega (arith, few, as_many);
            words_are = words_after (shapes_of n struct) (shapes_of m struct) 0 h.fields words (say_shapes layout struct h.fields at there) h.words_are;
          }

      layouts_after : (k : ℕ) (structs : List StructType) (layouts : List (List WordKind)) → ((i : ℕ) (struct : StructType) → slice_get structs i ≡ Some struct → slice_get m.structs (k + i) ≡ Some struct)
          → AreLayoutsOf m structs layouts → AreLayoutsOf n (map (opaque_struct numbers) structs) layouts
      layouts_after k [] [] at h = tt
      layouts_after k [] (words ∷ layouts) at h = absurd h
      layouts_after k (struct ∷ structs) [] at h = absurd h
      layouts_after k (struct ∷ structs) (words ∷ layouts) at h =
          let z : k + 0 ≡ k = omega arith in
          let here : slice_get m.structs k ≡ Some struct = subst (λ i. slice_get m.structs i ≡ Some struct) z (at 0 struct refl) in (
            layout_after_it k struct words here h.0,
            layouts_after (k + 1) structs layouts (λ i x e. let next : k + suc i ≡ k + 1 + i = omega arith in subst (λ j. slice_get m.structs j ≡ Some x) next (at (suc i) x e)) h.1,
          )

      pub layouts_same : (layouts : List (List WordKind)) → AreLayouts m layouts → AreLayouts n layouts
      layouts_same layouts h = (layouts_after 0 m.structs layouts (λ i struct e. let z : i ≡ 0 + i = omega arith in subst (λ j. slice_get m.structs j ≡ Some struct) z e) h.0, refl)

  -- ---- globals

  module _ (own : HasGlobals m) (globals_given : given.globals ≡ map (typed_global m) m.sorts)
      (shaped : (g : ℕ) (global : Global) → slice_get m.globals g ≡ Some global → IsShaped (slice_get m.types global.held) (shape_at given.globals global.symbol)) where
    global_shape_is : (g : ℕ) (global : Global) → slice_get m.globals g ≡ Some global → shape_at given.globals global.symbol ≡ referenced_layout m global.held
    global_shape_is g global at =
        ap (λ row. shape_at row global.symbol) globals_given
        ∙ ap (λ found. unwrap_or found None) (slice_get-map (typed_global m) m.sorts global.symbol)
        ∙ ap (λ found. unwrap_or (option_map (typed_global m) found) None) (own g global at)
        ∙ ap (λ found. typed_held m (held_in found)) at

    global_word : (g : ℕ) (global : Global) → slice_get m.globals g ≡ Some global → word_of_global n (opaque_global numbers global) ≡ word_of_global m global
    global_word g global at = word_after (shape_at given.globals global.symbol) (global_shape m.shapes global.symbol) global.held (global_shape_is g global at) (shaped g global at)

    pub words_same : map (word_of_global n) n.globals ≡ map (word_of_global m) m.globals
    words_same = same_lists (word_of_global n) (opaque_global numbers) (word_of_global m) m.globals global_word

    pub globals_same : globals_of n ≡ globals_of m
    globals_same =
        let taken : Option WordKind → WordKind = λ word. unwrap_or word (kind.Integer 64) in
        sym (map_twice taken (word_of_global n) n.globals) ∙ ap (map taken) words_same ∙ map_twice taken (word_of_global m) m.globals

    -- words that a heap has for the module's globals are words for those of the opaque text
    pub heaps_same : (words : List WordKind) → AreGlobals m words → AreGlobals n words
    heaps_same words are g made held at is = by (slice_get m.globals g) refl where
      by : (found : Option Global) → slice_get m.globals g ≡ found → slice_get words g ≡ Some held
      by None e = let none : None ≡ Some made = sym (slice_get-map (opaque_global numbers) m.globals g ∙ ap (option_map (opaque_global numbers)) e) ∙ at in absurd cc
      by (Some global) e =
          let both : Some (opaque_global numbers global) ≡ Some made = sym (slice_get-map (opaque_global numbers) m.globals g ∙ ap (option_map (opaque_global numbers)) e) ∙ at in
          let same : opaque_global numbers global ≡ made = cc in
          are g global held e (sym (global_word g global e) ∙ ap (word_of_global n) same ∙ is)
