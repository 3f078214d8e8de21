-- Layouts, sizes and the words of globals where the table of types has grown. Functions are no part of any of them.
use Rattle.std.proofs.Common.{◌≡◌, ℕ, suc, if◌then◌else◌, Bool, true, false, List, [], ◌∷◌, map, Option, Some, None, is_none, unwrap_or, refl, ap, ap₂, sym, ◌∙◌, subst}
use Rattle.std.specs.Prelude.{slice_get}
use Rattle.ir_ast.specs.declared.function.Function.{Function}
use Rattle.ir_ast.specs.declared.items_of_module.Global.{Global}
use Rattle.ir_ast.specs.declared.items_of_module.StructType.{StructType}
use Rattle.ir_ast.specs.declared.ir_type.IrType.{IrType}
use Rattle.ir_ast.specs.declared.ir_type.IrType.TheVariants.{Void, Integer, Float, Double, Pointer, Opaque, Array, EmptyStruct, Struct, Named}
use Rattle.ir_ast.specs.declared.module.Module.{Module}
use Rattle.pools.specs.declared.word_kind.WordKind.{WordKind}
use Rattle.pools.specs.declared.word_kind.WordKind.TheVariants as kind
use Rattle.types.specs.Elements.{body_in, body_of_layout, body_named}
use Rattle.ir_ast.specs.Shapes.{shape_at, word_shapes, global_shape}
use Rattle.types.specs.References.{is_opaque_type, struct_named, layout_of_struct}
use Rattle.layout.specs.Functions.{with_functions}
use Rattle.layout.specs.Globals.{word_of_global, kind_of_global, globals_of}
use Rattle.layout.specs.Grown.{TablesGrow}
use Rattle.layout.specs.Layouts.{IsLayout, AreLayoutsOf, AreLayouts, wants_shapes, IsSize, AreSizes}
use Rattle.layout.specs.Words.{Scalars, is_scalar, reference_to, pointer_word, word_of_type, shaped_word, shapes_of, AreWords}

-- ---- scalars and words

module _ (m n : Module) (grow : TablesGrow m n) where
  body_at : (layout : Option ℕ) → body_of_layout n layout ≡ body_of_layout m layout
  body_at None = refl
  body_at (Some layout) = ap (λ structs. body_in (slice_get structs layout)) grow.structs

  body_stays : (written name : ℕ) → slice_get m.types written ≡ Some (Named name) → body_named n name ≡ body_named m name
  body_stays written name at = ap (body_of_layout n) (grow.names written name at) ∙ body_at (struct_named m name)

  scalar_by : (written : ℕ) (type : Option IrType) → slice_get m.types written ≡ type → is_scalar m type ≡ true → is_scalar n (slice_get n.types written) ≡ true
  scalar_by written None at h = absurd cc
  scalar_by written (Some Void) at h = rw (grow.types written Void at) refl
  scalar_by written (Some (Integer bits)) at h = rw (grow.types written (Integer bits) at) refl
  scalar_by written (Some Float) at h = rw (grow.types written Float at) refl
  scalar_by written (Some Double) at h = rw (grow.types written Double at) refl
  scalar_by written (Some (Pointer part)) at h = rw (grow.types written (Pointer part) at) refl
  scalar_by written (Some Opaque) at h = rw (grow.types written Opaque at) refl
  scalar_by written (Some (Array length part)) at h = absurd cc
  scalar_by written (Some EmptyStruct) at h = absurd cc
  scalar_by written (Some (Struct first rest)) at h = absurd cc
  scalar_by written (Some (Named name)) at h = rw (grow.types written (Named name) at) (ap is_none (body_stays written name at) ∙ h)

  scalars_stay : (written : ℕ) (fields : List ℕ) → Scalars m written fields → Scalars n written fields
  scalars_stay written fields (Scalars.Scalar _ h) = Scalars.Scalar written (scalar_by written (slice_get m.types written) refl h)
  scalars_stay written fields (Scalars.Elements _ length part inner at h) = Scalars.Elements written length part inner (grow.types written (Array length part) at) (scalars_stay part inner h)
  scalars_stay written fields (Scalars.NoField _ at) = Scalars.NoField written (grow.types written EmptyStruct at)
  scalars_stay written fields (Scalars.Fields _ first rest of_first afterwards at h k) =
      Scalars.Fields written first rest of_first afterwards (grow.types written (Struct first rest) at) (scalars_stay first of_first h) (scalars_stay rest afterwards k)
  scalars_stay written fields (Scalars.Body _ name body inner at is h) =
      Scalars.Body written name body inner (grow.types written (Named name) at) (body_stays written name at ∙ is) (scalars_stay body inner h)

  layout_by : (part layout : ℕ) (type : Option IrType) → slice_get m.types part ≡ type → layout_of_struct m type ≡ Some layout → layout_of_struct n (slice_get n.types part) ≡ Some layout
  layout_by part layout (Some (Named name)) at h = rw (grow.types part (Named name) at) (grow.names part name at ∙ h)
  layout_by part layout _ at h = absurd cc

  -- a type that is no name of a struct is none in the other module
  nowhere_stays : (part : ℕ) (type : IrType) → slice_get m.types part ≡ Some type → layout_of_struct m (Some type) ≡ None → layout_of_struct n (slice_get n.types part) ≡ None
  nowhere_stays part (Named name) at h = rw (grow.types part (Named name) at) (grow.names part name at ∙ h)
  nowhere_stays part Void at h = rw (grow.types part Void at) refl
  nowhere_stays part (Integer bits) at h = rw (grow.types part (Integer bits) at) refl
  nowhere_stays part Float at h = rw (grow.types part Float at) refl
  nowhere_stays part Double at h = rw (grow.types part Double at) refl
  nowhere_stays part (Pointer inner) at h = rw (grow.types part (Pointer inner) at) refl
  nowhere_stays part Opaque at h = rw (grow.types part Opaque at) refl
  nowhere_stays part (Array length inner) at h = rw (grow.types part (Array length inner) at) refl
  nowhere_stays part EmptyStruct at h = rw (grow.types part EmptyStruct at) refl
  nowhere_stays part (Struct first rest) at h = rw (grow.types part (Struct first rest) at) refl

  -- what a pointer to this type holds
  pointer_by : (part : ℕ) (word : WordKind) (type : Option IrType) (layout : Option ℕ) → slice_get m.types part ≡ type → layout_of_struct m type ≡ layout → pointer_word m.wide type layout ≡ Some word
      → pointer_word n.wide (slice_get n.types part) (layout_of_struct n (slice_get n.types part)) ≡ Some word
  pointer_by part word type (Some layout) at is h = ap (pointer_word n.wide (slice_get n.types part)) (layout_by part layout type at is) ∙ h
  pointer_by part word None None at is h = absurd (not_there m.wide h) where
    not_there : (wide : Bool) → pointer_word wide None None ≡ Some word → ⊥
    not_there true e = cc
    not_there false e = cc
  pointer_by part word (Some type) None at is h =
      ap₂ (λ wide layout. pointer_word wide (slice_get n.types part) layout) grow.wide (nowhere_stays part type at is)
      ∙ ap (λ found. pointer_word m.wide found None) (grow.types part type at) ∙ h

  pointer_stays : (part : ℕ) (word : WordKind) → pointer_word m.wide (slice_get m.types part) (layout_of_struct m (slice_get m.types part)) ≡ Some word
      → pointer_word n.wide (slice_get n.types part) (layout_of_struct n (slice_get n.types part)) ≡ Some word
  pointer_stays part word h = pointer_by part word (slice_get m.types part) (layout_of_struct m (slice_get m.types part)) refl refl h

  -- a type under which a word is there keeps its kind: `ptr` stays `ptr`, and another type that is a word no `ptr`
  shaped_by : (shape : Option ℕ) (field : ℕ) (word : WordKind) (type : Option IrType) → slice_get m.types field ≡ type → (if is_opaque_type type then reference_to shape else word_of_type m type) ≡ Some word → shaped_word n shape field ≡ Some word
  shaped_by shape field word (Some Opaque) at h = rw (grow.types field Opaque at) h
  shaped_by shape field word (Some (Integer bits)) at h = rw (grow.types field (Integer bits) at) h
  shaped_by shape field word (Some Float) at h = rw (grow.types field Float at) h
  shaped_by shape field word (Some Double) at h = rw (grow.types field Double at) h
  shaped_by shape field word (Some (Pointer part)) at h = rw (grow.types field (Pointer part) at) (pointer_stays part word h)
  shaped_by shape field word _ at h = absurd cc

  shaped_stays : (shape : Option ℕ) (field : ℕ) (word : WordKind) → shaped_word m shape field ≡ Some word → shaped_word n shape field ≡ Some word
  shaped_stays shape field word h = shaped_by shape field word (slice_get m.types field) refl h

  words_stay : (shapes : List (Option ℕ)) (place : ℕ) (fields : List ℕ) (words : List WordKind) → AreWords m shapes place fields words → AreWords n shapes place fields words
  words_stay shapes place [] [] h = tt
  words_stay shapes place [] (word ∷ words) h = absurd h
  words_stay shapes place (field ∷ fields) [] h = absurd h
  words_stay shapes place (field ∷ fields) (word ∷ words) h = (shaped_stays (shape_at shapes place) field word h.0, words_stay shapes (suc place) fields words h.1)

  -- ---- layouts

  layout_stays : (struct : StructType) (words : List WordKind) → IsLayout m struct words → IsLayout n struct words
  layout_stays struct words h = record {
    fields = h.fields;
    scalars = scalars_stay struct.body h.fields h.scalars;
    few = h.few;
    words_are = subst (λ row. AreWords n row 0 h.fields words) (ap (λ x. word_shapes x struct.name) (sym grow.shapes)) (words_stay (shapes_of m struct) 0 h.fields words h.words_are);
  }

  layouts_of : (structs : List StructType) (layouts : List (List WordKind)) → AreLayoutsOf m structs layouts → AreLayoutsOf n structs layouts
  layouts_of [] [] h = tt
  layouts_of [] (words ∷ layouts) h = absurd h
  layouts_of (struct ∷ structs) [] h = absurd h
  layouts_of (struct ∷ structs) (words ∷ layouts) h = (layout_stays struct words h.0, layouts_of structs layouts h.1)

  pub layouts_stay : (layouts : List (List WordKind)) → wants_shapes n ≡ false → AreLayouts m layouts → AreLayouts n layouts
  layouts_stay layouts shaped h = (subst (λ structs. AreLayoutsOf n structs layouts) (sym grow.structs) (layouts_of m.structs layouts h.0), shaped)

-- ---- other functions

functions_only : (m : Module) (fs : List Function) → TablesGrow m (with_functions m fs)
functions_only m fs = record { types = λ written type at. at; names = λ written name at. refl; structs = refl; shapes = refl; wide = refl }

functions_back : (m : Module) (fs : List Function) → TablesGrow (with_functions m fs) m
functions_back m fs = record { types = λ written type at. at; names = λ written name at. refl; structs = refl; shapes = refl; wide = refl }

-- layouts depend on no function
pub layouts_with : (m : Module) (fs : List Function) (layouts : List (List WordKind)) → AreLayouts m layouts → AreLayouts (with_functions m fs) layouts
layouts_with m fs layouts h = layouts_stay m (with_functions m fs) (functions_only m fs) layouts h.1 h

size_with : (m : Module) (fs : List Function) (written : ℕ) (size : Option ℕ) → IsSize m written size → IsSize (with_functions m fs) written size
size_with m fs written size h =
    let n = with_functions m fs in
    record {
      has = λ count is. let s = h.has count is in (s.0, (scalars_stay m n (functions_only m fs) written s.0 s.1.0, s.1.1, s.1.2));
      has_none = λ is fields s. h.has_none is fields (scalars_stay n m (functions_back m fs) written fields s);
    }

-- sizes depend on no function
pub sizes_with : (m : Module) (fs : List Function) (sizes : List (Option ℕ)) → AreSizes m sizes → AreSizes (with_functions m fs) sizes
sizes_with m fs sizes h = record { one_each = h.one_each; each = λ written size at. size_with m fs written size (h.each written size at) }

word_with : (m : Module) (fs : List Function) (shape : Option ℕ) (held : ℕ) (one other : Option WordKind) → shaped_word m shape held ≡ one → shaped_word (with_functions m fs) shape held ≡ other → other ≡ one
word_with m fs shape held (Some word) other is is_other = sym is_other ∙ shaped_stays m (with_functions m fs) (functions_only m fs) shape held word is
word_with m fs shape held None None is is_other = refl
word_with m fs shape held None (Some word) is is_other = let back = shaped_stays (with_functions m fs) m (functions_back m fs) shape held word is_other in absurd cc

kind_with : (m : Module) (fs : List Function) (global : Global) → kind_of_global (with_functions m fs) global ≡ kind_of_global m global
kind_with m fs global = ap (λ word. unwrap_or word (kind.Integer 64)) (word_with m fs (global_shape m.shapes global.symbol) global.held (word_of_global m global) (word_of_global (with_functions m fs) global) refl refl)

kinds_with : (m : Module) (fs : List Function) (globals : List Global) → map (kind_of_global (with_functions m fs)) globals ≡ map (kind_of_global m) globals
kinds_with m fs [] = refl
kinds_with m fs (global ∷ globals) = rw (kind_with m fs global, kinds_with m fs globals) refl

-- the words of globals depend on no function
pub globals_with : (m : Module) (fs : List Function) → globals_of (with_functions m fs) ≡ globals_of m
globals_with m fs = kinds_with m fs m.globals
