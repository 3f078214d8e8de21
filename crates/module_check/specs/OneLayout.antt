-- A module has one list of layouts, and one of sizes.
use Rattle.std.proofs.Common.{◌≡◌, ℕ, zero, suc, ◌+◌, List, [], ◌∷◌, length, slice_get, refl, sym, ap, ap₂, ◌∙◌, subst, arith, Option, Some, None}
use Rattle.ir_ast.specs.declared.module.Module.{Module}
use Rattle.ir_ast.specs.declared.items_of_module.StructType.{StructType}
use Rattle.pools.specs.declared.word_kind.WordKind.{WordKind}
use Rattle.layout.specs.Words.{AreWords, shapes_of}
use Rattle.layout.specs.Layouts.{IsLayout, AreLayouts, AreLayoutsOf, IsSize, AreSizes}
use Rattle.layout.specs.Rings.{one_list}

-- fields have one list of words
one_words : (m : Module) (shapes : List (Option ℕ)) (place : ℕ) (fields : List ℕ) (a b : List WordKind) → AreWords m shapes place fields a → AreWords m shapes place fields b → a ≡ b
one_words m shapes place [] [] [] h k = refl
one_words m shapes place [] [] (y ∷ b) h k = absurd k
one_words m shapes place [] (x ∷ a) b h k = absurd h
one_words m shapes place (field ∷ fields) [] b h k = absurd h
one_words m shapes place (field ∷ fields) (x ∷ a) [] h k = absurd k
one_words m shapes place (field ∷ fields) (x ∷ a) (y ∷ b) h k =
    let same : Some x ≡ Some y = sym h.0 ∙ k.0 in
    let head : x ≡ y = cc in
    ap₂ (λ u us. u ∷ us) head (one_words m shapes (suc place) fields a b h.1 k.1)

-- a struct has one layout
one_layout : (m : Module) (struct : StructType) (a b : List WordKind) → IsLayout m struct a → IsLayout m struct b → a ≡ b
one_layout m struct a b h k = one_words m (shapes_of m struct) 0 k.fields a b (subst (λ fields. AreWords m (shapes_of m struct) 0 fields a) (one_list m struct.body h.fields k.fields h.scalars k.scalars) h.words_are) k.words_are

-- structs have one list of layouts
one_layouts_of : (m : Module) (structs : List StructType) (a b : List (List WordKind)) → AreLayoutsOf m structs a → AreLayoutsOf m structs b → a ≡ b
one_layouts_of m [] [] [] h k = refl
one_layouts_of m [] [] (y ∷ b) h k = absurd k
one_layouts_of m [] (x ∷ a) b h k = absurd h
one_layouts_of m (struct ∷ structs) [] b h k = absurd h
one_layouts_of m (struct ∷ structs) (x ∷ a) [] h k = absurd k
one_layouts_of m (struct ∷ structs) (x ∷ a) (y ∷ b) h k = ap₂ (λ u us. u ∷ us) (one_layout m struct x y h.0 k.0) (one_layouts_of m structs a b h.1 k.1)

pub one_layouts : (m : Module) (a b : List (List WordKind)) → AreLayouts m a → AreLayouts m b → a ≡ b
one_layouts m a b h k = one_layouts_of m m.structs a b h.0 k.0

-- a type has one size
one_size : (m : Module) (written : ℕ) (a b : Option ℕ) → IsSize m written a → IsSize m written b → a ≡ b
one_size m written None None h k = refl
one_size m written None (Some n) h k =
    let of_b = k.has n refl in
    absurd (omega (arith, h.has_none refl of_b.0 of_b.1.0, of_b.1.1, of_b.1.2))
one_size m written (Some n) None h k =
    let of_a = h.has n refl in
    absurd (omega (arith, k.has_none refl of_a.0 of_a.1.0, of_a.1.1, of_a.1.2))
one_size m written (Some n) (Some l) h k =
    let of_a = h.has n refl in
    let of_b = k.has l refl in
    ap Some (sym of_a.1.1 ∙ ap length (one_list m written of_a.0 of_b.0 of_a.1.0 of_b.1.0) ∙ of_b.1.1)

-- and so do the types from a number on
one_sizes_from : (m : Module) (from : ℕ) (a b : List (Option ℕ)) → length a ≡ length b → ((i : ℕ) (size : Option ℕ) → slice_get a i ≡ Some size → IsSize m (from + i) size)
    → ((i : ℕ) (size : Option ℕ) → slice_get b i ≡ Some size → IsSize m (from + i) size) → a ≡ b
one_sizes_from m from [] [] same h k = refl
one_sizes_from m from [] (y ∷ b) same h k = absurd cc
one_sizes_from m from (x ∷ a) [] same h k = absurd cc
one_sizes_from m from (x ∷ a) (y ∷ b) same h k =
    let shifted : (i : ℕ) → from + suc i ≡ suc from + i = λ i. omega arith in
    let rest : length a ≡ length b = omega (arith, same) in
    ap₂ (λ u us. u ∷ us) (one_size m (from + zero) x y (h zero x refl) (k zero y refl))
    (one_sizes_from m (suc from) a b rest (λ i size is. subst (λ n. IsSize m n size) (shifted i) (h (suc i) size is)) (λ i size is. subst (λ n. IsSize m n size) (shifted i) (k (suc i) size is)))

pub one_sizes : (m : Module) (a b : List (Option ℕ)) → AreSizes m a → AreSizes m b → a ≡ b
one_sizes m a b h k =
    let same : (i : ℕ) → i ≡ zero + i = λ i. omega arith in
    one_sizes_from m zero a b (h.one_each ∙ sym k.one_each) (λ i size is. subst (λ n. IsSize m n size) (same i) (h.each i size is)) (λ i size is. subst (λ n. IsSize m n size) (same i) (k.each i size is))
