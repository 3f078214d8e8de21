-- Tables of types in which all pointers are of one kind.
use Rattle.std.proofs.Common.{◌≡◌, ◌<◌, ℕ, zero, suc, Bool, true, false, List, [], ◌∷◌, ◌++◌, length, slice_get, is_some, if◌then◌else◌, Option, None, Some, refl, sym, ap, subst, ◌∙◌, inl, inr}
use Rattle.std.specs.Prelude.{◌&&◌, ◌||◌, is_none}
use Rattle.std.specs.List.{list_any}
use Rattle.lemmas.specs.Bools.{or_false, or_neither}
use Rattle.lemmas.specs.Lists.{get_either}
use Rattle.ir_ast.specs.Places.{is_some-position}
use Rattle.ir_ast.specs.Types.{is_same_type, place_of_type, numbered_type}
use Rattle.ir_ast.specs.declared.ir_type.IrType.{IrType}
use Rattle.ir_ast.specs.declared.ir_type.IrType.TheVariants as type
use Rattle.ir_ast.specs.PointerKinds.{has_typed, is_typed_pointer}
use Rattle.ir_forms.specs.Written.{has_opaque, is_other_kind}
use Rattle.ir_print_law.specs.Shapes.{Shape, Integer, Float, Pointer, Array, Empty, Struct, Named, Opaque, HasShape, IsWritten}
use Rattle.ir_print_law.proofs.Tables.{Begins, IsInOrder, AreInOrder, AreOrdered}

-- where each element fails the test, none passes it
none_any : {A : Type 0} (p : A → Bool) (xs : List A) → ((n : ℕ) (x : A) → slice_get xs n ≡ Some x → p x ≡ false) → list_any p xs ≡ false
none_any p [] h = refl
none_any p (x ∷ xs) h = let here = h 0 x refl in rw here (none_any p xs (λ n y e. h (suc n) y e))

-- where none passes it, each element fails it
any_none : {A : Type 0} (p : A → Bool) (xs : List A) (n : ℕ) (x : A) → list_any p xs ≡ false → slice_get xs n ≡ Some x → p x ≡ false
any_none p [] n x none at = absurd cc
any_none p (y ∷ xs) zero x none at = let same : y ≡ x = cc in ap p (sym same) ∙ (or_neither (p y) (list_any p xs) none).0
any_none p (y ∷ xs) (suc n) x none at = any_none p xs n x (or_neither (p y) (list_any p xs) none).1 at

any_more : {A : Type 0} (p : A → Bool) (xs : List A) (x : A) → list_any p (xs ++ x ∷ []) ≡ (list_any p xs || p x)
any_more p [] x = or_false (p x)
any_more p (y ∷ xs) x = by (p y) (any_more p xs x) where
  by : (t : Bool) → list_any p (xs ++ x ∷ []) ≡ (list_any p xs || p x) → (t || list_any p (xs ++ x ∷ [])) ≡ ((t || list_any p xs) || p x)
  by true e = refl
  by false e = e

-- `ptr` is in a table where a type is `ptr`
opaque_is : (types : List IrType) → has_opaque types ≡ list_any (is_same_type type.Opaque) types
opaque_is types = is_some-position (is_same_type type.Opaque) types

not_opaque : (n : ℕ) (x : IrType) → IsInOrder false n x → is_same_type type.Opaque x ≡ false
not_opaque n type.Opaque h = absurd cc
not_opaque n type.Void h = refl
not_opaque n (type.Integer bits) h = refl
not_opaque n type.Float h = refl
not_opaque n type.Double h = refl
not_opaque n (type.Pointer part) h = refl
not_opaque n (type.Array count part) h = refl
not_opaque n type.EmptyStruct h = refl
not_opaque n (type.Struct first rest) h = refl
not_opaque n (type.Named name) h = refl

not_typed : (n : ℕ) (x : IrType) → IsInOrder true n x → is_typed_pointer x ≡ false
not_typed n (type.Pointer part) h = absurd (let no = h.0 in cc)
not_typed n type.Opaque h = refl
not_typed n type.Void h = refl
not_typed n (type.Integer bits) h = refl
not_typed n type.Float h = refl
not_typed n type.Double h = refl
not_typed n (type.Array count part) h = refl
not_typed n type.EmptyStruct h = refl
not_typed n (type.Struct first rest) h = refl
not_typed n (type.Named name) h = refl

no_opaque : (types : List IrType) → AreInOrder false types → has_opaque types ≡ false
no_opaque types h = opaque_is types ∙ none_any (is_same_type type.Opaque) types (λ n x e. not_opaque n x (h n x e))

no_typed : (types : List IrType) → AreInOrder true types → has_typed types ≡ false
no_typed types h = none_any is_typed_pointer types (λ n x e. not_typed n x (h n x e))

pub and_false : (a b : Bool) → a ≡ false → (a && b) ≡ false
and_false a b e = rw e refl

-- a table stays without `ptr` where another type comes into it
pub opaque_stays : (t : IrType) (types : List IrType) → is_same_type type.Opaque t ≡ false → has_opaque types ≡ false → has_opaque (numbered_type t types) ≡ false
opaque_stays t types other none = by (is_some (place_of_type t types)) where
  by : (b : Bool) → has_opaque (if b then types else types ++ t ∷ []) ≡ false
  by true = none
  by false = opaque_is (types ++ t ∷ []) ∙ any_more (is_same_type type.Opaque) types t ∙ ap (λ b. b || is_same_type type.Opaque t) (sym (opaque_is types) ∙ none) ∙ other

-- a type of the table's kind is no pointer of another kind
pub no_other_kind : (opaque : Bool) (n : ℕ) (t : IrType) (types : List IrType) → IsInOrder opaque n t → AreInOrder opaque types → is_other_kind t types ≡ false
no_other_kind opaque n (type.Pointer part) types h all = and_false (has_opaque types) _ (no_opaque types (subst (λ b. AreInOrder b types) h.0 all))
no_other_kind opaque n type.Opaque types h all = and_false (has_typed types) _ (no_typed types (subst (λ b. AreInOrder b types) h all))
no_other_kind opaque n type.Void types h all = refl
no_other_kind opaque n (type.Integer bits) types h all = refl
no_other_kind opaque n type.Float types h all = refl
no_other_kind opaque n type.Double types h all = refl
no_other_kind opaque n (type.Array count part) types h all = refl
no_other_kind opaque n type.EmptyStruct types h all = refl
no_other_kind opaque n (type.Struct first rest) types h all = refl
no_other_kind opaque n (type.Named name) types h all = refl

-- a table of one kind stays in order where a type of that kind comes into it
pub type_in_order : (opaque : Bool) (t : IrType) (types : List IrType) → IsInOrder opaque (length types) t → AreInOrder opaque types → AreInOrder opaque (numbered_type t types)
type_in_order opaque t types last before = by (is_some (place_of_type t types)) where
  by : (b : Bool) → AreInOrder opaque (if b then types else types ++ t ∷ [])
  by true = before
  by false = λ n x e. elim (get_either types t n x e) [
    | inl h ↦ before n x h
    | inr h ↦ subst (λ y. IsInOrder opaque n y) (sym h.1) (subst (λ k. IsInOrder opaque k t) (sym h.0) last)
  ]

-- what is to hold of a type that comes next into a table: its parts are there, and a pointer is not of another kind
abbrev pub IsNext : List IrType → IrType → Type 0
IsNext types (type.Struct first rest) = IsInOrder false (length types) (type.Struct first rest)
IsNext types (type.Array count part) = part < length types
IsNext types (type.Pointer part) = (is_other_kind (type.Pointer part) types ≡ false) × (part < length types)
IsNext types type.Opaque = is_other_kind type.Opaque types ≡ false
IsNext types _ = Unit {0}

first_false : (a b : Bool) → (a && b) ≡ false → b ≡ true → a ≡ false
first_false true b e is = absurd cc
first_false false b e is = refl

module _ (types : List IrType) where
  -- the kind of the table with a further type
  kind_more : (t : IrType) → has_opaque (types ++ t ∷ []) ≡ (has_opaque types || is_same_type type.Opaque t)
  kind_more t = opaque_is (types ++ t ∷ []) ∙ any_more (is_same_type type.Opaque) types t ∙ ap (λ b. b || is_same_type type.Opaque t) (sym (opaque_is types))

  kind_same : (t : IrType) → is_same_type type.Opaque t ≡ false → has_opaque (types ++ t ∷ []) ≡ has_opaque types
  kind_same t other = kind_more t ∙ ap (λ b. has_opaque types || b) other ∙ or_false (has_opaque types)

  -- one more type of that kind
  one_more : (opaque : Bool) (t : IrType) → IsInOrder opaque (length types) t → AreInOrder opaque types → AreInOrder opaque (types ++ t ∷ [])
  one_more opaque t last before n x e = elim (get_either types t n x e) [
    | inl h ↦ before n x h
    | inr h ↦ subst (λ y. IsInOrder opaque n y) (sym h.1) (subst (λ k. IsInOrder opaque k t) (sym h.0) last)
  ]

  -- and the table tells it
  so_ordered : (opaque : Bool) (t : IrType) → has_opaque (types ++ t ∷ []) ≡ opaque → IsInOrder opaque (length types) t → AreInOrder opaque types → AreOrdered (types ++ t ∷ [])
  so_ordered opaque t is last before = subst (λ b. AreInOrder b (types ++ t ∷ [])) (sym is) (one_more opaque t last before)

  -- types without a pointer are of either kind
  untyped : has_typed types ≡ false → AreOrdered types → AreInOrder true types
  untyped none h n x e = by x (any_none is_typed_pointer types n x none e) (h n x e) where
    by : (x : IrType) → is_typed_pointer x ≡ false → IsInOrder (has_opaque types) n x → IsInOrder true n x
    by (type.Pointer part) other own = absurd cc
    by type.Opaque other own = refl
    by type.Void other own = tt
    by (type.Integer bits) other own = tt
    by type.Float other own = tt
    by type.Double other own = tt
    by (type.Array count part) other own = own
    by type.EmptyStruct other own = tt
    by (type.Struct first rest) other own = own
    by (type.Named name) other own = tt

  new_ordered : (t : IrType) → is_none (place_of_type t types) ≡ true → IsNext types t → AreOrdered types → AreOrdered (types ++ t ∷ [])
  new_ordered (type.Pointer part) new next h =
      let none = first_false (has_opaque types) (is_none (place_of_type (type.Pointer part) types)) next.0 new in
      so_ordered false (type.Pointer part) (kind_same (type.Pointer part) refl ∙ none) (refl, next.1) (subst (λ b. AreInOrder b types) none h)
  new_ordered type.Opaque new next h =
      let none = first_false (has_typed types) (is_none (place_of_type type.Opaque types)) next new in
      so_ordered true type.Opaque (kind_more type.Opaque ∙ or_true (has_opaque types)) refl (untyped none h) where
        or_true : (b : Bool) → (b || true) ≡ true
        or_true true = refl
        or_true false = refl
  new_ordered type.Void new next h = so_ordered (has_opaque types) type.Void (kind_same type.Void refl) tt h
  new_ordered (type.Integer bits) new next h = so_ordered (has_opaque types) (type.Integer bits) (kind_same (type.Integer bits) refl) tt h
  new_ordered type.Float new next h = so_ordered (has_opaque types) type.Float (kind_same type.Float refl) tt h
  new_ordered type.Double new next h = so_ordered (has_opaque types) type.Double (kind_same type.Double refl) tt h
  new_ordered (type.Array count part) new next h = so_ordered (has_opaque types) (type.Array count part) (kind_same (type.Array count part) refl) next h
  new_ordered type.EmptyStruct new next h = so_ordered (has_opaque types) type.EmptyStruct (kind_same type.EmptyStruct refl) tt h
  new_ordered (type.Struct first rest) new next h = so_ordered (has_opaque types) (type.Struct first rest) (kind_same (type.Struct first rest) refl) next h
  new_ordered (type.Named name) new next h = so_ordered (has_opaque types) (type.Named name) (kind_same (type.Named name) refl) tt h

-- the table stays in order
pub type_ordered : (t : IrType) (types : List IrType) → IsNext types t → AreOrdered types → AreOrdered (numbered_type t types)
type_ordered t types next h = by (place_of_type t types) refl where
  by : (place : Option ℕ) → place_of_type t types ≡ place → AreOrdered (if is_some place then types else types ++ t ∷ [])
  by (Some n) e = h
  by None e = new_ordered types t (ap is_none e) next h

-- a longer table in which all pointers are of one kind
abbrev pub IsLonger : List IrType → List IrType → Type 0
IsLonger types more = Begins types more × AreOrdered more

-- a type that may be written, in another table that has it
pub written_in : (types : List IrType) (names : _) (wide opaque : Bool) (structs : _) (shape : Shape) (n : ℕ) → AreOrdered types → HasShape types names shape n → IsWritten wide opaque structs shape → IsWritten wide (has_opaque types) structs shape
written_in types names wide opaque structs (Integer bits) n order has h = h
written_in types names wide opaque structs (Float t) n order has h = h
written_in types names wide opaque structs (Pointer part) n order has h = ((order n (type.Pointer has.0) has.1).0, written_in types names wide opaque structs part has.0 order has.2 h.1)
written_in types names wide opaque structs (Array count part) n order has h = (h.0, written_in types names wide opaque structs part has.0 order has.2 h.1)
written_in types names wide opaque structs Empty n order has h = tt
written_in types names wide opaque structs (Struct first rest) n order has h =
    (h.0, written_in types names wide opaque structs first has.0 order has.4 h.1, written_in types names wide opaque structs rest has.1 order has.5 h.2)
written_in types names wide opaque structs (Named name) n order has h = h
written_in types names wide opaque structs Opaque n order has h = order n type.Opaque has
