-- The table of types with `ptr` for each pointer, type by type.
use Rattle.std.proofs.Common.{◌≡◌, ◌<◌, ◌≤◌, ◌+◌, ℕ, zero, suc, Bool, true, false, List, [], ◌∷◌, ◌++◌, length, slice_get, unwrap_or, is_some, if◌then◌else◌, Option, None, Some, inl, inr, refl, sym, ap, ◌∙◌, subst, arith, length-append, append_assoc}
use Rattle.std.proofs.lemmas.Option.{slice_get_within}
use Rattle.std.proofs.lemmas.List.{append-nil}
use Rattle.lemmas.specs.Lists.{get_end, get_front, get_either, get_some}
use Rattle.ir_ast.specs.Types.{place_of_type, number_of_type, numbered_type}
use Rattle.ir_ast.specs.declared.ir_type.IrType.{IrType}
use Rattle.ir_ast.specs.declared.ir_type.IrType.TheVariants as type
use Rattle.ir_print_law.specs.NumberedTypes.{type_there, type_length}
use Rattle.migration_law.specs.PartsBefore.{ComesAfterParts}
use Rattle.copies.specs.Opaque.{Renumbered, new_number, opaque_type, opaque_types, with_type, with_types}

-- ---- a table in which one type is numbered

type_stays : (t : IrType) (types : List IrType) (n : ℕ) (x : IrType) → slice_get types n ≡ Some x → slice_get (numbered_type t types) n ≡ Some x
type_stays t types n x e = by (is_some (place_of_type t types)) where
  by : (b : Bool) → slice_get (if b then types else types ++ t ∷ []) n ≡ Some x
  by true = e
  by false = get_front types (t ∷ []) n x e

-- ---- the fold

-- the new type of a type: its own form, with some numbers of its parts
abbrev pub IsOpaqueOf : IrType → Option IrType → Type 0
IsOpaqueOf t found = (parts : List ℕ) × (found ≡ Some (opaque_type parts t))

-- the same of the type with this number, whose parts have the numbers that the types before it got
abbrev IsOpaqueAt : (numbers : List ℕ) → (n : ℕ) → IrType → Option IrType → Type 0
IsOpaqueAt numbers n t found = (parts : List ℕ) × (more : List ℕ) × (length parts ≡ n) × (numbers ≡ parts ++ more) × (found ≡ Some (opaque_type parts t))

-- these types are renumbered so far
record AreRenumbered (done : List IrType) (r : Renumbered) : Type 0 where
  as_many : length r.numbers ≡ length done
  few : length r.types ≤ length done
  each : (n : ℕ) (t : IrType) → slice_get done n ≡ Some t → IsOpaqueAt r.numbers n t (slice_get r.types (new_number r.numbers n))

number_stays : (numbers : List ℕ) (last n : ℕ) → n < length numbers → new_number (numbers ++ last ∷ []) n ≡ new_number numbers n
number_stays numbers last n h =
    let k = get_some numbers n h in
    let after = get_front numbers (last ∷ []) n k.0 k.1 in
    ap (λ o. unwrap_or o n) after ∙ sym (ap (λ o. unwrap_or o n) k.1)

number_last : (numbers : List ℕ) (last n : ℕ) → n ≡ length numbers → new_number (numbers ++ last ∷ []) n ≡ last
number_last numbers last n e = subst (λ k. new_number (numbers ++ last ∷ []) k ≡ last) (sym e) (ap (λ o. unwrap_or o (length numbers)) (get_end numbers last))

one_more : (done : List IrType) (t : IrType) (r : Renumbered) → AreRenumbered done r → AreRenumbered (done ++ t ∷ []) (with_type t r)
one_more done t r h =
    let made = opaque_type r.numbers t in
    let number = number_of_type made r.types in
    record {
      as_many = (let a = length-append r.numbers (number ∷ []) in let b = length-append done (t ∷ []) in let c = h.as_many in omega (arith, a, b, c));
      few = (let a = type_length made r.types in let b = length-append done (t ∷ []) in let c = h.few in omega (arith, a, b, c));
      each = λ n u at. elim (get_either done t n u at) [
        | inl before ↦ (
            let old = h.each n u before in
            let within : n < length r.numbers = (let w = slice_get_within done n u before in let c = h.as_many in omega (arith, w, c)) in
            let same = number_stays r.numbers number n within in (
              old.0,
              old.1 ++ number ∷ [],
              old.2,
              ap (λ l. l ++ number ∷ []) old.3 ∙ append_assoc old.0 old.1 (number ∷ []),
              ap (λ k. slice_get (numbered_type made r.types) k) same ∙ type_stays made r.types (new_number r.numbers n) (opaque_type old.0 u) old.4,
            ))
        | inr last ↦ (
            let here : n ≡ length r.numbers = last.0 ∙ sym h.as_many in
            let same = number_last r.numbers number n here in (
              r.numbers,
              number ∷ [],
              sym here,
              refl,
              ap (λ k. slice_get (numbered_type made r.types) k) same ∙ type_there made r.types ∙ ap (λ x. Some (opaque_type r.numbers x)) (sym last.1),
            ))
      ];
    }

all_more : (more done : List IrType) (r : Renumbered) → AreRenumbered done r → AreRenumbered (done ++ more) (with_types more r)
all_more [] done r h = subst (λ x. AreRenumbered x r) (sym (append-nil done)) h
all_more (t ∷ more) done r h = subst (λ x. AreRenumbered x (with_types more (with_type t r))) (append_assoc done (t ∷ []) more) (all_more more (done ++ t ∷ []) (with_type t r) (one_more done t r h))

none_yet : AreRenumbered [] (record { types = []; numbers = [] })
none_yet = record { as_many = refl; few = omega arith; each = λ n t at. absurd cc }

all_types : (types : List IrType) → AreRenumbered types (opaque_types types)
all_types types = all_more types [] (record { types = []; numbers = [] }) none_yet

-- ---- a type by its number

-- a type of the table
pub type_after : (types : List IrType) (n : ℕ) (t : IrType) → slice_get types n ≡ Some t → IsOpaqueOf t (slice_get (opaque_types types).types (new_number (opaque_types types).numbers n))
type_after types n t at = let h = (all_types types).each n t at in (h.0, h.4)

-- the numbers of the types before a place are the same later on
numbers_stay : (parts more : List ℕ) (k : ℕ) → k < length parts → new_number (parts ++ more) k ≡ new_number parts k
numbers_stay parts more k less =
    let here = get_some parts k less in
    ap (λ o. unwrap_or o k) (get_front parts more k here.0 here.1) ∙ sym (ap (λ o. unwrap_or o k) here.1)

-- a type of the table whose parts come before it: its own form, with the new numbers of its parts
pub type_in_order : (types : List IrType) (n : ℕ) (t : IrType) → slice_get types n ≡ Some t → ComesAfterParts n t
    → slice_get (opaque_types types).types (new_number (opaque_types types).numbers n) ≡ Some (opaque_type (opaque_types types).numbers t)
type_in_order types n t at order = h.4 ∙ ap Some (by t order) where
  h : IsOpaqueAt (opaque_types types).numbers n t (slice_get (opaque_types types).types (new_number (opaque_types types).numbers n))
  h = (all_types types).each n t at

  number : (k : ℕ) → k < n → new_number h.0 k ≡ new_number (opaque_types types).numbers k
  number k less = let many = h.2 in sym (ap (λ l. new_number l k) h.3 ∙ numbers_stay h.0 h.1 k (omega (arith, less, many)))

  by : (t : IrType) → ComesAfterParts n t → opaque_type h.0 t ≡ opaque_type (opaque_types types).numbers t
  by type.Void order = refl
  by (type.Integer bits) order = refl
  by type.Float order = refl
  by type.Double order = refl
  by (type.Pointer part) order = refl
  by type.Opaque order = refl
  by (type.Array length part) order = ap (type.Array length) (number part order)
  by type.EmptyStruct order = refl
  by (type.Struct first rest) order = ap (λ k. type.Struct k (new_number h.0 rest)) (number first order.0) ∙ ap (type.Struct (new_number (opaque_types types).numbers first)) (number rest order.1)
  by (type.Named name) order = refl

outside : {A : Type 0} (xs : List A) (n : ℕ) → length xs ≤ n → slice_get xs n ≡ None
outside {A = A} xs n h = by (slice_get xs n) refl where
  by : (o : Option A) → slice_get xs n ≡ o → o ≡ None
  by None e = refl
  by (Some x) e = absurd (let w = slice_get_within xs n x e in omega (arith, w, h))

beyond : {A : Type 0} (xs : List A) (n : ℕ) → slice_get xs n ≡ None → length xs ≤ n
beyond [] n e = omega arith
beyond (x ∷ xs) zero e = absurd cc
beyond (x ∷ xs) (suc n) e = let h = beyond xs n e in omega (arith, h)

-- no type of the table
pub none_after : (types : List IrType) (n : ℕ) → slice_get types n ≡ None → slice_get (opaque_types types).types (new_number (opaque_types types).numbers n) ≡ None
none_after types n e =
    let all = all_types types in
    let far = beyond types n e in
    let same : new_number (opaque_types types).numbers n ≡ n = ap (λ o. unwrap_or o n) (outside (opaque_types types).numbers n (let a = all.as_many in omega (arith, far, a))) in
    ap (λ k. slice_get (opaque_types types).types k) same ∙ outside (opaque_types types).types n (let f = all.few in omega (arith, far, f))
