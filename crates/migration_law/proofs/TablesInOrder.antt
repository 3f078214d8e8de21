-- In the table of types of an opaque text the further fields of a struct come before it.
use Rattle.std.proofs.Common.{◌≡◌, ◌<◌, ◌≤◌, ◌+◌, ℕ, suc, List, [], ◌∷◌, ◌++◌, length, slice_get, unwrap_or, is_some, if◌then◌else◌, Option, None, Some, inl, inr, refl, sym, ap, subst, arith, length-append, append_assoc}
use Rattle.std.proofs.lemmas.Option.{slice_get_within}
use Rattle.std.proofs.lemmas.List.{append-nil}
use Rattle.lemmas.specs.Lists.{get_either, get_some}
use Rattle.ir_ast.specs.Types.{place_of_type, number_of_type, numbered_type}
use Rattle.ir_ast.specs.declared.ir_type.IrType.{IrType}
use Rattle.ir_ast.specs.declared.ir_type.IrType.TheVariants as type
use Rattle.ir_print_law.specs.NumberedTypes.{type_there}
use Rattle.migration_law.specs.PartsBefore.{ArePartsBefore, ComesAfterParts}
use Rattle.copies.specs.Opaque.{Renumbered, new_number, opaque_type, opaque_types, with_type, with_types}
use Rattle.migration_law.proofs.Tables.{type_in_order}

-- the types that were renumbered so far have numbers in the new table, in which the rest of each struct is before it
record AreInOrder (done : List IrType) (r : Renumbered) : Type 0 where
  as_many : length r.numbers ≡ length done
  within : (k number : ℕ) → slice_get r.numbers k ≡ Some number → number < length r.types
  rests : (place first rest : ℕ) → slice_get r.types place ≡ Some (type.Struct first rest) → rest < place

longer : (t : IrType) (types : List IrType) → length types ≤ length (numbered_type t types)
longer t types = by (place_of_type t types) where
  by : (place : Option ℕ) → length types ≤ length (if is_some place then types else types ++ t ∷ [])
  by None = let e = length-append types (t ∷ []) in omega (arith, e)
  by (Some n) = omega arith

module _ (done : List IrType) (t : IrType) (r : Renumbered) (h : AreInOrder done r) (order : ComesAfterParts (length done) t) where
  number_within : (k : ℕ) → k < length done → new_number r.numbers k < length r.types
  number_within k less =
      let many = h.as_many in
      let here = get_some r.numbers k (omega (arith, less, many)) in
      subst (λ x. x < length r.types) (sym (ap (λ o. unwrap_or o k) here.1)) (h.within k here.0 here.1)

  -- the rest of a struct that comes next is in the table
  next_rest : (t : IrType) → ComesAfterParts (length done) t → (first rest : ℕ) → opaque_type r.numbers t ≡ type.Struct first rest → rest < length r.types
  next_rest type.Void order first rest e = absurd cc
  next_rest (type.Integer bits) order first rest e = absurd cc
  next_rest type.Float order first rest e = absurd cc
  next_rest type.Double order first rest e = absurd cc
  next_rest (type.Pointer part) order first rest e = absurd cc
  next_rest type.Opaque order first rest e = absurd cc
  next_rest (type.Array count part) order first rest e = absurd cc
  next_rest type.EmptyStruct order first rest e = absurd cc
  next_rest (type.Struct a b) order first rest e = let same : new_number r.numbers b ≡ rest = cc in subst (λ x. x < length r.types) same (number_within b order.1)
  next_rest (type.Named name) order first rest e = absurd cc

  next_rests : (place first rest : ℕ) → slice_get (numbered_type (opaque_type r.numbers t) r.types) place ≡ Some (type.Struct first rest) → rest < place
  next_rests place first rest = by (place_of_type made r.types) where
    made : IrType
    made = opaque_type r.numbers t

    by : (found : Option ℕ) → slice_get (if is_some found then r.types else r.types ++ opaque_type r.numbers t ∷ []) place ≡ Some (type.Struct first rest) → rest < place
    by (Some n) at = h.rests place first rest at
    by None at = elim (get_either r.types (opaque_type r.numbers t) place (type.Struct first rest) at) [
      | inl old ↦ h.rests place first rest old
      | inr new ↦ subst (λ x. rest < x) (sym new.0) (next_rest t order first rest (sym new.1))
    ]

  one_more : AreInOrder (done ++ t ∷ []) (with_type t r)
  one_more =
      let made = opaque_type r.numbers t in
      let number = number_of_type made r.types in
      let grown = longer made r.types in
      record {
        as_many = (let a = length-append r.numbers (number ∷ []) in let b = length-append done (t ∷ []) in let c = h.as_many in omega (arith, a, b, c));
        within = λ k x at. elim (get_either r.numbers number k x at) [
          | inl old ↦ (let less = h.within k x old in omega (arith, less, grown))
          | inr new ↦ subst (λ y. y < length (numbered_type made r.types)) (sym new.1) (slice_get_within (numbered_type made r.types) number made (type_there made r.types))
        ];
        rests = next_rests;
      }

all_more : (more done : List IrType) (r : Renumbered) → AreInOrder done r → ((i : ℕ) (t : IrType) → slice_get more i ≡ Some t → ComesAfterParts (length done + i) t) → AreInOrder (done ++ more) (with_types more r)
all_more [] done r h order = subst (λ x. AreInOrder x r) (sym (append-nil done)) h
all_more (t ∷ more) done r h order =
    let z : length done + 0 ≡ length done = omega arith in
    let here : ComesAfterParts (length done) t = subst (λ k. ComesAfterParts k t) z (order 0 t refl) in
    subst (λ x. AreInOrder x (with_types more (with_type t r))) (append_assoc done (t ∷ []) more)
    (all_more more (done ++ t ∷ []) (with_type t r) (one_more done t r h here)
    (λ i u at. let e = length-append done (t ∷ []) in let next : length done + suc i ≡ length (done ++ t ∷ []) + i = omega (arith, e) in subst (λ k. ComesAfterParts k u) next (order (suc i) u at)))

all_types : (types : List IrType) → ArePartsBefore types → AreInOrder types (opaque_types types)
all_types types ordered =
    all_more types [] (record { types = []; numbers = [] }) (record { as_many = refl; within = λ k number at. absurd cc; rests = λ place first rest at. absurd cc })
    (λ i t at. let z : i ≡ 0 + i = omega arith in subst (λ k. ComesAfterParts k t) z (ordered i t at))

-- the new number of a struct's further fields is before that of the struct
pub rest_before : (types : List IrType) → ArePartsBefore types → (n first rest : ℕ) → slice_get types n ≡ Some (type.Struct first rest)
    → new_number (opaque_types types).numbers rest < new_number (opaque_types types).numbers n
rest_before types ordered n first rest at =
    let numbers = (opaque_types types).numbers in
    let there = type_in_order types n (type.Struct first rest) at (ordered n (type.Struct first rest) at) in
    (all_types types ordered).rests (new_number numbers n) (new_number numbers first) (new_number numbers rest) there
