-- Where a type is stays as types are added, and a new one is at the end.
use Rattle.std.proofs.Common.{◌≡◌, ℕ, Bool, true, List, [], ◌∷◌, ◌++◌, length, position, None, Some, refl, arith}
use Rattle.std.proofs.lemmas.Grind.{common_steps}
use Rattle.ir_ast.specs.declared.ir_type.IrType.{IrType}
use Rattle.ir_ast.specs.declared.ir_type.IrType.TheVariants.{Void, Integer, Float, Double, Pointer, Opaque, Array, EmptyStruct, Struct, Named}
use Rattle.ir_ast.specs.Types.{is_same_type, place_of_type}
use Rattle.ir_ast.specs.Places.{place_is_end}
use Rattle.lemmas.specs.Numbers.{test_same}

module _ {X : Type 0} (p : X → Bool) where
  pub stays : (xs : List X) (y : X) (n : ℕ) → position p xs ≡ Some n → position p (xs ++ y ∷ []) ≡ Some n
  stays xs y n e = grind (arith, common_steps)

  pub here : (xs : List X) (y : X) → position p xs ≡ None → p y ≡ true → position p (xs ++ y ∷ []) ≡ Some (length xs)
  here xs y none e = let end = place_is_end p xs none in grind (arith, common_steps)

itself : (t : IrType) → is_same_type t t ≡ true
itself Void = refl
itself (Integer bits) = test_same bits
itself Float = refl
itself Double = refl
itself (Pointer part) = test_same part
itself Opaque = refl
itself (Array length part) = rw (test_same length, test_same part) refl
itself EmptyStruct = refl
itself (Struct first rest) = rw (test_same first, test_same rest) refl
itself (Named name) = test_same name

pub type_stays : (t written : IrType) (types : List IrType) (n : ℕ) → place_of_type t types ≡ Some n → place_of_type t (types ++ written ∷ []) ≡ Some n
type_stays t written types n e = stays (is_same_type t) types written n e

pub type_here : (written : IrType) (types : List IrType) → place_of_type written types ≡ None → place_of_type written (types ++ written ∷ []) ≡ Some (length types)
type_here written types none = here (is_same_type written) types written none (itself written)
