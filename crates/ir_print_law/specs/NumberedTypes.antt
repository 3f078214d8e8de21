-- A table of types in which one more is numbered.
use Rattle.std.proofs.Common.{◌≡◌, ℕ, ◌+◌, ◌≤◌, Bool, true, false, List, [], ◌∷◌, ◌++◌, length, slice_get, is_some, unwrap_or, if◌then◌else◌, Option, None, Some, refl, arith, length-append}
use Rattle.lemmas.specs.Lists.{get_end}
use Rattle.ir_ast.specs.Types.{place_of_type, number_of_type, numbered_type}
use Rattle.ir_ast.specs.TypePlaces.{stands}
use Rattle.ir_ast.specs.declared.ir_type.IrType.{IrType}

-- the type is at its number
pub type_there : (t : IrType) (types : List IrType) → slice_get (numbered_type t types) (number_of_type t types) ≡ Some t
type_there t types = by (place_of_type t types) refl where
  by : (place : Option ℕ) → place_of_type t types ≡ place → slice_get (if is_some place then types else types ++ t ∷ []) (unwrap_or place (length types)) ≡ Some t
  by None e = get_end types t
  by (Some n) e = stands t types n e

-- one type comes at most
pub type_length : (t : IrType) (types : List IrType) → length (numbered_type t types) ≤ length types + 1
type_length t types = by (is_some (place_of_type t types)) where
  by : (b : Bool) → length (if b then types else types ++ t ∷ []) ≤ length types + 1
  by true = omega arith
  by false = let e = length-append types (t ∷ []) in omega (arith, e)
