-- What the names of a function mean.
use Rattle.std.specs.Prelude.{◌≡◌, ℕ, ◌<◌, ◌^◌, length, Some, ◌⊎◌, slice_get}
use Rattle.std.specs.Fmt.{decimal}
use Rattle.ir_ast.specs.LocalKeys.{key_of_name}
use Rattle.ir_ast.specs.Names.{place_of}
use Rattle.ir_ast.specs.declared.block.Block.{Block}
use Rattle.ir_ast.specs.declared.function.Function.{Function}
use Rattle.ir_ast.specs.declared.function.LocalSort.{LocalSort}
use Rattle.ir_ast.specs.declared.function.LocalSort.TheVariants as local
use Rattle.ir_ast.specs.declared.function.Parameter.{Parameter}
use Rattle.ir_tokens.specs.Bytes.{Text}
use Rattle.name_text.specs.Readings.{AreBytes}

-- the key of a name
abbrev pub IsKeyOfName : Text → Type 0
IsKeyOfName key = (name : Text) × AreBytes name × (key ≡ key_of_name name)

-- the key of a value or a block without a name
abbrev pub IsKeyOfNumber : Text → Type 0
IsKeyOfNumber key = (number : ℕ) × (number < 2 ^ 32) × (key ≡ decimal number)

-- Each key is at its first place, and what has a sort has a key. Parameters are the first values. A block's label means that block.
pub record HasNames (f : Function) : Type 0 where
  pub keys : (number : ℕ) (key : Text) → slice_get f.locals number ≡ Some key → (IsKeyOfName key ⊎ IsKeyOfNumber key) × (place_of key f.locals ≡ Some number)
  pub values : (value : ℕ) (sort : LocalSort) → slice_get f.sorts value ≡ Some sort → value < length f.locals
  pub parameters : (place : ℕ) (parameter : Parameter) → slice_get f.parameters place ≡ Some parameter → parameter.value ≡ place
  pub labels : (number : ℕ) (block : Block) → slice_get f.blocks number ≡ Some block → (block.label < length f.locals) × (slice_get f.sorts block.label ≡ Some (local.Block number))
