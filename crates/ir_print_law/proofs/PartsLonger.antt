-- Numbers of operands that are within the tables of a module are within those of one that has no fewer types, and whose names mean what they mean there.
use Rattle.std.proofs.Common.{ℕ, ◌≤◌, List, length, arith, inl, inr}
use Rattle.std.specs.List.{AllByRecursion}
use Rattle.lemmas.specs.All.{all_so}
use Rattle.ir_ast.specs.declared.argument.Argument.{Argument}
use Rattle.ir_ast.specs.declared.function.Function.{Function}
use Rattle.ir_ast.specs.declared.module.Module.{Module}
use Rattle.ir_ast.specs.declared.operand.Operand.{Operand}
use Rattle.ir_ast.specs.declared.operand.Operand.TheVariants as operand
use Rattle.ir_print_law.specs.PartsWithin.{HasType, HasSymbol, HasGlobal, HasFunction, HasAddress, IsOperandWithin, IsArgumentWithin, ArePairWithin, IsConvertedWithin}

-- Whatever is the name of something in the first module is so in the second.
pub record MeansAsMuch (m n : Module) : Type 0 where
  pub symbols : (symbol : ℕ) → HasSymbol m symbol → HasSymbol n symbol
  pub globals : (symbol : ℕ) → HasGlobal m symbol → HasGlobal n symbol
  pub functions : (symbol : ℕ) → HasFunction m symbol → HasFunction n symbol

module _ (m n : Module) (types : length m.types ≤ length n.types) (names : MeansAsMuch m n) where
  pub type_longer : (t : ℕ) → HasType m t → HasType n t
  type_longer t h = omega (arith, types, h)

  address_longer : (symbol : ℕ) → HasAddress m symbol → HasAddress n symbol
  address_longer symbol (inl h) = inl (names.globals symbol h)
  address_longer symbol (inr h) = inr (names.functions symbol h)

  module _ (f : Function) where
    pub operand_longer : (x : Operand) → IsOperandWithin m f x → IsOperandWithin n f x
    operand_longer (operand.Constant x) h = tt
    operand_longer (operand.Local value) h = h
    operand_longer (operand.Global symbol) h = address_longer symbol h
    operand_longer (operand.CastGlobal from symbol to) h = (type_longer from h.0, address_longer symbol h.1, type_longer to h.2)

    pub argument_longer : (x : Argument) → IsArgumentWithin m f x → IsArgumentWithin n f x
    argument_longer x h = (type_longer x.written h.0, operand_longer x.operand h.1)

    pub arguments_longer : (xs : List Argument) → AllByRecursion (IsArgumentWithin m f) xs → AllByRecursion (IsArgumentWithin n f) xs
    arguments_longer xs h = all_so (IsArgumentWithin m f) (IsArgumentWithin n f) xs argument_longer h

    pub pair_longer : (t : ℕ) (x y : Operand) → ArePairWithin m f t x y → ArePairWithin n f t x y
    pair_longer t x y h = (type_longer t h.0, operand_longer x h.1, operand_longer y h.2)

    pub converted_longer : (from : ℕ) (x : Operand) (to : ℕ) → IsConvertedWithin m f from x to → IsConvertedWithin n f from x to
    converted_longer from x to h = (type_longer from h.0, operand_longer x h.1, type_longer to h.2)
