-- Parts of instructions that are those of another module again: names, types, operands.
use Rattle.std.specs.Prelude.{◌≡◌, ℕ, List, [], ◌∷◌, Some, ◌⊎◌, slice_get}
use Rattle.ir_ast.specs.declared.argument.Argument.{Argument}
use Rattle.ir_ast.specs.declared.module.Module.{Module}
use Rattle.ir_ast.specs.declared.operand.Operand.{Operand}
use Rattle.ir_ast.specs.declared.operand.Operand.TheVariants as operand
use Rattle.ir_tokens.specs.Bytes.{Text}
use Rattle.ir_print.specs.Names.{name_at}
use Rattle.ir_print_law.specs.Shapes.{Shape, HasShape}
use Rattle.ir_print_law.specs.Parts.{IsVoid}

-- two lists of one length, the elements at each place alike
abbrev pub AreAlike : {A B : Type 0} → (A → B → Type 0) → List A → List B → Type 0
AreAlike Alike [] [] = Unit {0}
AreAlike Alike (x ∷ xs) (y ∷ ys) = Alike x y × AreAlike Alike xs ys
AreAlike Alike _ _ = ⊥

-- ---- names and types

-- the second table has at its number the name that has this number in the first
abbrev pub IsNameAgain : (names others : List Text) → (number other : ℕ) → Type 0
IsNameAgain names others number other = slice_get others other ≡ Some (name_at names number)

-- the types with these numbers have one shape
abbrev pub IsTypeAgain : (m n : Module) → (written other : ℕ) → Type 0
IsTypeAgain m n written other = (shape : Shape) × HasShape m.types m.struct_names shape written × HasShape n.types n.struct_names shape other

-- both are `void`, or they are types of one shape
abbrev pub IsResultAgain : (m n : Module) → (returned other : ℕ) → Type 0
IsResultAgain m n returned other = (IsVoid m returned × IsVoid n other) ⊎ IsTypeAgain m n returned other

-- ---- parts of instructions

-- Two modules, and the names of a function in each.
module _ (m n : Module) (locals others : List Text) where
  -- what instructions read: one constant, one name, or one bitcast of a global
  abbrev pub IsOperandAgain : Operand → Operand → Type 0
  IsOperandAgain (operand.Constant x) (operand.Constant y) = x ≡ y
  IsOperandAgain (operand.Local x) (operand.Local y) = IsNameAgain locals others x y
  IsOperandAgain (operand.Global x) (operand.Global y) = IsNameAgain m.symbols n.symbols x y
  IsOperandAgain (operand.CastGlobal t x to) (operand.CastGlobal u y into) = IsTypeAgain m n t u × IsNameAgain m.symbols n.symbols x y × IsTypeAgain m n to into
  IsOperandAgain _ _ = ⊥

  -- operands with their types
  abbrev pub IsArgumentAgain : Argument → Argument → Type 0
  IsArgumentAgain x y = IsTypeAgain m n x.written y.written × IsOperandAgain x.operand y.operand

  -- two operands of one type
  abbrev pub ArePairAgain : (t : ℕ) → (a b : Operand) → (u : ℕ) → (x y : Operand) → Type 0
  ArePairAgain t a b u x y = IsTypeAgain m n t u × IsOperandAgain a x × IsOperandAgain b y
