-- Operations on floating point numbers: what they ask, and what kind of number they give. A floating point number is a number of its bits.
use Rattle.std.specs.Prelude.{ℕ, Bool, ◌&&◌, List, [], ◌∷◌}
use Rattle.ir_ast.specs.declared.floats.FloatOp.{FloatOp}
use Rattle.ir_ast.specs.declared.floats.FloatOp.TheVariants as float
use Rattle.ir_ast.specs.declared.function.Function.{Function}
use Rattle.ir_ast.specs.declared.module.Module.{Module}
use Rattle.ir_ast.specs.declared.operand.Operand.{Operand}
use Rattle.shadow_stack.specs.Slots.{SlotTable}
use Rattle.facts.specs.Facts.{FactSet}
use Rattle.block_rules.specs.declared.instr_context.InstrContext.{InstrContext}
use Rattle.block_rules.specs.declared.rule.Rule.{Rule}
use Rattle.block_rules.specs.declared.rule.Rule.TheVariants.{K1, K2, K10, K12}
use Rattle.type_kinds.specs.declared.type_kind.TypeKind.{TypeKind}
use Rattle.type_kinds.specs.declared.type_kind.TypeKind.TheVariants.{Bits}
use Rattle.block_rules.specs.Operands.{is_available, is_value, is_no_slot}
use Rattle.type_kinds.specs.TypeKinds.{kind_of, is_integer}

-- K2: an operand is a value of a type of numbers
abbrev pub is_number_of : Module → Function → SlotTable → FactSet → (written : ℕ) → Operand → Bool
is_number_of m f slots facts written operand = is_value m f slots facts written operand && is_integer (kind_of m written)

-- of an operation on one number
abbrev pub one_number : Module → Function → SlotTable → InstrContext → FactSet → (written : ℕ) → Operand → List (Rule × Bool)
one_number m f slots here facts written operand =
    (K1, is_available slots facts operand)
    ∷ (K2, is_number_of m f slots facts written operand)
    ∷ (K10, is_no_slot slots operand)
    ∷ (K12, here.may_move_references) ∷ []

-- of an operation on two numbers of one type
abbrev pub two_numbers : Module → Function → SlotTable → InstrContext → FactSet → (written : ℕ) → (first second : Operand) → List (Rule × Bool)
two_numbers m f slots here facts written first second =
    (K1, is_available slots facts first && is_available slots facts second)
    ∷ (K2, is_number_of m f slots facts written first && is_number_of m f slots facts written second)
    ∷ (K10, is_no_slot slots first && is_no_slot slots second)
    ∷ (K12, here.may_move_references) ∷ []

-- of a number that becomes one of another type
abbrev pub converted_number : Module → Function → SlotTable → InstrContext → FactSet → (from : ℕ) → Operand → (to : ℕ) → List (Rule × Bool)
converted_number m f slots here facts from operand to =
    (K1, is_available slots facts operand)
    ∷ (K2, is_number_of m f slots facts from operand && is_integer (kind_of m to))
    ∷ (K10, is_no_slot slots operand)
    ∷ (K12, here.may_move_references) ∷ []

-- of an operation on floating point numbers
abbrev pub float_conditions : Module → Function → SlotTable → InstrContext → FactSet → FloatOp → List (Rule × Bool)
float_conditions m f slots here facts (float.Arithmetic kind written first second) = two_numbers m f slots here facts written first second
float_conditions m f slots here facts (float.Negate written operand) = one_number m f slots here facts written operand
float_conditions m f slots here facts (float.Compare kind written first second) = two_numbers m f slots here facts written first second
float_conditions m f slots here facts (float.Convert kind from operand to) = converted_number m f slots here facts from operand to

-- what kind of number an operation on floating point numbers gives
abbrev pub float_kind : Module → FloatOp → TypeKind
float_kind m (float.Arithmetic kind written first second) = kind_of m written
float_kind m (float.Negate written operand) = kind_of m written
float_kind m (float.Compare kind written first second) = Bits 1
float_kind m (float.Convert kind from operand to) = kind_of m to
