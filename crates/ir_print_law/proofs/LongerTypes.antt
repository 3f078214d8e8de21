-- Types and operands that are printable in a module are so where the module has more types, and other functions of the same names.
use Rattle.std.proofs.Common.{◌≡◌, ℕ, List, slice_get, Some, inl, inr, sym, ◌∙◌}
use Rattle.ir_ast.specs.declared.argument.Argument.{Argument}
use Rattle.ir_ast.specs.declared.choices.Incoming.{Incoming}
use Rattle.ir_ast.specs.declared.function.Function.{Function}
use Rattle.ir_ast.specs.declared.ir_type.IrType.{IrType}
use Rattle.ir_ast.specs.declared.ir_type.IrType.TheVariants as type
use Rattle.ir_ast.specs.declared.module.Module.{Module}
use Rattle.ir_ast.specs.declared.operand.Operand.{Operand}
use Rattle.ir_ast.specs.declared.operand.Operand.TheVariants as operand
use Rattle.ir_forms.specs.Written.{has_opaque}
use Rattle.ir_forms.specs.declared.written.Word.{Word}
use Rattle.ir_forms.specs.declared.written.Word.TheVariants as sort
use Rattle.ir_print_law.specs.Definitions.{defined_functions, defined_structs}
use Rattle.ir_print_law.specs.Parts.{word_of_type, IsType, IsScalar, IsPointer, IsVoid, IsPlaceType, IsOperand, IsArgument, IsCondition, ArePair, IsConverted, IsReturned}
use Rattle.ir_print_law.specs.Printable.{IsIncoming}
use Rattle.ir_print_law.specs.Shapes.{Shape, word_of_shape}
use Rattle.ir_print_law.proofs.Shown.{shape_stays, word_told}
use Rattle.ir_print_law.proofs.OneKind.{IsLonger, written_in}
use Rattle.ir_print_law.proofs.Tables.{begins_itself, stays}

-- a module with these types and these functions
abbrev pub with_types : Module → List IrType → List Function → Module
with_types m types functions = record m { types = types; functions = functions }

module _ (m : Module) (types : List IrType) (fs : List Function) (more : IsLonger m.types types) (same : defined_functions (with_types m types fs) ≡ defined_functions m) where
  abbrev longer : Module
  longer = with_types m types fs

  -- ---- types

  pub type_again : (shape : Shape) (t : ℕ) → IsType m shape t → IsType longer shape t
  type_again shape t h =
      let has = shape_stays m.types types m.struct_names m.struct_names shape t more.0 (begins_itself m.struct_names) h.0 in
      (has, h.1, written_in types m.struct_names m.wide (has_opaque m.types) (defined_structs m) shape t more.1 has h.2)

  pub scalar_again : (shape : Shape) (t : ℕ) → IsScalar m shape t → IsScalar longer shape t
  scalar_again shape t h = (type_again shape t h.0, h.1)

  pub pointer_again : (t : ℕ) → IsPointer m t → IsPointer longer t
  pointer_again t h = (h.0, type_again h.0 t h.1, h.2)

  -- the word that a type is stays
  pub word_again : (shape : Shape) (t : ℕ) → IsScalar m shape t → word_of_type (slice_get longer.types t) ≡ word_of_type (slice_get m.types t)
  word_again shape t h = word_told longer.types longer.struct_names shape t (scalar_again shape t h).0.0 ∙ sym (word_told m.types m.struct_names shape t h.0.0)

  pub void_again : (t : ℕ) → IsVoid m t → IsVoid longer t
  void_again t h = stays m.types types t type.Void more.0 h

  pub place_again : (shape : Shape) (held place : ℕ) → IsPlaceType m shape held place → IsPlaceType longer shape held place
  place_again shape held place (inl h) = let there = stays m.types types place (type.Pointer held) more.0 h.1 in inl ((more.1 place (type.Pointer held) there).0, there, h.2)
  place_again shape held place (inr h) = let there = stays m.types types place type.Opaque more.0 h.1 in inr (more.1 place type.Opaque there, there)

  -- ---- operands

  module _ (f : Function) where
    pub operand_again : (bits : Word) (x : Operand) → IsOperand m f bits x → IsOperand longer f bits x
    operand_again bits (operand.Constant x) h = h
    operand_again bits (operand.Local value) h = h
    operand_again bits (operand.Global symbol) h = h
    operand_again bits (operand.CastGlobal from symbol to) h = (pointer_again from h.0, h.1, pointer_again to h.2)

    pub argument_again : (x : Argument) → IsArgument m f x → IsArgument longer f x
    argument_again x h = (h.0, scalar_again h.0 x.written h.1, operand_again (word_of_shape h.0) x.operand h.2)

    pub incoming_again : (bits : Word) (x : Incoming) → IsIncoming m f bits x → IsIncoming longer f bits x
    incoming_again bits x h = (operand_again bits x.operand h.0, h.1)

    pub condition_again : (t : ℕ) (x : Operand) → IsCondition m f t x → IsCondition longer f t x
    condition_again t x h = (stays m.types types t (type.Integer 1) more.0 h.0, operand_again (sort.Integer 1) x h.1)

    pub pair_again : (t : ℕ) (x y : Operand) → ArePair m f t x y → ArePair longer f t x y
    pair_again t x y h = (h.0, scalar_again h.0 t h.1, operand_again (word_of_shape h.0) x h.2, operand_again (word_of_shape h.0) y h.3)

    pub converted_again : (from : ℕ) (x : Operand) (to : ℕ) → IsConverted m f from x to → IsConverted longer f from x to
    converted_again from x to h = (argument_again (record { written = from; operand = x }) h.0, (h.1.0, scalar_again h.1.0 to h.1.1))

    pub returned_again : (t : ℕ) → IsReturned m t → IsReturned longer t
    returned_again t (inl h) = inl (void_again t h)
    returned_again t (inr h) = inr (h.0, scalar_again h.0 t h.1)
