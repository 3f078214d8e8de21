-- What is printable in a module is so where the module has more types, and other functions of the same names.
use Rattle.std.proofs.Common.{◌≡◌, ℕ, not, List, Option, Some, slice_get, refl, ap, sym, ◌∙◌, inl, inr, ◌⊎◌}
use Rattle.lemmas.specs.All.{all_so}
use Rattle.ir_forms.specs.Written.{float_entry, is_float_word}
use Rattle.ir_ast.specs.declared.block.Block.{Block}
use Rattle.ir_ast.specs.declared.choices.Phi.{Phi}
use Rattle.ir_ast.specs.declared.ends.End.{End}
use Rattle.ir_ast.specs.declared.ends.End.TheVariants as end
use Rattle.ir_ast.specs.declared.function.Function.{Function}
use Rattle.ir_ast.specs.declared.instr.Instr.{Instr}
use Rattle.ir_ast.specs.declared.ir_type.IrType.{IrType}
use Rattle.ir_ast.specs.declared.ir_type.IrType.TheVariants as type
use Rattle.ir_ast.specs.declared.items_of_module.Declare.{Declare}
use Rattle.ir_ast.specs.declared.items_of_module.Global.{Global}
use Rattle.ir_ast.specs.declared.items_of_module.StructType.{StructType}
use Rattle.ir_ast.specs.declared.memory.MemoryOp.TheVariants as memory
use Rattle.ir_ast.specs.declared.module.Module.{Module}
use Rattle.ir_ast.specs.declared.op.Op.{Op}
use Rattle.ir_ast.specs.declared.op.Op.TheVariants as op
use Rattle.ir_print_law.specs.Definitions.{defined_functions}
use Rattle.ir_print_law.specs.Parts.{IsScalar, IsVoid, IsReturned}
use Rattle.ir_print_law.specs.Printable.{IsIncoming, IsOp, is_void, gives_value, IsInstr, IsPhi, IsEnd, IsBlock, IsPassed, IsParameter, IsFunction, IsStructType, IsGlobal, IsAnyType, IsDeclare}
use Rattle.ir_print_law.specs.Shapes.{Shape, Integer, Float, Pointer, Array, Empty, Struct, Named, Opaque, word_of_shape}
use Rattle.ir_print_law.proofs.OneKind.{IsLonger}
use Rattle.ir_print_law.proofs.Tables.{stays}
use Rattle.ir_print_law.proofs.LongerTypes.{word_again, with_types, type_again, scalar_again, void_again, operand_again, argument_again, incoming_again, condition_again, converted_again}
use Rattle.ir_print_law.proofs.NumbersAgain.{number_longer}
use Rattle.ir_print_law.proofs.MemoryAgain.{memory_longer}
use Rattle.ir_print_law.proofs.ElementsAgain.{element_longer}
use Rattle.ir_print_law.proofs.ChoicesAgain.{choice_longer}
use Rattle.ir_print_law.proofs.CallsAgain.{call_longer}

module _ (m : Module) (types : List IrType) (fs : List Function) (more : IsLonger m.types types) (same : defined_functions (with_types m types fs) ≡ defined_functions m) where
  abbrev longer : Module
  longer = with_types m types fs

  module _ (f : Function) where
    -- ---- operations

    op_again : (x : Op) → IsOp m f x → IsOp longer f x
    op_again (op.Number x) h = number_longer m types fs more same f x h
    op_again (op.Memory x) h = memory_longer m types fs more same f x h
    op_again (op.Element x) h = element_longer m types fs more same f x h
    op_again (op.Cast x) h = converted_again m types fs more same f x.from x.operand x.to h
    op_again (op.Choice x) h = choice_longer m types fs more same f x h
    op_again (op.Call x) h = call_longer m types fs more same f x h

    -- what a call returns has a type
    scalar_there : (shape : Shape) (t : ℕ) → IsScalar m shape t → (x : IrType) × (slice_get m.types t ≡ Some x)
    scalar_there (Integer bits) t h = (type.Integer bits, h.0.0)
    scalar_there (Float t0) t h = (float_entry t0, h.0.0)
    scalar_there (Pointer part) t h = (type.Pointer h.0.0.0, h.0.0.1)
    scalar_there (Array count part) t h = let no = h.1 in absurd cc
    scalar_there Empty t h = let no = h.1 in absurd cc
    scalar_there (Struct first rest) t h = let no = h.1 in absurd cc
    scalar_there (Named name) t h = let no = h.1 in absurd cc
    scalar_there Opaque t h = (type.Opaque, h.0.0)

    returned_there : (t : ℕ) → IsReturned m t → (x : IrType) × (slice_get m.types t ≡ Some x)
    returned_there t (inl h) = (type.Void, h)
    returned_there t (inr h) = scalar_there h.0 t h.1

    gives_again : (x : Op) → IsOp m f x → gives_value m x ≡ gives_value longer x
    gives_again (op.Number x) h = refl
    gives_again (op.Memory (memory.Alloca held)) h = refl
    gives_again (op.Memory (memory.Buffer held count)) h = refl
    gives_again (op.Memory (memory.Load loaded place_type place)) h = refl
    gives_again (op.Memory (memory.Store stored value place_type place)) h = refl
    gives_again (op.Element x) h = refl
    gives_again (op.Cast x) h = refl
    gives_again (op.Choice x) h = refl
    gives_again (op.Call x) h =
        let t = returned_there x.returned h.0 in
        ap (λ (o : Option IrType). not (is_void o)) (t.1 ∙ sym (stays m.types types x.returned t.0 more.0 t.1))

    -- ---- blocks

    instr_again : (x : Instr) → IsInstr m f x → IsInstr longer f x
    instr_again x h = (op_again x.op h.0, h.1 ∙ gives_again x.op h.0)

    phi_again : (x : Phi) → IsPhi m f x → IsPhi longer f x
    phi_again x h = (
      h.0,
      scalar_again m types fs more same h.0 x.written h.1,
      h.2,
      all_so (IsIncoming m f (word_of_shape h.0)) (IsIncoming longer f (word_of_shape h.0)) x.incoming (incoming_again m types fs more same f (word_of_shape h.0)) h.3,
    )

    end_again : (x : End) → IsEnd m f x → IsEnd longer f x
    end_again (end.Jump target) h = h
    end_again (end.Branch condition_type condition taken other) h = (condition_again m types fs more same f condition_type condition h.0, h.1, h.2)
    end_again (end.Switch written value otherwise cases) k =
        let h = k.1 in (
          ap is_float_word (word_again m types fs more same h.0 written h.1) ∙ k.0,
          (h.0, scalar_again m types fs more same h.0 written h.1, operand_again m types fs more same f (word_of_shape h.0) value h.2, h.3, h.4),
        )
    end_again end.Unreachable h = h
    end_again end.ReturnVoid h = h
    end_again (end.Return x) h = argument_again m types fs more same f x h

    block_again : (x : Block) → IsBlock m f x → IsBlock longer f x
    block_again x h =
        (all_so (IsPhi m f) (IsPhi longer f) x.phis phi_again h.0, all_so (IsInstr m f) (IsInstr longer f) x.body instr_again h.1, end_again x.end h.2)

  -- ---- items

  passed_again : (t : ℕ) → IsPassed m t → IsPassed longer t
  passed_again t h = (h.0, type_again m types fs more same h.0 t h.1, h.2)

  result_again : (t : ℕ) → IsVoid m t ⊎ IsPassed m t → IsVoid longer t ⊎ IsPassed longer t
  result_again t (inl h) = inl (void_again m types fs more same t h)
  result_again t (inr h) = inr (passed_again t h)

  -- a function
  pub function_again : (f : Function) → IsFunction m f → IsFunction longer f
  function_again f h = record {
    returned = result_again f.returned h.returned;
    parameters = all_so (IsParameter m) (IsParameter longer) f.parameters (λ x p. passed_again x.written p) h.parameters;
    collector = h.collector;
    definitions = h.definitions;
    values = h.values;
    has_block = h.has_block;
    few_blocks = h.few_blocks;
    blocks = all_so (IsBlock m f) (IsBlock longer f) f.blocks (block_again f) h.blocks;
  }

  -- a struct type
  pub struct_again : (x : StructType) → IsStructType m x → IsStructType longer x
  struct_again x h = (h.0, type_again m types fs more same h.0 x.body h.1, h.2)

  -- a global
  pub global_again : (x : Global) → IsGlobal m x → IsGlobal longer x
  global_again x h = (h.0, type_again m types fs more same h.0 x.held h.1, h.2, h.3)

  any_again : (t : ℕ) → IsAnyType m t → IsAnyType longer t
  any_again t h = (h.0, type_again m types fs more same h.0 t h.1)

  declared_result_again : (t : ℕ) → IsVoid m t ⊎ IsAnyType m t → IsVoid longer t ⊎ IsAnyType longer t
  declared_result_again t (inl h) = inl (void_again m types fs more same t h)
  declared_result_again t (inr h) = inr (any_again t h)

  -- a declared function
  pub declare_again : (x : Declare) → IsDeclare m x → IsDeclare longer x
  declare_again x h =
      (declared_result_again x.returned h.0, all_so (IsAnyType m) (IsAnyType longer) x.parameters any_again h.1, h.2)
