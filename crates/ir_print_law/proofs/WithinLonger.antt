-- Numbers that are within the tables of a module are within those of one that has no fewer types, and whose names mean what they mean there.
use Rattle.std.proofs.Common.{◌≤◌, length}
use Rattle.lemmas.specs.All.{all_so}
use Rattle.ir_ast.specs.declared.block.Block.{Block}
use Rattle.ir_ast.specs.declared.choices.Phi.{Phi}
use Rattle.ir_ast.specs.declared.ends.End.{End}
use Rattle.ir_ast.specs.declared.ends.End.TheVariants as end
use Rattle.ir_ast.specs.declared.function.Function.{Function}
use Rattle.ir_ast.specs.declared.function.Parameter.{Parameter}
use Rattle.ir_ast.specs.declared.instr.Instr.{Instr}
use Rattle.ir_ast.specs.declared.items_of_module.Declare.{Declare}
use Rattle.ir_ast.specs.declared.module.Module.{Module}
use Rattle.ir_ast.specs.declared.op.Op.{Op}
use Rattle.ir_ast.specs.declared.op.Op.TheVariants as op
use Rattle.ir_print_law.specs.PartsWithin.{HasType}
use Rattle.ir_print_law.specs.Within.{IsOpWithin, IsInstrWithin, IsIncomingWithin, IsPhiWithin, IsEndWithin, IsBlockWithin, IsParameterWithin, IsFunctionWithin, IsDeclareWithin}
use Rattle.ir_print_law.proofs.PartsLonger.{MeansAsMuch, type_longer, operand_longer, argument_longer, arguments_longer, pair_longer, converted_longer}
use Rattle.ir_print_law.proofs.NumbersAgain.{number_within_longer}
use Rattle.ir_print_law.proofs.MemoryAgain.{memory_within_longer}

module _ (m n : Module) (types : length m.types ≤ length n.types) (names : MeansAsMuch m n) where
  pub declare_longer : (x : Declare) → IsDeclareWithin m x → IsDeclareWithin n x
  declare_longer x h = (names.symbols x.symbol h.0, type_longer m n types names x.returned h.1, all_so (HasType m) (HasType n) x.parameters (type_longer m n types names) h.2)

  module _ (f : Function) where
    op_longer : (x : Op) → IsOpWithin m f x → IsOpWithin n f x
    op_longer (op.Number x) h = number_within_longer m n types names f x h
    op_longer (op.Memory x) h = memory_within_longer m n types names f x h
    op_longer (op.Element x) h = (type_longer m n types names x.source h.0, type_longer m n types names x.base_type h.1, operand_longer m n types names f x.base h.2, arguments_longer m n types names f x.indices h.3)
    op_longer (op.Cast x) h = converted_longer m n types names f x.from x.operand x.to h
    op_longer (op.Choice x) h = (type_longer m n types names x.condition_type h.0, operand_longer m n types names f x.condition h.1, pair_longer m n types names f x.written x.chosen x.other h.2)
    op_longer (op.Call x) h = (type_longer m n types names x.returned h.0, names.functions x.callee h.1, arguments_longer m n types names f x.arguments h.2)

    instr_longer : (x : Instr) → IsInstrWithin m f x → IsInstrWithin n f x
    instr_longer x h = (h.0, op_longer x.op h.1)

    phi_longer : (x : Phi) → IsPhiWithin m f x → IsPhiWithin n f x
    phi_longer x h = (
      h.0,
      type_longer m n types names x.written h.1,
      all_so (IsIncomingWithin m f) (IsIncomingWithin n f) x.incoming (λ y is. (operand_longer m n types names f y.operand is.0, is.1)) h.2,
    )

    end_longer : (x : End) → IsEndWithin m f x → IsEndWithin n f x
    end_longer (end.Jump target) h = h
    end_longer (end.Branch condition_type condition taken other) h = (type_longer m n types names condition_type h.0, operand_longer m n types names f condition h.1, h.2, h.3)
    end_longer (end.Switch written value otherwise cases) h = (type_longer m n types names written h.0, operand_longer m n types names f value h.1, h.2, h.3)
    end_longer end.Unreachable h = tt
    end_longer end.ReturnVoid h = tt
    end_longer (end.Return x) h = argument_longer m n types names f x h

    block_longer : (x : Block) → IsBlockWithin m f x → IsBlockWithin n f x
    block_longer x h = (
      h.0,
      all_so (IsPhiWithin m f) (IsPhiWithin n f) x.phis phi_longer h.1,
      all_so (IsInstrWithin m f) (IsInstrWithin n f) x.body instr_longer h.2,
      end_longer x.end h.3,
    )

    pub function_longer : IsFunctionWithin m f → IsFunctionWithin n f
    function_longer h = record {
      symbol = names.symbols f.symbol h.symbol;
      returned = type_longer m n types names f.returned h.returned;
      parameters = all_so (IsParameterWithin m f) (IsParameterWithin n f) f.parameters (λ (x : Parameter) is. (type_longer m n types names x.written is.0, is.1)) h.parameters;
      sorts = h.sorts;
      slots = λ value held at. type_longer m n types names held (h.slots value held at);
      blocks = all_so (IsBlockWithin m f) (IsBlockWithin n f) f.blocks block_longer h.blocks;
    }
