-- Types are within the table where the numbers of a module are within its tables.
use Rattle.std.proofs.Common.{◌<◌, ℕ, Bool, length, arith}
use Rattle.std.proofs.lemmas.Option.{slice_get_within}
use Rattle.lemmas.specs.All.{all_get, all_so}
use Rattle.ir_ast.specs.declared.block.Block.{Block}
use Rattle.ir_ast.specs.declared.function.Function.{Function}
use Rattle.ir_ast.specs.declared.instr.Instr.{Instr}
use Rattle.ir_ast.specs.declared.ir_type.IrType.{IrType}
use Rattle.ir_ast.specs.declared.ir_type.IrType.TheVariants as type
use Rattle.ir_ast.specs.declared.memory.MemoryOp.TheVariants as memory
use Rattle.ir_ast.specs.declared.module.Module.{Module}
use Rattle.ir_ast.specs.declared.op.Op.{Op}
use Rattle.ir_ast.specs.declared.op.Op.TheVariants as op
use Rattle.ir_forms.specs.Written.{has_opaque}
use Rattle.ir_print_law.specs.TypeOrder.{IsInOrder}
use Rattle.ir_print_law.specs.Within.{IsBlockWithin, IsFunctionWithin, IsGlobalWithin, IsInstrWithin, IsOpWithin, IsStructWithin}
use Rattle.replaced_fits.specs.Closed.{AreBodyTypesBelow, ArePartsBelow, AreTypesBelow}
use Rattle.replaced_fits.specs.ReplacedFits.{AreWithinClosed}

module _ (m : Module) (f : Function) where
  types_below : (x : Op) → IsOpWithin m f x → AreTypesBelow (length m.types) x
  types_below (op.Number x) h = tt
  types_below (op.Memory (memory.Alloca held)) h = h
  types_below (op.Memory (memory.Buffer held count)) h = tt
  types_below (op.Memory (memory.Load loaded place_type place)) h = tt
  types_below (op.Memory (memory.Store stored x place_type place)) h = tt
  types_below (op.Element x) h = (h.0, h.1)
  types_below (op.Cast x) h = tt
  types_below (op.Choice x) h = tt
  types_below (op.Call x) h = tt

  body_below : (x : Block) → IsBlockWithin m f x → AreBodyTypesBelow (length m.types) x
  body_below x h = all_so (IsInstrWithin m f) (λ (y : Instr). AreTypesBelow (length m.types) y.op) x.body (λ y is. types_below y.op is.1) h.2

-- the parts of a type come before it, so they are in the table
parts_below : (opaque : Bool) (number count : ℕ) (x : IrType) → number < count → IsInOrder opaque number x → ArePartsBelow count x
parts_below opaque number count (type.Pointer part) less h = let before = h.1 in omega (arith, less, before)
parts_below opaque number count (type.Array size part) less h = omega (arith, less, h)
parts_below opaque number count (type.Struct first rest) less h = let a = h.0 in let b = h.1 in (omega (arith, less, a), omega (arith, less, b))
parts_below opaque number count type.Void less h = tt
parts_below opaque number count (type.Integer bits) less h = tt
parts_below opaque number count type.Float less h = tt
parts_below opaque number count type.Double less h = tt
parts_below opaque number count type.Opaque less h = tt
parts_below opaque number count type.EmptyStruct less h = tt
parts_below opaque number count (type.Named name) less h = tt

pub within_closed : AreWithinClosed
within_closed m whole within = record {
  parts = λ number x at. parts_below (has_opaque m.types) number (length m.types) x (slice_get_within m.types number x at) (whole.ordered number x at);
  structs = λ layout struct at. (all_get (IsStructWithin m) m.structs layout struct within.structs at).1;
  globals = λ number global at. (all_get (IsGlobalWithin m) m.globals number global within.globals at).1;
  functions = λ number f at. record {
    slots = (all_get (IsFunctionWithin m) m.functions number f within.functions at).slots;
    blocks = all_so (IsBlockWithin m f) (AreBodyTypesBelow (length m.types)) f.blocks (body_below m f) (all_get (IsFunctionWithin m) m.functions number f within.functions at).blocks;
  };
}
