-- In a printable module of a typed text each getelementptr is of a typed pointer.
use Rattle.std.proofs.Common.{◌≡◌, ℕ, true, false, refl, slice_get, is_some, Option, None, Some, inl, inr, sym, ap, subst, ◌∙◌}
use Rattle.lemmas.specs.All.{all_get}
use Rattle.ir_ast.specs.declared.block.Block.{Block}
use Rattle.ir_ast.specs.declared.elements.Element.{Element}
use Rattle.ir_ast.specs.declared.function.Function.{Function}
use Rattle.ir_ast.specs.declared.instr.Instr.{Instr}
use Rattle.ir_ast.specs.declared.module.Module.{Module}
use Rattle.ir_ast.specs.declared.op.Op.TheVariants as op
use Rattle.ir_print_law.specs.Elements.{IsElement}
use Rattle.ir_print_law.specs.Parts.{IsPlaceType}
use Rattle.ir_print_law.specs.Printable.{IsBlock, IsFunction, IsInstr, IsOp}
use Rattle.types.specs.References.{part_of_pointer, pointee}
use Rattle.types.specs.ValueTypes.{instruction_at, instruction_in}
use Rattle.certs.specs.Families.{is_opaque_text}
use Rattle.migration_law.specs.TypedModules.{ArePrintableTyped}

module _ (m : Module) (typed : is_opaque_text m ≡ false) (f : Function) where
  place_typed : (x : Element) → IsElement m f x → is_some (pointee m x.base_type) ≡ true
  place_typed x h = by h.2 where
    by : IsPlaceType m h.0 x.source x.base_type → is_some (pointee m x.base_type) ≡ true
    by (inl p) = ap (λ found. is_some (part_of_pointer found)) p.1
    by (inr p) = let no : true ≡ false = sym p.0 ∙ typed in absurd cc

  base_typed : IsFunction m f → (block place : ℕ) (instr : Instr) (x : Element) → instruction_at f block place ≡ Some instr → instr.op ≡ op.Element x → is_some (pointee m x.base_type) ≡ true
  base_typed own block place instr x at is = by (slice_get f.blocks block) refl at where
    by : (found : Option Block) → slice_get f.blocks block ≡ found → instruction_in found place ≡ Some instr → is_some (pointee m x.base_type) ≡ true
    by None e h = absurd cc
    by (Some b) e h =
        let within : IsBlock m f b = all_get (IsBlock m f) f.blocks block b own.blocks e in
        let here : IsInstr m f instr = all_get (IsInstr m f) b.body place instr within.1 h in
        place_typed x (subst (IsOp m f) is here.0)

pub printable_typed : ArePrintableTyped
printable_typed m h typed parameters number f at = record {
  bases = base_typed m typed f (all_get (IsFunction m) m.functions number f h.functions at);
  parameters = parameters number f at;
}
