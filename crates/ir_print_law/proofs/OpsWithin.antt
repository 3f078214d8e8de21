-- Numbers of instructions are within the tables where the instructions are printable, whatever names come after those of the tables.
use Rattle.std.proofs.Common.{ℕ, List, [], ◌∷◌, Option, None, Some}
use Rattle.std.specs.List.{AllByRecursion}
use Rattle.std.proofs.lemmas.Option.{slice_get_within}
use Rattle.ir_ast.specs.declared.block.Block.{Block}
use Rattle.ir_ast.specs.declared.calls.Call.{Call}
use Rattle.ir_ast.specs.declared.choices.Choice.{Choice}
use Rattle.ir_ast.specs.declared.choices.Incoming.{Incoming}
use Rattle.ir_ast.specs.declared.choices.Phi.{Phi}
use Rattle.ir_ast.specs.declared.elements.Element.{Element}
use Rattle.ir_ast.specs.declared.ends.Case.{Case}
use Rattle.ir_ast.specs.declared.ends.End.{End}
use Rattle.ir_ast.specs.declared.ends.End.TheVariants as end
use Rattle.ir_ast.specs.declared.function.Function.{Function}
use Rattle.ir_ast.specs.declared.instr.Instr.{Instr}
use Rattle.ir_ast.specs.declared.ir_type.IrType.TheVariants as type
use Rattle.ir_ast.specs.declared.module.Module.{Module}
use Rattle.ir_ast.specs.declared.op.Op.{Op}
use Rattle.ir_ast.specs.declared.op.Op.TheVariants as op
use Rattle.ir_tokens.specs.Bytes.{Text}
use Rattle.ir_forms.specs.CaseValues.{value_of, with_value}
use Rattle.ir_forms.specs.declared.case_values.CaseValue.{CaseValue}
use Rattle.ir_forms.specs.declared.written.Word.{Word}
use Rattle.ir_forms.specs.declared.written.Word.TheVariants as sort
use Rattle.ir_print_law.specs.Calls.{IsCall, IsCallWithin}
use Rattle.ir_print_law.specs.Choices.{IsChoice, IsChoiceWithin}
use Rattle.ir_print_law.specs.Elements.{IsElement, IsElementWithin}
use Rattle.ir_print_law.specs.ModuleNames.{HasModuleNames}
use Rattle.ir_print_law.specs.PartsWithin.{HasType, HasValue, HasBlock, HasResult}
use Rattle.ir_print_law.specs.Printable.{IsOp, IsInstr, IsIncoming, IsPhi, AreCases, IsEnd, IsBlock}
use Rattle.ir_print_law.specs.Shapes.{word_of_shape}
use Rattle.ir_print_law.specs.Within.{IsOpWithin, IsInstrWithin, IsIncomingWithin, IsPhiWithin, IsCaseWithin, IsEndWithin, IsBlockWithin}
use Rattle.ir_print_law.proofs.DefinedWithin.{AreDefinedWithin, AreLocalValues}
use Rattle.ir_print_law.proofs.PartsWithin.{place_type_within, Wide, wide_module, wide, all_wide, callee_within, block_within, target_within, type_within, operand_within, argument_within, arguments_within, pair_within, converted_within, returned_within}
use Rattle.ir_print_law.proofs.NumbersAgain.{number_within}
use Rattle.ir_print_law.proofs.MemoryAgain.{memory_within}

module _ (m : Module) (f : Function) (own : HasModuleNames m) (h : AreDefinedWithin f) where
  -- ---- families

  element_within : (x : Element) → Wide m f (λ m f. IsElement m f x) → IsElementWithin m f x
  element_within x is = (
    type_within m f own h (is []).0 x.source [] (is []).1,
    place_type_within m (is []).0 x.source x.base_type (is []).2,
    operand_within m f own h x.base (λ more. (sort.Pointer, (is more).3)),
    arguments_within m f own h x.indices (λ more. (is more).5),
  )

  choice_within : (x : Choice) → Wide m f (λ m f. IsChoice m f x) → IsChoiceWithin m f x
  choice_within x is = (
    slice_get_within m.types x.condition_type (type.Integer 1) (is []).0.0,
    operand_within m f own h x.condition (λ more. (sort.Integer 1, (is more).0.1)),
    pair_within m f own h x.written x.chosen x.other (λ more. (is more).1),
  )

  call_within : (x : Call) → Wide m f (λ m f. IsCall m f x) → IsCallWithin m f x
  call_within x is = (
    returned_within m f own h x.returned (is []).0,
    callee_within m own x.callee (λ more. (is more).1),
    arguments_within m f own h x.arguments (λ more. (is more).2),
  )

  op_within : (x : Op) → Wide m f (λ m f. IsOp m f x) → IsOpWithin m f x
  op_within (op.Number x) is = number_within m f own h x is
  op_within (op.Memory x) is = memory_within m f own h x is
  op_within (op.Element x) is = element_within x is
  op_within (op.Cast x) is = converted_within m f own h x.from x.operand x.to is
  op_within (op.Choice x) is = choice_within x is
  op_within (op.Call x) is = call_within x is

  -- ---- blocks

  incoming_within : (x : Incoming) → Wide m f (λ m f. (bits : Word) × IsIncoming m f bits x) → IsIncomingWithin m f x
  incoming_within x is = (operand_within m f own h x.operand (λ more. ((is more).0, (is more).1.0)), block_within f h x.from (λ more. (is more).1.1))

  phi_within : (x : Phi) → Wide m f (λ m f. IsPhi m f x) → HasType m x.written × AllByRecursion (IsIncomingWithin m f) x.incoming
  phi_within x is = (
    type_within m f own h (is []).0 x.written [] (is []).1.0,
    all_wide (λ more y. IsIncoming (wide_module m more) (wide f more) (word_of_shape (is more).0) y) (IsIncomingWithin m f) x.incoming
        (λ y on. incoming_within y (λ more. (word_of_shape (is more).0, on more))) (λ more. (is more).3),
  )

  cases_within : (xs : List Case) → ((more : List Text) → (bits : Word) × (seen : List CaseValue) × AreCases (wide f more) bits seen xs) → AllByRecursion (IsCaseWithin f) xs
  cases_within [] is = tt
  cases_within (x ∷ xs) is = (
    target_within f h x.target (λ more. (is more).2.2),
    cases_within xs (λ more. ((is more).0, with_value (value_of x.constant) (is more).1, (is more).2.3)),
  )

  end_within : (x : End) → Wide m f (λ m f. IsEnd m f x) → IsEndWithin m f x
  end_within (end.Jump target) is = target_within f h target is
  end_within (end.Branch condition_type condition taken other) is = (
    slice_get_within m.types condition_type (type.Integer 1) (is []).0.0,
    operand_within m f own h condition (λ more. (sort.Integer 1, (is more).0.1)),
    target_within f h taken (λ more. (is more).1),
    target_within f h other (λ more. (is more).2),
  )
  end_within (end.Switch written value otherwise cases) is = (
    type_within m f own h (is []).1.0 written [] (is []).1.1.0,
    operand_within m f own h value (λ more. (word_of_shape (is more).1.0, (is more).1.2)),
    target_within f h otherwise (λ more. (is more).1.3),
    cases_within cases (λ more. (word_of_shape (is more).1.0, [], (is more).1.4)),
  )
  end_within end.Unreachable is = tt
  end_within end.ReturnVoid is = tt
  end_within (end.Return x) is = argument_within m f own h x is

  phis_within : (xs : List Phi) → Wide m f (λ m f. AllByRecursion (IsPhi m f) xs) → AllByRecursion (λ (x : Phi). HasValue f x.value) xs → AllByRecursion (IsPhiWithin m f) xs
  phis_within [] is own = tt
  phis_within (x ∷ xs) is own = let here = phi_within x (λ more. (is more).0) in ((own.0, here.0, here.1), phis_within xs (λ more. (is more).1) own.1)

  body_within : (xs : List Instr) → Wide m f (λ m f. AllByRecursion (IsInstr m f) xs) → AllByRecursion (λ (x : Instr). HasResult f x.result) xs → AllByRecursion (IsInstrWithin m f) xs
  body_within [] is own = tt
  body_within (x ∷ xs) is own = ((own.0, op_within x.op (λ more. (is more).0.0)), body_within xs (λ more. (is more).1) own.1)

  blocks_from : (xs : List Block) → Wide m f (λ m f. AllByRecursion (IsBlock m f) xs) → AllByRecursion (AreLocalValues f) xs → AllByRecursion (λ (x : Block). HasBlock f x.label) xs
      → AllByRecursion (IsBlockWithin m f) xs
  blocks_from [] is values labels = tt
  blocks_from (x ∷ xs) is values labels = (
    (
      labels.0,
      phis_within x.phis (λ more. (is more).0.0) values.0.0,
      body_within x.body (λ more. (is more).0.1) values.0.1,
      end_within x.end (λ more. (is more).0.2),
    ),
    blocks_from xs (λ more. (is more).1) values.1 labels.1,
  )

  -- the blocks of the function
  pub blocks_within : Wide m f (λ m f. AllByRecursion (IsBlock m f) f.blocks) → AllByRecursion (IsBlockWithin m f) f.blocks
  blocks_within is = blocks_from f.blocks is h.block_values h.block_labels
