-- What is printed of the items of a module is the same where its table of types has grown.
use Rattle.std.proofs.Common.{◌≡◌, ℕ, List, [], ◌∷◌, ◌++◌, Option, None, Some, ◌⊎◌, inl, inr, refl, ap, ap₂, ◌∙◌}
use Rattle.std.specs.Prelude.{codes}
use Rattle.std.specs.List.{AllByRecursion, flat_map}
use Rattle.ir_forms.specs.declared.written.Word.TheVariants as sort
use Rattle.ir_ast.specs.declared.floats.FloatOp.{FloatOp}
use Rattle.ir_ast.specs.declared.floats.FloatOp.TheVariants as float
use Rattle.ir_print.specs.Floats.{float_arithmetic_word, float_comparison_word, conversion_word, float_op_text}
use Rattle.ir_print_law.specs.Floats.{IsFloatOp}
use Rattle.ir_print_law.specs.EqualParts.{same3}
use Rattle.ir_ast.specs.declared.argument.Argument.{Argument}
use Rattle.ir_ast.specs.declared.block.Block.{Block}
use Rattle.ir_ast.specs.declared.calls.Call.{Call}
use Rattle.ir_ast.specs.declared.choices.Incoming.{Incoming}
use Rattle.ir_ast.specs.declared.choices.Phi.{Phi}
use Rattle.ir_ast.specs.declared.ends.Case.{Case}
use Rattle.ir_ast.specs.declared.ends.End.{End}
use Rattle.ir_ast.specs.declared.ends.End.TheVariants as end
use Rattle.ir_ast.specs.declared.function.Function.{Function}
use Rattle.ir_ast.specs.declared.function.Parameter.{Parameter}
use Rattle.ir_ast.specs.declared.instr.Instr.{Instr}
use Rattle.ir_ast.specs.declared.ir_type.IrType.{IrType}
use Rattle.ir_ast.specs.declared.items_of_module.Declare.{Declare}
use Rattle.ir_ast.specs.declared.items_of_module.Global.{Global}
use Rattle.ir_ast.specs.declared.items_of_module.StructType.{StructType}
use Rattle.ir_ast.specs.declared.memory.MemoryOp.{MemoryOp}
use Rattle.ir_ast.specs.declared.memory.MemoryOp.TheVariants as memory
use Rattle.ir_ast.specs.declared.module.Module.{Module}
use Rattle.ir_ast.specs.declared.numbers.NumberOp.{NumberOp}
use Rattle.ir_ast.specs.declared.numbers.NumberOp.TheVariants as number
use Rattle.ir_ast.specs.declared.op.Op.{Op}
use Rattle.ir_ast.specs.declared.op.Op.TheVariants as op
use Rattle.ir_ast.specs.declared.operand.Constant.{Constant}
use Rattle.ir_ast.specs.declared.operand.Operand.{Operand}
use Rattle.ir_ast.specs.declared.operand.Operand.TheVariants as operand
use Rattle.ir_tokens.specs.Bytes.{Text}
use Rattle.ir_print.specs.Blocks.{block_text}
use Rattle.ir_print.specs.Calls.{call_text}
use Rattle.ir_print.specs.Choices.{incoming_text, phi_line}
use Rattle.ir_print.specs.Elements.{element_word, index_text}
use Rattle.ir_print.specs.Ends.{case_text, end_text, target_text}
use Rattle.ir_print.specs.Instructions.{instruction_line, op_text, result_text}
use Rattle.ir_print.specs.Items.{collector_text, declare_line, function_text, global_line, global_word, parameter_text, struct_line}
use Rattle.ir_print.specs.Memory.{count_text, memory_op_text}
use Rattle.ir_print.specs.Names.{name_at, global_text, key_text, local_text, struct_text}
use Rattle.ir_print.specs.Numbers.{arithmetic_word, comparison_word, number_op_text, resize_word}
use Rattle.ir_print.specs.Operands.{argument_text, constant_text, listed, operand_text, typed_text}
use Rattle.ir_print.specs.Parts.{converted_text, pair_text, placed_text, typed}
use Rattle.ir_print.specs.Types.{type_text}
use Rattle.ir_print_law.specs.Calls.{IsCall}
use Rattle.ir_print_law.specs.Memory.{IsCount, IsMemoryOp}
use Rattle.ir_print_law.specs.Numbers.{IsNumberOp}
use Rattle.ir_print_law.specs.Parts.{ArePair, IsArgument, IsCondition, IsConverted, IsOperand, IsPlaceType, IsReturned, IsVoid}
use Rattle.ir_print_law.specs.Printable.{IsAnyType, IsBlock, IsDeclare, IsEnd, IsFunction, IsGlobal, IsIncoming, IsInstr, IsOp, IsParameter, IsPassed, IsPhi, IsStructType}
use Rattle.ir_print_law.specs.Shapes.{Shape, Integer, Pointer, Opaque, HasShape, word_of_shape}
use Rattle.replaced_text.proofs.Types.{Stay, constant_same, plain_same, type_same, with_types}
use Rattle.ir_forms.specs.declared.written.Word.{Word}

-- ---- lists

-- what is printed of each element is the same
pub lines : {A : Type 0} (P : A → Type 0) (line other : A → Text) (xs : List A) → ((x : A) → P x → line x ≡ other x) → AllByRecursion P xs → flat_map line xs ≡ flat_map other xs
lines P line other [] on h = refl
lines P line other (x ∷ xs) on h = ap₂ (λ a b. a ++ b) (on x h.0) (lines P line other xs on h.1)

list : {A : Type 0} (P : A → Type 0) (part other : A → Text) (xs : List A) → ((x : A) → P x → part x ≡ other x) → AllByRecursion P xs → listed part xs ≡ listed other xs
list P part other [] on h = refl
list {A = A} P part other (x ∷ xs) on h =
    ap₂ (λ a b. a ++ b) (on x h.0) (lines P (λ (y : A). codes ", " ++ part y) (λ (y : A). codes ", " ++ other y) xs (λ y p. ap (λ (t : Text). codes ", " ++ t) (on y p)) h.1)

module _ (m : Module) (types : List IrType) (fs : List Function) (more : Stay m.types types) where
  abbrev n : Module
  n = with_types m types fs

  -- ---- types

  same_type : (shape : Shape) (t : ℕ) → HasShape m.types m.struct_names shape t → type_text m t ≡ type_text n t
  same_type shape t h = type_same m types fs more shape t h

  same_void : (t : ℕ) → IsVoid m t → type_text m t ≡ type_text n t
  same_void t h = plain_same m types fs more t _ h (λ shown other. refl)

  same_constant : (shape : Shape) (t : ℕ) (x : Constant) → HasShape m.types m.struct_names shape t → constant_text m t x ≡ constant_text n t x
  same_constant shape t x h = constant_same m types fs more shape t x h

  -- the type of a place has a shape
  place_shape : (shape : Shape) (held place : ℕ) → HasShape m.types m.struct_names shape held → IsPlaceType m shape held place → (s : Shape) × HasShape m.types m.struct_names s place
  place_shape shape held place has (inl h) = (Pointer shape, (held, h.1, has))
  place_shape shape held place has (inr h) = (Opaque, h.1)

  -- ---- operands

  module _ (f : Function) where
    operands : (bits : Word) (shape : Shape) (t : ℕ) (x : Operand) → HasShape m.types m.struct_names shape t → IsOperand m f bits x → operand_text m f.locals t x ≡ operand_text n f.locals t x
    operands bits shape t (operand.Constant x) has h = same_constant shape t x has
    operands bits shape t (operand.Local value) has h = refl
    operands bits shape t (operand.Global symbol) has h = refl
    operands bits shape t (operand.CastGlobal from symbol to) has h =
        ap₂ (λ a b. codes "bitcast (" ++ a ++ 32 ∷ global_text m symbol ++ codes " to " ++ b ++ 41 ∷ []) (same_type h.0.0 from h.0.1.0) (same_type h.2.0 to h.2.1.0)

    with_type : (bits : Word) (shape : Shape) (t : ℕ) (x : Operand) → HasShape m.types m.struct_names shape t → IsOperand m f bits x → typed_text m f.locals t x ≡ typed_text n f.locals t x
    with_type bits shape t x has h = ap₂ (λ a b. a ++ 32 ∷ b) (same_type shape t has) (operands bits shape t x has h)

    argument : (x : Argument) → IsArgument m f x → argument_text m f.locals x ≡ argument_text n f.locals x
    argument x h = with_type (word_of_shape h.0) h.0 x.written x.operand h.1.0.0 h.2

    condition : (t : ℕ) (x : Operand) → IsCondition m f t x → typed_text m f.locals t x ≡ typed_text n f.locals t x
    condition t x h = with_type (sort.Integer 1) (Integer 1) t x h.0 h.1

    pair : (t : ℕ) (x y : Operand) → ArePair m f t x y → pair_text m f.locals (typed t x) y ≡ pair_text n f.locals (typed t x) y
    pair t x y h = ap₂ (λ a b. a ++ codes ", " ++ b) (with_type (word_of_shape h.0) h.0 t x h.1.0.0 h.2) (operands (word_of_shape h.0) h.0 t y h.1.0.0 h.3)

    converted : (from : ℕ) (x : Operand) (to : ℕ) → IsConverted m f from x to → converted_text m f.locals (typed from x) to ≡ converted_text n f.locals (typed from x) to
    converted from x to h = ap₂ (λ a b. a ++ codes " to " ++ b) (argument (typed from x) h.0) (same_type h.1.0 to h.1.1.0.0)

    returned : (t : ℕ) → IsReturned m t → type_text m t ≡ type_text n t
    returned t (inl h) = same_void t h
    returned t (inr h) = same_type h.0 t h.1.0.0

    placed : (shape : Shape) (held place : ℕ) (x : Operand) → HasShape m.types m.struct_names shape held → IsPlaceType m shape held place → IsOperand m f sort.Pointer x
        → placed_text m f.locals held (typed place x) ≡ placed_text n f.locals held (typed place x)
    placed shape held place x has is h = let s = place_shape shape held place has is in ap₂ (λ a b. a ++ codes ", " ++ b) (same_type shape held has) (with_type sort.Pointer s.0 place x s.1 h)

    -- ---- instructions

    float_op : (x : FloatOp) → IsFloatOp m f x → float_op_text m f.locals x ≡ float_op_text n f.locals x
    float_op (float.Arithmetic kind t x y) h = ap (λ (text : Text). float_arithmetic_word kind ++ text) (pair t x y h.1)
    float_op (float.Negate t x) h = ap (λ (text : Text). codes "fneg " ++ text) (argument (typed t x) h.1)
    float_op (float.Compare kind t x y) h = ap (λ (text : Text). codes "fcmp " ++ float_comparison_word kind ++ text) (pair t x y h.1)
    float_op (float.Convert kind from x to) h = ap (λ (text : Text). conversion_word kind ++ text) (converted from x to h.1)

    number_op : (x : NumberOp) → IsNumberOp m f x → number_op_text m f.locals x ≡ number_op_text n f.locals x
    number_op (number.Arithmetic kind t x y) h = ap (λ (text : Text). arithmetic_word kind ++ text) (pair t x y h.2)
    number_op (number.Resize kind from x to) h = ap (λ (text : Text). resize_word kind ++ text) (converted from x to h.2)
    number_op (number.Compare kind t x y) h = ap (λ (text : Text). codes "icmp " ++ comparison_word kind ++ text) (pair t x y h.1)
    number_op (number.Float x) h = float_op x h.1

    counted : (shape : Shape) (x : Option Argument) → IsCount m f shape x → count_text m f.locals x ≡ count_text n f.locals x
    counted shape None h = refl
    counted shape (Some x) h = ap (λ (text : Text). codes ", " ++ text) (argument x (Integer h.0, h.1, h.2))

    memory_op : (x : MemoryOp) → IsMemoryOp m f x → memory_op_text m f.locals x ≡ memory_op_text n f.locals x
    memory_op (memory.Alloca held) h = ap (λ (text : Text). codes "alloca " ++ text) (same_type h.0 held h.1.0.0)
    memory_op (memory.Buffer held count) h = ap₂ (λ a b. codes "alloca " ++ a ++ b) (same_type h.1.0 held h.1.1.0) (counted h.1.0 count h.1.2)
    memory_op (memory.Load loaded place_type place) h = ap (λ (text : Text). codes "load " ++ text) (placed h.0 loaded place_type place h.1.0.0 h.2 h.3)
    memory_op (memory.Store stored x place_type place) h =
        let s = place_shape h.0 stored place_type h.1.0.0 h.3 in
        ap₂ (λ a b. codes "store " ++ a ++ codes ", " ++ b) (with_type (word_of_shape h.0) h.0 stored x h.1.0.0 h.2) (with_type sort.Pointer s.0 place_type place s.1 h.4)

    call : (x : Call) → IsCall m f x → call_text m f.locals x ≡ call_text n f.locals x
    call x h =
        ap₂ (λ a b. codes "call " ++ a ++ 32 ∷ global_text m x.callee ++ 40 ∷ b ++ 41 ∷ []) (returned x.returned h.0)
        (list (IsArgument m f) (argument_text m f.locals) (argument_text n f.locals) x.arguments argument h.2)

    operation : (x : Op) → IsOp m f x → op_text m f.locals x ≡ op_text n f.locals x
    operation (op.Number x) h = number_op x h
    operation (op.Memory x) h = memory_op x h
    operation (op.Element x) h =
        ap₂ (λ a b. element_word ++ a ++ b) (placed h.0 x.source x.base_type x.base h.1.0 h.2 h.3)
        (lines (IsArgument m f) (index_text m f.locals) (index_text n f.locals) x.indices (λ y p. ap (λ (text : Text). codes ", " ++ text) (argument y p)) h.5)
    operation (op.Cast x) h = ap (λ (text : Text). codes "bitcast " ++ text) (converted x.from x.operand x.to h)
    operation (op.Choice x) h =
        let p = h.1 in
        same3 (λ a b c. codes "select " ++ a ++ codes ", " ++ b ++ codes ", " ++ c) (condition x.condition_type x.condition h.0)
        (with_type (word_of_shape p.0) p.0 x.written x.chosen p.1.0.0 p.2) (with_type (word_of_shape p.0) p.0 x.written x.other p.1.0.0 p.3)
    operation (op.Call x) h = call x h

    instruction : (x : Instr) → IsInstr m f x → instruction_line m f.locals x ≡ instruction_line n f.locals x
    instruction x h = ap (λ (text : Text). codes "  " ++ result_text f.locals x.result ++ text ++ codes "\n") (operation x.op h.0)

    -- ---- blocks

    incoming : (bits : Word) (shape : Shape) (t : ℕ) → HasShape m.types m.struct_names shape t → (x : Incoming) → IsIncoming m f bits x → incoming_text m f.locals t x ≡ incoming_text n f.locals t x
    incoming bits shape t has x h = ap (λ (text : Text). codes "[ " ++ text ++ codes ", " ++ local_text f.locals x.from ++ codes " ]") (operands bits shape t x.operand has h.0)

    phi : (x : Phi) → IsPhi m f x → phi_line m f.locals x ≡ phi_line n f.locals x
    phi x h =
        ap₂ (λ a b. codes "  " ++ local_text f.locals x.value ++ codes " = phi " ++ a ++ 32 ∷ b ++ codes "\n") (same_type h.0 x.written h.1.0.0)
        (list (IsIncoming m f (word_of_shape h.0)) (incoming_text m f.locals x.written) (incoming_text n f.locals x.written) x.incoming (incoming (word_of_shape h.0) h.0 x.written h.1.0.0) h.3)

    cases : (shape : Shape) (t : ℕ) → HasShape m.types m.struct_names shape t → (xs : List Case) → flat_map (case_text m f.locals t) xs ≡ flat_map (case_text n f.locals t) xs
    cases shape t has [] = refl
    cases shape t has (x ∷ xs) =
        same3 (λ a b c. (32 ∷ a ++ 32 ∷ b ++ codes ", " ++ target_text f.locals x.target) ++ c) (same_type shape t has) (same_constant shape t x.constant has) (cases shape t has xs)

    ending : (x : End) → IsEnd m f x → end_text m f.locals x ≡ end_text n f.locals x
    ending (end.Jump label) h = refl
    ending (end.Branch t x taken other) h = ap (λ (text : Text). codes "br " ++ text ++ codes ", " ++ target_text f.locals taken ++ codes ", " ++ target_text f.locals other) (condition t x h.0)
    ending (end.Switch t x otherwise xs) h =
        ap₂ (λ a b. codes "switch " ++ a ++ codes ", " ++ target_text f.locals otherwise ++ codes " [" ++ b ++ codes " ]") (with_type (word_of_shape h.1.0) h.1.0 t x h.1.1.0.0 h.1.2) (cases h.1.0 t h.1.1.0.0 xs)
    ending end.Unreachable h = refl
    ending end.ReturnVoid h = refl
    ending (end.Return x) h = ap (λ (text : Text). codes "ret " ++ text) (argument x h)

    block : (x : Block) → IsBlock m f x → block_text m f.locals x ≡ block_text n f.locals x
    block x h =
        same3 (λ a b c. key_text (name_at f.locals x.label) ++ codes ":\n" ++ a ++ b ++ c) (lines (IsPhi m f) (phi_line m f.locals) (phi_line n f.locals) x.phis phi h.0)
        (lines (IsInstr m f) (instruction_line m f.locals) (instruction_line n f.locals) x.body instruction h.1) (ap (λ (text : Text). codes "  " ++ text ++ codes "\n") (ending x.end h.2))

    -- ---- functions

    parameter : (x : Parameter) → IsParameter m x → parameter_text m f.locals x ≡ parameter_text n f.locals x
    parameter x h = ap (λ (text : Text). text ++ 32 ∷ local_text f.locals x.value) (same_type h.0 x.written h.1.0)

    result : (t : ℕ) → IsVoid m t ⊎ IsPassed m t → type_text m t ≡ type_text n t
    result t (inl h) = same_void t h
    result t (inr h) = same_type h.0 t h.1.0

    pub function : IsFunction m f → function_text m f ≡ function_text n f
    function h =
        same3 (λ a b c. (codes "define " ++ a ++ 32 ∷ global_text m f.symbol ++ 40 ∷ b ++ 41 ∷ collector_text f.collector ++ codes " {\n") ++ c ++ codes "}\n") (result f.returned h.returned)
        (list (IsParameter m) (parameter_text m f.locals) (parameter_text n f.locals) f.parameters parameter h.parameters)
        (lines (IsBlock m f) (block_text m f.locals) (block_text n f.locals) f.blocks block h.blocks)

  -- ---- items

  pub struct : (x : StructType) → IsStructType m x → struct_line m x ≡ struct_line n x
  struct x h = ap (λ (text : Text). struct_text m x.name ++ codes " = type " ++ text ++ 10 ∷ []) (same_type h.0 x.body h.1.0)

  pub global : (x : Global) → IsGlobal m x → global_line m x ≡ global_line n x
  global x h =
      ap₂ (λ a b. global_text m x.symbol ++ global_word x.is_constant ++ a ++ 32 ∷ b ++ 10 ∷ []) (same_type h.0 x.held h.1.0) (same_constant h.0 x.held x.initial h.1.0)

  any : (t : ℕ) → IsAnyType m t → type_text m t ≡ type_text n t
  any t h = same_type h.0 t h.1.0

  any_result : (t : ℕ) → IsVoid m t ⊎ IsAnyType m t → type_text m t ≡ type_text n t
  any_result t (inl h) = same_void t h
  any_result t (inr h) = any t h

  pub declare : (x : Declare) → IsDeclare m x → declare_line m x ≡ declare_line n x
  declare x h =
      ap₂ (λ a b. codes "declare " ++ a ++ 32 ∷ global_text m x.symbol ++ 40 ∷ b ++ codes ")\n") (any_result x.returned h.0) (list (IsAnyType m) (type_text m) (type_text n) x.parameters any h.1)
