-- A module that is another one again has its text, line for line.
use Rattle.std.proofs.Common.{◌≡◌, ℕ, List, [], ◌∷◌, ◌++◌, Option, None, Some, refl, ap}
use Rattle.std.specs.Prelude.{codes}
use Rattle.ir_ast.specs.declared.block.Block.{Block}
use Rattle.ir_ast.specs.declared.choices.Incoming.{Incoming}
use Rattle.ir_ast.specs.declared.choices.Phi.{Phi}
use Rattle.ir_ast.specs.declared.ends.Case.{Case}
use Rattle.ir_ast.specs.declared.ends.End.{End}
use Rattle.ir_ast.specs.declared.ends.End.TheVariants as end
use Rattle.ir_ast.specs.declared.function.Function.{Function}
use Rattle.ir_ast.specs.declared.function.Parameter.{Parameter}
use Rattle.ir_ast.specs.declared.instr.Instr.{Instr}
use Rattle.ir_ast.specs.declared.items_of_module.Declare.{Declare}
use Rattle.ir_ast.specs.declared.items_of_module.Global.{Global}
use Rattle.ir_ast.specs.declared.items_of_module.StructType.{StructType}
use Rattle.ir_ast.specs.declared.module.Module.{Module}
use Rattle.ir_ast.specs.declared.op.Op.{Op}
use Rattle.ir_ast.specs.declared.op.Op.TheVariants as op
use Rattle.ir_tokens.specs.Bytes.{Text}
use Rattle.name_text.specs.Names.{name_text}
use Rattle.name_text.specs.declared.blank.Blank.TheVariants as blank
use Rattle.ir_print.specs.Blocks.{block_text}
use Rattle.ir_print.specs.Choices.{incoming_text, phi_line}
use Rattle.ir_print.specs.Ends.{target_text, case_text, end_text, end_line}
use Rattle.ir_print.specs.Instructions.{op_text, result_text, instruction_line}
use Rattle.ir_print.specs.Items.{struct_line, global_word, global_line, declare_line, parameter_text, collector_text, head_line, function_text, text_of}
use Rattle.ir_print.specs.Names.{key_text}
use Rattle.ir_print.specs.Types.{type_text}
use Rattle.ir_print_law.specs.PartsAgain.{IsNameAgain, IsTypeAgain}
use Rattle.ir_print_law.specs.Again.{IsIncomingAgain, IsCaseAgain, IsOpAgain, IsPhiAgain, IsValueAgain, IsInstrAgain, IsEndAgain, IsBlockAgain, IsParameterAgain, IsStructAgain, IsGlobalAgain, IsDeclareAgain, IsFunctionAgain, IsAgain}
use Rattle.ir_print_law.specs.EqualParts.{same2, same3, same4}
use Rattle.ir_print_law.proofs.SameParts.{lines_same, listed_same, name_same, type_same, result_same, constant_same, global_same, local_same, operand_same, typed_same, argument_same}
use Rattle.ir_print_law.proofs.NumbersAgain.{number_op_same}
use Rattle.ir_print_law.proofs.MemoryAgain.{memory_op_same}
use Rattle.ir_print_law.proofs.ElementsAgain.{element_same}
use Rattle.ir_print_law.proofs.CastsAgain.{cast_same}
use Rattle.ir_print_law.proofs.ChoicesAgain.{choice_same}
use Rattle.ir_print_law.proofs.CallsAgain.{call_same}

-- ---- instructions

module _ (m n : Module) (locals others : List Text) where
  target_same : (x y : ℕ) → IsNameAgain locals others x y → target_text locals x ≡ target_text others y
  target_same x y h = ap (λ (t : Text). codes "label " ++ t) (local_same m n locals others x y h)

  incoming_same : (t u : ℕ) → IsTypeAgain m n t u → (x y : Incoming) → IsIncomingAgain m n locals others x y → incoming_text m locals t x ≡ incoming_text n others u y
  incoming_same t u type x y h =
      same2 (λ a b. codes "[ " ++ a ++ codes ", " ++ b ++ codes " ]") (operand_same m n locals others t u x.operand y.operand type h.0) (local_same m n locals others x.from y.from h.1)

  case_same : (t u : ℕ) → IsTypeAgain m n t u → (x y : Case) → IsCaseAgain m n locals others x y → case_text m locals t x ≡ case_text n others u y
  case_same t u type x y h =
      same3 (λ a b c. 32 ∷ a ++ 32 ∷ b ++ codes ", " ++ c) (type_same m n t u type) (constant_same m n t u x.constant y.constant type h.0) (target_same x.target y.target h.1)

  op_same : (x y : Op) → IsOpAgain m n locals others x y → op_text m locals x ≡ op_text n others y
  op_same (op.Number x) (op.Number y) h = number_op_same m n locals others x y h
  op_same (op.Memory x) (op.Memory y) h = memory_op_same m n locals others x y h
  op_same (op.Element x) (op.Element y) h = element_same m n locals others x y h
  op_same (op.Cast x) (op.Cast y) h = cast_same m n locals others x y h
  op_same (op.Choice x) (op.Choice y) h = choice_same m n locals others x y h
  op_same (op.Call x) (op.Call y) h = call_same m n locals others x y h
  op_same _ _ h = absurd h

  -- ---- blocks

  phi_same : (x y : Phi) → IsPhiAgain m n locals others x y → phi_line m locals x ≡ phi_line n others y
  phi_same x y h =
      same3 (λ a b c. codes "  " ++ a ++ codes " = phi " ++ b ++ 32 ∷ c ++ codes "\n") (local_same m n locals others x.value y.value h.0) (type_same m n x.written y.written h.1)
      (listed_same (IsIncomingAgain m n locals others) (incoming_text m locals x.written) (incoming_text n others y.written) x.incoming y.incoming (incoming_same x.written y.written h.1) h.2)

  value_same : (x y : Option ℕ) → IsValueAgain m n locals others x y → result_text locals x ≡ result_text others y
  value_same None None h = refl
  value_same None (Some y) h = absurd h
  value_same (Some x) None h = absurd h
  value_same (Some x) (Some y) h = ap (λ (t : Text). t ++ codes " = ") (local_same m n locals others x y h)

  instr_same : (x y : Instr) → IsInstrAgain m n locals others x y → instruction_line m locals x ≡ instruction_line n others y
  instr_same x y h = same2 (λ a b. codes "  " ++ a ++ b ++ 10 ∷ []) (value_same x.result y.result h.0) (op_same x.op y.op h.1)

  end_same : (x y : End) → IsEndAgain m n locals others x y → end_text m locals x ≡ end_text n others y
  end_same (end.Jump target) (end.Jump other) h = ap (λ (t : Text). codes "br " ++ t) (target_same target other h)
  end_same (end.Branch bit c a b) (end.Branch other d x y) h =
      same3 (λ k l o. codes "br " ++ k ++ codes ", " ++ l ++ codes ", " ++ o) (typed_same m n locals others bit other c d h.0 h.1) (target_same a x h.2) (target_same b y h.3)
  end_same (end.Switch t x target cases) (end.Switch u y other further) h =
      same3 (λ a b c. codes "switch " ++ a ++ codes ", " ++ b ++ codes " [" ++ c ++ codes " ]") (typed_same m n locals others t u x y h.0 h.1) (target_same target other h.2)
      (lines_same (IsCaseAgain m n locals others) (case_text m locals t) (case_text n others u) cases further (case_same t u h.0) h.3)
  end_same end.Unreachable end.Unreachable h = refl
  end_same end.ReturnVoid end.ReturnVoid h = refl
  end_same (end.Return x) (end.Return y) h = ap (λ (t : Text). codes "ret " ++ t) (argument_same m n locals others x y h)
  end_same _ _ h = absurd h

  end_line_same : (x y : End) → IsEndAgain m n locals others x y → end_line m locals x ≡ end_line n others y
  end_line_same x y h = ap (λ (t : Text). codes "  " ++ t ++ codes "\n") (end_same x y h)

  block_same : (x y : Block) → IsBlockAgain m n locals others x y → block_text m locals x ≡ block_text n others y
  block_same x y h =
      same4 (λ a b c d. a ++ codes ":\n" ++ b ++ c ++ d) (ap key_text (name_same locals others x.label y.label h.0))
      (lines_same (IsPhiAgain m n locals others) (phi_line m locals) (phi_line n others) x.phis y.phis phi_same h.1)
      (lines_same (IsInstrAgain m n locals others) (instruction_line m locals) (instruction_line n others) x.body y.body instr_same h.2) (end_line_same x.end y.end h.3)

  parameter_same : (x y : Parameter) → IsParameterAgain m n locals others x y → parameter_text m locals x ≡ parameter_text n others y
  parameter_same x y h = same2 (λ a b. a ++ 32 ∷ b) (type_same m n x.written y.written h.0) (local_same m n locals others x.value y.value h.1)

-- ---- items

struct_same : (m n : Module) (x y : StructType) → IsStructAgain m n x y → struct_line m x ≡ struct_line n y
struct_same m n x y h =
    same2 (λ a b. a ++ codes " = type " ++ b ++ 10 ∷ []) (ap (λ (k : Text). 37 ∷ name_text blank.Kept k) (name_same m.struct_names n.struct_names x.name y.name h.name)) (type_same m n x.body y.body h.body)

global_line_same : (m n : Module) (x y : Global) → IsGlobalAgain m n x y → global_line m x ≡ global_line n y
global_line_same m n x y h =
    same4 (λ a b c d. a ++ b ++ c ++ 32 ∷ d ++ 10 ∷ []) (global_same m n x.symbol y.symbol h.symbol) (ap global_word h.is_constant) (type_same m n x.held y.held h.held)
    (constant_same m n x.held y.held x.initial y.initial h.held h.initial)

declare_same : (m n : Module) (x y : Declare) → IsDeclareAgain m n x y → declare_line m x ≡ declare_line n y
declare_same m n x y h =
    same3 (λ a b c. codes "declare " ++ a ++ 32 ∷ b ++ 40 ∷ c ++ codes ")\n") (result_same m n x.returned y.returned h.returned) (global_same m n x.symbol y.symbol h.symbol)
    (listed_same (IsTypeAgain m n) (type_text m) (type_text n) x.parameters y.parameters (type_same m n) h.parameters)

head_same : (m n : Module) (f g : Function) → IsFunctionAgain m n f g → head_line m f ≡ head_line n g
head_same m n f g h =
    same4 (λ a b c d. codes "define " ++ a ++ 32 ∷ b ++ 40 ∷ c ++ 41 ∷ d ++ codes " {\n") (result_same m n f.returned g.returned h.returned) (global_same m n f.symbol g.symbol h.symbol)
    (listed_same (IsParameterAgain m n f.locals g.locals) (parameter_text m f.locals) (parameter_text n g.locals) f.parameters g.parameters (parameter_same m n f.locals g.locals) h.parameters)
    (ap collector_text h.collector)

function_same : (m n : Module) (f g : Function) → IsFunctionAgain m n f g → function_text m f ≡ function_text n g
function_same m n f g h =
    same2 (λ a b. a ++ b ++ codes "}\n") (head_same m n f g h)
    (lines_same (IsBlockAgain m n f.locals g.locals) (block_text m f.locals) (block_text n g.locals) f.blocks g.blocks (block_same m n f.locals g.locals) h.blocks)

-- a module that is another one again has its text
pub same_text : (m n : Module) → IsAgain m n → text_of m ≡ text_of n
same_text m n h =
    same4 (λ a b c d. a ++ b ++ c ++ d) (lines_same (IsStructAgain m n) (struct_line m) (struct_line n) m.structs n.structs (struct_same m n) h.structs)
    (lines_same (IsGlobalAgain m n) (global_line m) (global_line n) m.globals n.globals (global_line_same m n) h.globals)
    (lines_same (IsDeclareAgain m n) (declare_line m) (declare_line n) m.declares n.declares (declare_same m n) h.declares)
    (lines_same (IsFunctionAgain m n) (function_text m) (function_text n) m.functions n.functions (function_same m n) h.functions)
