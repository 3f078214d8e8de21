-- What is taken of instructions: each printed phi, instruction and end of a block is read as it was printed.
use Rattle.std.proofs.Common.{◌≡◌, ℕ, Bool, true, false, List, [], ◌∷◌, ◌++◌}
use Rattle.std.specs.Prelude.{codes}
use Rattle.lemmas.specs.Lists.{IsIn}
use Rattle.ir_ast.specs.declared.choices.Phi.{Phi}
use Rattle.ir_ast.specs.declared.ends.End.{End}
use Rattle.ir_ast.specs.declared.function.Function.{Function}
use Rattle.ir_ast.specs.declared.module.Module.{Module}
use Rattle.ir_ast.specs.declared.op.Op.{Op}
use Rattle.ir_tokens.specs.declared.token.Kind.{Kind}
use Rattle.ir_tokens.specs.declared.token.Kind.TheVariants as k
use Rattle.ir_tokens.specs.Bytes.{Text}
use Rattle.ir_forms.specs.declared.input.Input.{Input}
use Rattle.ir_forms.specs.declared.site.Site.{Site}
use Rattle.ir_forms.specs.Choices.{phi_after}
use Rattle.ir_forms.specs.Ends.{block_end}
use Rattle.ir_forms.specs.Instructions.{named_op, instruction}
use Rattle.ir_print.specs.Choices.{incoming_text}
use Rattle.ir_print.specs.Ends.{end_text}
use Rattle.ir_print.specs.Instructions.{op_text}
use Rattle.ir_print.specs.Operands.{listed}
use Rattle.ir_print_law.specs.Stands.{IsSeam, AreBlanks}
use Rattle.ir_print.specs.Types.{type_text}
use Rattle.ir_print_law.specs.Printable.{IsOp, IsPhi, IsEnd, gives_value}
use Rattle.ir_print_law.proofs.State.{Ready, Reads}
use Rattle.ir_print_law.proofs.Types.{Comes}
use Rattle.ir_print_law.proofs.OpsAgain.{PlainAgain}
use Rattle.ir_print_law.proofs.EndsAgain.{EndAgain}
use Rattle.ir_print_law.proofs.Known.{Far, AreNamed, known}
use Rattle.ir_print_law.proofs.Parts.{OpAgain}
use Rattle.ir_print_law.proofs.PhisAgain.{PhiAgain}
use Rattle.ir_print_law.proofs.Undropped.{Undropped}

-- a token of this kind begins a line of a function's body
abbrev pub begins_body_line : Kind → Bool
begins_body_line k.LocalName = true
begins_body_line k.LocalNumber = true
begins_body_line k.Call = true
begins_body_line k.Store = true
begins_body_line k.Ret = true
begins_body_line k.Br = true
begins_body_line k.Switch = true
begins_body_line k.Unreachable = true
begins_body_line k.LabelName = true
begins_body_line k.LabelNumber = true
begins_body_line k.CloseBrace = true
begins_body_line _ = false

-- such a line comes next, and begins no call that is dropped
abbrev pub EndsOp : Text → Type 0
EndsOp rest = IsSeam rest × Comes begins_body_line rest × Undropped rest

-- the value that waits for its type has it
abbrev pub far_set : Text → Far → Far
far_set key far = record far { values = far.values ++ key ∷ []; pending = [] }

-- what follows the name of a phi's value
abbrev pub phi_rest : Module → (locals : List Text) → Phi → (rest : Text) → Text
phi_rest m locals x rest = codes "= phi " ++ (type_text m x.written ++ (32 ∷ (listed (incoming_text m locals x.written) x.incoming ++ rest)))

pub record OpsRead (m : Module) (f : Function) (named : AreNamed m f) : Type 0 where
  -- a phi after its name, whose value waits for its type
  pub phi_read : (x : Phi) (key : Text) (value : ℕ) (far : Far) (i : Input) (gap rest : Text) → IsPhi m f x → far.pending ≡ (key, value) ∷ [] → IsIn key far.seen → (IsIn key far.labels → ⊥)
      → AreBlanks gap → EndsOp rest → Ready (known m f named far) 0 i (gap ++ phi_rest m f.locals x rest)
      → Reads (known m f named (far_set key far)) 0 (phi_after value) i rest (PhiAgain m f.locals value x)
  -- the operation after `%v =`, whose value waits for its type
  pub named_read : (op : Op) (key : Text) (value : ℕ) (far : Far) (site : Site) (i : Input) (gap rest : Text) → IsOp m f op → gives_value m op ≡ true
      → far.pending ≡ (key, value) ∷ [] → IsIn key far.seen → (IsIn key far.labels → ⊥) → AreBlanks gap → EndsOp rest → Ready (known m f named far) 0 i (gap ++ (op_text m f.locals op ++ rest))
      → Reads (known m f named (far_set key far)) 0 (named_op site value) i rest (OpAgain m f.locals op)
  -- an instruction without a value
  pub plain_read : (op : Op) (far : Far) (site : Site) (i : Input) (gap rest : Text) → IsOp m f op → gives_value m op ≡ false → AreBlanks gap → EndsOp rest
      → Ready (known m f named far) 0 i (gap ++ (op_text m f.locals op ++ rest))
      → Reads (known m f named far) 0 (instruction site) i rest (PlainAgain m f.locals op)
  -- the end of a block
  pub end_read : (end : End) (far : Far) (i : Input) (gap rest : Text) → IsEnd m f end → AreBlanks gap → EndsOp rest
      → Ready (known m f named far) 0 i (gap ++ (end_text m f.locals end ++ rest))
      → Reads (known m f named far) 0 block_end i rest (EndAgain m f.locals end)
