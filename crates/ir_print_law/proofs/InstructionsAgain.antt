-- A printed instruction is read as this instruction again.
use Rattle.std.proofs.Common.{◌≡◌, ℕ, true, false, ◌++◌}
use Rattle.ir_ast.specs.declared.function.Function.{Function}
use Rattle.ir_ast.specs.declared.module.Module.{Module}
use Rattle.ir_ast.specs.declared.op.Op.{Op}
use Rattle.ir_ast.specs.declared.op.Op.TheVariants as op
use Rattle.ir_tokens.specs.Bytes.{Text}
use Rattle.ir_forms.specs.declared.input.Input.{Input}
use Rattle.ir_forms.specs.declared.site.Site.{Site}
use Rattle.ir_forms.specs.Instructions as whole
use Rattle.ir_print.specs.Instructions.{op_text}
use Rattle.ir_print_law.specs.Stands.{AreBlanks}
use Rattle.ir_print_law.specs.Printable.{IsOp, gives_value}
use Rattle.ir_print_law.proofs.State.{Invariant, Ready, Reads}
use Rattle.ir_print_law.proofs.ArgumentsAgain.{EndsLine}
use Rattle.ir_print_law.proofs.Parts.{OpAgain, Sets}
use Rattle.ir_print_law.proofs.OpsAgain.{PlainAgain}
use Rattle.ir_print_law.proofs.NumbersAgain.{named_number_reads}
use Rattle.ir_print_law.proofs.MemoryAgain.{named_memory_reads, plain_memory_reads}
use Rattle.ir_print_law.proofs.ElementsAgain.{named_element_reads}
use Rattle.ir_print_law.proofs.CastsAgain.{named_cast_reads}
use Rattle.ir_print_law.proofs.ChoicesAgain.{named_choice_reads}
use Rattle.ir_print_law.proofs.CallsAgain.{named_call_reads, plain_call_reads}

module _ {m : Module} {f : Function} (v u : Invariant m f) where
  -- what follows `%v =`
  pub named_op_reads : (site : Site) (value : ℕ) (x : Op) (i : Input) (gap rest : Text) (s : ℕ) → AreBlanks gap → IsOp m f x → gives_value m x ≡ true → Sets v u value → EndsLine rest
      → Ready v s i (gap ++ (op_text m f.locals x ++ rest)) → Reads u s (whole.named_op site value) i rest (OpAgain m f.locals x)
  named_op_reads site value (op.Number x) i gap rest s blanks own gives sets ends ready = named_number_reads v u site value x i gap rest s blanks own sets ends ready
  named_op_reads site value (op.Memory x) i gap rest s blanks own gives sets ends ready = named_memory_reads v u site value x i gap rest s blanks own gives sets ends ready
  named_op_reads site value (op.Element x) i gap rest s blanks own gives sets ends ready = named_element_reads v u site value x i gap rest s blanks own sets ends ready
  named_op_reads site value (op.Cast x) i gap rest s blanks own gives sets ends ready = named_cast_reads v u site value x i gap rest s blanks own sets ends ready
  named_op_reads site value (op.Choice x) i gap rest s blanks own gives sets ends ready = named_choice_reads v u site value x i gap rest s blanks own sets ends ready
  named_op_reads site value (op.Call x) i gap rest s blanks own gives sets ends ready = named_call_reads v u site value x i gap rest s blanks own gives sets ends ready

-- ---- an instruction without a value

module _ {m : Module} {f : Function} (v : Invariant m f) where
  -- a store, or a call that returns nothing
  pub plain_reads : (site : Site) (x : Op) (i : Input) (gap rest : Text) (s : ℕ) → AreBlanks gap → IsOp m f x → gives_value m x ≡ false → EndsLine rest
      → Ready v s i (gap ++ (op_text m f.locals x ++ rest)) → Reads v s (whole.instruction site) i rest (PlainAgain m f.locals x)
  plain_reads site (op.Memory x) i gap rest s blanks own gives ends ready = plain_memory_reads v site x i gap rest s blanks own gives ends ready
  plain_reads site (op.Call x) i gap rest s blanks own gives ends ready = plain_call_reads v site x i gap rest s blanks own gives ends ready
  plain_reads site (op.Number x) i gap rest s blanks own gives ends ready = absurd cc
  plain_reads site (op.Element x) i gap rest s blanks own gives ends ready = absurd cc
  plain_reads site (op.Cast x) i gap rest s blanks own gives ends ready = absurd cc
  plain_reads site (op.Choice x) i gap rest s blanks own gives ends ready = absurd cc
