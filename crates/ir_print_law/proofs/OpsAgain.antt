-- What the families of instructions have in common, where their printed texts are read again: an operation by its word, with a value or without.
use Rattle.std.proofs.Common.{◌≡◌, ℕ, List, ◌++◌, None, refl, true}
use Rattle.ir_ast.specs.declared.function.Function.{Function}
use Rattle.ir_ast.specs.declared.instr.Instr.{Instr}
use Rattle.ir_ast.specs.declared.module.Module.{Module}
use Rattle.ir_ast.specs.declared.op.Op.{Op}
use Rattle.ir_tokens.specs.Bytes.{Text}
use Rattle.ir_print_law.specs.Again.{IsInstrAgain}
use Rattle.ir_tokens.specs.Keywords.{word_kind}
use Rattle.ir_forms.specs.Cursor.{kind}
use Rattle.ir_print_law.specs.Stands.{IsSeam, AreBlanks}
use Rattle.ir_forms.specs.declared.input.Input.{Input}
use Rattle.ir_forms.specs.declared.site.Site.{Site}
use Rattle.ir_forms.specs.Input.{Form}
use Rattle.ir_forms.specs.Instructions as whole
use Rattle.ir_forms.specs.Ops.{as_op}
use Rattle.name_text.specs.Names.{is_plain}
use Rattle.ir_print_law.proofs.State.{Invariant, Ready, Reads}
use Rattle.ir_print_law.proofs.Steps.{looked, word_seen, grows_itself}
use Rattle.ir_print_law.proofs.ArgumentsAgain.{EndsLine}
use Rattle.ir_print_law.proofs.Parts.{IsLaterAgain, OpAgain}
use Rattle.ir_forms.specs.Calls as calls
use Rattle.ir_forms.specs.Records.{trail_of}
use Rattle.ir_print_law.proofs.ListsAgain.{line_ended}

-- an operation of a family is one of instructions
pub op_reads : {m : Module} {f : Function} (u : Invariant m f) {A B : Type 0} (make : B → Op) (form : Form B) (Again : Module → List Text → A → B → Type 0) (of : A) (x : Op) (i : Input) (rest : Text) (s : ℕ)
    → ((y : B) (o : Input) → IsLaterAgain Again of y o → OpAgain m f.locals x (make y) o) → Reads u s form i rest (IsLaterAgain Again of) → Reads u s (as_op make form) i rest (OpAgain m f.locals x)
op_reads u make form Again of x i rest s so h = (make h.0, h.1, (h.0, h.1, h.2, (refl, refl)), h.3, h.4, so h.0 h.1 h.5)

module _ {m : Module} {f : Function} (v u : Invariant m f) where
  -- an operation after `%v =`, by its word
  pub by_word : (site : Site) (value : ℕ) (x : Op) (word afterwards : Text) (i : Input) (gap rest : Text) (s : ℕ) → AreBlanks gap → is_plain word ≡ true → IsSeam afterwards → Ready v s i (gap ++ (word ++ afterwards))
      → Reads u s (whole.named_op_by site value (word_kind word)) i rest (OpAgain m f.locals x) → Reads u s (whole.named_op site value) i rest (OpAgain m f.locals x)
  unfolding whole.named_op
  by_word site value x word afterwards i gap rest s blanks plain seam ready h =
      looked u (λ i. kind i.cursor) (whole.named_op_by site value) i rest s (OpAgain m f.locals x) (word_kind word) (word_seen v word i gap afterwards s blanks plain seam ready) h

-- ---- without a value

-- an instruction without a value
abbrev pub plain : Op → Instr
plain x = record { result = None; op = x }

-- an instruction without a value does this again, in each module later on
abbrev pub PlainAgain : Module → (locals : List Text) → Op → Instr → Input → Type 0
PlainAgain m locals x = IsLaterAgain (λ n others. IsInstrAgain m n locals others) (plain x)

module _ {m : Module} {f : Function} (v : Invariant m f) where
  -- an instruction without a value
  pub unnamed_reads : (x y : Op) (i : Input) (rest : Text) (s : ℕ) → EndsLine rest → OpAgain m f.locals x y i → Ready v s i rest → Reads v s (calls.unnamed y) i rest (PlainAgain m f.locals x)
  unnamed_reads x y i rest s ends again ready =
      let said = line_ended (trail_of y) i (ends.1 i ready.stands) (ends.2 i ready.stands) in
      (record { result = None; op = y }, i, (y, i, (tt, i, said, (refl, refl)), (refl, refl)), ready, grows_itself i, λ n others later. (tt, again n others later))

  -- an instruction by its word
  pub plain_by_word : (site : Site) (x : Op) (word afterwards : Text) (i : Input) (gap rest : Text) (s : ℕ) → AreBlanks gap → is_plain word ≡ true → IsSeam afterwards → Ready v s i (gap ++ (word ++ afterwards))
      → Reads v s (whole.instruction_by site (word_kind word)) i rest (PlainAgain m f.locals x) → Reads v s (whole.instruction site) i rest (PlainAgain m f.locals x)
  unfolding whole.instruction
  plain_by_word site x word afterwards i gap rest s blanks plain seam ready h =
      looked v (λ i. kind i.cursor) (whole.instruction_by site) i rest s (PlainAgain m f.locals x) (word_kind word) (word_seen v word i gap afterwards s blanks plain seam ready) h
