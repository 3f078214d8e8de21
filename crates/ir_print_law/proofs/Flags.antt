-- The word of an instruction is read where no flag comes after it, as it is printed.
use Rattle.std.proofs.Common.{◌≡◌, ◌≤◌, ℕ, ◌+◌, true, false, not, [], ◌++◌, length, refl, ap}
use Rattle.ir_ast.specs.declared.function.Function.{Function}
use Rattle.ir_ast.specs.declared.module.Module.{Module}
use Rattle.ir_tokens.specs.declared.token.Kind.{Kind}
use Rattle.ir_tokens.specs.declared.token.Kind.TheVariants as k
use Rattle.ir_tokens.specs.Bytes.{Text}
use Rattle.ir_forms.specs.Cursor.{kind}
use Rattle.ir_forms.specs.declared.input.Input.{Input}
use Rattle.ir_forms.specs.Input.{advanced}
use Rattle.ir_forms.specs.Decorations.{flags, flagged_word}
use Rattle.ir_forms.specs.Starts.{is_flag_of}
use Rattle.ir_forms.specs.Written as w
use Rattle.ir_print_law.specs.Stands.{Stands, IsSeam, AreBlanks}
use Rattle.name_text.specs.Names.{is_plain}
use Rattle.ir_print_law.proofs.State.{Invariant, Ready, Reads}
use Rattle.ir_print_law.proofs.Steps.{word_skipped}

-- a type is no flag
pub type_no_flag : (x y : Kind) → w.begins_type y ≡ true → is_flag_of x y ≡ false
type_no_flag x k.Nuw e = absurd cc
type_no_flag x k.Nsw e = absurd cc
type_no_flag x k.Nusw e = absurd cc
type_no_flag x k.Inbounds e = absurd cc
type_no_flag x k.Nneg e = absurd cc
type_no_flag x k.Disjoint e = absurd cc
type_no_flag x k.Samesign e = absurd cc
type_no_flag x _ e = refl

-- there are no flags
flags_said : (x : Kind) (i : Input) → is_flag_of x (kind i.cursor) ≡ false → (flags x).says i tt i
unfolding flags
flags_said x i e = ([], i, (ap not e, refl), (refl, refl))

module _ {m : Module} {f : Function} (v : Invariant m f) where
  -- a word is skipped after which no flag comes
  pub word_flagged : (word : Text) (i : Input) (gap rest : Text) (s t : ℕ) → AreBlanks gap → is_plain word ≡ true → IsSeam rest → t ≤ s + length word → Ready v s i (gap ++ (word ++ rest))
      → ((o : Input) → Stands o.cursor rest → (x : Kind) → is_flag_of x (kind o.cursor) ≡ false) → Reads v t flagged_word i rest (λ _ o. advanced i ≡ o)
  unfolding flagged_word
  word_flagged word i gap rest s t blanks plain seam le ready none =
      let h = word_skipped v word i gap rest s t blanks plain seam le ready in
      (tt, h.1, (h.0, h.1, h.2, flags_said (kind i.cursor) h.1 (none h.1 h.3.stands (kind i.cursor))), h.3, h.4, h.5)
