-- Printed selects are read as these selects again.
use Rattle.std.proofs.Common.{◌≡◌, ℕ, ◌+◌, false, List, [], ◌∷◌, ◌++◌, refl, subst, arith, append_assoc, ap}
use Rattle.std.specs.Prelude.{codes}
use Rattle.grammar.specs.Grammar.{pure, ◌>>=◌, ◌>>◌}
use Rattle.ir_ast.specs.declared.argument.Argument.{Argument}
use Rattle.ir_ast.specs.declared.choices.Choice.{Choice}
use Rattle.ir_ast.specs.declared.function.Function.{Function}
use Rattle.ir_ast.specs.declared.function.LocalSort.TheVariants as local
use Rattle.ir_ast.specs.declared.module.Module.{Module}
use Rattle.ir_ast.specs.declared.operand.Operand.{Operand}
use Rattle.ir_tokens.specs.declared.token.Kind.TheVariants as k
use Rattle.ir_tokens.specs.Bytes.{Text, class_of}
use Rattle.ir_tokens.specs.Keywords.{word_kind, keywords}
use Rattle.ir_forms.specs.declared.input.Input.{Input}
use Rattle.ir_forms.specs.declared.numbers.TwoOperands.{TwoOperands}
use Rattle.ir_forms.specs.declared.written.WrittenType.{WrittenType}
use Rattle.ir_forms.specs.Choices as choices
use Rattle.ir_forms.specs.Input.{Form, advanced, skip, expect}
use Rattle.ir_forms.specs.Names.{set_type}
use Rattle.ir_forms.specs.Numbers as numbers
use Rattle.ir_forms.specs.Operand as form
use Rattle.ir_forms.specs.Written as w
use Rattle.ir_print.specs.Choices.{choice_text}
use Rattle.ir_print.specs.Operands.{operand_text, typed_text}
use Rattle.ir_print.specs.Parts.{typed}
use Rattle.ir_print_law.specs.Stands.{IsSeam, AreBlanks, Stands}
use Rattle.ir_print_law.specs.Choices.{IsChoiceAgain, IsChoice}
use Rattle.ir_print_law.specs.Parts.{ArePair}
use Rattle.ir_print_law.proofs.State.{Invariant, Ready, Reads, Any}
use Rattle.ir_print_law.proofs.Shown.{shown, IsTypeRead, read_stays}
use Rattle.ir_print_law.proofs.Steps.{given, sign_reads, word_skipped, grows_further, later_before}
use Rattle.ir_print_law.proofs.PrintedTypes.{type_shown, read_again, scalar_reads}
use Rattle.ir_print_law.proofs.OperandsAgain.{OperandAgain, ends_operand}
use Rattle.ir_print_law.proofs.AgainTypes.{again_reads}
use Rattle.ir_print_law.proofs.NumbersAgain.{condition_reads}
use Rattle.ir_print_law.proofs.Parts.{ends_again, IsLaterAgain, ArgumentAgain, PairAgain, Sets, operand_at, OpAgain}
use Rattle.ir_print_law.proofs.Setting.{on, set_reads}
use Rattle.ir_ast.specs.declared.op.Op.TheVariants as op
use Rattle.ir_print.specs.Instructions.{op_text}
use Rattle.ir_tokens.specs.declared.token.Kind.{Kind}
use Rattle.ir_forms.specs.Cursor.{kind, same_kind}
use Rattle.ir_forms.specs.Place.{Place}
use Rattle.ir_print_law.proofs.Words.{word_comes}
use Rattle.ir_forms.specs.declared.site.Site.{Site}
use Rattle.ir_forms.specs.Instructions as whole
use Rattle.ir_print_law.proofs.ArgumentsAgain.{EndsLine}
use Rattle.ir_print_law.proofs.OpsAgain.{op_reads, by_word}
use Rattle.ir_print_law.proofs.SameParts.{typed_same}
use Rattle.ir_print_law.proofs.LongerTypes.{with_types, condition_again, pair_again}
use Rattle.ir_ast.specs.declared.ir_type.IrType.{IrType}
use Rattle.ir_print_law.specs.Definitions.{defined_functions}
use Rattle.ir_print_law.specs.EqualParts.{same3}
use Rattle.ir_print_law.proofs.OneKind.{IsLonger}

-- a select is this one again, in each module later on
abbrev pub ChoiceAgain : Module → (locals : List Text) → Choice → Choice → Input → Type 0
ChoiceAgain m locals = IsLaterAgain (λ n others. IsChoiceAgain m n locals others)

module _ {m : Module} {f : Function} (v : Invariant m f) where
  -- `T V, T W`
  typed_pair_reads : (t : ℕ) (x y : Operand) (i : Input) (gap rest : Text) (s : ℕ) → ArePair m f t x y → AreBlanks gap → IsSeam rest
      → Ready v s i (gap ++ ((typed_text m f.locals t x ++ codes ", " ++ typed_text m f.locals t y) ++ rest))
      → Reads v s choices.typed_pair i rest (PairAgain m f.locals t x y)
  unfolding choices.typed_pair class_of
  typed_pair_reads t x y i gap rest s own blanks seam ready =
      let shape = own.0 in
      let scalar = own.1 in
      let type_is = type_shown m shape t scalar.0.0 scalar.0.1 in
      let good = PairAgain m f.locals t x y in
      let a = operand_text m f.locals t x in
      let b = operand_text m f.locals t y in
      let t4 = operand_text m f.locals t y ++ rest in
      let t3 = shown false shape ++ (32 ∷ t4) in
      let t2 = codes ", " ++ t3 in
      let ready = subst (λ (z : Text). Ready v s i (gap ++ (((z ++ 32 ∷ operand_text m f.locals t x) ++ codes ", " ++ (z ++ 32 ∷ operand_text m f.locals t y)) ++ rest))) type_is ready in
      let ready = subst (λ (z : Text). Ready v s i (gap ++ z)) (front (shown false shape) a b) ready in
      on v v w.scalar first_form i (32 ∷ (operand_text m f.locals t x ++ t2)) rest s s (IsTypeRead shape 64) good
      (scalar_reads v shape i gap (32 ∷ (operand_text m f.locals t x ++ t2)) s scalar.0.2 scalar.0.1 scalar.1 blanks (ends_operand v shape t x t2 scalar.0.0 own.2 refl) ready)
      (λ p o ready g read.
      on v v (form.operand (w.word_of p)) (comma_form p) o t2 rest s s (OperandAgain m f.locals x) good
      (operand_at v shape t x p o o (32 ∷ []) t2 s read scalar.0.0 own.2 refl refl ready)
      (λ x1 q ready h first.
      on v v (expect k.Comma) (λ _. again_form p x1) q (32 ∷ t3) rest s s (λ _ r. advanced q ≡ r) good
      (sign_reads v 44 k.Comma q [] (32 ∷ t3) s s refl refl refl (omega arith) ready)
      (λ _ r ready hh e.
      let there = read_stays shape 64 p o r (grows_further o q r h hh) read in
      on v v (w.again p) (λ _. second_form p x1) r (32 ∷ t4) rest s s Any good
      (again_reads v shape p r (32 ∷ []) (32 ∷ t4) s scalar.0.2 there.has_shape scalar.0.1 refl (ends_again (32 ∷ t4) (ends_operand v shape t y rest scalar.0.0 own.3 seam)) ready)
      (λ _ z ready h3 e.
      on v v (form.operand (w.word_of p)) (λ y1. pure (record { written = p.id; first = x1; second = y1 })) z rest rest s s (OperandAgain m f.locals y) good
      (operand_at v shape t y p o z (32 ∷ []) rest s read scalar.0.0 own.3 refl seam ready)
      (λ y1 u ready h4 second. given v (record { written = p.id; first = x1; second = y1 }) u rest s good ready
      (λ n others later.
      let later2 = later_before q u n others (grows_further q r u hh (grows_further r z u h3 h4)) later in
      (read_again m shape t p.id o n others scalar.0.0 read.has_shape (later_before o q n others h later2), first n others later2, second n others later)))))))
    where
      front : (c a b : Text) → ((c ++ 32 ∷ a) ++ codes ", " ++ (c ++ 32 ∷ b)) ++ rest ≡ c ++ (32 ∷ (a ++ (codes ", " ++ (c ++ (32 ∷ (b ++ rest))))))
      front c a b = simp append_assoc

      second_form : WrittenType → Operand → Form TwoOperands
      second_form p x = form.operand (w.word_of p) >>= λ y. pure (record { written = p.id; first = x; second = y })

      again_form : WrittenType → Operand → Form TwoOperands
      again_form p x = w.again p >> second_form p x

      comma_form : WrittenType → Operand → Form TwoOperands
      comma_form p x = expect k.Comma >> again_form p x

      first_form : WrittenType → Form TwoOperands
      first_form p = form.operand (w.word_of p) >>= comma_form p

module _ {m : Module} {f : Function} (v u : Invariant m f) where
  -- `select i1 V, T V, T W`
  pub select_reads : (value : ℕ) (x : Choice) (i : Input) (gap rest : Text) (s : ℕ) → IsChoice m f x → Sets v u value → AreBlanks gap → IsSeam rest
      → Ready v s i (gap ++ (choice_text m f.locals x ++ rest)) → Reads u s (choices.select value) i rest (ChoiceAgain m f.locals x)
  unfolding choices.select class_of word_kind keywords
  select_reads value x i gap rest s own sets blanks seam ready =
      let good = ChoiceAgain m f.locals x in
      let t3 = (typed_text m f.locals x.written x.chosen ++ codes ", " ++ typed_text m f.locals x.written x.other) ++ rest in
      let t2 = codes ", " ++ t3 in
      let t1 = typed_text m f.locals x.condition_type x.condition ++ t2 in
      let ready = subst (λ (z : Text). Ready v s i (gap ++ z)) (front (typed_text m f.locals x.condition_type x.condition) (typed_text m f.locals x.written x.chosen) (typed_text m f.locals x.written x.other)) ready in
      on v u skip (λ _. condition_form) i (32 ∷ t1) rest (s + 1) s (λ _ o. advanced i ≡ o) good
      (word_skipped v (codes "select") i gap (32 ∷ t1) s (s + 1) blanks refl refl (omega arith) ready)
      (λ _ o ready g e.
      on v u numbers.condition comma_form o t2 rest s s (ArgumentAgain m f.locals (typed x.condition_type x.condition)) good
      (condition_reads v x.condition_type x.condition o (32 ∷ []) t2 s own.0 refl refl ready)
      (λ b q ready h again.
      on v u (expect k.Comma) (λ _. pair_form b) q (32 ∷ t3) rest s s (λ _ z. advanced q ≡ z) good
      (sign_reads v 44 k.Comma q [] (32 ∷ t3) s s refl refl refl (omega arith) ready)
      (λ _ z ready hh e.
      let pair = typed_pair_reads v x.written x.chosen x.other z (32 ∷ []) rest s own.1 refl seam ready in
      let rest_read = set_reads v u (λ n others. IsChoiceAgain m n f.locals others) value (local.Value pair.0.written) x (made b pair.0) pair.1 rest s sets refl pair.3
      (λ n others later.
      let bit = again n others (later_before q pair.1 n others (grows_further q z pair.1 hh pair.4) later) in
      (bit.0, bit.1, pair.5 n others later)) in
      (rest_read.0, rest_read.1, (pair.0, pair.1, pair.2, rest_read.2), rest_read.3, grows_further z pair.1 rest_read.1 pair.4 rest_read.4, rest_read.5))))
    where
      front : (a b c : Text) → (codes "select " ++ a ++ codes ", " ++ b ++ codes ", " ++ c) ++ rest ≡ codes "select" ++ (32 ∷ (a ++ (codes ", " ++ ((b ++ codes ", " ++ c) ++ rest))))
      front a b c = simp append_assoc

      made : Argument → TwoOperands → Choice
      made b p = record { condition_type = b.written; condition = b.operand; written = p.written; chosen = p.first; other = p.second }

      set_form : Argument → TwoOperands → Form Choice
      set_form b p = set_type value p.written >> pure (made b p)

      pair_form : Argument → Form Choice
      pair_form b = choices.typed_pair >>= set_form b

      comma_form : Argument → Form Choice
      comma_form b = expect k.Comma >> pair_form b

      condition_form : Form Choice
      condition_form = numbers.condition >>= comma_form

  -- what follows `%v =`
  pub named_choice_reads : (site : Site) (value : ℕ) (x : Choice) (i : Input) (gap rest : Text) (s : ℕ) → AreBlanks gap → IsChoice m f x → Sets v u value → EndsLine rest
      → Ready v s i (gap ++ (op_text m f.locals (op.Choice x) ++ rest)) → Reads u s (whole.named_op site value) i rest (OpAgain m f.locals (op.Choice x))
  unfolding word_kind keywords class_of
  named_choice_reads site value x i gap rest s blanks own sets ends ready =
      by_word v u site value (op.Choice x) (codes "select") _ i gap rest s blanks refl refl ready
      (op_reads u op.Choice (choices.select value) (λ n others. IsChoiceAgain m n f.locals others) x (op.Choice x) i rest s (λ y o again. again)
      (select_reads value x i gap rest s own sets blanks ends.0 ready))

-- ---- its word

-- its word is not that of a phi
pub choice_no_phi : (m : Module) (locals : List Text) (x : Choice) (place : Place) (rest : Text) → Stands place (32 ∷ (choice_text m locals x ++ 10 ∷ rest)) → same_kind (kind place) k.Phi ≡ false
unfolding class_of word_kind keywords same_kind
choice_no_phi m locals x place rest at = ap (λ (x : Kind). same_kind x k.Phi) (word_comes place (32 ∷ []) (codes "select") _ refl refl refl at).0

-- ---- its text

module _ (m n : Module) (locals others : List Text) where
  -- one select, one text
  pub choice_same : (x y : Choice) → IsChoiceAgain m n locals others x y → choice_text m locals x ≡ choice_text n others y
  choice_same x y h =
      same3 (λ k l o. codes "select " ++ k ++ codes ", " ++ l ++ codes ", " ++ o) (typed_same m n locals others x.condition_type y.condition_type x.condition y.condition h.0 h.1)
      (typed_same m n locals others x.written y.written x.chosen y.chosen h.2.0 h.2.1) (typed_same m n locals others x.written y.written x.other y.other h.2.0 h.2.2)

-- a select is printable where the module has more types, too
pub choice_longer : (m : Module) (types : List IrType) (fs : List Function) (more : IsLonger m.types types) (same : defined_functions (with_types m types fs) ≡ defined_functions m) (f : Function)
    → (x : Choice) → IsChoice m f x → IsChoice (with_types m types fs) f x
choice_longer m types fs more same f x h = (condition_again m types fs more same f x.condition_type x.condition h.0, pair_again m types fs more same f x.written x.chosen x.other h.1)
