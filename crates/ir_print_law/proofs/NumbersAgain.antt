-- Printed operations on numbers, and conditions, are read as they were printed; and their numbers are within the tables.
use Rattle.std.proofs.Common.{◌≡◌, ◌≤◌, ℕ, ◌+◌, Bool, true, false, List, [], ◌∷◌, ◌++◌, length, slice_get, None, Some, refl, ap, subst, ◌∙◌, arith, append_assoc}
use Rattle.std.specs.Prelude.{◌&&◌, if◌then◌else◌, codes}
use Rattle.std.specs.Str.{bytes_eq}
use Rattle.grammar.specs.Grammar.{pure, ◌>>=◌, ◌>>◌}
use Rattle.ir_ast.specs.declared.argument.Argument.{Argument}
use Rattle.ir_ast.specs.declared.function.Function.{Function}
use Rattle.ir_ast.specs.declared.function.LocalSort.TheVariants as local
use Rattle.ir_ast.specs.declared.ir_type.IrType.TheVariants as type
use Rattle.ir_ast.specs.declared.module.Module.{Module}
use Rattle.ir_ast.specs.declared.numbers.Arithmetic.{Arithmetic}
use Rattle.ir_ast.specs.declared.numbers.Comparison.{Comparison}
use Rattle.ir_ast.specs.declared.numbers.Comparison.TheVariants as comparison
use Rattle.ir_ast.specs.declared.numbers.NumberOp.{NumberOp}
use Rattle.ir_ast.specs.declared.numbers.NumberOp.TheVariants as number
use Rattle.ir_ast.specs.declared.numbers.Resize.{Resize}
use Rattle.ir_ast.specs.declared.operand.Operand.{Operand}
use Rattle.ir_tokens.specs.declared.token.Kind.{Kind}
use Rattle.ir_tokens.specs.declared.token.Kind.TheVariants as k
use Rattle.ir_tokens.specs.Bytes.{Text, class_of}
use Rattle.ir_tokens.specs.Keywords.{word_kind, keywords}
use Rattle.ir_forms.specs.Cursor.{kind, sees, spelling, same_kind}
use Rattle.ir_forms.specs.declared.input.Input.{Input}
use Rattle.ir_forms.specs.Input.{Form, advanced, skip, expect}
use Rattle.ir_forms.specs.Names.{set_type}
use Rattle.ir_forms.specs.Operand as form
use Rattle.ir_forms.specs.Written as w
use Rattle.ir_forms.specs.declared.numbers.TwoOperands.{TwoOperands}
use Rattle.ir_forms.specs.Decorations.{flagged_word, either}
use Rattle.ir_forms.specs.Starts.{is_flag_of}
use Rattle.ir_forms.specs.Lists as lists
use Rattle.ir_forms.specs.Casts as casts
use Rattle.ir_forms.specs.FloatOps as floats
use Rattle.ir_forms.specs.Numbers as numbers
use Rattle.ir_print.specs.Numbers.{arithmetic_word, comparison_word, resize_word, number_op_text}
use Rattle.ir_print.specs.Operands.{operand_text, typed_text}
use Rattle.ir_print.specs.Parts.{typed, pair_text, converted_text}
use Rattle.ir_print_law.specs.Stands.{Stands, IsSeam, AreBlanks}
use Rattle.ir_print.specs.Types.{type_text}
use Rattle.name_text.specs.Names.{is_plain}
use Rattle.ir_print_law.specs.ModuleNames.{HasModuleNames}
use Rattle.ir_print_law.specs.Numbers.{IsNumberOpAgain, IsNumberOp, IsNumberOpWithin}
use Rattle.ir_print_law.specs.Parts.{ArePair, IsConverted, IsCondition, IsNoFloat}
use Rattle.ir_print_law.specs.Shapes.{Integer}
use Rattle.ir_print_law.proofs.DefinedWithin.{AreDefinedWithin}
use Rattle.ir_print_law.proofs.PartsLonger.{MeansAsMuch, pair_longer, converted_longer}
use Rattle.ir_print_law.proofs.PartsWithin.{Wide, pair_within, converted_within}
use Rattle.ir_print_law.proofs.State.{Invariant, Ready, Reads, Any}
use Rattle.ir_print_law.proofs.Shown.{shown}
use Rattle.ir_print_law.proofs.Steps.{looked, given, unlike, word_skipped, word_seen, intern_reads, grows_further, later_before}
use Rattle.ir_print_law.proofs.Flags.{type_no_flag, word_flagged}
use Rattle.ir_print_law.proofs.Types.{EndsType}
use Rattle.ir_print_law.proofs.WholeTypes.{type_begins}
use Rattle.ir_print_law.proofs.PrintedTypes.{type_shown, read_again}
use Rattle.ir_print_law.proofs.OperandsAgain.{OperandAgain, operand_reads, ends_operand}
use Rattle.ir_print_law.proofs.AgainTypes.{again_reads}
use Rattle.ir_print_law.proofs.Parts.{ends_again, IsLaterAgain, ArgumentAgain, PairAgain, Sets, pair_reads, OpAgain}
use Rattle.ir_print_law.proofs.Setting.{on, set_reads, integer_converted_reads}
use Rattle.ir_ast.specs.declared.op.Op.TheVariants as op
use Rattle.ir_print.specs.Instructions.{op_text}
use Rattle.ir_ast.specs.declared.numbers.Arithmetic.TheVariants as arithmetic
use Rattle.ir_ast.specs.declared.numbers.Resize.TheVariants as resize
use Rattle.ir_forms.specs.Place.{Place}
use Rattle.ir_print_law.proofs.Words.{word_comes, seen}
use Rattle.ir_forms.specs.declared.site.Site.{Site}
use Rattle.ir_forms.specs.Instructions as whole
use Rattle.ir_forms.specs.Ops.{as_op}
use Rattle.ir_forms.specs.declared.written.Word.TheVariants as sort
use Rattle.ir_print_law.proofs.ArgumentsAgain.{EndsLine, line_ends_type}
use Rattle.ir_print_law.proofs.OpsAgain.{op_reads, by_word}
use Rattle.ir_print_law.proofs.SameParts.{converted_same, pair_same}
use Rattle.ir_print_law.proofs.LongerTypes.{with_types, word_again, pair_again, converted_again}
use Rattle.ir_forms.specs.Written.{is_float_word}
use Rattle.ir_print_law.proofs.FloatsAgain.{float_named_reads, float_no_phi, float_op_same, float_longer, float_within, float_within_longer}
use Rattle.ir_ast.specs.declared.ir_type.IrType.{IrType}
use Rattle.ir_print_law.specs.Definitions.{defined_functions}
use Rattle.ir_print_law.specs.EqualParts.{same2}
use Rattle.ir_print_law.proofs.OneKind.{IsLonger}

-- an operation on numbers is this one again, in each module later on
abbrev pub NumberAgain : Module → (locals : List Text) → NumberOp → NumberOp → Input → Type 0
NumberAgain m locals = IsLaterAgain (λ n others. IsNumberOpAgain m n locals others)

-- a comparison is no flag
comparison_no_flag : (x y : Kind) (c : Comparison) → numbers.comparison_of y ≡ Some c → is_flag_of x y ≡ false
comparison_no_flag x k.Nuw c e = absurd cc
comparison_no_flag x k.Nsw c e = absurd cc
comparison_no_flag x k.Nusw c e = absurd cc
comparison_no_flag x k.Inbounds c e = absurd cc
comparison_no_flag x k.Nneg c e = absurd cc
comparison_no_flag x k.Disjoint c e = absurd cc
comparison_no_flag x k.Samesign c e = absurd cc
comparison_no_flag x _ c e = refl

module _ {m : Module} {f : Function} (v : Invariant m f) where
  -- `i1 V`
  pub condition_reads : (t : ℕ) (x : Operand) (i : Input) (gap rest : Text) (s : ℕ) → IsCondition m f t x → AreBlanks gap → IsSeam rest
      → Ready v (s + 1) i (gap ++ (typed_text m f.locals t x ++ rest)) → Reads v s numbers.condition i rest (ArgumentAgain m f.locals (typed t x))
  unfolding numbers.condition class_of
  condition_reads t x i gap rest s own blanks seam ready =
      let shape = Integer 1 in
      let type_is = type_shown m (Integer 1) t own.0 (omega arith) in
      let good = ArgumentAgain m f.locals (typed t x) in
      let text = operand_text m f.locals t x in
      let ready = subst (λ (y : Text). Ready v (s + 1) i (gap ++ ((y ++ 32 ∷ operand_text m f.locals t x) ++ rest))) type_is ready in
      let ready = subst (λ (y : Text). Ready v (s + 1) i (gap ++ y)) (append_assoc (shown false (Integer 1)) (32 ∷ text) rest) ready in
      let afterwards = 32 ∷ (operand_text m f.locals t x ++ rest) in
      on v v (w.intern (type.Integer 1)) again_form i (gap ++ (shown false (Integer 1) ++ afterwards)) rest s s (λ n o. slice_get o.types n ≡ Some (type.Integer 1)) good
      (intern_reads v (type.Integer 1) i (gap ++ (shown false (Integer 1) ++ afterwards)) s tt ready)
      (λ bit o ready g there.
      on v v (w.again (numbers.bit_type bit)) (λ _. operand_form bit) o afterwards rest s s Any good
      (again_reads v (Integer 1) (numbers.bit_type bit) o gap afterwards s (omega arith, omega arith) there (omega arith) blanks (ends_again afterwards (ends_operand v (Integer 1) t x rest own.0 own.1 seam)) ready)
      (λ _ q ready h e.
      on v v (form.operand (sort.Integer 1)) (λ y. pure (record { written = bit; operand = y })) q rest rest s s (OperandAgain m f.locals x) good
      (operand_reads v (Integer 1) t x q (32 ∷ []) rest s own.0 own.1 refl seam ready)
      (λ y r ready hh again. given v (record { written = bit; operand = y }) r rest s good ready
      (λ n others later. (read_again m (Integer 1) t bit o n others own.0 there (later_before o r n others (grows_further o q r h hh) later), again n others later)))))
    where
      operand_form : ℕ → Form Argument
      operand_form bit = form.operand (sort.Integer 1) >>= λ y. pure (record { written = bit; operand = y })

      again_form : ℕ → Form Argument
      again_form bit = w.again (numbers.bit_type bit) >> operand_form bit

-- a word of another form names none of the wide forms
nothing_wide : (i : Input) → sees k.LeftOut i.cursor ≡ false → numbers.wide_here i ≡ None
unfolding numbers.wide_here
nothing_wide i e = pick i.wide where
  pick : (t : Bool) → (if t && sees k.LeftOut i.cursor then numbers.wide_of (spelling i.cursor) else None) ≡ None
  pick true = rw e refl
  pick false = refl

-- such a word names no operation on floating point numbers
nothing_float : (i : Input) (name : Text) → spelling i.cursor ≡ name → floats.float_word_of name ≡ None → floats.float_word_here i ≡ None
unfolding floats.float_word_here
nothing_float i name spelled none = pick (i.wide && sees k.LeftOut i.cursor) where
  pick : (t : Bool) → (if t then floats.float_word_of (spelling i.cursor) else None) ≡ None
  pick true = ap floats.float_word_of spelled ∙ none
  pick false = refl

module _ {m : Module} {f : Function} (v u : Invariant m f) where
  -- ---- sums and the like

  -- `add T V, W`, and so for the other five
  pub arithmetic_reads : (x : Arithmetic) (name : Text) (value t : ℕ) (a b : Operand) (i : Input) (gap rest : Text) (s : ℕ) → arithmetic_word x ≡ name ++ 32 ∷ [] → is_plain name ≡ true → IsNoFloat m t → ArePair m f t a b
      → Sets v u value → AreBlanks gap → IsSeam rest
      → Ready v s i (gap ++ (name ++ (32 ∷ (pair_text m f.locals (typed t a) b ++ rest)))) → Reads u s (numbers.arithmetic x value) i rest (NumberAgain m f.locals (number.Arithmetic x t a b))
  unfolding numbers.arithmetic class_of
  arithmetic_reads x name value t a b i gap rest s is plain flat own sets blanks seam ready =
      let good = NumberAgain m f.locals (number.Arithmetic x t a b) in
      let afterwards = 32 ∷ (pair_text m f.locals (typed t a) b ++ rest) in
      on v u flagged_word (λ _. pair_form) i afterwards rest s s (λ _ o. advanced i ≡ o) good
      (word_flagged v name i gap afterwards s s blanks plain refl (omega arith) ready
      (λ o stands word.
      let starts = subst (λ (y : Text). Stands o.cursor (32 ∷ y)) (front (type_text m t) (operand_text m f.locals t a) (operand_text m f.locals t b)) stands in
      type_no_flag word (kind o.cursor) (type_begins v own.0 o (32 ∷ []) (32 ∷ (operand_text m f.locals t a ++ (codes ", " ++ (operand_text m f.locals t b ++ rest)))) own.1.0.2 refl refl
      (subst (λ (y : Text). Stands o.cursor (32 ∷ (y ++ (32 ∷ (operand_text m f.locals t a ++ (codes ", " ++ (operand_text m f.locals t b ++ rest))))))) (type_shown m own.0 t own.1.0.0 own.1.0.1) starts))))
      (λ _ o ready g e.
      on v u numbers.pair set_form o rest rest s s (PairAgain m f.locals t a b) good
      (pair_reads v t a b o (32 ∷ []) rest s flat own refl seam ready)
      (λ p q ready h again. set_reads v u (λ n others. IsNumberOpAgain m n f.locals others) value (local.Value p.written) (number.Arithmetic x t a b) (number.Arithmetic x p.written p.first p.second) q rest s sets refl ready
      (λ n others later. (refl, again n others later))))
    where
      front : (a b c : Text) → ((a ++ 32 ∷ b) ++ codes ", " ++ c) ++ rest ≡ a ++ (32 ∷ (b ++ (codes ", " ++ (c ++ rest))))
      front a b c = simp append_assoc

      set_form : TwoOperands → Form NumberOp
      set_form p = set_type value p.written >> pure (number.Arithmetic x p.written p.first p.second)

      pair_form : Form NumberOp
      pair_form = numbers.pair >>= set_form

  -- ---- shifts, division and remainder

  -- a type is not the word `exact`
  no_exact : (o : Input) → w.begins_type (kind o.cursor) ≡ true → numbers.is_exact o ≡ false
  unfolding numbers.is_exact
  no_exact o begins = ap (λ (b : Bool). b && bytes_eq (spelling o.cursor) (codes "exact")) (unlike k.LowercaseWord w.begins_type o refl begins)

  -- `sdiv T V, W`, and so for the other six
  pub wide_reads : (x : Arithmetic) (name : Text) (value t : ℕ) (a b : Operand) (i : Input) (gap rest : Text) (s : ℕ) → is_plain name ≡ true → IsNoFloat m t → ArePair m f t a b
      → Sets v u value → AreBlanks gap → IsSeam rest
      → Ready v s i (gap ++ (name ++ (32 ∷ (pair_text m f.locals (typed t a) b ++ rest)))) → Reads u s (numbers.wide_arithmetic x value) i rest (NumberAgain m f.locals (number.Arithmetic x t a b))
  unfolding numbers.wide_arithmetic numbers.exact class_of
  wide_reads x name value t a b i gap rest s plain flat own sets blanks seam ready =
      let good = NumberAgain m f.locals (number.Arithmetic x t a b) in
      let afterwards = 32 ∷ (pair_text m f.locals (typed t a) b ++ rest) in
      on v u flagged_word (λ _. exact_form) i afterwards rest s s (λ _ o. advanced i ≡ o) good
      (word_flagged v name i gap afterwards s s blanks plain refl (omega arith) ready
      (λ o stands word. type_no_flag word (kind o.cursor) (begins o stands)))
      (λ _ o ready g e.
      on v u numbers.exact (λ _. pair_form) o afterwards rest s s (λ _ q. o ≡ q) good
      (looked v numbers.is_exact (either skip (pure tt)) o afterwards s (λ _ q. o ≡ q) false (no_exact o (begins o ready.stands)) (given v tt o afterwards s (λ _ q. o ≡ q) ready refl))
      (λ _ q ready h e.
      on v u numbers.pair set_form q rest rest s s (PairAgain m f.locals t a b) good
      (pair_reads v t a b q (32 ∷ []) rest s flat own refl seam ready)
      (λ p r ready h again. set_reads v u (λ n others. IsNumberOpAgain m n f.locals others) value (local.Value p.written) (number.Arithmetic x t a b) (number.Arithmetic x p.written p.first p.second) r rest s sets refl ready
      (λ n others later. (refl, again n others later)))))
    where
      front : (a b c : Text) → ((a ++ 32 ∷ b) ++ codes ", " ++ c) ++ rest ≡ a ++ (32 ∷ (b ++ (codes ", " ++ (c ++ rest))))
      front a b c = simp append_assoc

      begins : (o : Input) → Stands o.cursor (32 ∷ (pair_text m f.locals (typed t a) b ++ rest)) → w.begins_type (kind o.cursor) ≡ true
      begins o stands =
          let starts = subst (λ (y : Text). Stands o.cursor (32 ∷ y)) (front (type_text m t) (operand_text m f.locals t a) (operand_text m f.locals t b)) stands in
          type_begins v own.0 o (32 ∷ []) (32 ∷ (operand_text m f.locals t a ++ (codes ", " ++ (operand_text m f.locals t b ++ rest)))) own.1.0.2 refl refl
          (subst (λ (y : Text). Stands o.cursor (32 ∷ (y ++ (32 ∷ (operand_text m f.locals t a ++ (codes ", " ++ (operand_text m f.locals t b ++ rest))))))) (type_shown m own.0 t own.1.0.0 own.1.0.1) starts)

      set_form : TwoOperands → Form NumberOp
      set_form p = set_type value p.written >> pure (number.Arithmetic x p.written p.first p.second)

      pair_form : Form NumberOp
      pair_form = numbers.pair >>= set_form

      exact_form : Form NumberOp
      exact_form = numbers.exact >> pair_form

  -- ---- comparisons

  -- `icmp C T V, W`
  pub compare_reads : (x : Comparison) (name : Text) (value t : ℕ) (a b : Operand) (i : Input) (gap rest : Text) (s : ℕ) → numbers.comparison_of (word_kind name) ≡ Some x → is_plain name ≡ true → IsNoFloat m t → ArePair m f t a b
      → Sets v u value → AreBlanks gap → IsSeam rest
      → Ready v s i (gap ++ (codes "icmp" ++ (32 ∷ (name ++ (32 ∷ (pair_text m f.locals (typed t a) b ++ rest)))))) → Reads u s (numbers.compare value) i rest (NumberAgain m f.locals (number.Compare x t a b))
  unfolding numbers.compare numbers.comparison class_of
  compare_reads x name value t a b i gap rest s is plain flat own sets blanks seam ready =
      let good = NumberAgain m f.locals (number.Compare x t a b) in
      let t2 = 32 ∷ (pair_text m f.locals (typed t a) b ++ rest) in
      let t1 = 32 ∷ (name ++ t2) in
      on v u flagged_word (λ _. kind_form) i t1 rest (s + 1) s (λ _ o. advanced i ≡ o) good
      (word_flagged v (codes "icmp") i gap t1 s (s + 1) blanks refl refl (omega arith) ready
      (λ o stands word. ap (is_flag_of word) (word_comes o.cursor (32 ∷ []) name t2 refl plain refl stands).0 ∙ comparison_no_flag word (word_kind name) x is))
      (λ _ o ready g e.
      on v u numbers.comparison pair_form o t2 rest (s + 1) s (λ y _. x ≡ y) good
      (looked v (λ i. numbers.comparison_of (kind i.cursor)) numbers.comparison_by o t2 (s + 1) (λ y _. x ≡ y) (Some x) (ap numbers.comparison_of (word_seen v name o (32 ∷ []) t2 (s + 1) refl plain refl ready) ∙ is)
      (on v v skip (λ _. pure x) o t2 t2 (s + 1) (s + 1) (λ _ q. advanced o ≡ q) (λ y _. x ≡ y)
      (word_skipped v name o (32 ∷ []) t2 (s + 1) (s + 1) refl plain refl (omega arith) ready)
      (λ _ q ready h e. given v x q t2 (s + 1) (λ y _. x ≡ y) ready refl)))
      (λ y q ready h same.
      on v u numbers.pair (bit_form y) q rest rest (s + 1) s (PairAgain m f.locals t a b) good
      (pair_reads v t a b q (32 ∷ []) rest (s + 1) flat own refl seam ready)
      (λ p r ready hh again.
      on v u (w.intern (type.Integer 1)) (set_form y p) r rest rest s s (λ n o. slice_get o.types n ≡ Some (type.Integer 1)) good
      (intern_reads v (type.Integer 1) r rest s tt ready)
      (λ bit z ready h3 there. set_reads v u (λ n others. IsNumberOpAgain m n f.locals others) value (local.Value bit) (number.Compare x t a b) (number.Compare y p.written p.first p.second) z rest s sets refl ready
      (λ n others later. (same, again n others (later_before r z n others h3 later)))))))
    where
      set_form : Comparison → TwoOperands → ℕ → Form NumberOp
      set_form y p bit = set_type value bit >> pure (number.Compare y p.written p.first p.second)

      bit_form : Comparison → TwoOperands → Form NumberOp
      bit_form y p = w.intern (type.Integer 1) >>= set_form y p

      pair_form : Comparison → Form NumberOp
      pair_form y = numbers.pair >>= bit_form y

      kind_form : Form NumberOp
      kind_form = numbers.comparison >>= pair_form

  -- ---- changes of width

  -- `zext T V to U`, and so for the other two
  pub resize_reads : (x : Resize) (name : Text) (value from : ℕ) (a : Operand) (to : ℕ) (i : Input) (gap rest : Text) (s : ℕ) → is_plain name ≡ true → IsNoFloat m from → IsNoFloat m to → IsConverted m f from a to → Sets v u value → AreBlanks gap → EndsType rest
      → Ready v s i (gap ++ (name ++ (32 ∷ (converted_text m f.locals (typed from a) to ++ rest)))) → Reads u s (numbers.resize x value) i rest (NumberAgain m f.locals (number.Resize x from a to))
  unfolding numbers.resize class_of
  resize_reads x name value from a to i gap rest s plain flat_from flat_to own sets blanks ends ready =
      let good = NumberAgain m f.locals (number.Resize x from a to) in
      let afterwards = 32 ∷ (converted_text m f.locals (typed from a) to ++ rest) in
      on v u flagged_word (λ _. numbers.typed_integer >>= λ from. expect k.To >> (w.integer_scalar >>= λ to. set_type value to.id >> pure (number.Resize x from.written from.operand to.id))) i afterwards rest s s (λ _ o. advanced i ≡ o) good
      (word_flagged v name i gap afterwards s s blanks plain refl (omega arith) ready
      (λ o stands word.
      let starts = subst (λ (y : Text). Stands o.cursor (32 ∷ y)) (front (type_text m from) (operand_text m f.locals from a) (type_text m to)) stands in
      type_no_flag word (kind o.cursor) (type_begins v own.0.0 o (32 ∷ []) (32 ∷ (operand_text m f.locals from a ++ (codes " to " ++ (type_text m to ++ rest)))) own.0.1.0.2 refl refl
      (subst (λ (y : Text). Stands o.cursor (32 ∷ (y ++ (32 ∷ (operand_text m f.locals from a ++ (codes " to " ++ (type_text m to ++ rest))))))) (type_shown m own.0.0 from own.0.1.0.0 own.0.1.0.1) starts))))
      (λ _ o ready g e. integer_converted_reads v u (λ n others. IsNumberOpAgain m n f.locals others) (λ b k. number.Resize x b.written b.operand k) (number.Resize x from a to) value from a to o (32 ∷ []) rest s (λ n others b k argument type. (refl, argument.0, argument.1, type)) flat_from flat_to own sets refl ends ready)
    where
      front : (a b c : Text) → ((a ++ 32 ∷ b) ++ codes " to " ++ c) ++ rest ≡ a ++ (32 ∷ (b ++ (codes " to " ++ (c ++ rest))))
      front a b c = simp append_assoc

  -- ---- by the word

  -- a sum or the like, by its word
  pub by_arithmetic : (value : ℕ) (x : Arithmetic) (name : Text) (t : ℕ) (a b : Operand) (i : Input) (gap rest : Text) (s : ℕ) → arithmetic_word x ≡ name ++ 32 ∷ [] → numbers.arithmetic_of (word_kind name) ≡ Some x → is_plain name ≡ true
      → IsNoFloat m t → ArePair m f t a b → Sets v u value → AreBlanks gap → IsSeam rest → Ready v s i (gap ++ (name ++ (32 ∷ (pair_text m f.locals (typed t a) b ++ rest))))
      → Reads u s (numbers.integer_op value) i rest (NumberAgain m f.locals (number.Arithmetic x t a b))
  unfolding numbers.integer_op class_of
  by_arithmetic value x name t a b i gap rest s is of plain flat own sets blanks seam ready =
      looked u (λ i. numbers.arithmetic_of (kind i.cursor)) (numbers.arithmetic_by value) i rest s (NumberAgain m f.locals (number.Arithmetic x t a b)) (Some x)
      (ap numbers.arithmetic_of (word_seen v name i gap (32 ∷ (pair_text m f.locals (typed t a) b ++ rest)) s blanks plain refl ready) ∙ of)
      (arithmetic_reads x name value t a b i gap rest s is plain flat own sets blanks seam ready)

  -- a shift, a division or a remainder, by its word
  pub by_wide : (value : ℕ) (x : Arithmetic) (name : Text) (t : ℕ) (a b : Operand) (i : Input) (gap rest : Text) (s : ℕ) → word_kind name ≡ k.LeftOut → numbers.wide_of name ≡ Some x → is_plain name ≡ true → m.wide ≡ true
      → IsNoFloat m t → ArePair m f t a b → Sets v u value → AreBlanks gap → IsSeam rest → Ready v s i (gap ++ (name ++ (32 ∷ (pair_text m f.locals (typed t a) b ++ rest))))
      → Reads u s (numbers.integer_op value) i rest (NumberAgain m f.locals (number.Arithmetic x t a b))
  unfolding numbers.integer_op numbers.wide_or_resized numbers.wide_here class_of
  by_wide value x name t a b i gap rest s left of plain wide flat own sets blanks seam ready =
      let good = NumberAgain m f.locals (number.Arithmetic x t a b) in
      let comes = word_comes i.cursor gap name (32 ∷ (pair_text m f.locals (typed t a) b ++ rest)) blanks plain refl ready.stands in
      let is : kind i.cursor ≡ k.LeftOut = comes.0 ∙ left in
      let spelled : spelling i.cursor ≡ name = comes.1 in
      let forms : i.wide ≡ true = ready.forms ∙ wide in
      let here : numbers.wide_here i ≡ Some x = rw (forms, seen k.LeftOut i is, spelled) of in
      looked u (λ i. numbers.arithmetic_of (kind i.cursor)) (numbers.arithmetic_by value) i rest s good None (ap numbers.arithmetic_of is)
      (looked u numbers.wide_here (numbers.wide_by value) i rest s good (Some x) here
      (wide_reads x name value t a b i gap rest s plain flat own sets blanks seam ready))

  -- a change of width, by its word
  pub by_resize : (value : ℕ) (x : Resize) (name : Text) (from : ℕ) (a : Operand) (to : ℕ) (i : Input) (gap rest : Text) (s : ℕ) → numbers.arithmetic_of (word_kind name) ≡ None → same_kind (word_kind name) k.LeftOut ≡ false → numbers.resize_of (word_kind name) ≡ Some x → is_plain name ≡ true
      → IsNoFloat m from → IsNoFloat m to → IsConverted m f from a to → Sets v u value → AreBlanks gap → EndsType rest → Ready v s i (gap ++ (name ++ (32 ∷ (converted_text m f.locals (typed from a) to ++ rest))))
      → Reads u s (numbers.integer_op value) i rest (NumberAgain m f.locals (number.Resize x from a to))
  unfolding numbers.integer_op numbers.wide_or_resized numbers.wide_here numbers.resized sees class_of
  by_resize value x name from a to i gap rest s none not_left of plain flat_from flat_to own sets blanks ends ready =
      let is = word_seen v name i gap (32 ∷ (converted_text m f.locals (typed from a) to ++ rest)) s blanks plain refl ready in
      let good = NumberAgain m f.locals (number.Resize x from a to) in
      looked u (λ i. numbers.arithmetic_of (kind i.cursor)) (numbers.arithmetic_by value) i rest s good None (ap numbers.arithmetic_of is ∙ none)
      (looked u numbers.wide_here (numbers.wide_by value) i rest s good None (nothing_wide i (ap (λ (x : Kind). same_kind x k.LeftOut) is ∙ not_left))
      (looked u (λ i. numbers.resize_of (kind i.cursor)) (numbers.resize_by value) i rest s good (Some x) (ap numbers.resize_of is ∙ of)
      (resize_reads x name value from a to i gap rest s plain flat_from flat_to own sets blanks ends ready)))

  -- a comparison, by what it asks
  pub by_compare : (value : ℕ) (c : Comparison) (t : ℕ) (a b : Operand) (i : Input) (gap rest : Text) (s : ℕ) → IsNoFloat m t → ArePair m f t a b → Sets v u value → AreBlanks gap → IsSeam rest
      → Ready v s i (gap ++ (codes "icmp" ++ (32 ∷ ((comparison_word c ++ pair_text m f.locals (typed t a) b) ++ rest)))) → Reads u s (numbers.compare value) i rest (NumberAgain m f.locals (number.Compare c t a b))
  unfolding word_kind keywords class_of
  by_compare value comparison.Equal t a b i gap rest s flat own sets blanks seam ready = compare_reads comparison.Equal (codes "eq") value t a b i gap rest s refl refl flat own sets blanks seam ready
  by_compare value comparison.NotEqual t a b i gap rest s flat own sets blanks seam ready = compare_reads comparison.NotEqual (codes "ne") value t a b i gap rest s refl refl flat own sets blanks seam ready
  by_compare value comparison.UnsignedGreater t a b i gap rest s flat own sets blanks seam ready = compare_reads comparison.UnsignedGreater (codes "ugt") value t a b i gap rest s refl refl flat own sets blanks seam ready
  by_compare value comparison.UnsignedGreaterOrEqual t a b i gap rest s flat own sets blanks seam ready = compare_reads comparison.UnsignedGreaterOrEqual (codes "uge") value t a b i gap rest s refl refl flat own sets blanks seam ready
  by_compare value comparison.UnsignedLess t a b i gap rest s flat own sets blanks seam ready = compare_reads comparison.UnsignedLess (codes "ult") value t a b i gap rest s refl refl flat own sets blanks seam ready
  by_compare value comparison.UnsignedLessOrEqual t a b i gap rest s flat own sets blanks seam ready = compare_reads comparison.UnsignedLessOrEqual (codes "ule") value t a b i gap rest s refl refl flat own sets blanks seam ready
  by_compare value comparison.SignedGreater t a b i gap rest s flat own sets blanks seam ready = compare_reads comparison.SignedGreater (codes "sgt") value t a b i gap rest s refl refl flat own sets blanks seam ready
  by_compare value comparison.SignedGreaterOrEqual t a b i gap rest s flat own sets blanks seam ready = compare_reads comparison.SignedGreaterOrEqual (codes "sge") value t a b i gap rest s refl refl flat own sets blanks seam ready
  by_compare value comparison.SignedLess t a b i gap rest s flat own sets blanks seam ready = compare_reads comparison.SignedLess (codes "slt") value t a b i gap rest s refl refl flat own sets blanks seam ready
  by_compare value comparison.SignedLessOrEqual t a b i gap rest s flat own sets blanks seam ready = compare_reads comparison.SignedLessOrEqual (codes "sle") value t a b i gap rest s refl refl flat own sets blanks seam ready

  -- an operation on numbers is one of instructions
  as_number : (form : Form NumberOp) (x : NumberOp) (i : Input) (rest : Text) (s : ℕ) → Reads u s form i rest (NumberAgain m f.locals x) → Reads u s (as_op op.Number form) i rest (OpAgain m f.locals (op.Number x))
  as_number form x i rest s h = op_reads u op.Number form (λ n others. IsNumberOpAgain m n f.locals others) x (op.Number x) i rest s (λ y o again. again) h

  -- a word of the seven is not `freeze`
  wide_op_reads : (value : ℕ) (x : NumberOp) (name afterwards : Text) (i : Input) (gap rest : Text) (s : ℕ) → bytes_eq name (codes "freeze") ≡ false → floats.float_word_of name ≡ None → is_plain name ≡ true → AreBlanks gap → IsSeam afterwards
      → Ready v s i (gap ++ (name ++ afterwards)) → Reads u s (as_op op.Number (numbers.integer_op value)) i rest (OpAgain m f.locals (op.Number x)) → Reads u s (whole.wide_op value) i rest (OpAgain m f.locals (op.Number x))
  unfolding whole.wide_op casts.freezes floats.number_op
  wide_op_reads value x name afterwards i gap rest s other none plain blanks seam ready h =
      let spelled : spelling i.cursor ≡ name = (word_comes i.cursor gap name afterwards blanks plain seam ready.stands).1 in
      looked u casts.freezes (whole.wide_op_by value) i rest s (OpAgain m f.locals (op.Number x)) false (rw (spelled, other) (no_both i.wide))
      (looked u floats.float_word_here (floats.number_op_by value) i rest s (OpAgain m f.locals (op.Number x)) None (nothing_float i name spelled none) h)
    where
      no_both : (t : Bool) → t && false ≡ false
      no_both true = refl
      no_both false = refl

  -- what follows `%v =`
  pub named_number_reads : (site : Site) (value : ℕ) (x : NumberOp) (i : Input) (gap rest : Text) (s : ℕ) → AreBlanks gap → IsNumberOp m f x → Sets v u value → EndsLine rest
      → Ready v s i (gap ++ (op_text m f.locals (op.Number x) ++ rest)) → Reads u s (whole.named_op site value) i rest (OpAgain m f.locals (op.Number x))
  unfolding word_kind keywords class_of same_kind
  named_number_reads site value (number.Arithmetic arithmetic.Add t a b) i gap rest s blanks own sets ends ready =
      by_word v u site value (op.Number (number.Arithmetic arithmetic.Add t a b)) (codes "add") (32 ∷ (pair_text m f.locals (typed t a) b ++ rest)) i gap rest s blanks refl refl ready
      (as_number (numbers.integer_op value) (number.Arithmetic arithmetic.Add t a b) i rest s (by_arithmetic value arithmetic.Add (codes "add") t a b i gap rest s refl refl refl own.1 own.2 sets blanks ends.0 ready))
  named_number_reads site value (number.Arithmetic arithmetic.Sub t a b) i gap rest s blanks own sets ends ready =
      by_word v u site value (op.Number (number.Arithmetic arithmetic.Sub t a b)) (codes "sub") (32 ∷ (pair_text m f.locals (typed t a) b ++ rest)) i gap rest s blanks refl refl ready
      (as_number (numbers.integer_op value) (number.Arithmetic arithmetic.Sub t a b) i rest s (by_arithmetic value arithmetic.Sub (codes "sub") t a b i gap rest s refl refl refl own.1 own.2 sets blanks ends.0 ready))
  named_number_reads site value (number.Arithmetic arithmetic.Mul t a b) i gap rest s blanks own sets ends ready =
      by_word v u site value (op.Number (number.Arithmetic arithmetic.Mul t a b)) (codes "mul") (32 ∷ (pair_text m f.locals (typed t a) b ++ rest)) i gap rest s blanks refl refl ready
      (as_number (numbers.integer_op value) (number.Arithmetic arithmetic.Mul t a b) i rest s (by_arithmetic value arithmetic.Mul (codes "mul") t a b i gap rest s refl refl refl own.1 own.2 sets blanks ends.0 ready))
  named_number_reads site value (number.Arithmetic arithmetic.And t a b) i gap rest s blanks own sets ends ready =
      by_word v u site value (op.Number (number.Arithmetic arithmetic.And t a b)) (codes "and") (32 ∷ (pair_text m f.locals (typed t a) b ++ rest)) i gap rest s blanks refl refl ready
      (as_number (numbers.integer_op value) (number.Arithmetic arithmetic.And t a b) i rest s (by_arithmetic value arithmetic.And (codes "and") t a b i gap rest s refl refl refl own.1 own.2 sets blanks ends.0 ready))
  named_number_reads site value (number.Arithmetic arithmetic.Or t a b) i gap rest s blanks own sets ends ready =
      by_word v u site value (op.Number (number.Arithmetic arithmetic.Or t a b)) (codes "or") (32 ∷ (pair_text m f.locals (typed t a) b ++ rest)) i gap rest s blanks refl refl ready
      (as_number (numbers.integer_op value) (number.Arithmetic arithmetic.Or t a b) i rest s (by_arithmetic value arithmetic.Or (codes "or") t a b i gap rest s refl refl refl own.1 own.2 sets blanks ends.0 ready))
  named_number_reads site value (number.Arithmetic arithmetic.Xor t a b) i gap rest s blanks own sets ends ready =
      by_word v u site value (op.Number (number.Arithmetic arithmetic.Xor t a b)) (codes "xor") (32 ∷ (pair_text m f.locals (typed t a) b ++ rest)) i gap rest s blanks refl refl ready
      (as_number (numbers.integer_op value) (number.Arithmetic arithmetic.Xor t a b) i rest s (by_arithmetic value arithmetic.Xor (codes "xor") t a b i gap rest s refl refl refl own.1 own.2 sets blanks ends.0 ready))
  named_number_reads site value (number.Arithmetic arithmetic.ShiftLeft t a b) i gap rest s blanks own sets ends ready =
      by_word v u site value (op.Number (number.Arithmetic arithmetic.ShiftLeft t a b)) (codes "shl") (32 ∷ (pair_text m f.locals (typed t a) b ++ rest)) i gap rest s blanks refl refl ready
      (wide_op_reads value (number.Arithmetic arithmetic.ShiftLeft t a b) (codes "shl") (32 ∷ (pair_text m f.locals (typed t a) b ++ rest)) i gap rest s refl refl refl blanks refl ready
      (as_number (numbers.integer_op value) (number.Arithmetic arithmetic.ShiftLeft t a b) i rest s (by_wide value arithmetic.ShiftLeft (codes "shl") t a b i gap rest s refl refl refl (own.0 refl) own.1 own.2 sets blanks ends.0 ready)))
  named_number_reads site value (number.Arithmetic arithmetic.ShiftRight t a b) i gap rest s blanks own sets ends ready =
      by_word v u site value (op.Number (number.Arithmetic arithmetic.ShiftRight t a b)) (codes "lshr") (32 ∷ (pair_text m f.locals (typed t a) b ++ rest)) i gap rest s blanks refl refl ready
      (wide_op_reads value (number.Arithmetic arithmetic.ShiftRight t a b) (codes "lshr") (32 ∷ (pair_text m f.locals (typed t a) b ++ rest)) i gap rest s refl refl refl blanks refl ready
      (as_number (numbers.integer_op value) (number.Arithmetic arithmetic.ShiftRight t a b) i rest s (by_wide value arithmetic.ShiftRight (codes "lshr") t a b i gap rest s refl refl refl (own.0 refl) own.1 own.2 sets blanks ends.0 ready)))
  named_number_reads site value (number.Arithmetic arithmetic.ShiftRightSigned t a b) i gap rest s blanks own sets ends ready =
      by_word v u site value (op.Number (number.Arithmetic arithmetic.ShiftRightSigned t a b)) (codes "ashr") (32 ∷ (pair_text m f.locals (typed t a) b ++ rest)) i gap rest s blanks refl refl ready
      (wide_op_reads value (number.Arithmetic arithmetic.ShiftRightSigned t a b) (codes "ashr") (32 ∷ (pair_text m f.locals (typed t a) b ++ rest)) i gap rest s refl refl refl blanks refl ready
      (as_number (numbers.integer_op value) (number.Arithmetic arithmetic.ShiftRightSigned t a b) i rest s (by_wide value arithmetic.ShiftRightSigned (codes "ashr") t a b i gap rest s refl refl refl (own.0 refl) own.1 own.2 sets blanks ends.0 ready)))
  named_number_reads site value (number.Arithmetic arithmetic.Divide t a b) i gap rest s blanks own sets ends ready =
      by_word v u site value (op.Number (number.Arithmetic arithmetic.Divide t a b)) (codes "udiv") (32 ∷ (pair_text m f.locals (typed t a) b ++ rest)) i gap rest s blanks refl refl ready
      (wide_op_reads value (number.Arithmetic arithmetic.Divide t a b) (codes "udiv") (32 ∷ (pair_text m f.locals (typed t a) b ++ rest)) i gap rest s refl refl refl blanks refl ready
      (as_number (numbers.integer_op value) (number.Arithmetic arithmetic.Divide t a b) i rest s (by_wide value arithmetic.Divide (codes "udiv") t a b i gap rest s refl refl refl (own.0 refl) own.1 own.2 sets blanks ends.0 ready)))
  named_number_reads site value (number.Arithmetic arithmetic.DivideSigned t a b) i gap rest s blanks own sets ends ready =
      by_word v u site value (op.Number (number.Arithmetic arithmetic.DivideSigned t a b)) (codes "sdiv") (32 ∷ (pair_text m f.locals (typed t a) b ++ rest)) i gap rest s blanks refl refl ready
      (wide_op_reads value (number.Arithmetic arithmetic.DivideSigned t a b) (codes "sdiv") (32 ∷ (pair_text m f.locals (typed t a) b ++ rest)) i gap rest s refl refl refl blanks refl ready
      (as_number (numbers.integer_op value) (number.Arithmetic arithmetic.DivideSigned t a b) i rest s (by_wide value arithmetic.DivideSigned (codes "sdiv") t a b i gap rest s refl refl refl (own.0 refl) own.1 own.2 sets blanks ends.0 ready)))
  named_number_reads site value (number.Arithmetic arithmetic.Remainder t a b) i gap rest s blanks own sets ends ready =
      by_word v u site value (op.Number (number.Arithmetic arithmetic.Remainder t a b)) (codes "urem") (32 ∷ (pair_text m f.locals (typed t a) b ++ rest)) i gap rest s blanks refl refl ready
      (wide_op_reads value (number.Arithmetic arithmetic.Remainder t a b) (codes "urem") (32 ∷ (pair_text m f.locals (typed t a) b ++ rest)) i gap rest s refl refl refl blanks refl ready
      (as_number (numbers.integer_op value) (number.Arithmetic arithmetic.Remainder t a b) i rest s (by_wide value arithmetic.Remainder (codes "urem") t a b i gap rest s refl refl refl (own.0 refl) own.1 own.2 sets blanks ends.0 ready)))
  named_number_reads site value (number.Arithmetic arithmetic.RemainderSigned t a b) i gap rest s blanks own sets ends ready =
      by_word v u site value (op.Number (number.Arithmetic arithmetic.RemainderSigned t a b)) (codes "srem") (32 ∷ (pair_text m f.locals (typed t a) b ++ rest)) i gap rest s blanks refl refl ready
      (wide_op_reads value (number.Arithmetic arithmetic.RemainderSigned t a b) (codes "srem") (32 ∷ (pair_text m f.locals (typed t a) b ++ rest)) i gap rest s refl refl refl blanks refl ready
      (as_number (numbers.integer_op value) (number.Arithmetic arithmetic.RemainderSigned t a b) i rest s (by_wide value arithmetic.RemainderSigned (codes "srem") t a b i gap rest s refl refl refl (own.0 refl) own.1 own.2 sets blanks ends.0 ready)))
  named_number_reads site value (number.Resize resize.ZeroExtend from a to) i gap rest s blanks own sets ends ready =
      by_word v u site value (op.Number (number.Resize resize.ZeroExtend from a to)) (codes "zext") (32 ∷ (converted_text m f.locals (typed from a) to ++ rest)) i gap rest s blanks refl refl ready
      (as_number (numbers.integer_op value) (number.Resize resize.ZeroExtend from a to) i rest s (by_resize value resize.ZeroExtend (codes "zext") from a to i gap rest s refl refl refl refl own.0 own.1 own.2 sets blanks (line_ends_type rest ends) ready))
  named_number_reads site value (number.Resize resize.SignExtend from a to) i gap rest s blanks own sets ends ready =
      by_word v u site value (op.Number (number.Resize resize.SignExtend from a to)) (codes "sext") (32 ∷ (converted_text m f.locals (typed from a) to ++ rest)) i gap rest s blanks refl refl ready
      (as_number (numbers.integer_op value) (number.Resize resize.SignExtend from a to) i rest s (by_resize value resize.SignExtend (codes "sext") from a to i gap rest s refl refl refl refl own.0 own.1 own.2 sets blanks (line_ends_type rest ends) ready))
  named_number_reads site value (number.Resize resize.Truncate from a to) i gap rest s blanks own sets ends ready =
      by_word v u site value (op.Number (number.Resize resize.Truncate from a to)) (codes "trunc") (32 ∷ (converted_text m f.locals (typed from a) to ++ rest)) i gap rest s blanks refl refl ready
      (as_number (numbers.integer_op value) (number.Resize resize.Truncate from a to) i rest s (by_resize value resize.Truncate (codes "trunc") from a to i gap rest s refl refl refl refl own.0 own.1 own.2 sets blanks (line_ends_type rest ends) ready))
  named_number_reads site value (number.Compare c t a b) i gap rest s blanks own sets ends ready =
      let front = ap (λ (y : Text). y ++ rest) (append_assoc (codes "icmp ") (comparison_word c) (pair_text m f.locals (typed t a) b)) in
      let ready : Ready v s i (gap ++ (codes "icmp" ++ (32 ∷ ((comparison_word c ++ pair_text m f.locals (typed t a) b) ++ rest)))) = subst (λ (y : Text). Ready v s i (gap ++ y)) front ready in
      by_word v u site value (op.Number (number.Compare c t a b)) (codes "icmp") (32 ∷ ((comparison_word c ++ pair_text m f.locals (typed t a) b) ++ rest)) i gap rest s blanks refl refl ready
      (as_number (numbers.compare value) (number.Compare c t a b) i rest s (by_compare value c t a b i gap rest s own.0 own.1 sets blanks ends.0 ready))
  named_number_reads site value (number.Float x) i gap rest s blanks own sets ends ready = float_named_reads v u site value x i gap rest s blanks own.0 own.1 sets ends ready

-- ---- its word

-- its word is not that of a phi
pub number_no_phi : (m : Module) (locals : List Text) (x : NumberOp) (place : Place) (rest : Text) → Stands place (32 ∷ (number_op_text m locals x ++ 10 ∷ rest)) → same_kind (kind place) k.Phi ≡ false
unfolding class_of word_kind keywords same_kind
number_no_phi m locals (number.Arithmetic arithmetic.Add t a b) place rest at = ap (λ (x : Kind). same_kind x k.Phi) (word_comes place (32 ∷ []) (codes "add") _ refl refl refl at).0
number_no_phi m locals (number.Arithmetic arithmetic.Sub t a b) place rest at = ap (λ (x : Kind). same_kind x k.Phi) (word_comes place (32 ∷ []) (codes "sub") _ refl refl refl at).0
number_no_phi m locals (number.Arithmetic arithmetic.Mul t a b) place rest at = ap (λ (x : Kind). same_kind x k.Phi) (word_comes place (32 ∷ []) (codes "mul") _ refl refl refl at).0
number_no_phi m locals (number.Arithmetic arithmetic.And t a b) place rest at = ap (λ (x : Kind). same_kind x k.Phi) (word_comes place (32 ∷ []) (codes "and") _ refl refl refl at).0
number_no_phi m locals (number.Arithmetic arithmetic.Or t a b) place rest at = ap (λ (x : Kind). same_kind x k.Phi) (word_comes place (32 ∷ []) (codes "or") _ refl refl refl at).0
number_no_phi m locals (number.Arithmetic arithmetic.Xor t a b) place rest at = ap (λ (x : Kind). same_kind x k.Phi) (word_comes place (32 ∷ []) (codes "xor") _ refl refl refl at).0
number_no_phi m locals (number.Arithmetic arithmetic.ShiftLeft t a b) place rest at = ap (λ (x : Kind). same_kind x k.Phi) (word_comes place (32 ∷ []) (codes "shl") _ refl refl refl at).0
number_no_phi m locals (number.Arithmetic arithmetic.ShiftRight t a b) place rest at = ap (λ (x : Kind). same_kind x k.Phi) (word_comes place (32 ∷ []) (codes "lshr") _ refl refl refl at).0
number_no_phi m locals (number.Arithmetic arithmetic.ShiftRightSigned t a b) place rest at = ap (λ (x : Kind). same_kind x k.Phi) (word_comes place (32 ∷ []) (codes "ashr") _ refl refl refl at).0
number_no_phi m locals (number.Arithmetic arithmetic.Divide t a b) place rest at = ap (λ (x : Kind). same_kind x k.Phi) (word_comes place (32 ∷ []) (codes "udiv") _ refl refl refl at).0
number_no_phi m locals (number.Arithmetic arithmetic.DivideSigned t a b) place rest at = ap (λ (x : Kind). same_kind x k.Phi) (word_comes place (32 ∷ []) (codes "sdiv") _ refl refl refl at).0
number_no_phi m locals (number.Arithmetic arithmetic.Remainder t a b) place rest at = ap (λ (x : Kind). same_kind x k.Phi) (word_comes place (32 ∷ []) (codes "urem") _ refl refl refl at).0
number_no_phi m locals (number.Arithmetic arithmetic.RemainderSigned t a b) place rest at = ap (λ (x : Kind). same_kind x k.Phi) (word_comes place (32 ∷ []) (codes "srem") _ refl refl refl at).0
number_no_phi m locals (number.Resize resize.ZeroExtend from a to) place rest at = ap (λ (x : Kind). same_kind x k.Phi) (word_comes place (32 ∷ []) (codes "zext") _ refl refl refl at).0
number_no_phi m locals (number.Resize resize.SignExtend from a to) place rest at = ap (λ (x : Kind). same_kind x k.Phi) (word_comes place (32 ∷ []) (codes "sext") _ refl refl refl at).0
number_no_phi m locals (number.Resize resize.Truncate from a to) place rest at = ap (λ (x : Kind). same_kind x k.Phi) (word_comes place (32 ∷ []) (codes "trunc") _ refl refl refl at).0
number_no_phi m locals (number.Compare c t a b) place rest at = ap (λ (x : Kind). same_kind x k.Phi) (word_comes place (32 ∷ []) (codes "icmp") _ refl refl refl at).0
number_no_phi m locals (number.Float x) place rest at = float_no_phi m locals x place rest at

-- ---- its text

module _ (m n : Module) (locals others : List Text) where
  -- one operation on numbers, one text
  pub number_op_same : (x y : NumberOp) → IsNumberOpAgain m n locals others x y → number_op_text m locals x ≡ number_op_text n others y
  number_op_same (number.Arithmetic kind t a b) (number.Arithmetic other u x y) h =
      same2 (λ c d. c ++ d) (ap arithmetic_word h.0) (pair_same m n locals others (typed t a) (typed u x) b y (h.1.0, h.1.1) h.1.2)
  number_op_same (number.Resize kind t x to) (number.Resize other u y into) h =
      same2 (λ a b. a ++ b) (ap resize_word h.0) (converted_same m n locals others (typed t x) (typed u y) to into (h.1, h.2) h.3)
  number_op_same (number.Compare kind t a b) (number.Compare other u x y) h =
      same2 (λ c d. codes "icmp " ++ c ++ d) (ap comparison_word h.0) (pair_same m n locals others (typed t a) (typed u x) b y (h.1.0, h.1.1) h.1.2)
  number_op_same (number.Float x) (number.Float y) h = float_op_same m n locals others x y h
  number_op_same _ _ h = absurd h

-- an operation on numbers is printable where the module has more types, too
pub number_longer : (m : Module) (types : List IrType) (fs : List Function) (more : IsLonger m.types types) (same : defined_functions (with_types m types fs) ≡ defined_functions m) (f : Function)
    → (x : NumberOp) → IsNumberOp m f x → IsNumberOp (with_types m types fs) f x
number_longer m types fs more same f (number.Arithmetic kind t x y) h = (h.0, ap is_float_word (word_again m types fs more same h.2.0 t h.2.1) ∙ h.1, pair_again m types fs more same f t x y h.2)
number_longer m types fs more same f (number.Resize kind from x to) h = (
  ap is_float_word (word_again m types fs more same h.2.0.0 from h.2.0.1) ∙ h.0,
  ap is_float_word (word_again m types fs more same h.2.1.0 to h.2.1.1) ∙ h.1,
  converted_again m types fs more same f from x to h.2,
)
number_longer m types fs more same f (number.Compare kind t x y) h = (ap is_float_word (word_again m types fs more same h.1.0 t h.1.1) ∙ h.0, pair_again m types fs more same f t x y h.1)
number_longer m types fs more same f (number.Float x) h = (h.0, float_longer m types fs more same f x h.1)

-- ---- types and names within the tables

module _ (m : Module) (f : Function) (own : HasModuleNames m) (h : AreDefinedWithin f) where
  pub number_within : (x : NumberOp) → Wide m f (λ m f. IsNumberOp m f x) → IsNumberOpWithin m f x
  number_within (number.Arithmetic kind written first second) is = pair_within m f own h written first second (λ more. (is more).2)
  number_within (number.Resize kind from x to) is = converted_within m f own h from x to (λ more. (is more).2)
  number_within (number.Compare kind written first second) is = pair_within m f own h written first second (λ more. (is more).1)
  number_within (number.Float x) is = float_within m f own h x (λ more. (is more).1)

module _ (m n : Module) (types : length m.types ≤ length n.types) (names : MeansAsMuch m n) (f : Function) where
  pub number_within_longer : (x : NumberOp) → IsNumberOpWithin m f x → IsNumberOpWithin n f x
  number_within_longer (number.Arithmetic kind written first second) h = pair_longer m n types names f written first second h
  number_within_longer (number.Resize kind from x to) h = converted_longer m n types names f from x to h
  number_within_longer (number.Compare kind written first second) h = pair_longer m n types names f written first second h
  number_within_longer (number.Float x) h = float_within_longer m n types names f x h
