-- Printed operations on floating point numbers are read as they were printed; and their numbers are within the tables.
use Rattle.std.proofs.Common.{◌≡◌, ◌≤◌, ℕ, ◌+◌, Bool, true, false, not, List, [], ◌∷◌, ◌++◌, length, slice_get, None, Some, refl, ap, sym, subst, ◌∙◌, arith, append_assoc}
use Rattle.std.specs.Prelude.{◌&&◌, if◌then◌else◌, codes}
use Rattle.std.specs.Str.{bytes_eq}
use Rattle.grammar.specs.Grammar.{pure, checked, ◌>>=◌, ◌>>◌}
use Rattle.ir_ast.specs.declared.argument.Argument.{Argument}
use Rattle.ir_ast.specs.declared.floats.Conversion.{Conversion}
use Rattle.ir_ast.specs.declared.floats.Conversion.TheVariants as conversion
use Rattle.ir_ast.specs.declared.floats.FloatArithmetic.{FloatArithmetic}
use Rattle.ir_ast.specs.declared.floats.FloatArithmetic.TheVariants as arithmetic
use Rattle.ir_ast.specs.declared.floats.FloatComparison.{FloatComparison}
use Rattle.ir_ast.specs.declared.floats.FloatComparison.TheVariants as comparison
use Rattle.ir_ast.specs.declared.floats.FloatOp.{FloatOp}
use Rattle.ir_ast.specs.declared.floats.FloatOp.TheVariants as float
use Rattle.ir_ast.specs.declared.function.Function.{Function}
use Rattle.ir_ast.specs.declared.function.LocalSort.TheVariants as local
use Rattle.ir_ast.specs.declared.ir_type.IrType.{IrType}
use Rattle.ir_ast.specs.declared.ir_type.IrType.TheVariants as type
use Rattle.ir_ast.specs.declared.module.Module.{Module}
use Rattle.ir_ast.specs.declared.numbers.NumberOp.TheVariants as number
use Rattle.ir_ast.specs.declared.op.Op.TheVariants as op
use Rattle.ir_ast.specs.declared.operand.Operand.{Operand}
use Rattle.ir_tokens.specs.declared.token.Kind.{Kind}
use Rattle.ir_tokens.specs.declared.token.Kind.TheVariants as k
use Rattle.ir_tokens.specs.Bytes.{Text, class_of}
use Rattle.ir_tokens.specs.Keywords.{word_kind, keywords}
use Rattle.ir_forms.specs.Casts as casts
use Rattle.ir_forms.specs.Cursor.{kind, sees, spelling, same_kind}
use Rattle.ir_forms.specs.Decorations.{either, optional}
use Rattle.ir_forms.specs.FloatOps as floats
use Rattle.ir_forms.specs.Input.{Form, advanced, skip, expect, unexpected}
use Rattle.ir_forms.specs.Instructions as whole
use Rattle.ir_forms.specs.Names.{set_type}
use Rattle.ir_forms.specs.Operand as form
use Rattle.ir_forms.specs.Place.{Place}
use Rattle.ir_forms.specs.Written as w
use Rattle.ir_forms.specs.declared.float_ops.FloatWord.{FloatWord}
use Rattle.ir_forms.specs.declared.float_ops.FloatWord.TheVariants as word
use Rattle.ir_forms.specs.declared.input.Input.{Input}
use Rattle.ir_forms.specs.declared.numbers.TwoOperands.{TwoOperands}
use Rattle.ir_forms.specs.declared.site.Site.{Site}
use Rattle.ir_forms.specs.declared.written.Word.{Word}
use Rattle.ir_forms.specs.declared.written.WrittenType.{WrittenType}
use Rattle.name_text.specs.Names.{is_plain}
use Rattle.ir_print.specs.Floats.{float_arithmetic_word, float_comparison_word, conversion_word, float_op_text}
use Rattle.ir_print.specs.Instructions.{op_text}
use Rattle.ir_print.specs.Operands.{operand_text, typed_text}
use Rattle.ir_print.specs.Parts.{typed, pair_text, converted_text}
use Rattle.ir_print.specs.Types.{type_text}
use Rattle.ir_print_law.specs.Definitions.{defined_functions}
use Rattle.ir_print_law.specs.EqualParts.{same2}
use Rattle.ir_print_law.specs.Floats.{IsFloatOp, IsFloatOpWithin, IsFloatOpAgain}
use Rattle.ir_print_law.specs.ModuleNames.{HasModuleNames}
use Rattle.ir_print_law.specs.Parts.{ArePair, IsArgument, IsConverted, IsFloat, word_of_type}
use Rattle.ir_print_law.specs.Stands.{Stands, IsSeam, AreBlanks}
use Rattle.ir_print_law.proofs.ArgumentsAgain.{EndsLine, line_ends_type}
use Rattle.ir_print_law.proofs.DefinedWithin.{AreDefinedWithin}
use Rattle.ir_print_law.proofs.LongerTypes.{with_types, word_again, pair_again, argument_again, converted_again}
use Rattle.ir_print_law.proofs.OneKind.{IsLonger}
use Rattle.ir_print_law.proofs.OperandsAgain.{OperandAgain, ends_operand}
use Rattle.ir_print_law.proofs.OpsAgain.{op_reads, by_word}
use Rattle.ir_print_law.proofs.Parts.{IsLaterAgain, ArgumentAgain, PairAgain, Sets, OpAgain, float_shape, float_pair_reads, operand_at}
use Rattle.ir_print_law.proofs.PartsLonger.{MeansAsMuch, pair_longer, argument_longer, converted_longer}
use Rattle.ir_print_law.proofs.PartsWithin.{Wide, pair_within, argument_within, converted_within}
use Rattle.ir_print_law.proofs.PrintedTypes.{type_shown, read_again, scalar_reads, float_scalar_reads}
use Rattle.ir_print_law.proofs.SameParts.{argument_same, converted_same, pair_same}
use Rattle.ir_print_law.proofs.Setting.{on, set_reads}
use Rattle.ir_print_law.proofs.Shown.{shown, IsTypeRead, bits_read, word_told}
use Rattle.ir_print_law.proofs.State.{Invariant, Ready, Reads, Any}
use Rattle.ir_print_law.proofs.Steps.{looked, given, checked_then, unlike, word_reads, word_skipped, intern_reads, grows_further, later_before}
use Rattle.ir_print_law.proofs.Types.{EndsType}
use Rattle.ir_print_law.proofs.WholeTypes.{type_begins}
use Rattle.ir_print_law.proofs.Words.{word_comes, seen}

-- an operation on floating point numbers is this one again, in each module later on
abbrev pub FloatAgain : Module → (locals : List Text) → FloatOp → FloatOp → Input → Type 0
FloatAgain m locals = IsLaterAgain (λ n others. IsFloatOpAgain m n locals others)

-- ---- flags

last_false : (t u : Bool) → u ≡ false → (t && u) ≡ false
last_false true u e = e
last_false false u e = refl

-- a type is no flag
type_no_float_flag : (o : Input) → w.begins_type (kind o.cursor) ≡ true → floats.at_float_flag o ≡ false
unfolding floats.at_float_flag
type_no_float_flag o begins = ap (λ (b : Bool). b && floats.is_float_flag (spelling o.cursor)) (unlike k.LowercaseWord w.begins_type o refl begins)

-- neither is a word that is none
word_no_float_flag : (o : Input) (name : Text) → spelling o.cursor ≡ name → floats.is_float_flag name ≡ false → floats.at_float_flag o ≡ false
unfolding floats.at_float_flag
word_no_float_flag o name spelled none = last_false (sees k.LowercaseWord o.cursor) (floats.is_float_flag (spelling o.cursor)) (ap floats.is_float_flag spelled ∙ none)

module _ {m : Module} {f : Function} (v : Invariant m f) where
  -- a word is skipped after which no flag comes
  float_flagged : (name : Text) (i : Input) (gap rest : Text) (s t : ℕ) → AreBlanks gap → is_plain name ≡ true → IsSeam rest → t ≤ s + length name → Ready v s i (gap ++ (name ++ rest))
      → ((o : Input) → Stands o.cursor rest → floats.at_float_flag o ≡ false) → Reads v t floats.flagged_float i rest (λ _ o. advanced i ≡ o)
  unfolding floats.flagged_float
  float_flagged name i gap rest s t blanks plain seam le ready none =
      let h = word_skipped v name i gap rest s t blanks plain seam le ready in
      (tt, h.1, ([], h.1, (h.0, h.1, h.2, (ap not (none h.1 h.3.stands), refl)), (refl, refl)), h.3, h.4, h.5)

  -- the type of a pair, of an argument or of what is changed comes after the word
  type_comes : (t : ℕ) (x : Operand) (o : Input) (afterwards : Text) → IsArgument m f (typed t x) → IsSeam afterwards → Stands o.cursor (32 ∷ (typed_text m f.locals t x ++ afterwards)) → w.begins_type (kind o.cursor) ≡ true
  unfolding class_of
  type_comes t x o afterwards own seam at =
      let at = subst (λ (y : Text). Stands o.cursor (32 ∷ y)) (append_assoc (type_text m t) (32 ∷ operand_text m f.locals t x) afterwards) at in
      type_begins v own.0 o (32 ∷ []) (32 ∷ (operand_text m f.locals t x ++ afterwards)) own.1.0.2 refl refl
      (subst (λ (y : Text). Stands o.cursor (32 ∷ (y ++ (32 ∷ (operand_text m f.locals t x ++ afterwards))))) (type_shown m own.0 t own.1.0.0 own.1.0.1) at)

  -- the first operand of a pair
  first_of : (t : ℕ) (x y : Operand) → ArePair m f t x y → IsArgument m f (typed t x)
  first_of t x y own = (own.0, own.1, own.2)

module _ {m : Module} {f : Function} (v u : Invariant m f) where
  -- ---- operations of two numbers, and of one

  arithmetic_reads : (x : FloatArithmetic) (name : Text) (value t : ℕ) (a b : Operand) (i : Input) (gap rest : Text) (s : ℕ) → is_plain name ≡ true → IsFloat m t → ArePair m f t a b
      → Sets v u value → AreBlanks gap → IsSeam rest
      → Ready v s i (gap ++ (name ++ (32 ∷ (pair_text m f.locals (typed t a) b ++ rest)))) → Reads u s (floats.float_arithmetic x value) i rest (FloatAgain m f.locals (float.Arithmetic x t a b))
  unfolding floats.float_arithmetic class_of
  arithmetic_reads x name value t a b i gap rest s plain is own sets blanks seam ready =
      let good = FloatAgain m f.locals (float.Arithmetic x t a b) in
      let afterwards = 32 ∷ (pair_text m f.locals (typed t a) b ++ rest) in
      on v u floats.flagged_float (λ _. pair_form) i afterwards rest s s (λ _ o. advanced i ≡ o) good
      (float_flagged v name i gap afterwards s s blanks plain refl (omega arith) ready
      (λ o stands. type_no_float_flag o (type_comes v t a o (codes ", " ++ operand_text m f.locals t b ++ rest) (first_of v t a b own) refl
      (subst (λ (y : Text). Stands o.cursor (32 ∷ y)) (front (typed_text m f.locals t a) (operand_text m f.locals t b)) stands))))
      (λ _ o ready g e.
      on v u floats.float_pair set_form o rest rest s s (PairAgain m f.locals t a b) good
      (float_pair_reads v t a b o (32 ∷ []) rest s is own refl seam ready)
      (λ p q ready h again. set_reads v u (λ n others. IsFloatOpAgain m n f.locals others) value (local.Value p.written) (float.Arithmetic x t a b) (float.Arithmetic x p.written p.first p.second) q rest s sets refl ready
      (λ n others later. (refl, again n others later))))
    where
      front : (c d : Text) → (c ++ codes ", " ++ d) ++ rest ≡ c ++ (codes ", " ++ d ++ rest)
      front c d = simp append_assoc

      set_form : TwoOperands → Form FloatOp
      set_form p = set_type value p.written >> pure (float.Arithmetic x p.written p.first p.second)

      pair_form : Form FloatOp
      pair_form = floats.float_pair >>= set_form

  negate_reads : (value t : ℕ) (a : Operand) (i : Input) (gap rest : Text) (s : ℕ) → IsFloat m t → IsArgument m f (typed t a)
      → Sets v u value → AreBlanks gap → IsSeam rest
      → Ready v s i (gap ++ (codes "fneg" ++ (32 ∷ (typed_text m f.locals t a ++ rest)))) → Reads u s (floats.negate value) i rest (FloatAgain m f.locals (float.Negate t a))
  unfolding floats.negate class_of
  negate_reads value t a i gap rest s is own sets blanks seam ready =
      let good = FloatAgain m f.locals (float.Negate t a) in
      let shape = own.0 in
      let afterwards = 32 ∷ (typed_text m f.locals t a ++ rest) in
      let type_is = type_shown m shape t own.1.0.0 own.1.0.1 in
      on v u floats.flagged_float (λ _. w.float_scalar >>= operand_form) i afterwards rest s s (λ _ o. advanced i ≡ o) good
      (float_flagged v (codes "fneg") i gap afterwards s s blanks refl refl (omega arith) ready (λ o stands. type_no_float_flag o (type_comes v t a o rest own seam stands)))
      (λ _ o ready g e.
      let ready = subst (λ (y : Text). Ready v s o (32 ∷ y)) (append_assoc (type_text m t) (32 ∷ operand_text m f.locals t a) rest) ready in
      let ready = subst (λ (y : Text). Ready v s o (32 ∷ (y ++ (32 ∷ (operand_text m f.locals t a ++ rest))))) type_is ready in
      on v u w.float_scalar operand_form o (32 ∷ (operand_text m f.locals t a ++ rest)) rest s s (IsTypeRead shape 64) good
      (float_scalar_reads v shape o (32 ∷ []) (32 ∷ (operand_text m f.locals t a ++ rest)) s own.1.0.2 own.1.0.1 own.1.1 (float_shape v shape t own.1.0.0 is) refl (ends_operand v shape t a rest own.1.0.0 own.2 seam) ready)
      (λ p q ready h read.
      on v u (form.operand (w.word_of p)) (set_form p) q rest rest s s (OperandAgain m f.locals a) good
      (operand_at v shape t a p q q (32 ∷ []) rest s read own.1.0.0 own.2 refl seam ready)
      (λ y r ready hh again. set_reads v u (λ n others. IsFloatOpAgain m n f.locals others) value (local.Value p.id) (float.Negate t a) (float.Negate p.id y) r rest s sets refl ready
      (λ n others later. (read_again m shape t p.id q n others own.1.0.0 read.has_shape (later_before q r n others hh later), again n others later)))))
    where
      set_form : WrittenType → Operand → Form FloatOp
      set_form p y = set_type value p.id >> pure (float.Negate p.id y)

      operand_form : WrittenType → Form FloatOp
      operand_form p = form.operand (w.word_of p) >>= set_form p

  -- ---- comparisons

  compare_reads : (x : FloatComparison) (name : Text) (value t : ℕ) (a b : Operand) (i : Input) (gap rest : Text) (s : ℕ) → floats.float_comparison_of name ≡ Some x → is_plain name ≡ true → floats.is_float_flag name ≡ false
      → IsFloat m t → ArePair m f t a b → Sets v u value → AreBlanks gap → IsSeam rest
      → Ready v s i (gap ++ (codes "fcmp" ++ (32 ∷ (name ++ (32 ∷ (pair_text m f.locals (typed t a) b ++ rest)))))) → Reads u s (floats.float_compare value) i rest (FloatAgain m f.locals (float.Compare x t a b))
  unfolding floats.float_compare floats.float_comparison floats.float_comparison_here class_of
  compare_reads x name value t a b i gap rest s of plain no_flag is own sets blanks seam ready =
      let good = FloatAgain m f.locals (float.Compare x t a b) in
      let t2 = 32 ∷ (pair_text m f.locals (typed t a) b ++ rest) in
      let t1 = 32 ∷ (name ++ t2) in
      on v u floats.flagged_float (λ _. kind_form) i t1 rest (s + 1) s (λ _ o. advanced i ≡ o) good
      (float_flagged v (codes "fcmp") i gap t1 s (s + 1) blanks refl refl (omega arith) ready (λ o stands. word_no_float_flag o name (word_comes o.cursor (32 ∷ []) name t2 refl plain refl stands).1 no_flag))
      (λ _ o ready g e.
      on v u floats.float_comparison pair_form o t2 rest (s + 1) s (λ y _. x ≡ y) good
      (looked v floats.float_comparison_here floats.float_comparison_by o t2 (s + 1) (λ y _. x ≡ y) (Some x) (ap floats.float_comparison_of (word_comes o.cursor (32 ∷ []) name t2 refl plain refl ready.stands).1 ∙ of)
      (on v v skip (λ _. pure x) o t2 t2 (s + 1) (s + 1) (λ _ q. advanced o ≡ q) (λ y _. x ≡ y)
      (word_skipped v name o (32 ∷ []) t2 (s + 1) (s + 1) refl plain refl (omega arith) ready)
      (λ _ q ready h e. given v x q t2 (s + 1) (λ y _. x ≡ y) ready refl)))
      (λ y q ready h same.
      on v u floats.float_pair (bit_form y) q rest rest (s + 1) s (PairAgain m f.locals t a b) good
      (float_pair_reads v t a b q (32 ∷ []) rest (s + 1) is own refl seam ready)
      (λ p r ready hh again.
      on v u (w.intern (type.Integer 1)) (set_form y p) r rest rest s s (λ n o. slice_get o.types n ≡ Some (type.Integer 1)) good
      (intern_reads v (type.Integer 1) r rest s tt ready)
      (λ bit z ready h3 there. set_reads v u (λ n others. IsFloatOpAgain m n f.locals others) value (local.Value bit) (float.Compare x t a b) (float.Compare y p.written p.first p.second) z rest s sets refl ready
      (λ n others later. (same, again n others (later_before r z n others h3 later)))))))
    where
      set_form : FloatComparison → TwoOperands → ℕ → Form FloatOp
      set_form y p bit = set_type value bit >> pure (float.Compare y p.written p.first p.second)

      bit_form : FloatComparison → TwoOperands → Form FloatOp
      bit_form y p = w.intern (type.Integer 1) >>= set_form y p

      pair_form : FloatComparison → Form FloatOp
      pair_form y = floats.float_pair >>= bit_form y

      kind_form : Form FloatOp
      kind_form = floats.float_comparison >>= pair_form

  -- a comparison, by what it asks
  by_compare : (value : ℕ) (c : FloatComparison) (t : ℕ) (a b : Operand) (i : Input) (gap rest : Text) (s : ℕ) → IsFloat m t → ArePair m f t a b → Sets v u value → AreBlanks gap → IsSeam rest
      → Ready v s i (gap ++ (codes "fcmp" ++ (32 ∷ ((float_comparison_word c ++ pair_text m f.locals (typed t a) b) ++ rest)))) → Reads u s (floats.float_compare value) i rest (FloatAgain m f.locals (float.Compare c t a b))
  by_compare value comparison.Never t a b i gap rest s is own sets blanks seam ready = compare_reads comparison.Never (codes "false") value t a b i gap rest s refl refl refl is own sets blanks seam ready
  by_compare value comparison.OrderedEqual t a b i gap rest s is own sets blanks seam ready = compare_reads comparison.OrderedEqual (codes "oeq") value t a b i gap rest s refl refl refl is own sets blanks seam ready
  by_compare value comparison.OrderedGreater t a b i gap rest s is own sets blanks seam ready = compare_reads comparison.OrderedGreater (codes "ogt") value t a b i gap rest s refl refl refl is own sets blanks seam ready
  by_compare value comparison.OrderedGreaterOrEqual t a b i gap rest s is own sets blanks seam ready = compare_reads comparison.OrderedGreaterOrEqual (codes "oge") value t a b i gap rest s refl refl refl is own sets blanks seam ready
  by_compare value comparison.OrderedLess t a b i gap rest s is own sets blanks seam ready = compare_reads comparison.OrderedLess (codes "olt") value t a b i gap rest s refl refl refl is own sets blanks seam ready
  by_compare value comparison.OrderedLessOrEqual t a b i gap rest s is own sets blanks seam ready = compare_reads comparison.OrderedLessOrEqual (codes "ole") value t a b i gap rest s refl refl refl is own sets blanks seam ready
  by_compare value comparison.OrderedNotEqual t a b i gap rest s is own sets blanks seam ready = compare_reads comparison.OrderedNotEqual (codes "one") value t a b i gap rest s refl refl refl is own sets blanks seam ready
  by_compare value comparison.Ordered t a b i gap rest s is own sets blanks seam ready = compare_reads comparison.Ordered (codes "ord") value t a b i gap rest s refl refl refl is own sets blanks seam ready
  by_compare value comparison.Unordered t a b i gap rest s is own sets blanks seam ready = compare_reads comparison.Unordered (codes "uno") value t a b i gap rest s refl refl refl is own sets blanks seam ready
  by_compare value comparison.UnorderedEqual t a b i gap rest s is own sets blanks seam ready = compare_reads comparison.UnorderedEqual (codes "ueq") value t a b i gap rest s refl refl refl is own sets blanks seam ready
  by_compare value comparison.UnorderedGreater t a b i gap rest s is own sets blanks seam ready = compare_reads comparison.UnorderedGreater (codes "ugt") value t a b i gap rest s refl refl refl is own sets blanks seam ready
  by_compare value comparison.UnorderedGreaterOrEqual t a b i gap rest s is own sets blanks seam ready = compare_reads comparison.UnorderedGreaterOrEqual (codes "uge") value t a b i gap rest s refl refl refl is own sets blanks seam ready
  by_compare value comparison.UnorderedLess t a b i gap rest s is own sets blanks seam ready = compare_reads comparison.UnorderedLess (codes "ult") value t a b i gap rest s refl refl refl is own sets blanks seam ready
  by_compare value comparison.UnorderedLessOrEqual t a b i gap rest s is own sets blanks seam ready = compare_reads comparison.UnorderedLessOrEqual (codes "ule") value t a b i gap rest s refl refl refl is own sets blanks seam ready
  by_compare value comparison.UnorderedNotEqual t a b i gap rest s is own sets blanks seam ready = compare_reads comparison.UnorderedNotEqual (codes "une") value t a b i gap rest s refl refl refl is own sets blanks seam ready
  by_compare value comparison.Always t a b i gap rest s is own sets blanks seam ready = compare_reads comparison.Always (codes "true") value t a b i gap rest s refl refl refl is own sets blanks seam ready

  -- ---- changes of a number

  -- the word of a change is skipped after which a type comes
  conversion_flagged : (x : Conversion) (name : Text) (i : Input) (gap rest : Text) (s : ℕ) → AreBlanks gap → is_plain name ≡ true → IsSeam rest → Ready v s i (gap ++ (name ++ rest))
      → ((o : Input) → Stands o.cursor rest → w.begins_type (kind o.cursor) ≡ true) → Reads v s (floats.flagged_conversion x) i rest (λ _ o. advanced i ≡ o)
  unfolding optional
  conversion_flagged conversion.Extend name i gap rest s blanks plain seam ready begins = float_flagged v name i gap rest s s blanks plain seam (omega arith) ready (λ o stands. type_no_float_flag o (begins o stands))
  conversion_flagged conversion.Truncate name i gap rest s blanks plain seam ready begins = float_flagged v name i gap rest s s blanks plain seam (omega arith) ready (λ o stands. type_no_float_flag o (begins o stands))
  conversion_flagged conversion.ToSigned name i gap rest s blanks plain seam ready begins = word_skipped v name i gap rest s s blanks plain seam (omega arith) ready
  conversion_flagged conversion.ToUnsigned name i gap rest s blanks plain seam ready begins = word_skipped v name i gap rest s s blanks plain seam (omega arith) ready
  conversion_flagged conversion.FromSigned name i gap rest s blanks plain seam ready begins = word_skipped v name i gap rest s s blanks plain seam (omega arith) ready
  conversion_flagged conversion.FromUnsigned name i gap rest s blanks plain seam ready begins =
      let h = word_skipped v name i gap rest s s blanks plain seam (omega arith) ready in
      let none = unlike k.Nneg w.begins_type h.1 refl (begins h.1 h.3.stands) in
      (tt, h.1, (h.0, h.1, h.2, subst (λ (b : Bool). (either skip (pure tt) b).says h.1 tt h.1) (sym none) (refl, refl)), h.3, h.4, h.5)

  convert_reads : (x : Conversion) (name : Text) (value from : ℕ) (a : Operand) (to : ℕ) (i : Input) (gap rest : Text) (s : ℕ) → is_plain name ≡ true → floats.may_convert x (word_of_type (slice_get m.types from)) (word_of_type (slice_get m.types to)) ≡ true
      → IsConverted m f from a to → Sets v u value → AreBlanks gap → EndsType rest
      → Ready v s i (gap ++ (name ++ (32 ∷ (converted_text m f.locals (typed from a) to ++ rest)))) → Reads u s (floats.convert x value) i rest (FloatAgain m f.locals (float.Convert x from a to))
  unfolding floats.convert class_of word_kind keywords
  convert_reads x name value from a to i gap rest s plain may own sets blanks ends ready =
      let good = FloatAgain m f.locals (float.Convert x from a to) in
      let shape = own.0.0 in
      let scalar = own.0.1 in
      let into = own.1.0 in
      let target = own.1.1 in
      let into_is = type_shown m into to target.0.0 target.0.1 in
      let type_is = type_shown m shape from scalar.0.0 scalar.0.1 in
      let t3 = shown false into ++ rest in
      let t2 = codes " to " ++ t3 in
      let afterwards = 32 ∷ (converted_text m f.locals (typed from a) to ++ rest) in
      let parts : converted_text m f.locals (typed from a) to ++ rest ≡ typed_text m f.locals from a ++ t2 =
      ap (λ (y : Text). (typed_text m f.locals from a ++ codes " to " ++ y) ++ rest) into_is ∙ front (typed_text m f.locals from a) (shown false into) in
      let begins : (o : Input) → Stands o.cursor (32 ∷ (converted_text m f.locals (typed from a) to ++ rest)) → w.begins_type (kind o.cursor) ≡ true =
      λ o stands. type_comes v from a o t2 own.0 refl (subst (λ (y : Text). Stands o.cursor (32 ∷ y)) parts stands) in
      on v u (floats.flagged_conversion x) (λ _. type_form) i afterwards rest s s (λ _ o. advanced i ≡ o) good
      (conversion_flagged x name i gap afterwards s blanks plain refl ready begins)
      (λ _ o ready g e.
      let ready = subst (λ (y : Text). Ready v s o (32 ∷ y)) (parts ∙ append_assoc (type_text m from) (32 ∷ operand_text m f.locals from a) t2) ready in
      let ready = subst (λ (y : Text). Ready v s o (32 ∷ (y ++ (32 ∷ (operand_text m f.locals from a ++ t2))))) type_is ready in
      on v u w.scalar operand_form o (32 ∷ (operand_text m f.locals from a ++ t2)) rest s s (IsTypeRead shape 64) good
      (scalar_reads v shape o (32 ∷ []) (32 ∷ (operand_text m f.locals from a ++ t2)) s scalar.0.2 scalar.0.1 scalar.1 refl (ends_operand v shape from a t2 scalar.0.0 own.0.2 refl) ready)
      (λ p q ready h read.
      on v u (form.operand (w.word_of p)) (to_form p) q t2 rest s s (OperandAgain m f.locals a) good
      (operand_at v shape from a p q q (32 ∷ []) t2 s read scalar.0.0 own.0.2 refl refl ready)
      (λ y r ready hh again.
      on v u (expect k.To) (λ _. into_form p y) r (32 ∷ t3) rest s s (λ _ z. advanced r ≡ z) good
      (word_reads v (codes "to") r (32 ∷ []) (32 ∷ t3) s s refl refl refl (omega arith) ready)
      (λ _ z ready h3 e.
      on v u w.scalar (check_form p y) z rest rest s s (IsTypeRead into 64) good
      (scalar_reads v into z (32 ∷ []) rest s target.0.2 target.0.1 target.1 refl ends ready)
      (λ p2 z2 ready h4 read2.
      let words : floats.may_convert x (w.word_of p) (w.word_of p2) ≡ true =
      ap (λ (y : Word). floats.may_convert x y (w.word_of p2)) (bits_read shape 64 p q read ∙ sym (word_told m.types m.struct_names shape from scalar.0.0))
      ∙ ap (floats.may_convert x (word_of_type (slice_get m.types from))) (bits_read into 64 p2 z2 read2 ∙ sym (word_told m.types m.struct_names into to target.0.0)) ∙ may in
      checked_then u (λ _. floats.may_convert x (w.word_of p) (w.word_of p2)) unexpected (set_form p y p2) z2 rest s good words
      (set_reads v u (λ n others. IsFloatOpAgain m n f.locals others) value (local.Value p2.id) (float.Convert x from a to) (float.Convert x p.id y p2.id) z2 rest s sets refl ready
      (λ n others later.
      let laterr = later_before r z2 n others (grows_further r z z2 h3 h4) later in
      let laterq = later_before q r n others hh laterr in
      (refl, read_again m shape from p.id q n others scalar.0.0 read.has_shape laterq, again n others laterr, read_again m into to p2.id z2 n others target.0.0 read2.has_shape later))))))))
    where
      front : (c d : Text) → (c ++ codes " to " ++ d) ++ rest ≡ c ++ (codes " to " ++ (d ++ rest))
      front c d = simp append_assoc

      set_form : WrittenType → Operand → WrittenType → Form FloatOp
      set_form p y p2 = set_type value p2.id >> pure (float.Convert x p.id y p2.id)

      check_form : WrittenType → Operand → WrittenType → Form FloatOp
      check_form p y p2 = floats.convertible x p p2 >> set_form p y p2

      into_form : WrittenType → Operand → Form FloatOp
      into_form p y = w.scalar >>= check_form p y

      to_form : WrittenType → Operand → Form FloatOp
      to_form p y = expect k.To >> into_form p y

      operand_form : WrittenType → Form FloatOp
      operand_form p = form.operand (w.word_of p) >>= to_form p

      type_form : Form FloatOp
      type_form = w.scalar >>= operand_form

  -- ---- by the word

  -- an operation by its word, which is left out where the wide forms may not stand
  by_float_word : (value : ℕ) (x : FloatOp) (fw : FloatWord) (name afterwards : Text) (i : Input) (gap rest : Text) (s : ℕ) → word_kind name ≡ k.LeftOut → bytes_eq name (codes "freeze") ≡ false
      → floats.float_word_of name ≡ Some fw → is_plain name ≡ true → m.wide ≡ true → AreBlanks gap → IsSeam afterwards → Ready v s i (gap ++ (name ++ afterwards))
      → Reads u s (floats.float_op value fw) i rest (FloatAgain m f.locals x) → Reads u s (whole.wide_op value) i rest (OpAgain m f.locals (op.Number (number.Float x)))
  unfolding whole.wide_op casts.freezes floats.number_op floats.float_word_here
  by_float_word value x fw name afterwards i gap rest s left other of plain wide blanks seam ready h =
      let good = OpAgain m f.locals (op.Number (number.Float x)) in
      let comes = word_comes i.cursor gap name afterwards blanks plain seam ready.stands in
      let is : kind i.cursor ≡ k.LeftOut = comes.0 ∙ left in
      let spelled : spelling i.cursor ≡ name = comes.1 in
      let forms : i.wide ≡ true = ready.forms ∙ wide in
      let here : floats.float_word_here i ≡ Some fw = rw (forms, seen k.LeftOut i is, spelled) of in
      looked u casts.freezes (whole.wide_op_by value) i rest s good false (rw (spelled, other) (last_false i.wide false refl))
      (looked u floats.float_word_here (floats.number_op_by value) i rest s good (Some fw) here
      (op_reads u floats.as_number (floats.float_op value fw) (λ n others. IsFloatOpAgain m n f.locals others) x (op.Number (number.Float x)) i rest s (λ y o again. again) h))

  -- what follows `%v =`
  pub float_named_reads : (site : Site) (value : ℕ) (x : FloatOp) (i : Input) (gap rest : Text) (s : ℕ) → AreBlanks gap → m.wide ≡ true → IsFloatOp m f x → Sets v u value → EndsLine rest
      → Ready v s i (gap ++ (op_text m f.locals (op.Number (number.Float x)) ++ rest)) → Reads u s (whole.named_op site value) i rest (OpAgain m f.locals (op.Number (number.Float x)))
  unfolding word_kind keywords class_of same_kind
  float_named_reads site value (float.Arithmetic arithmetic.Add t a b) i gap rest s blanks wide own sets ends ready =
      by_word v u site value (op.Number (number.Float (float.Arithmetic arithmetic.Add t a b))) (codes "fadd") (32 ∷ (pair_text m f.locals (typed t a) b ++ rest)) i gap rest s blanks refl refl ready
      (by_float_word value (float.Arithmetic arithmetic.Add t a b) (word.Arithmetic arithmetic.Add) (codes "fadd") (32 ∷ (pair_text m f.locals (typed t a) b ++ rest)) i gap rest s refl refl refl refl wide blanks refl ready
      (arithmetic_reads arithmetic.Add (codes "fadd") value t a b i gap rest s refl own.0 own.1 sets blanks ends.0 ready))
  float_named_reads site value (float.Arithmetic arithmetic.Subtract t a b) i gap rest s blanks wide own sets ends ready =
      by_word v u site value (op.Number (number.Float (float.Arithmetic arithmetic.Subtract t a b))) (codes "fsub") (32 ∷ (pair_text m f.locals (typed t a) b ++ rest)) i gap rest s blanks refl refl ready
      (by_float_word value (float.Arithmetic arithmetic.Subtract t a b) (word.Arithmetic arithmetic.Subtract) (codes "fsub") (32 ∷ (pair_text m f.locals (typed t a) b ++ rest)) i gap rest s refl refl refl refl wide blanks refl ready
      (arithmetic_reads arithmetic.Subtract (codes "fsub") value t a b i gap rest s refl own.0 own.1 sets blanks ends.0 ready))
  float_named_reads site value (float.Arithmetic arithmetic.Multiply t a b) i gap rest s blanks wide own sets ends ready =
      by_word v u site value (op.Number (number.Float (float.Arithmetic arithmetic.Multiply t a b))) (codes "fmul") (32 ∷ (pair_text m f.locals (typed t a) b ++ rest)) i gap rest s blanks refl refl ready
      (by_float_word value (float.Arithmetic arithmetic.Multiply t a b) (word.Arithmetic arithmetic.Multiply) (codes "fmul") (32 ∷ (pair_text m f.locals (typed t a) b ++ rest)) i gap rest s refl refl refl refl wide blanks refl ready
      (arithmetic_reads arithmetic.Multiply (codes "fmul") value t a b i gap rest s refl own.0 own.1 sets blanks ends.0 ready))
  float_named_reads site value (float.Arithmetic arithmetic.Divide t a b) i gap rest s blanks wide own sets ends ready =
      by_word v u site value (op.Number (number.Float (float.Arithmetic arithmetic.Divide t a b))) (codes "fdiv") (32 ∷ (pair_text m f.locals (typed t a) b ++ rest)) i gap rest s blanks refl refl ready
      (by_float_word value (float.Arithmetic arithmetic.Divide t a b) (word.Arithmetic arithmetic.Divide) (codes "fdiv") (32 ∷ (pair_text m f.locals (typed t a) b ++ rest)) i gap rest s refl refl refl refl wide blanks refl ready
      (arithmetic_reads arithmetic.Divide (codes "fdiv") value t a b i gap rest s refl own.0 own.1 sets blanks ends.0 ready))
  float_named_reads site value (float.Arithmetic arithmetic.Remainder t a b) i gap rest s blanks wide own sets ends ready =
      by_word v u site value (op.Number (number.Float (float.Arithmetic arithmetic.Remainder t a b))) (codes "frem") (32 ∷ (pair_text m f.locals (typed t a) b ++ rest)) i gap rest s blanks refl refl ready
      (by_float_word value (float.Arithmetic arithmetic.Remainder t a b) (word.Arithmetic arithmetic.Remainder) (codes "frem") (32 ∷ (pair_text m f.locals (typed t a) b ++ rest)) i gap rest s refl refl refl refl wide blanks refl ready
      (arithmetic_reads arithmetic.Remainder (codes "frem") value t a b i gap rest s refl own.0 own.1 sets blanks ends.0 ready))
  float_named_reads site value (float.Negate t a) i gap rest s blanks wide own sets ends ready =
      by_word v u site value (op.Number (number.Float (float.Negate t a))) (codes "fneg") (32 ∷ (typed_text m f.locals t a ++ rest)) i gap rest s blanks refl refl ready
      (by_float_word value (float.Negate t a) word.Negate (codes "fneg") (32 ∷ (typed_text m f.locals t a ++ rest)) i gap rest s refl refl refl refl wide blanks refl ready
      (negate_reads value t a i gap rest s own.0 own.1 sets blanks ends.0 ready))
  float_named_reads site value (float.Compare c t a b) i gap rest s blanks wide own sets ends ready =
      let front = ap (λ (y : Text). y ++ rest) (append_assoc (codes "fcmp ") (float_comparison_word c) (pair_text m f.locals (typed t a) b)) in
      let ready : Ready v s i (gap ++ (codes "fcmp" ++ (32 ∷ ((float_comparison_word c ++ pair_text m f.locals (typed t a) b) ++ rest)))) = subst (λ (y : Text). Ready v s i (gap ++ y)) front ready in
      by_word v u site value (op.Number (number.Float (float.Compare c t a b))) (codes "fcmp") (32 ∷ ((float_comparison_word c ++ pair_text m f.locals (typed t a) b) ++ rest)) i gap rest s blanks refl refl ready
      (by_float_word value (float.Compare c t a b) word.Compare (codes "fcmp") (32 ∷ ((float_comparison_word c ++ pair_text m f.locals (typed t a) b) ++ rest)) i gap rest s refl refl refl refl wide blanks refl ready
      (by_compare value c t a b i gap rest s own.0 own.1 sets blanks ends.0 ready))
  float_named_reads site value (float.Convert conversion.Extend from a to) i gap rest s blanks wide own sets ends ready =
      by_word v u site value (op.Number (number.Float (float.Convert conversion.Extend from a to))) (codes "fpext") (32 ∷ (converted_text m f.locals (typed from a) to ++ rest)) i gap rest s blanks refl refl ready
      (by_float_word value (float.Convert conversion.Extend from a to) (word.Convert conversion.Extend) (codes "fpext") (32 ∷ (converted_text m f.locals (typed from a) to ++ rest)) i gap rest s refl refl refl refl wide blanks refl ready
      (convert_reads conversion.Extend (codes "fpext") value from a to i gap rest s refl own.0 own.1 sets blanks (line_ends_type rest ends) ready))
  float_named_reads site value (float.Convert conversion.Truncate from a to) i gap rest s blanks wide own sets ends ready =
      by_word v u site value (op.Number (number.Float (float.Convert conversion.Truncate from a to))) (codes "fptrunc") (32 ∷ (converted_text m f.locals (typed from a) to ++ rest)) i gap rest s blanks refl refl ready
      (by_float_word value (float.Convert conversion.Truncate from a to) (word.Convert conversion.Truncate) (codes "fptrunc") (32 ∷ (converted_text m f.locals (typed from a) to ++ rest)) i gap rest s refl refl refl refl wide blanks refl ready
      (convert_reads conversion.Truncate (codes "fptrunc") value from a to i gap rest s refl own.0 own.1 sets blanks (line_ends_type rest ends) ready))
  float_named_reads site value (float.Convert conversion.ToSigned from a to) i gap rest s blanks wide own sets ends ready =
      by_word v u site value (op.Number (number.Float (float.Convert conversion.ToSigned from a to))) (codes "fptosi") (32 ∷ (converted_text m f.locals (typed from a) to ++ rest)) i gap rest s blanks refl refl ready
      (by_float_word value (float.Convert conversion.ToSigned from a to) (word.Convert conversion.ToSigned) (codes "fptosi") (32 ∷ (converted_text m f.locals (typed from a) to ++ rest)) i gap rest s refl refl refl refl wide blanks refl ready
      (convert_reads conversion.ToSigned (codes "fptosi") value from a to i gap rest s refl own.0 own.1 sets blanks (line_ends_type rest ends) ready))
  float_named_reads site value (float.Convert conversion.ToUnsigned from a to) i gap rest s blanks wide own sets ends ready =
      by_word v u site value (op.Number (number.Float (float.Convert conversion.ToUnsigned from a to))) (codes "fptoui") (32 ∷ (converted_text m f.locals (typed from a) to ++ rest)) i gap rest s blanks refl refl ready
      (by_float_word value (float.Convert conversion.ToUnsigned from a to) (word.Convert conversion.ToUnsigned) (codes "fptoui") (32 ∷ (converted_text m f.locals (typed from a) to ++ rest)) i gap rest s refl refl refl refl wide blanks refl ready
      (convert_reads conversion.ToUnsigned (codes "fptoui") value from a to i gap rest s refl own.0 own.1 sets blanks (line_ends_type rest ends) ready))
  float_named_reads site value (float.Convert conversion.FromSigned from a to) i gap rest s blanks wide own sets ends ready =
      by_word v u site value (op.Number (number.Float (float.Convert conversion.FromSigned from a to))) (codes "sitofp") (32 ∷ (converted_text m f.locals (typed from a) to ++ rest)) i gap rest s blanks refl refl ready
      (by_float_word value (float.Convert conversion.FromSigned from a to) (word.Convert conversion.FromSigned) (codes "sitofp") (32 ∷ (converted_text m f.locals (typed from a) to ++ rest)) i gap rest s refl refl refl refl wide blanks refl ready
      (convert_reads conversion.FromSigned (codes "sitofp") value from a to i gap rest s refl own.0 own.1 sets blanks (line_ends_type rest ends) ready))
  float_named_reads site value (float.Convert conversion.FromUnsigned from a to) i gap rest s blanks wide own sets ends ready =
      by_word v u site value (op.Number (number.Float (float.Convert conversion.FromUnsigned from a to))) (codes "uitofp") (32 ∷ (converted_text m f.locals (typed from a) to ++ rest)) i gap rest s blanks refl refl ready
      (by_float_word value (float.Convert conversion.FromUnsigned from a to) (word.Convert conversion.FromUnsigned) (codes "uitofp") (32 ∷ (converted_text m f.locals (typed from a) to ++ rest)) i gap rest s refl refl refl refl wide blanks refl ready
      (convert_reads conversion.FromUnsigned (codes "uitofp") value from a to i gap rest s refl own.0 own.1 sets blanks (line_ends_type rest ends) ready))

-- ---- its word

-- its word is not that of a phi
pub float_no_phi : (m : Module) (locals : List Text) (x : FloatOp) (place : Place) (rest : Text) → Stands place (32 ∷ (float_op_text m locals x ++ 10 ∷ rest)) → same_kind (kind place) k.Phi ≡ false
unfolding class_of word_kind keywords same_kind
float_no_phi m locals (float.Arithmetic arithmetic.Add t a b) place rest at = ap (λ (x : Kind). same_kind x k.Phi) (word_comes place (32 ∷ []) (codes "fadd") _ refl refl refl at).0
float_no_phi m locals (float.Arithmetic arithmetic.Subtract t a b) place rest at = ap (λ (x : Kind). same_kind x k.Phi) (word_comes place (32 ∷ []) (codes "fsub") _ refl refl refl at).0
float_no_phi m locals (float.Arithmetic arithmetic.Multiply t a b) place rest at = ap (λ (x : Kind). same_kind x k.Phi) (word_comes place (32 ∷ []) (codes "fmul") _ refl refl refl at).0
float_no_phi m locals (float.Arithmetic arithmetic.Divide t a b) place rest at = ap (λ (x : Kind). same_kind x k.Phi) (word_comes place (32 ∷ []) (codes "fdiv") _ refl refl refl at).0
float_no_phi m locals (float.Arithmetic arithmetic.Remainder t a b) place rest at = ap (λ (x : Kind). same_kind x k.Phi) (word_comes place (32 ∷ []) (codes "frem") _ refl refl refl at).0
float_no_phi m locals (float.Negate t a) place rest at = ap (λ (x : Kind). same_kind x k.Phi) (word_comes place (32 ∷ []) (codes "fneg") _ refl refl refl at).0
float_no_phi m locals (float.Compare c t a b) place rest at = ap (λ (x : Kind). same_kind x k.Phi) (word_comes place (32 ∷ []) (codes "fcmp") _ refl refl refl at).0
float_no_phi m locals (float.Convert conversion.Extend from a to) place rest at = ap (λ (x : Kind). same_kind x k.Phi) (word_comes place (32 ∷ []) (codes "fpext") _ refl refl refl at).0
float_no_phi m locals (float.Convert conversion.Truncate from a to) place rest at = ap (λ (x : Kind). same_kind x k.Phi) (word_comes place (32 ∷ []) (codes "fptrunc") _ refl refl refl at).0
float_no_phi m locals (float.Convert conversion.ToSigned from a to) place rest at = ap (λ (x : Kind). same_kind x k.Phi) (word_comes place (32 ∷ []) (codes "fptosi") _ refl refl refl at).0
float_no_phi m locals (float.Convert conversion.ToUnsigned from a to) place rest at = ap (λ (x : Kind). same_kind x k.Phi) (word_comes place (32 ∷ []) (codes "fptoui") _ refl refl refl at).0
float_no_phi m locals (float.Convert conversion.FromSigned from a to) place rest at = ap (λ (x : Kind). same_kind x k.Phi) (word_comes place (32 ∷ []) (codes "sitofp") _ refl refl refl at).0
float_no_phi m locals (float.Convert conversion.FromUnsigned from a to) place rest at = ap (λ (x : Kind). same_kind x k.Phi) (word_comes place (32 ∷ []) (codes "uitofp") _ refl refl refl at).0

-- ---- its text

module _ (m n : Module) (locals others : List Text) where
  -- one operation on floating point numbers, one text
  pub float_op_same : (x y : FloatOp) → IsFloatOpAgain m n locals others x y → float_op_text m locals x ≡ float_op_text n others y
  float_op_same (float.Arithmetic kind t a b) (float.Arithmetic other u x y) h =
      same2 (λ c d. c ++ d) (ap float_arithmetic_word h.0) (pair_same m n locals others (typed t a) (typed u x) b y (h.1.0, h.1.1) h.1.2)
  float_op_same (float.Negate t x) (float.Negate u y) h = ap (λ (text : Text). codes "fneg " ++ text) (argument_same m n locals others (typed t x) (typed u y) (h.0, h.1))
  float_op_same (float.Compare kind t a b) (float.Compare other u x y) h =
      same2 (λ c d. codes "fcmp " ++ c ++ d) (ap float_comparison_word h.0) (pair_same m n locals others (typed t a) (typed u x) b y (h.1.0, h.1.1) h.1.2)
  float_op_same (float.Convert kind t x to) (float.Convert other u y into) h =
      same2 (λ a b. a ++ b) (ap conversion_word h.0) (converted_same m n locals others (typed t x) (typed u y) to into (h.1, h.2) h.3)
  float_op_same _ _ h = absurd h

-- an operation on floating point numbers is printable where the module has more types, too
pub float_longer : (m : Module) (types : List IrType) (fs : List Function) (more : IsLonger m.types types) (same : defined_functions (with_types m types fs) ≡ defined_functions m) (f : Function)
    → (x : FloatOp) → IsFloatOp m f x → IsFloatOp (with_types m types fs) f x
float_longer m types fs more same f (float.Arithmetic kind t x y) h = (ap w.is_float_word (word_again m types fs more same h.1.0 t h.1.1) ∙ h.0, pair_again m types fs more same f t x y h.1)
float_longer m types fs more same f (float.Negate t x) h = (ap w.is_float_word (word_again m types fs more same h.1.0 t h.1.1) ∙ h.0, argument_again m types fs more same f (typed t x) h.1)
float_longer m types fs more same f (float.Compare kind t x y) h = (ap w.is_float_word (word_again m types fs more same h.1.0 t h.1.1) ∙ h.0, pair_again m types fs more same f t x y h.1)
float_longer m types fs more same f (float.Convert kind from x to) h = (
  ap (λ (y : Word). floats.may_convert kind y (word_of_type (slice_get types to))) (word_again m types fs more same h.1.0.0 from h.1.0.1)
      ∙ ap (floats.may_convert kind (word_of_type (slice_get m.types from))) (word_again m types fs more same h.1.1.0 to h.1.1.1) ∙ h.0,
  converted_again m types fs more same f from x to h.1,
)

-- ---- types and names within the tables

module _ (m : Module) (f : Function) (own : HasModuleNames m) (h : AreDefinedWithin f) where
  pub float_within : (x : FloatOp) → Wide m f (λ m f. IsFloatOp m f x) → IsFloatOpWithin m f x
  float_within (float.Arithmetic kind written first second) is = pair_within m f own h written first second (λ more. (is more).1)
  float_within (float.Negate written x) is = argument_within m f own h (typed written x) (λ more. (is more).1)
  float_within (float.Compare kind written first second) is = pair_within m f own h written first second (λ more. (is more).1)
  float_within (float.Convert kind from x to) is = converted_within m f own h from x to (λ more. (is more).1)

module _ (m n : Module) (types : length m.types ≤ length n.types) (names : MeansAsMuch m n) (f : Function) where
  pub float_within_longer : (x : FloatOp) → IsFloatOpWithin m f x → IsFloatOpWithin n f x
  float_within_longer (float.Arithmetic kind written first second) h = pair_longer m n types names f written first second h
  float_within_longer (float.Negate written x) h = argument_longer m n types names f (typed written x) h
  float_within_longer (float.Compare kind written first second) h = pair_longer m n types names f written first second h
  float_within_longer (float.Convert kind from x to) h = converted_longer m n types names f from x to h
