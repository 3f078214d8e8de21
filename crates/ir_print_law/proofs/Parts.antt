-- Parts of instructions: operands with their types, targets, and lists.
use Rattle.std.proofs.Common.{◌≡◌, ℕ, ◌+◌, ◌≤◌, true, false, List, [], ◌∷◌, ◌++◌, length, slice_get, Option, Some, refl, sym, ap, subst, ◌∙◌, arith, append_assoc, length-append}
use Rattle.std.specs.Prelude.{codes}
use Rattle.lemmas.specs.Lists.{IsIn}
use Rattle.grammar.specs.Grammar.{pure, ◌>>=◌, ◌>>◌}
use Rattle.ir_ast.specs.Names.{number_of}
use Rattle.ir_ast.specs.declared.function.Function.{Function}
use Rattle.ir_ast.specs.declared.function.LocalSort.{LocalSort}
use Rattle.ir_ast.specs.declared.module.Module.{Module}
use Rattle.ir_ast.specs.declared.argument.Argument.{Argument}
use Rattle.ir_ast.specs.declared.op.Op.{Op}
use Rattle.ir_ast.specs.declared.operand.Operand.{Operand}
use Rattle.ir_tokens.specs.declared.token.Kind.{Kind}
use Rattle.ir_tokens.specs.declared.token.Kind.TheVariants as k
use Rattle.ir_tokens.specs.Bytes.{Text, class_of}
use Rattle.ir_tokens.specs.Keywords.{word_kind, keywords}
use Rattle.ir_forms.specs.Cursor.{kind}
use Rattle.ir_forms.specs.declared.uses.Wanted.{Wanted}
use Rattle.ir_forms.specs.declared.uses.Wanted.TheVariants as wants
use Rattle.ir_forms.specs.declared.input.Input.{Input}
use Rattle.ir_forms.specs.declared.written.WrittenType.{WrittenType}
use Rattle.ir_forms.specs.Input.{Form, advanced, expect}
use Rattle.ir_forms.specs.Names.{target, used_label, is_wanted, with_sort, with_local_use}
use Rattle.ir_forms.specs.Operand as form
use Rattle.ir_forms.specs.Written as w
use Rattle.ir_forms.specs.declared.numbers.TwoOperands.{TwoOperands}
use Rattle.ir_forms.specs.Lists as lists
use Rattle.ir_forms.specs.FloatOps as floats
use Rattle.ir_forms.specs.Numbers as numbers
use Rattle.ir_forms.specs.declared.written.Word.{Word}
use Rattle.ir_print.specs.Names.{name_at, key_text, local_text}
use Rattle.ir_print.specs.Operands.{operand_text, typed_text}
use Rattle.ir_print.specs.Ends.{target_text}
use Rattle.ir_print.specs.Parts.{typed, pair_text}
use Rattle.ir_print_law.specs.Stands.{IsSeam, AreBlanks}
use Rattle.ir_print_law.proofs.NamesRead.{locals_are_read}
use Rattle.ir_print_law.proofs.Words.{sign_comes}
use Rattle.ir_print_law.specs.PartsAgain.{IsNameAgain, IsArgumentAgain, ArePairAgain}
use Rattle.ir_print_law.specs.Again.{IsOpAgain}
use Rattle.ir_print_law.specs.Parts.{IsFloat, IsNoFloat, IsOperand, IsArgument, ArePair, IsTarget}
use Rattle.ir_print_law.specs.Shapes.{Shape, HasShape, word_of_shape}
use Rattle.ir_print_law.specs.Definitions.{used_keys}
use Rattle.ir_print_law.proofs.Tables.{stays}
use Rattle.ir_print_law.proofs.State.{Invariant, Ready, IsLater, Reads}
use Rattle.ir_print_law.proofs.Shown.{shown, IsTypeRead, bits_read, word_told}
use Rattle.ir_print_law.proofs.Steps.{go_on, given, sign_reads, word_reads, grows_further, later_before}
use Rattle.ir_print_law.proofs.Types.{EndsType, ends_type}
use Rattle.ir_print_law.proofs.PrintedTypes.{type_shown, read_again, scalar_reads, integer_scalar_reads, float_scalar_reads}
use Rattle.ir_print_law.proofs.OperandsAgain.{OperandAgain, operand_reads, ends_operand, local_ready, local_grows, local_few, local_there}
use Rattle.ir_print_law.proofs.AgainTypes.{EndsAgain, no_round}

-- a comma ends a type
pub ends_comma : (afterwards : Text) → EndsType (44 ∷ afterwards)
unfolding class_of
ends_comma afterwards = (refl, λ i at. ap ends_type (sign_comes i.cursor [] 44 afterwards k.Comma refl refl refl at).0)

-- what ends a type begins no parameters
round_of : (x : Kind) → ends_type x ≡ true → no_round x ≡ true
round_of k.OpenRound e = absurd cc
round_of _ e = refl

-- what ends a type ends it also where it is written again
pub ends_again : (rest : Text) → EndsType rest → EndsAgain rest
ends_again rest ends = (ends.0, λ i at. round_of (kind i.cursor) (ends.1 i at))

-- what is read is this again, in each module later on
abbrev pub IsLaterAgain : {A B : Type 0} → (Module → List Text → A → B → Type 0) → A → B → Input → Type 0
IsLaterAgain Again x y o = (n : Module) (others : List Text) → IsLater o n others → Again n others x y

-- what an instruction does is this again
abbrev pub OpAgain : Module → (locals : List Text) → Op → Op → Input → Type 0
OpAgain m locals = IsLaterAgain (λ n others. IsOpAgain m n locals others)

-- an argument is this one again
abbrev pub ArgumentAgain : Module → (locals : List Text) → Argument → Argument → Input → Type 0
ArgumentAgain m locals = IsLaterAgain (λ n others. IsArgumentAgain m n locals others)

-- two operands are these again, and so is their type, in each module later on
abbrev pub PairAgain : Module → (locals : List Text) → (written : ℕ) → (first second : Operand) → TwoOperands → Input → Type 0
PairAgain m locals written first second p o =
    (n : Module) (others : List Text) → IsLater o n others → ArePairAgain m n locals others written first second p.written p.first p.second

-- the label with this number has this key
abbrev pub HasLabel : (key : Text) → (number : ℕ) → Input → Type 0
HasLabel key number o = slice_get o.locals.names number ≡ Some key

-- the sort is one of a value
abbrev pub IsValueSort : LocalSort → Type 0
IsValueSort sort = is_wanted wants.Value (Some sort) ≡ true

-- what is known of the names once the value's sort is set
abbrev pub Sets : {m : Module} {f : Function} (v w : Invariant m f) → (value : ℕ) → Type 0
Sets v w value = (i : Input) (sort : LocalSort) → IsValueSort sort → v.Holds i → w.Holds (with_sort value sort i)

module _ {m : Module} {f : Function} (v : Invariant m f) where
  -- ---- operands with their types

  -- an operand after its type
  pub operand_at : (shape : Shape) (t : ℕ) (x : Operand) (p : WrittenType) (at i : Input) (gap rest : Text) (s : ℕ) → IsTypeRead shape 64 p at → HasShape m.types m.struct_names shape t → IsOperand m f (word_of_shape shape) x
      → AreBlanks gap → IsSeam rest → Ready v s i (gap ++ (operand_text m f.locals t x ++ rest)) → Reads v s (form.operand (w.word_of p)) i rest (OperandAgain m f.locals x)
  operand_at shape t x p at i gap rest s read has own blanks seam ready =
      subst (λ (b : Word). Reads v s (form.operand b) i rest (OperandAgain m f.locals x)) (sym (bits_read shape 64 p at read))
      (operand_reads v shape t x i gap rest s has own blanks seam ready)

  -- an operand after its type, with that type
  abbrev pub typed_after : WrittenType → Form Argument
  typed_after p = form.operand (w.word_of p) >>= λ y. pure (record { written = p.id; operand = y })

  -- `T V`, where the type is read by this form
  pub typed_by : (type_form : Form WrittenType) (t : ℕ) (x : Operand) (i : Input) (gap rest : Text) (s : ℕ) → (own : IsArgument m f (typed t x)) → IsSeam rest
      → ((afterwards : Text) → EndsType afterwards → Ready v s i (gap ++ (shown false own.0 ++ afterwards)) → Reads v s type_form i afterwards (IsTypeRead own.0 64))
      → Ready v s i (gap ++ (typed_text m f.locals t x ++ rest)) → Reads v s (type_form >>= typed_after) i rest (ArgumentAgain m f.locals (typed t x))
  unfolding class_of
  typed_by type_form t x i gap rest s own seam reads ready =
      let shape = own.0 in
      let scalar = own.1 in
      let type_is = type_shown m shape t scalar.0.0 scalar.0.1 in
      let o_text = operand_text m f.locals t x in
      let good = ArgumentAgain m f.locals (typed t x) in
      let ready = subst (λ (y : Text). Ready v s i (gap ++ y)) (append_assoc (shown false shape) (32 ∷ o_text) rest) (subst (λ (y : Text). Ready v s i (gap ++ ((y ++ 32 ∷ operand_text m f.locals t x) ++ rest))) type_is ready) in
      go_on v type_form typed_after i (32 ∷ (operand_text m f.locals t x ++ rest)) rest s s (IsTypeRead shape 64) good
      (reads (32 ∷ (operand_text m f.locals t x ++ rest)) (ends_operand v shape t x rest scalar.0.0 own.2 seam) ready)
      (λ p o ready g read.
      go_on v (form.operand (w.word_of p)) (λ y. pure (record { written = p.id; operand = y })) o rest rest s s (OperandAgain m f.locals x) good
      (operand_at shape t x p o o (32 ∷ []) rest s read scalar.0.0 own.2 refl seam ready)
      (λ y q ready h again. given v (record { written = p.id; operand = y }) q rest s good ready
      (λ n others later. (read_again m shape t p.id o n others scalar.0.0 read.has_shape (later_before o q n others h later), again n others later))))

  -- `T V`
  pub typed_reads : (t : ℕ) (x : Operand) (i : Input) (gap rest : Text) (s : ℕ) → IsArgument m f (typed t x) → AreBlanks gap → IsSeam rest
      → Ready v s i (gap ++ (typed_text m f.locals t x ++ rest)) → Reads v s lists.typed i rest (ArgumentAgain m f.locals (typed t x))
  unfolding lists.typed
  typed_reads t x i gap rest s own blanks seam ready =
      typed_by w.scalar t x i gap rest s own seam (λ afterwards ends ready. scalar_reads v own.0 i gap afterwards s own.1.0.2 own.1.0.1 own.1.1 blanks ends ready) ready

  -- the shape of a type that is none of floating point numbers, and of one that is
  pub flat_shape : (shape : Shape) (t : ℕ) → HasShape m.types m.struct_names shape t → IsNoFloat m t → w.is_float_word (word_of_shape shape) ≡ false
  flat_shape shape t has flat = ap w.is_float_word (sym (word_told m.types m.struct_names shape t has)) ∙ flat

  pub float_shape : (shape : Shape) (t : ℕ) → HasShape m.types m.struct_names shape t → IsFloat m t → w.is_float_word (word_of_shape shape) ≡ true
  float_shape shape t has is = ap w.is_float_word (sym (word_told m.types m.struct_names shape t has)) ∙ is

  -- `T V`, of integers or pointers
  pub typed_integer_reads : (t : ℕ) (x : Operand) (i : Input) (gap rest : Text) (s : ℕ) → IsNoFloat m t → IsArgument m f (typed t x) → AreBlanks gap → IsSeam rest
      → Ready v s i (gap ++ (typed_text m f.locals t x ++ rest)) → Reads v s numbers.typed_integer i rest (ArgumentAgain m f.locals (typed t x))
  unfolding numbers.typed_integer
  typed_integer_reads t x i gap rest s flat own blanks seam ready =
      typed_by w.integer_scalar t x i gap rest s own seam
      (λ afterwards ends ready. integer_scalar_reads v own.0 i gap afterwards s own.1.0.2 own.1.0.1 own.1.1 (flat_shape own.0 t own.1.0.0 flat) blanks ends ready) ready

  -- ---- pairs of operands

  abbrev pair_second : WrittenType → Operand → Form TwoOperands
  pair_second p x = form.operand (w.word_of p) >>= λ y. pure (record { written = p.id; first = x; second = y })

  abbrev pair_comma : WrittenType → Operand → Form TwoOperands
  pair_comma p x = expect k.Comma >> pair_second p x

  -- both operands after their type
  abbrev pub pair_after : WrittenType → Form TwoOperands
  pair_after p = form.operand (w.word_of p) >>= pair_comma p

  pair_front : (a b c rest : Text) → ((a ++ 32 ∷ b) ++ codes ", " ++ c) ++ rest ≡ a ++ (32 ∷ (b ++ (codes ", " ++ (c ++ rest))))
  pair_front a b c rest = simp append_assoc

  -- `T V, W`, where the type is read by this form
  pair_by : (type_form : Form WrittenType) (t : ℕ) (x y : Operand) (i : Input) (gap rest : Text) (s : ℕ) → (own : ArePair m f t x y) → IsSeam rest
      → ((afterwards : Text) → EndsType afterwards → Ready v s i (gap ++ (shown false own.0 ++ afterwards)) → Reads v s type_form i afterwards (IsTypeRead own.0 64))
      → Ready v s i (gap ++ (pair_text m f.locals (typed t x) y ++ rest)) → Reads v s (type_form >>= pair_after) i rest (PairAgain m f.locals t x y)
  unfolding class_of
  pair_by type_form t x y i gap rest s own seam reads ready =
      let shape = own.0 in
      let scalar = own.1 in
      let type_is = type_shown m shape t scalar.0.0 scalar.0.1 in
      let good = PairAgain m f.locals t x y in
      let a = operand_text m f.locals t x in
      let b = operand_text m f.locals t y in
      let t2 = codes ", " ++ (operand_text m f.locals t y ++ rest) in
      let ready : Ready v s i (gap ++ (((shown false shape ++ 32 ∷ operand_text m f.locals t x) ++ codes ", " ++ operand_text m f.locals t y) ++ rest)) =
      subst (λ (z : Text). Ready v s i (gap ++ (((z ++ 32 ∷ operand_text m f.locals t x) ++ codes ", " ++ operand_text m f.locals t y) ++ rest))) type_is ready in
      let ready : Ready v s i (gap ++ (shown false shape ++ (32 ∷ (operand_text m f.locals t x ++ (codes ", " ++ (operand_text m f.locals t y ++ rest)))))) = subst (λ (z : Text). Ready v s i (gap ++ z)) (pair_front (shown false shape) a b rest) ready in
      go_on v type_form pair_after i (32 ∷ (operand_text m f.locals t x ++ t2)) rest s s (IsTypeRead shape 64) good
      (reads (32 ∷ (operand_text m f.locals t x ++ t2)) (ends_operand v shape t x t2 scalar.0.0 own.2 refl) ready)
      (λ p o ready g read.
      go_on v (form.operand (w.word_of p)) (pair_comma p) o t2 rest s s (OperandAgain m f.locals x) good
      (operand_at shape t x p o o (32 ∷ []) t2 s read scalar.0.0 own.2 refl refl ready)
      (λ x1 q ready h first.
      go_on v (expect k.Comma) (λ _. pair_second p x1) q (32 ∷ (operand_text m f.locals t y ++ rest)) rest s s (λ _ r. advanced q ≡ r) good
      (sign_reads v 44 k.Comma q [] (32 ∷ (operand_text m f.locals t y ++ rest)) s s refl refl refl (omega arith) ready)
      (λ _ r ready hh e.
      go_on v (form.operand (w.word_of p)) (λ y1. pure (record { written = p.id; first = x1; second = y1 })) r rest rest s s (OperandAgain m f.locals y) good
      (operand_at shape t y p o r (32 ∷ []) rest s read scalar.0.0 own.3 refl seam ready)
      (λ y1 u ready h3 second. given v (record { written = p.id; first = x1; second = y1 }) u rest s good ready
      (λ n others later.
      let later2 = later_before q u n others (grows_further q r u hh h3) later in
      (read_again m shape t p.id o n others scalar.0.0 read.has_shape (later_before o q n others h later2), first n others later2, second n others later))))))

  -- `T V, W`, of integers or pointers
  pub pair_reads : (t : ℕ) (x y : Operand) (i : Input) (gap rest : Text) (s : ℕ) → IsNoFloat m t → ArePair m f t x y → AreBlanks gap → IsSeam rest
      → Ready v s i (gap ++ (pair_text m f.locals (typed t x) y ++ rest)) → Reads v s numbers.pair i rest (PairAgain m f.locals t x y)
  unfolding numbers.pair
  pair_reads t x y i gap rest s flat own blanks seam ready =
      pair_by w.integer_scalar t x y i gap rest s own seam
      (λ afterwards ends ready. integer_scalar_reads v own.0 i gap afterwards s own.1.0.2 own.1.0.1 own.1.1 (flat_shape own.0 t own.1.0.0 flat) blanks ends ready) ready

  -- `T V, W`, of floating point numbers
  pub float_pair_reads : (t : ℕ) (x y : Operand) (i : Input) (gap rest : Text) (s : ℕ) → IsFloat m t → ArePair m f t x y → AreBlanks gap → IsSeam rest
      → Ready v s i (gap ++ (pair_text m f.locals (typed t x) y ++ rest)) → Reads v s floats.float_pair i rest (PairAgain m f.locals t x y)
  unfolding floats.float_pair
  float_pair_reads t x y i gap rest s is own blanks seam ready =
      pair_by w.float_scalar t x y i gap rest s own seam
      (λ afterwards ends ready. float_scalar_reads v own.0 i gap afterwards s own.1.0.2 own.1.0.1 own.1.1 (float_shape own.0 t own.1.0.0 is) blanks ends ready) ready

  -- ---- targets

  -- a name takes a byte
  byte_less : (gap word rest : Text) → length rest + 1 ≤ length (gap ++ 37 ∷ (word ++ rest))
  byte_less gap word rest = let a = length-append gap (37 ∷ (word ++ rest)) in let b = length-append word rest in omega (arith, a, b)

  -- `%b`
  pub label_reads : (wanted : Wanted) (label : ℕ) (i : Input) (gap rest : Text) (s : ℕ) → IsIn (name_at f.locals label) (used_keys f wanted) → AreBlanks gap → IsSeam rest
      → Ready v s i (gap ++ (local_text f.locals label ++ rest)) → Reads v s (used_label wanted) i rest (HasLabel (name_at f.locals label))
  label_reads wanted label i gap rest s there blanks seam ready =
      let key = name_at f.locals label in
      let r = locals_are_read wanted f.locals label i gap rest (v.is_key wanted key there) (local_few v i _ s key ready) blanks seam ready.stands in (
        number_of key i.locals.names,
        with_local_use wanted i,
        r.0,
        local_ready v wanted i (gap ++ (local_text f.locals label ++ rest)) rest s key r.1 there ready (byte_less gap (key_text key) rest) r.2,
        local_grows v wanted i,
        local_there v i key wanted r.1,
      )

  -- `label %b`
  pub target_reads : (label : ℕ) (i : Input) (gap rest : Text) (s : ℕ) → IsTarget f label → AreBlanks gap → IsSeam rest
      → Ready v s i (gap ++ (target_text f.locals label ++ rest)) → Reads v s target i rest (HasLabel (name_at f.locals label))
  unfolding target word_kind keywords class_of
  target_reads label i gap rest s there blanks seam ready =
      let good = HasLabel (name_at f.locals label) in
      go_on v (expect k.Label) (λ _. used_label wants.Target) i (32 ∷ (local_text f.locals label ++ rest)) rest s s (λ _ o. advanced i ≡ o) good
      (word_reads v (codes "label") i gap (32 ∷ (local_text f.locals label ++ rest)) s s blanks refl refl (omega arith) ready)
      (λ _ o ready g e. label_reads wants.Target label o (32 ∷ []) rest s there refl seam ready)

  -- a label has its key later on
  pub label_later : (label number : ℕ) (o : Input) (n : Module) (others : List Text) → HasLabel (name_at f.locals label) number o → IsLater o n others → IsNameAgain f.locals others label number
  label_later label number o n others there later = stays o.locals.names others number (name_at f.locals label) later.locals there
