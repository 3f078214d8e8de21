-- The types of items and the first values of globals, as they are read.
use Rattle.std.proofs.Common.{◌≡◌, ℕ, Bool, true, false, if◌then◌else◌, is_some, refl, sym, ap, subst, ◌∙◌, arith, inl, inr, ◌⊎◌}
use Rattle.std.specs.Prelude.{◌==◌}
use Rattle.std.proofs.Math.Pow.{pow_pos}
use Rattle.std.proofs.lemmas.Bool.Decides.{nat_tests}
use Rattle.grammar.specs.Grammar.{pure, step, ◌>>=◌, ◌>>◌}
use Rattle.ir_ast.specs.declared.ir_type.IrType.TheVariants as type
use Rattle.ir_ast.specs.declared.module.Module.{Module}
use Rattle.ir_ast.specs.declared.operand.Constant.{Constant}
use Rattle.ir_ast.specs.declared.operand.Constant.TheVariants as c
use Rattle.ir_tokens.specs.declared.token.Kind.{Kind}
use Rattle.ir_tokens.specs.declared.token.Kind.TheVariants as k
use Rattle.ir_forms.specs.Cursor.{kind, start}
use Rattle.ir_forms.specs.declared.fault.Fault.TheVariants.{OutOfRange}
use Rattle.ir_forms.specs.declared.input.Input.{Input}
use Rattle.ir_forms.specs.Input.{advanced, advanced_falls, skip}
use Rattle.ir_forms.specs.Operand.{float_number, zero_of, truth_of, number_at, number_or_zero, number, constant_by, constant}
use Rattle.ir_forms.specs.Written.{any_type, passed_type}
use Rattle.ir_forms.specs.declared.decorating.Spot.TheVariants as spot
use Rattle.ir_forms.specs.declared.written.Word.{Word}
use Rattle.ir_forms.specs.declared.written.Word.TheVariants as sort
use Rattle.ir_text.specs.ItemsOfText.{begins_opaque, opaque_by, body_by, body, is_initial, initial, void_result, declared_result_by, declared_result, defined_result_by, defined_result}
use Rattle.ir_print_law.specs.Parts.{IsType, IsVoid}
use Rattle.ir_print_law.specs.Printable.{IsPassed, IsAnyType, IsInitial}
use Rattle.ir_print_law.specs.Shapes.{Shape, Empty, is_struct_shape}
use Rattle.ir_print_law.proofs.Decorations.{decorations_pass}
use Rattle.ir_print_law.proofs.Forms.{Keeps, Same, stepped, where_true}
use Rattle.ir_print_law.proofs.Operands.{AreBits, number_fits, float_kept, single_fits, double_fits}
use Rattle.ir_print_law.proofs.Passes.{skip_passes, lost_passes}
use Rattle.ir_print_law.proofs.Reading.{Reading}
use Rattle.ir_print_law.proofs.Tokens.{intern_goes}
use Rattle.ir_print_law.proofs.TypesThat.{type_of, passed_of, any_type_keeps, passed_keeps, struct_body_keeps}

-- a first value, where its type may be
abbrev pub IsFirst : Word → Constant → Type 0
IsFirst bits x = AreBits bits → IsInitial bits x

zero_first : (word : Word) → IsFirst word (zero_of word)
zero_first sort.Pointer u = tt
zero_first (sort.Integer bits) u = (u.0, u.1, pow_pos bits)
zero_first sort.Float u = (refl, omega arith)
zero_first sort.Double u = omega arith

truth_first : (bits : ℕ) (truth : Bool) → bits == 1 ≡ true → IsFirst (sort.Integer bits) (truth_of (sort.Integer bits) truth)
truth_first bits truth e u = subst (λ (t : Bool). IsInitial (sort.Integer bits) (if t then c.Number (if truth then 1 else 0) else c.Truth truth)) (sym e) (by truth) where
  by : (t : Bool) → IsInitial (sort.Integer bits) (c.Number (if t then 1 else 0))
  by true = let one : bits ≡ 1 = grind (arith, nat_tests) in (u.0, u.1, rw one (omega arith))
  by false = (u.0, u.1, pow_pos bits)

module _ {m : Module} (r : Reading m) where
  word_is : (word : Word) (x : Constant) → IsFirst word x → (i : Input) → Keeps r.Fore (Same r.Fore) r.Back (skip >> pure x) (IsFirst word) i
  word_is word x first i a o h f =
      let s = skip_passes r i h.0 h.1 h.2 f in
      (subst r.Fore h.3.1 s.0, λ b. ((s.1 (subst r.Back (sym h.3.1) b)).0, subst (IsFirst word) h.3.0 first))

  number_first : (bits : ℕ) (i : Input) → Keeps r.Fore (Same r.Fore) r.Back (number (sort.Integer bits)) (IsFirst (sort.Integer bits)) i
  unfolding number
  number_first bits i =
      let word = sort.Integer bits in
      where_true r.Back r.Fore (Same r.Fore) (IsFirst word) (λ i. is_some (number_at word i)) (λ i. OutOfRange (start i.cursor)) (step (number_or_zero word) advanced advanced_falls) i
      (λ e. stepped r.Back r.Fore (Same r.Fore) (IsFirst word) (number_or_zero word) advanced advanced_falls i (λ f. (r.on_token i f, λ b. (r.from_token i b, number_fits bits i))))

  -- what fits as a floating point number may be a first value
  float_first : (i : Input) → Keeps r.Fore (Same r.Fore) r.Back (float_number sort.Float) (IsFirst sort.Float) i
  float_first i a o h f = let x = float_kept r sort.Float single_fits i a o h f in (x.0, λ b. let y = x.1 b in (y.0, subst (IsFirst sort.Float) y.1.1 (λ u. y.1.2 u)))

  double_first : (i : Input) → Keeps r.Fore (Same r.Fore) r.Back (float_number sort.Double) (IsFirst sort.Double) i
  double_first i a o h f = let x = float_kept r sort.Double double_fits i a o h f in (x.0, λ b. let y = x.1 b in (y.0, subst (IsFirst sort.Double) y.1.1 (λ u. y.1.2 u)))

  initial_by : (word : Word) (x : Kind) (i : Input) → is_initial word x ≡ true → Keeps r.Fore (Same r.Fore) r.Back (constant_by word x) (IsFirst word) i
  initial_by sort.Pointer k.Number i e = absurd cc
  initial_by (sort.Integer bits) k.Number i e = number_first bits i
  initial_by sort.Float k.Number i e = float_first i
  initial_by sort.Double k.Number i e = double_first i
  initial_by sort.Pointer k.Word i e = absurd cc
  initial_by (sort.Integer bits) k.Word i e = absurd cc
  initial_by sort.Float k.Word i e = float_first i
  initial_by sort.Double k.Word i e = double_first i
  initial_by sort.Pointer k.True i e = absurd cc
  initial_by (sort.Integer bits) k.True i e = word_is (sort.Integer bits) (truth_of (sort.Integer bits) true) (truth_first bits true e) i
  initial_by sort.Float k.True i e = absurd cc
  initial_by sort.Double k.True i e = absurd cc
  initial_by sort.Pointer k.False i e = absurd cc
  initial_by (sort.Integer bits) k.False i e = word_is (sort.Integer bits) (truth_of (sort.Integer bits) false) (truth_first bits false e) i
  initial_by sort.Float k.False i e = absurd cc
  initial_by sort.Double k.False i e = absurd cc
  initial_by sort.Pointer k.Null i e = word_is sort.Pointer c.Null (λ u. tt) i
  initial_by (sort.Integer bits) k.Null i e = absurd cc
  initial_by sort.Float k.Null i e = absurd cc
  initial_by sort.Double k.Null i e = absurd cc
  initial_by word k.Undef i e = word_is word (zero_of word) (zero_first word) i
  initial_by word k.Zeroinitializer i e = word_is word (zero_of word) (zero_first word) i
  initial_by word _ i e = λ a o h f. absurd h

  -- the first value of a global
  pub initial_keeps : (bits : Word) (i : Input) → Keeps r.Fore (Same r.Fore) r.Back (initial bits) (IsFirst bits) i
  unfolding initial constant
  initial_keeps bits i x o h f =
      let same = h.2.1 in
      let is = ap (λ (j : Input). is_initial bits (kind j.cursor)) (sym same) ∙ h.2.0 in
      let a = initial_by bits (kind h.1.cursor) h.1 is x o h.3 (subst r.Fore same f) in
      (a.0, λ b. let ab = a.1 b in (subst r.Back (sym same) ab.0, ab.1))

  -- ---- struct types

  opaque_by_keeps : (t : Bool) (i : Input) → Keeps r.Fore (Same r.Fore) r.Back (opaque_by t) (λ n. (shape : Shape) × IsType m shape n × (is_struct_shape shape ≡ true)) i
  opaque_by_keeps false i n o h f = absurd h
  opaque_by_keeps true i n o h f =
      let t = h.2 in
      let a = lost_passes r i t.0 t.1 t.2 f in
      let b = skip_passes r t.1 h.0 h.1 t.3 a.0 in
      let c = intern_goes r type.EmptyStruct h.1 tt n o h.3 b.0 in
      (c.0, λ back. let cb = c.1 back in ((a.1 (b.1 cb.0).0).0, (Empty, (cb.1.0, omega arith, tt), refl)))

  body_by_keeps : (x : Kind) (i : Input) → Keeps r.Fore (Same r.Fore) r.Back (body_by x) (λ n. (shape : Shape) × IsType m shape n × (is_struct_shape shape ≡ true)) i
  body_by_keeps k.OpenBrace i = struct_body_keeps r i
  body_by_keeps k.LeftOut i = opaque_by_keeps (begins_opaque i) i
  body_by_keeps k.Less i = λ a o h f. absurd h
  body_by_keeps _ i = λ a o h f. absurd h

  pub body_keeps : (i : Input) → Keeps r.Fore (Same r.Fore) r.Back body (λ n. (shape : Shape) × IsType m shape n × (is_struct_shape shape ≡ true)) i
  unfolding body
  body_keeps i = body_by_keeps (kind i.cursor) i

  -- ---- results

  void_keeps : (i : Input) → Keeps r.Fore (Same r.Fore) r.Back void_result (IsVoid m) i
  void_keeps i n o h f =
      let t = h.2 in
      let same = t.3.1 in
      let a = skip_passes r i t.0 t.1 t.2 f in
      let b = intern_goes r type.Void h.1 tt n o h.3 (subst r.Fore same a.0) in
      (b.0, λ back. let bb = b.1 back in ((a.1 (subst r.Back (sym same) bb.0)).0, bb.1.0))

  any_result : (i : Input) → Keeps r.Fore (Same r.Fore) r.Back (any_type >>= λ w. pure w.id) (IsAnyType m) i
  any_result i n o h f =
      let a = any_type_keeps r i h.0 h.1 h.2 f in
      (subst r.Fore h.3.1 a.0, λ b. let ab = a.1 (subst r.Back (sym h.3.1) b) in (ab.0, subst (IsAnyType m) h.3.0 (ab.1.0, type_of m h.0 ab.1.0 ab.1.1)))

  passed_result : (i : Input) → Keeps r.Fore (Same r.Fore) r.Back (passed_type >>= λ w. pure w.id) (IsPassed m) i
  passed_result i n o h f =
      let a = passed_keeps r i h.0 h.1 h.2 f in
      (subst r.Fore h.3.1 a.0, λ b. let ab = a.1 (subst r.Back (sym h.3.1) b) in (ab.0, subst (IsPassed m) h.3.0 (passed_of m h.0 ab.1)))

  declared_by : (x : Kind) (i : Input) → Keeps r.Fore (Same r.Fore) r.Back (declared_result_by x) (λ n. IsVoid m n ⊎ IsAnyType m n) i
  declared_by k.Void i = λ n o h f. let a = void_keeps i n o h f in (a.0, λ b. let ab = a.1 b in (ab.0, inl ab.1))
  declared_by _ i = λ n o h f. let a = any_result i n o h f in (a.0, λ b. let ab = a.1 b in (ab.0, inr ab.1))

  pub declared_result_keeps : (i : Input) → Keeps r.Fore (Same r.Fore) r.Back declared_result (λ n. IsVoid m n ⊎ IsAnyType m n) i
  unfolding declared_result
  declared_result_keeps i n o h f =
      let d = h.3 in
      let c = decorations_pass r spot.Declare i h.0 h.1 h.2 f in
      let a = decorations_pass r spot.Result h.1 d.0 d.1 d.2 c.0 in
      let b = declared_by (kind d.1.cursor) d.1 n o d.3 a.0 in
      (b.0, λ back. let bb = b.1 back in ((c.1 (a.1 bb.0).0).0, bb.1))

  defined_by : (x : Kind) (i : Input) → Keeps r.Fore (Same r.Fore) r.Back (defined_result_by x) (λ n. IsVoid m n ⊎ IsPassed m n) i
  defined_by k.Void i = λ n o h f. let a = void_keeps i n o h f in (a.0, λ b. let ab = a.1 b in (ab.0, inl ab.1))
  defined_by _ i = λ n o h f. let a = passed_result i n o h f in (a.0, λ b. let ab = a.1 b in (ab.0, inr ab.1))

  pub defined_result_keeps : (i : Input) → Keeps r.Fore (Same r.Fore) r.Back defined_result (λ n. IsVoid m n ⊎ IsPassed m n) i
  unfolding defined_result
  defined_result_keeps i n o h f =
      let a = decorations_pass r spot.Result i h.0 h.1 h.2 f in
      let b = defined_by (kind h.1.cursor) h.1 n o h.3 a.0 in
      (b.0, λ back. let bb = b.1 back in ((a.1 bb.0).0, bb.1))
