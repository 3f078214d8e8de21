-- Constants, names and operands as they are read.
use Rattle.std.proofs.Common.{◌≡◌, ℕ, zero, suc, ◌-◌, ◌*◌, ◌<◌, ◌≤◌, ◌^◌, Bool, true, false, not, List, [], ◌∷◌, slice_get, if◌then◌else◌, Option, None, Some, is_some, unwrap_or, refl, sym, ap, subst, ◌∙◌, arith}
use Rattle.std.specs.Prelude.{nat_lt, nat_le, min, ◌==◌, option_and_then, drop, length, ◌+◌, is_nan, to_bits}
use Rattle.std.specs.Float.{Float, binary64, float_is_infinite}
use Rattle.std.specs.Float.Parse.{parse_float}
use Rattle.ir_ast.specs.Floats.{is_float}
use Rattle.ir_tokens.specs.Bytes.{digit}
use Rattle.ir_tokens.specs.declared.token.Token.{Token}
use Rattle.name_text.specs.Numbers.{small}
use Rattle.std.proofs.Math.Pow.{pow_pos}
use Rattle.std.proofs.lemmas.Bool.Decides.{nat_tests}
use Rattle.lemmas.specs.Lists.{IsIn}
use Rattle.ir_print_law.proofs.Constants.{half_is}
use Rattle.ir_print_law.proofs.FiniteFloats.{IsShort, parsed_short}
use Rattle.grammar.specs.Grammar.{pure, step, ◌>>=◌, ◌>>◌}
use Rattle.ir_ast.specs.Names.{numbered}
use Rattle.ir_ast.specs.declared.function.Function.{Function}
use Rattle.ir_ast.specs.declared.module.Module.{Module}
use Rattle.ir_ast.specs.declared.operand.Constant.{Constant}
use Rattle.ir_ast.specs.declared.operand.Constant.TheVariants as c
use Rattle.ir_ast.specs.declared.operand.Operand.{Operand}
use Rattle.ir_ast.specs.declared.operand.Operand.TheVariants as operand
use Rattle.ir_tokens.specs.declared.token.Kind.{Kind}
use Rattle.ir_tokens.specs.declared.token.Kind.TheVariants as k
use Rattle.ir_tokens.specs.Bytes.{Text}
use Rattle.ir_forms.specs.Cursor.{run, begun_at, past_run, next, kind, spelled, spelling, start, local_key}
use Rattle.ir_forms.specs.Number as numbers
use Rattle.ir_forms.specs.Intrinsics.{is_intrinsic}
use Rattle.ir_forms.specs.declared.fault.Fault.TheVariants.{OutOfRange}
use Rattle.ir_forms.specs.declared.uses.Wanted.{Wanted}
use Rattle.ir_forms.specs.declared.uses.Wanted.TheVariants as wants
use Rattle.ir_forms.specs.declared.input.Input.{Input}
use Rattle.ir_forms.specs.Input.{Form, limit, advanced, advanced_falls, skip}
use Rattle.ir_forms.specs.Names.{used_symbol, symbol_number, with_symbol_use, with_symbol_use_falls, callee, used_global, used_local, local_number, with_local_use, with_local_use_falls, used_label, used_label_by, target}
use Rattle.ir_forms.specs.Operand as form
use Rattle.ir_forms.specs.FloatNumbers.{finite_bits, decimal_bits, hexadecimal_after, is_hexadecimal, float_bits}
use Rattle.ir_forms.specs.Operand.{zero_of, truth_of, number_at, number_or_zero, number, number_by, word_by, held_float, float_at, float_or_zero, float_number, after_run, after_run_falls, constant_by, constant, cast_operand, cast_operand_by, cast, element_by, element_operand, operand_by}
use Rattle.ir_forms.specs.Outside.{element_begin, cast_begin, outside_name, about, outside_begin_by, outside_begin, outside_rest, outside}
use Rattle.ir_forms.specs.declared.written.Word.{Word}
use Rattle.ir_forms.specs.declared.written.Word.TheVariants as sort
use Rattle.ir_print_law.specs.Fits.{FitsType}
use Rattle.ir_print.specs.Names.{name_at}
use Rattle.ir_print_law.specs.Definitions.{functions_of, used_keys, IsUsed}
use Rattle.ir_print_law.specs.Parts.{IsGlobalUse, IsOperand, IsTarget}
use Rattle.ir_print_law.proofs.Forms.{Keeps, Same, stepped, where_true}
use Rattle.ir_print_law.proofs.Decorations.{past_brackets_passes}
use Rattle.ir_print_law.proofs.OutsideRead.{any_type_passes, element_begin_passes, cast_begin_passes}
use Rattle.ir_print_law.proofs.Passes.{Passes, skip_passes, expect_passes, lost_passes}
use Rattle.ir_print_law.proofs.Reading.{Reading, Within}
use Rattle.ir_print_law.proofs.Tables.{stays, name_there}
use Rattle.ir_print_law.proofs.TypesThat.{pointer_type_keeps}

-- a word that a type may be: an integer has 1 to 64 bits
abbrev pub AreBits : Word → Type 0
AreBits (sort.Integer bits) = (1 ≤ bits) × (bits ≤ 64)
AreBits _ = Unit {0}

-- a constant fits, where its type may be
abbrev pub Fits : Word → Constant → Type 0
Fits bits x = AreBits bits → FitsType bits x

-- the bits of a floating point number
abbrev pub float_bits_of : Constant → ℕ
float_bits_of (c.Float n) = n
float_bits_of _ = 0

half_some : (bits : ℕ) → 0 < numbers.half_of bits
half_some bits = pow_pos (min bits 64 - 1)

positive_less : (half : ℕ) (x : Option ℕ) → 0 < half → unwrap_or (option_and_then (numbers.positive half) x) 0 < 2 * half
positive_less half None some = omega (arith, some)
positive_less half (Some n) some = by (nat_lt n (2 * half)) refl where
  by : (t : Bool) → nat_lt n (2 * half) ≡ t → unwrap_or (if t then Some n else None) 0 < 2 * half
  by true e = grind (arith, nat_tests)
  by false e = omega (arith, some)

negative_less : (half : ℕ) (x : Option ℕ) → 0 < half → unwrap_or (option_and_then (numbers.negative half) x) 0 < 2 * half
negative_less half None some = omega (arith, some)
negative_less half (Some n) some = by (nat_le n half) where
  inner : (t : Bool) → n == 0 ≡ t → (if t then 0 else 2 * half - n) < 2 * half
  inner true e = omega (arith, some)
  inner false e = let ne : 0 < n = grind (arith, nat_tests) in omega (arith, some, ne)

  by : (t : Bool) → unwrap_or (if t then Some (if n == 0 then 0 else 2 * half - n) else None) 0 < 2 * half
  by true = inner (n == 0) refl
  by false = omega (arith, some)

constant_less : (s : List ℕ) (bits : ℕ) → unwrap_or (numbers.constant s bits) 0 < 2 * numbers.half_of bits
unfolding numbers.constant
constant_less [] bits = positive_less (numbers.half_of bits) (numbers.small (numbers.decimal [])) (half_some bits)
constant_less (byte ∷ digits) bits = by (byte == 45) where
  by : (t : Bool) → unwrap_or (if t then option_and_then (numbers.negative (numbers.half_of bits)) (numbers.small (numbers.decimal digits)) else option_and_then (numbers.positive (numbers.half_of bits)) (numbers.small (numbers.decimal (byte ∷ digits)))) 0 < 2 * numbers.half_of bits
  by true = negative_less (numbers.half_of bits) (numbers.small (numbers.decimal digits)) (half_some bits)
  by false = positive_less (numbers.half_of bits) (numbers.small (numbers.decimal (byte ∷ digits))) (half_some bits)

pub number_fits : (bits : ℕ) (i : Input) → Fits (sort.Integer bits) (number_or_zero (sort.Integer bits) i)
unfolding number_at
number_fits bits i u = (u.0, u.1, subst (λ (n : ℕ). unwrap_or (number_at (sort.Integer bits) i) 0 < n) (half_is bits u.0 u.1) (constant_less (spelling i.cursor) bits))

pointer_number_fits : (i : Input) → Fits sort.Pointer (number_or_zero sort.Pointer i)
unfolding number_at
pointer_number_fits i u = constant_less (spelling i.cursor) 64

-- hexadecimal digits spell a number below 2 to the 64
hexadecimal_less : (digits : List ℕ) (n : ℕ) → n < 2 ^ 64 → unwrap_or (hexadecimal_after n digits) 0 < 2 ^ 64
hexadecimal_less [] n less = less
hexadecimal_less (b ∷ digits) n less = by (λ m below. hexadecimal_less digits m below) (digit b) where
  inner : ((k : ℕ) → k < 2 ^ 64 → unwrap_or (hexadecimal_after k digits) 0 < 2 ^ 64) → (m : ℕ) (t : Bool) → nat_lt m 18446744073709551616 ≡ t → unwrap_or (option_and_then (λ k. hexadecimal_after k digits) (if t then Some m else None)) 0 < 2 ^ 64
  inner on m true e = on m (grind (arith, nat_tests))
  inner on m false e = omega arith

  by : ((k : ℕ) → k < 2 ^ 64 → unwrap_or (hexadecimal_after k digits) 0 < 2 ^ 64) → (d : Option ℕ) → unwrap_or (option_and_then (λ m. hexadecimal_after m digits) (option_and_then (λ d. small (16 * n + d)) d)) 0 < 2 ^ 64
  by on None = omega arith
  by on (Some d) = inner on (16 * n + d) (nat_lt (16 * n + d) 18446744073709551616) refl

-- a finite number has 64 bits
finite_less : (x : Option Float) → IsShort x → unwrap_or (option_and_then finite_bits x) 0 < 2 ^ 64
finite_less None h = omega arith
finite_less (Some x) h = by (is_nan x) (float_is_infinite x) where
  by : (t u : Bool) → unwrap_or (if t then None else (if u then None else Some (to_bits binary64 x))) 0 < 2 ^ 64
  by true u = omega arith
  by false true = omega arith
  by false false = h

-- so is what a word spells
bits_below : (word : List ℕ) → unwrap_or (float_bits word) 0 < 2 ^ 64
unfolding float_bits
bits_below word = by (is_hexadecimal word) where
  by : (t : Bool) → unwrap_or (if t then hexadecimal_after 0 (drop 2 word) else decimal_bits word) 0 < 2 ^ 64
  by true = hexadecimal_less (drop 2 word) 0 (omega arith)
  by false = finite_less (parse_float binary64 word) (parsed_short word)

pub double_fits : (i : Input) → Fits sort.Double (float_or_zero sort.Double i)
unfolding float_at
double_fits i u = by (float_bits (run i.cursor)) (bits_below (run i.cursor)) where
  by : (x : Option ℕ) → unwrap_or x 0 < 2 ^ 64 → unwrap_or (held_float sort.Double x) 0 < 2 ^ 64
  by None less = less
  by (Some n) less = less

pub single_fits : (i : Input) → Fits sort.Float (float_or_zero sort.Float i)
unfolding float_at
single_fits i u = by (float_bits (run i.cursor)) (bits_below (run i.cursor)) where
  inner : (n : ℕ) (t : Bool) → is_float n ≡ t → n < 2 ^ 64 → FitsType sort.Float (c.Float (unwrap_or (if t then Some n else None) 0))
  inner n true e less = (e, less)
  inner n false e less = (refl, omega arith)

  by : (x : Option ℕ) → unwrap_or x 0 < 2 ^ 64 → FitsType sort.Float (c.Float (unwrap_or (held_float sort.Float x) 0))
  by None less = (refl, omega arith)
  by (Some n) less = inner n (is_float n) refl less

pub zero_fits : (word : Word) → Fits word (zero_of word)
zero_fits sort.Pointer u = tt
zero_fits (sort.Integer bits) u = (u.0, u.1, pow_pos bits)
zero_fits sort.Float u = (refl, omega arith)
zero_fits sort.Double u = omega arith

truth_fits : (word : Word) (truth : Bool) → Fits word (truth_of word truth)
truth_fits sort.Pointer truth u = refl
truth_fits sort.Float truth u = refl
truth_fits sort.Double truth u = refl
truth_fits (sort.Integer bits) truth u = by (bits == 1) refl truth where
  by : (t : Bool) → bits == 1 ≡ t → (truth : Bool) → FitsType (sort.Integer bits) (if t then c.Number (if truth then 1 else 0) else c.Truth truth)
  by true e true = let one : bits ≡ 1 = grind (arith, nat_tests) in (u.0, u.1, rw one (omega arith))
  by true e false = (u.0, u.1, pow_pos bits)
  by false e truth = e

null_fits : (word : Word) → Fits word c.Null
null_fits sort.Pointer u = tt
null_fits (sort.Integer bits) u = tt
null_fits sort.Float u = tt
null_fits sort.Double u = tt

-- the name is at its number
pub named_at : (names : List Text) (n : ℕ) (name : Text) → slice_get names n ≡ Some name → name_at names n ≡ name
named_at names n name e = ap (λ (x : Option Text). unwrap_or x []) e

module _ {m : Module} (r : Reading m) where
  -- ---- constants

  word_gives : (bits : Word) (x : Constant) → Fits bits x → (i : Input) → Keeps r.Fore (Same r.Fore) r.Back (skip >> pure x) (Fits bits) i
  word_gives bits x fits i a o h f =
      let s = skip_passes r i h.0 h.1 h.2 f in
      (subst r.Fore h.3.1 s.0, λ b. ((s.1 (subst r.Back (sym h.3.1) b)).0, subst (Fits bits) h.3.0 fits))

  number_keeps : (word : Word) → ((i : Input) → Fits word (number_or_zero word i)) → (i : Input) → Keeps r.Fore (Same r.Fore) r.Back (number word) (Fits word) i
  unfolding number
  number_keeps word fits i =
      where_true r.Back r.Fore (Same r.Fore) (Fits word) (λ i. is_some (number_at word i)) (λ i. OutOfRange (start i.cursor)) (step (number_or_zero word) advanced advanced_falls) i
      (λ e. stepped r.Back r.Fore (Same r.Fore) (Fits word) (number_or_zero word) advanced advanced_falls i (λ f. (r.on_token i f, λ b. (r.from_token i b, fits i))))

  -- the same with these tokens left
  abbrev at : Input → List Token → Input
  at i ts = record i { cursor = record i.cursor { rest = ts } }

  run_passed : (i : Input) (place : ℕ) (ts : List Token) → r.Fore (at i ts) → r.Fore (at i (begun_at place ts)) × (r.Back (at i (begun_at place ts)) → r.Back (at i ts))
  unfolding next
  run_passed i place [] f = (f, λ b. b)
  run_passed i place (t ∷ ts) f = by (nat_lt t.start place) (run_passed i place ts (r.on_token (at i (t ∷ ts)) f)) where
    by : (u : Bool) → r.Fore (at i (begun_at place ts)) × (r.Back (at i (begun_at place ts)) → r.Back (at i ts))
        → r.Fore (at i (if u then begun_at place ts else t ∷ ts)) × (r.Back (at i (if u then begun_at place ts else t ∷ ts)) → r.Back (at i (t ∷ ts)))
    by true x = (x.0, λ b. r.from_token (at i (t ∷ ts)) (x.1 b))
    by false x = (f, λ b. b)

  -- a floating point number may be more than one token
  pub float_number_keeps : (word : Word) → ((i : Input) → Fits word (float_or_zero word i)) → (i : Input) → Keeps r.Fore (Same r.Fore) r.Back (float_number word) (Fits word) i
  unfolding float_number past_run
  float_number_keeps word fits i x o h f =
      let seen = h.2.2.1 in
      let there = h.2.3.1 in
      let same = seen ∙ there in
      let last = stepped r.Back r.Fore (Same r.Fore) (Fits word) (float_or_zero word) after_run after_run_falls h.1
      (λ f. let p = run_passed h.1 (start h.1.cursor + length (run h.1.cursor)) h.1.cursor.rest f in (p.0, λ b. (p.1 b, fits h.1))) x o h.3 (subst r.Fore same f) in
      (last.0, λ b. let c = last.1 b in (subst r.Back (sym same) c.0, c.1))

  -- it is one of 64 bits that fits the word
  pub float_kept : (word : Word) → ((i : Input) → Fits word (float_or_zero word i)) → (i : Input)
      → Keeps r.Fore (Same r.Fore) r.Back (float_number word) (λ x. (y : Constant) × (c.Float (float_bits_of y) ≡ x) × Fits word (c.Float (float_bits_of y))) i
  unfolding float_number past_run
  float_kept word fits i x o h f =
      let same = h.2.2.1 ∙ h.2.3.1 in
      let good : Constant → Type 0 = λ x. (y : Constant) × (c.Float (float_bits_of y) ≡ x) × Fits word (c.Float (float_bits_of y)) in
      let last = stepped r.Back r.Fore (Same r.Fore) good (float_or_zero word) after_run after_run_falls h.1
      (λ f. let p = run_passed h.1 (start h.1.cursor + length (run h.1.cursor)) h.1.cursor.rest f in (p.0, λ b. (p.1 b, (float_or_zero word h.1, refl, fits h.1)))) x o h.3 (subst r.Fore same f) in
      (last.0, λ b. let c = last.1 b in (subst r.Back (sym same) c.0, c.1))

  number_by_keeps : (word : Word) (i : Input) → Keeps r.Fore (Same r.Fore) r.Back (number_by word) (Fits word) i
  number_by_keeps sort.Pointer i = number_keeps sort.Pointer pointer_number_fits i
  number_by_keeps (sort.Integer bits) i = number_keeps (sort.Integer bits) (number_fits bits) i
  number_by_keeps sort.Float i = float_number_keeps sort.Float single_fits i
  number_by_keeps sort.Double i = float_number_keeps sort.Double double_fits i

  word_by_keeps : (word : Word) (i : Input) → Keeps r.Fore (Same r.Fore) r.Back (word_by word) (Fits word) i
  word_by_keeps sort.Float i = float_number_keeps sort.Float single_fits i
  word_by_keeps sort.Double i = float_number_keeps sort.Double double_fits i
  word_by_keeps sort.Pointer i = λ a o h f. absurd h
  word_by_keeps (sort.Integer bits) i = λ a o h f. absurd h

  constant_by_keeps : (word : Word) (x : Kind) (i : Input) → Keeps r.Fore (Same r.Fore) r.Back (constant_by word x) (Fits word) i
  constant_by_keeps word k.Number i = number_by_keeps word i
  constant_by_keeps word k.Word i = word_by_keeps word i
  constant_by_keeps word k.True i = word_gives word (truth_of word true) (truth_fits word true) i
  constant_by_keeps word k.False i = word_gives word (truth_of word false) (truth_fits word false) i
  constant_by_keeps word k.Null i = word_gives word c.Null (null_fits word) i
  constant_by_keeps word k.Undef i = word_gives word (zero_of word) (zero_fits word) i
  constant_by_keeps word k.Zeroinitializer i = word_gives word (zero_of word) (zero_fits word) i
  constant_by_keeps word _ i = λ a o h f. absurd h

  pub constant_keeps : (bits : Word) (i : Input) → Keeps r.Fore (Same r.Fore) r.Back (constant bits) (Fits bits) i
  unfolding constant
  constant_keeps bits i = constant_by_keeps bits (kind i.cursor) i

  -- ---- global names

  symbol_there : (is_call : Bool) (i : Input) → r.Back (with_symbol_use is_call i) → name_at m.symbols (symbol_number i) ≡ spelled i.cursor
  symbol_there is_call i b =
      named_at m.symbols (symbol_number i) (spelled i.cursor)
      (stays (numbered (spelled i.cursor) i.symbols.names) m.symbols (symbol_number i) (spelled i.cursor) (r.has_symbols (with_symbol_use is_call i) b) (name_there (spelled i.cursor) i.symbols.names))

  used_symbol_keeps : (is_call : Bool) (i : Input)
      → Keeps r.Fore (Same r.Fore) r.Back (used_symbol is_call) (λ n. IsUsed m is_call (name_at m.symbols n) × (name_at m.symbols n ≡ spelled i.cursor)) i
  unfolding used_symbol
  used_symbol_keeps is_call i =
      let good = λ (n : ℕ). IsUsed m is_call (name_at m.symbols n) × (name_at m.symbols n ≡ spelled i.cursor) in
      where_true r.Back r.Fore (Same r.Fore) good (λ i. nat_lt (symbol_number i) 4294967296) limit (step symbol_number (with_symbol_use is_call) (with_symbol_use_falls is_call)) i
      (λ e. stepped r.Back r.Fore (Same r.Fore) good symbol_number (with_symbol_use is_call) (with_symbol_use_falls is_call) i
      (λ f. (
        r.on_symbol i is_call f,
        λ b.
            let there = symbol_there is_call i b in
            (r.from_symbol i is_call b, (subst (λ x. IsUsed m is_call x) (sym there) (r.symbol_is i is_call b), there)),
      )))

  pub callee_keeps : (i : Input) → Keeps r.Fore (Same r.Fore) r.Back callee (λ n. IsIn (name_at m.symbols n) (functions_of m)) i
  unfolding callee
  callee_keeps i n o h f =
      let same = h.2.1 in
      let x = used_symbol_keeps true h.1 n o h.3 (subst r.Fore same f) in
      (x.0, λ b. let c = x.1 b in (subst r.Back (sym same) c.0, c.1.0))

  pub used_global_keeps : (i : Input) → Keeps r.Fore (Same r.Fore) r.Back used_global (IsGlobalUse m) i
  unfolding used_global
  used_global_keeps i n o h f =
      let rules = h.2 in
      let same = rules.2.1 ∙ rules.3.1 in
      let x = used_symbol_keeps false h.1 n o h.3 (subst r.Fore same f) in (
        x.0,
        λ b.
            let c = x.1 b in
            let plain = rules.2.0 in
            (subst r.Back (sym same) c.0, (c.1.0, ap is_intrinsic (c.1.1 ∙ ap (λ (j : Input). spelled j.cursor) (sym same)) ∙ none (is_intrinsic (spelled i.cursor)) plain)),
      )
    where
      none : (t : Bool) → not t ≡ true → t ≡ false
      none true e = absurd cc
      none false e = refl

  -- ---- addresses outside

  outside_name_keeps : (i : Input) → Keeps r.Fore (Same r.Fore) r.Back outside_name (IsGlobalUse m) i
  unfolding outside_name
  outside_name_keeps i n o h f =
      let same = h.2.1 in
      let x = used_global_keeps h.1 n o h.3 (subst r.Fore same f) in
      (x.0, λ b. let c = x.1 b in (subst r.Back (sym same) c.0, c.1))

  -- a name that was found is used
  abbrev IsFound : Option ℕ → Type 0
  IsFound None = Unit {0}
  IsFound (Some symbol) = IsGlobalUse m symbol

  -- nothing is found by this form
  none_found : (g : Form (Unit {0})) → Passes r g → (i : Input) → Keeps r.Fore (Same r.Fore) r.Back (g >> pure None) IsFound i
  none_found g passes i x o h f =
      let a = passes i h.0 h.1 h.2 f in
      (subst r.Fore h.3.1 a.0, λ b. let c = a.1 (subst r.Back (sym h.3.1) b) in (c.0, subst IsFound h.3.0 tt))

  begin_by_keeps : (x : Kind) (i : Input) → Keeps r.Fore (Same r.Fore) r.Back (outside_begin_by x) IsFound i
  begin_by_keeps k.Getelementptr = none_found element_begin (element_begin_passes r)
  begin_by_keeps k.Bitcast = none_found cast_begin (cast_begin_passes r)
  begin_by_keeps _ = λ i x o h f.
      let a = outside_name_keeps i h.0 h.1 h.2 f in
      (subst r.Fore h.3.1 a.0, λ b. let c = a.1 (subst r.Back (sym h.3.1) b) in (c.0, subst IsFound h.3.0 c.1))

  begin_keeps : (i : Input) → Keeps r.Fore (Same r.Fore) r.Back outside_begin IsFound i
  unfolding outside_begin
  begin_keeps i = begin_by_keeps (kind i.cursor) i

  about_keeps : (inner : Form ℕ) → ((i : Input) → Keeps r.Fore (Same r.Fore) r.Back inner (IsGlobalUse m) i) → (i : Input) → Keeps r.Fore (Same r.Fore) r.Back (about inner) (IsGlobalUse m) i
  about_keeps inner each i x o h f =
      let t1 = h.3 in
      let t2 = t1.3 in
      let a = any_type_passes r i h.0 h.1 h.2 f in
      let b = each h.1 t1.0 t1.1 t1.2 a.0 in
      let c = past_brackets_passes r t1.1 t2.0 t2.1 t2.2 b.0 in (
        subst r.Fore t2.3.1 c.0,
        λ back.
            let cb = c.1 (subst r.Back (sym t2.3.1) back) in
            let bb = b.1 cb.0 in
            ((a.1 bb.0).0, subst (IsGlobalUse m) t2.3.0 bb.1),
      )

  rest_keeps : (inner : Form ℕ) → ((i : Input) → Keeps r.Fore (Same r.Fore) r.Back inner (IsGlobalUse m) i) → (found : Option ℕ) (i : Input)
      → Keeps r.Fore (Same r.Fore) r.Back (outside_rest inner found) (λ x. IsFound found → IsGlobalUse m x) i
  rest_keeps inner each None i x o h f = let c = about_keeps inner each i x o h f in (c.0, λ b. let d = c.1 b in (d.0, λ u. d.1))
  rest_keeps inner each (Some symbol) i x o h f = (subst r.Fore h.1 f, λ b. (subst r.Back (sym h.1) b, λ is. subst (IsGlobalUse m) h.0 is))

  pub outside_keeps : (n : ℕ) (i : Input) → Keeps r.Fore (Same r.Fore) r.Back (outside n) (IsGlobalUse m) i
  unfolding outside
  outside_keeps zero i x o h f = outside_name_keeps i x o h f
  outside_keeps (suc n) i x o h f =
      let a = begin_keeps i h.0 h.1 h.2 f in
      let b = rest_keeps (outside n) (outside_keeps n) h.0 h.1 x o h.3 a.0 in
      (b.0, λ back. let bb = b.1 back in let ab = a.1 bb.0 in (ab.0, bb.1 ab.1))

module _ {m : Module} {f : Function} (v : Within m f) where
  -- ---- local names

  pub used_local_keeps : (wanted : Wanted) (i : Input)
      → Keeps v.reading.Fore (Same v.reading.Fore) v.reading.Back (used_local wanted) (λ n. IsIn (name_at f.locals n) (used_keys f wanted)) i
  unfolding used_local
  used_local_keeps wanted i =
      let r = v.reading in
      let good = λ (n : ℕ). IsIn (name_at f.locals n) (used_keys f wanted) in
      where_true r.Back r.Fore (Same r.Fore) good (λ i. nat_lt (local_number i) 4294967296) limit (step local_number (with_local_use wanted) (with_local_use_falls wanted)) i
      (λ e. stepped r.Back r.Fore (Same r.Fore) good local_number (with_local_use wanted) (with_local_use_falls wanted) i
      (λ h. (
        v.on_local i wanted h,
        λ b.
            let key = local_key i.cursor in
            let there = named_at f.locals (local_number i) key
            (stays (numbered key i.locals.names) f.locals (local_number i) key (v.has_locals (with_local_use wanted i) b) (name_there key i.locals.names)) in
            (v.from_local i wanted b, subst (λ x. IsIn x (used_keys f wanted)) (sym there) (v.local_is i wanted b)),
      )))

  label_by_keeps : (wanted : Wanted) (x : Kind) (i : Input)
      → Keeps v.reading.Fore (Same v.reading.Fore) v.reading.Back (used_label_by wanted x) (λ n. IsIn (name_at f.locals n) (used_keys f wanted)) i
  label_by_keeps wanted k.LocalName i = used_local_keeps wanted i
  label_by_keeps wanted k.LocalNumber i = used_local_keeps wanted i
  label_by_keeps wanted _ i = λ a o h f. absurd h

  pub label_keeps : (wanted : Wanted) (i : Input)
      → Keeps v.reading.Fore (Same v.reading.Fore) v.reading.Back (used_label wanted) (λ n. IsIn (name_at f.locals n) (used_keys f wanted)) i
  unfolding used_label
  label_keeps wanted i = label_by_keeps wanted (kind i.cursor) i

  pub target_keeps : (i : Input) → Keeps v.reading.Fore (Same v.reading.Fore) v.reading.Back target (IsTarget f) i
  unfolding target
  target_keeps i n o h fore =
      let a = expect_passes v.reading k.Label i h.0 h.1 h.2 fore in
      let b = label_keeps wants.Target h.1 n o h.3 a.0 in
      (b.0, λ back. let c = b.1 back in let d = a.1 c.0 in (d.0, c.1))

  -- ---- operands

  -- an operand, where its type may be
  abbrev pub IsRead : Word → Operand → Type 0
  IsRead bits x = AreBits bits → IsOperand m f bits x

  local_operand : (bits : Word) (i : Input) → Keeps v.reading.Fore (Same v.reading.Fore) v.reading.Back (used_local wants.Value >>= λ value. pure (operand.Local value)) (IsRead bits) i
  local_operand bits i x o h fore =
      let r = v.reading in
      let a = used_local_keeps wants.Value i h.0 h.1 h.2 fore in
      (subst r.Fore h.3.1 a.0, λ b. let c = a.1 (subst r.Back (sym h.3.1) b) in (c.0, subst (IsRead bits) h.3.0 (λ u. c.1)))

  global_operand : (bits : Word) (i : Input) → Keeps v.reading.Fore (Same v.reading.Fore) v.reading.Back (used_global >>= λ symbol. pure (operand.Global symbol)) (IsRead bits) i
  global_operand bits i x o h fore =
      let r = v.reading in
      let a = used_global_keeps r i h.0 h.1 h.2 fore in
      (subst r.Fore h.3.1 a.0, λ b. let c = a.1 (subst r.Back (sym h.3.1) b) in (c.0, subst (IsRead bits) h.3.0 (λ u. c.1)))

  constant_operand : (bits : Word) (i : Input) → Keeps v.reading.Fore (Same v.reading.Fore) v.reading.Back (constant bits >>= λ x. pure (operand.Constant x)) (IsRead bits) i
  constant_operand bits i x o h fore =
      let r = v.reading in
      let a = constant_keeps r bits i h.0 h.1 h.2 fore in
      (subst r.Fore h.3.1 a.0, λ b. let c = a.1 (subst r.Back (sym h.3.1) b) in (c.0, subst (IsRead bits) h.3.0 c.1))

  cast_name_keeps : (x : Kind) (i : Input) → Keeps v.reading.Fore (Same v.reading.Fore) v.reading.Back (cast_operand_by x) (IsGlobalUse m) i
  cast_name_keeps k.GlobalName i = used_global_keeps v.reading i
  cast_name_keeps _ i = λ a o h f. absurd h

  cast_keeps : (bits : Word) (i : Input) → Keeps v.reading.Fore (Same v.reading.Fore) v.reading.Back cast (IsRead bits) i
  unfolding cast cast_operand
  cast_keeps bits i x o h fore =
      let r = v.reading in
      let t1 = h.3 in
      let t2 = t1.3 in
      let t3 = t2.3 in
      let t4 = t3.3 in
      let t5 = t4.3 in
      let t6 = t5.3 in
      let a0 = skip_passes r i h.0 h.1 h.2 fore in
      let a1 = expect_passes r k.OpenRound h.1 t1.0 t1.1 t1.2 a0.0 in
      let a2 = pointer_type_keeps r t1.1 t2.0 t2.1 t2.2 a1.0 in
      let a3 = cast_name_keeps (kind t2.1.cursor) t2.1 t3.0 t3.1 t3.2 a2.0 in
      let a4 = expect_passes r k.To t3.1 t4.0 t4.1 t4.2 a3.0 in
      let a5 = pointer_type_keeps r t4.1 t5.0 t5.1 t5.2 a4.0 in
      let a6 = expect_passes r k.CloseRound t5.1 t6.0 t6.1 t6.2 a5.0 in (
        subst r.Fore t6.3.1 a6.0,
        λ b.
            let b6 = a6.1 (subst r.Back (sym t6.3.1) b) in
            let b5 = a5.1 b6.0 in
            let b4 = a4.1 b5.0 in
            let b3 = a3.1 b4.0 in
            let b2 = a2.1 b3.0 in
            let b1 = a1.1 b2.0 in
            let b0 = a0.1 b1.0 in
            (b0.0, subst (IsRead bits) t6.3.0 (λ u. (b2.1, b3.1, b5.1))),
      )

  element_by_keeps : (word : Word) (t : Bool) (i : Input) → Keeps v.reading.Fore (Same v.reading.Fore) v.reading.Back (element_by word t) (IsRead word) i
  element_by_keeps sort.Pointer true i x o h fore =
      let r = v.reading in
      let t = h.2 in
      let a = lost_passes r i t.0 t.1 t.2 fore in
      let b = outside_keeps r 3 t.1 h.0 h.1 t.3 a.0 in (
        subst r.Fore h.3.1 b.0,
        λ back. let bb = b.1 (subst r.Back (sym h.3.1) back) in ((a.1 bb.0).0, subst (IsRead sort.Pointer) h.3.0 (λ u. bb.1)),
      )
  element_by_keeps sort.Pointer false i x o h fore = constant_operand sort.Pointer i x o h fore
  element_by_keeps (sort.Integer bits) t i x o h fore = constant_operand (sort.Integer bits) i x o h fore
  element_by_keeps sort.Float t i x o h fore = constant_operand sort.Float i x o h fore
  element_by_keeps sort.Double t i x o h fore = constant_operand sort.Double i x o h fore

  element_keeps : (word : Word) (i : Input) → Keeps v.reading.Fore (Same v.reading.Fore) v.reading.Back (element_operand word) (IsRead word) i
  unfolding element_operand
  element_keeps word i = element_by_keeps word i.wide i

  operand_by_keeps : (bits : Word) (x : Kind) (i : Input) → Keeps v.reading.Fore (Same v.reading.Fore) v.reading.Back (operand_by bits x) (IsRead bits) i
  operand_by_keeps bits k.LocalName i = local_operand bits i
  operand_by_keeps bits k.LocalNumber i = local_operand bits i
  operand_by_keeps bits k.GlobalName i = global_operand bits i
  operand_by_keeps bits k.Bitcast i = cast_keeps bits i
  operand_by_keeps bits k.Getelementptr i = element_keeps bits i
  operand_by_keeps bits _ i = constant_operand bits i

  pub operand_keeps : (bits : Word) (i : Input) → Keeps v.reading.Fore (Same v.reading.Fore) v.reading.Back (form.operand bits) (IsRead bits) i
  unfolding form.operand
  operand_keeps bits i = operand_by_keeps bits (kind i.cursor) i
