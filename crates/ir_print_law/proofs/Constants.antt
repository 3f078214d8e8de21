-- Printed constants and integer types are read as themselves.
use Rattle.std.proofs.Common.{◌≡◌, ℕ, zero, suc, ◌-◌, ◌*◌, ◌<◌, ◌≤◌, ◌^◌, Bool, true, false, if◌then◌else◌, [], ◌∷◌, ◌++◌, Option, Some, None, is_some, refl, ap, sym, subst, ◌∙◌, arith, rules}
use Rattle.std.specs.Prelude.{◌==◌, nat_lt, nat_le, min, unwrap_or, codes}
use Rattle.std.specs.List.{list_all}
use Rattle.std.specs.Fmt as text
use Rattle.std.proofs.lemmas.Bool.{eqb-true}
use Rattle.std.proofs.lemmas.Bool.Decides.{nat_tests}
use Rattle.std.proofs.lemmas.Fmt.{digits_decimal, decimal_nonempty}
use Rattle.std.proofs.Math.Nat.{pow-succ'}
use Rattle.std.proofs.Math.Pow.{pow_mono}
use Rattle.std.proofs.lemmas.Str.Parse.{IsNumeralModel, numerals_by_fold}
use Rattle.ir_tokens.specs.declared.token.Kind.{Kind}
use Rattle.ir_tokens.specs.declared.token.Kind.TheVariants as k
use Rattle.ir_tokens.specs.Bytes.{Text, is_digit}
use Rattle.ir_tokens.specs.Keywords.{word_kind, keywords}
use Rattle.ir_ast.specs.declared.operand.Constant.{Constant}
use Rattle.ir_ast.specs.declared.operand.Constant.TheVariants as c
use Rattle.ir_forms.specs.Cursor.{kind, next}
use Rattle.ir_forms.specs.Number as numbers
use Rattle.ir_forms.specs.declared.input.Input.{Input}
use Rattle.ir_forms.specs.Input.{advanced}
use Rattle.ir_forms.specs.Operand.{constant, constant_by, number, number_at, truth_of, bits_of_word, float_number, holds_float}
use Rattle.ir_print.specs.Hexadecimal.{bits_text}
use Rattle.ir_print.specs.Operands.{truth_text, bit_of, number_text}
use Rattle.ir_print_law.specs.Fits.{FitsType, constant_shown}
use Rattle.ir_print_law.specs.Stands.{Stands, IsSeam, AreBlanks, AreDigits}
use Rattle.std.specs.Prelude.{◌&&◌, ◌||◌}
use Rattle.std.proofs.Common.{drop}
use Rattle.lemmas.specs.Bools.{and_parts, or_second}
use Rattle.ir_tokens.specs.Bytes.{is_letter}
use Rattle.ir_tokens.specs.Keywords.{kind_in, other_word}
use Rattle.ir_forms.specs.Cursor.{name}
use Rattle.ir_forms.specs.Written.{integer, bits_at}
use Rattle.ir_forms.specs.declared.written.Word.{Word}
use Rattle.ir_forms.specs.declared.written.Word.TheVariants as sort
use Rattle.ir_print_law.proofs.FloatConstants.{float_number_said}
use Rattle.ir_print_law.specs.Readings.{after_constant, ConstantsAreRead, IntegerTypesAreRead}
use Rattle.name_text.specs.Spelled.{number_is}
use Rattle.ir_print_law.proofs.Words.{word_comes, number_comes}

-- ---- numbers

model : IsNumeralModel (λ (ds : Text). list_all is_digit ds ≡ true) (numbers.decimal_after 0)
model = numerals_by_fold _ (search rules) numbers.decimal_after (search rules)

pub are_digits : (n : ℕ) → n < 2 ^ 64 → AreDigits (text.decimal n)
are_digits n less = (decimal_nonempty n less, digits_decimal model n less)

pub no_minus : (b : ℕ) → is_digit b ≡ true → b == 45 ≡ false
no_minus b e = let low : nat_le 48 b ≡ true = (and_parts (nat_le 48 b) (nat_le b 57) e).0 in grind (arith, nat_tests)

number_value : (digits : Text) (n bits : ℕ) → AreDigits digits → numbers.decimal digits ≡ n → n < 2 ^ 64 → n < 2 * numbers.half_of bits → numbers.constant digits bits ≡ Some n
unfolding numbers.constant
number_value [] n bits own is less fits = absurd (omega (arith, own.0))
number_value (b ∷ digits) n bits own is less fits =
    let minus = no_minus b (and_parts (is_digit b) (list_all is_digit digits) own.1).0 in
    let small : nat_lt n 18446744073709551616 ≡ true = grind (arith, nat_tests) in
    let within : nat_lt n (2 * numbers.half_of bits) ≡ true = grind (arith, nat_tests) in
    rw (minus, is, small, within) refl

pub half_is : (bits : ℕ) → 1 ≤ bits → bits ≤ 64 → 2 * numbers.half_of bits ≡ 2 ^ bits
half_is zero some most = absurd (omega (arith, some))
half_is (suc p) some most =
    let same : min (suc p) 64 - 1 ≡ p = omega (arith, most) in
    ap (λ (n : ℕ). 2 * 2 ^ n) same ∙ sym (pow-succ' 2 p)

-- ---- constants

-- the constant comes next, and the rest comes after it
abbrev pub IsConstantRead : Word → Constant → Input → Text → Type 0
IsConstantRead word x i rest = (constant word).says i x (after_constant x i) × Stands (after_constant x i).cursor rest

by_kind : (word : Word) (x : Constant) (i o : Input) (token : Kind) → kind i.cursor ≡ token → (constant_by word token).says i x o → (constant word).says i x o
unfolding constant
by_kind word x i o token e h = subst (λ (y : Kind). (constant_by word y).says i x o) (sym e) h

-- what `true` and `false` are read as is one token
truth_after : (word : Word) (truth : Bool) (i : Input) → after_constant (truth_of word truth) i ≡ advanced i
truth_after (sort.Integer bits) truth i = by (bits == 1) where
  by : (t : Bool) → after_constant (if t then c.Number (if truth then 1 else 0) else c.Truth truth) i ≡ advanced i
  by true = refl
  by false = refl
truth_after sort.Pointer truth i = refl
truth_after sort.Float truth i = refl
truth_after sort.Double truth i = refl

truth_said : (word : Word) (truth : Bool) (i : Input) (gap rest : Text) → AreBlanks gap → IsSeam rest → Stands i.cursor (gap ++ (truth_text truth ++ rest)) → (constant word).says i (truth_of word truth) (advanced i) × Stands (next i.cursor) rest
unfolding word_kind keywords
truth_said word true i gap rest blanks seam at =
    let w = word_comes i.cursor gap (codes "true") rest blanks refl seam at in
    (by_kind word (truth_of word true) i (advanced i) k.True w.0 (tt, advanced i, (refl, refl), (refl, refl)), w.3)
truth_said word false i gap rest blanks seam at =
    let w = word_comes i.cursor gap (codes "false") rest blanks refl seam at in
    (by_kind word (truth_of word false) i (advanced i) k.False w.0 (tt, advanced i, (refl, refl), (refl, refl)), w.3)

truth_read : (word : Word) (truth : Bool) (i : Input) (gap rest : Text) → AreBlanks gap → IsSeam rest → Stands i.cursor (gap ++ (truth_text truth ++ rest)) → IsConstantRead word (truth_of word truth) i rest
truth_read word truth i gap rest blanks seam at =
    subst (λ (o : Input). (constant word).says i (truth_of word truth) o × Stands o.cursor rest) (sym (truth_after word truth i)) (truth_said word truth i gap rest blanks seam at)

null_read : (word : Word) (i : Input) (gap rest : Text) → AreBlanks gap → IsSeam rest → Stands i.cursor (gap ++ (codes "null" ++ rest)) → IsConstantRead word c.Null i rest
unfolding word_kind keywords
null_read word i gap rest blanks seam at =
    let w = word_comes i.cursor gap (codes "null") rest blanks refl seam at in
    (by_kind word c.Null i (advanced i) k.Null w.0 (tt, advanced i, (refl, refl), (refl, refl)), w.3)

-- a number is said by the form of integers
number_said : (word : Word) (n : ℕ) (i : Input) (gap rest : Text) → n < 2 ^ 64 → n < 2 * numbers.half_of (bits_of_word word) → AreBlanks gap → IsSeam rest → Stands i.cursor (gap ++ (text.decimal n ++ rest))
    → (kind i.cursor ≡ k.Number) × (number word).says i (c.Number n) (advanced i) × Stands (next i.cursor) rest
unfolding number number_at
number_said word n i gap rest less fits blanks seam at =
    let own = are_digits n less in
    let w = number_comes i.cursor gap (text.decimal n) rest blanks own seam at in
    let e : number_at word i ≡ Some n = ap (λ (x : Text). numbers.constant x (bits_of_word word)) w.1 ∙ number_value (text.decimal n) n (bits_of_word word) own (number_is n less) less fits in
    (w.0, (tt, i, (ap (λ (x : Option ℕ). is_some x) e, refl), (ap (λ (x : Option ℕ). c.Number (unwrap_or x 0)) e, refl)), w.3)

pointer_number_read : (n : ℕ) (i : Input) (gap rest : Text) → n < 2 ^ 64 → AreBlanks gap → IsSeam rest → Stands i.cursor (gap ++ (text.decimal n ++ rest)) → IsConstantRead sort.Pointer (c.Number n) i rest
pointer_number_read n i gap rest less blanks seam at =
    let w = number_said sort.Pointer n i gap rest less less blanks seam at in
    (by_kind sort.Pointer (c.Number n) i (advanced i) k.Number w.0 w.1, w.2)

integer_read : (bits n : ℕ) (i : Input) (gap rest : Text) → n < 2 ^ 64 → n < 2 * numbers.half_of bits → AreBlanks gap → IsSeam rest → Stands i.cursor (gap ++ (text.decimal n ++ rest)) → IsConstantRead (sort.Integer bits) (c.Number n) i rest
integer_read bits n i gap rest less fits blanks seam at =
    let w = number_said (sort.Integer bits) n i gap rest less fits blanks seam at in
    (by_kind (sort.Integer bits) (c.Number n) i (advanced i) k.Number w.0 w.1, w.2)

-- the numbers of one bit are read from their words
bit_read : (bits n : ℕ) (i : Input) (gap rest : Text) → bits == 1 ≡ true → n < 2 ^ bits → AreBlanks gap → IsSeam rest → Stands i.cursor (gap ++ (truth_text (bit_of n) ++ rest))
    → IsConstantRead (sort.Integer bits) (c.Number n) i rest
bit_read bits n i gap rest one less blanks seam at =
    let read = truth_read (sort.Integer bits) (bit_of n) i gap rest blanks seam at in
    let below : n < 2 ^ 1 = subst (λ (b : ℕ). n < 2 ^ b) (eqb-true bits 1 one) less in
    let same : truth_of (sort.Integer bits) (bit_of n) ≡ c.Number n = ap (λ (t : Bool). if t then c.Number (if bit_of n then 1 else 0) else c.Truth (bit_of n)) one ∙ ap (λ (x : ℕ). c.Number x) (bit_is n below) in
    subst (λ (x : Constant). IsConstantRead (sort.Integer bits) x i rest) same read where
      bit_is : (n : ℕ) → n < 2 ^ 1 → (if bit_of n then 1 else 0) ≡ n
      bit_is zero below = refl
      bit_is (suc zero) below = refl
      bit_is (suc (suc n)) below = absurd (omega (arith, below))

pub wide : (bits n : ℕ) → bits ≤ 64 → n < 2 ^ bits → n < 2 ^ 64
wide bits n most less = let grows : 2 ^ bits ≤ 2 ^ 64 = pow_mono most in omega (arith, less, grows)

-- a floating point number is read from its bits
float_read : (word : Word) (n : ℕ) (i : Input) (gap rest : Text) → ((token : Kind) → token ≡ k.Number → (float_number word).says i (c.Float n) (advanced (advanced i)) → (constant_by word token).says i (c.Float n) (advanced (advanced i)))
    → holds_float word n ≡ true → n < 2 ^ 64 → AreBlanks gap → IsSeam rest → Stands i.cursor (gap ++ (bits_text n ++ rest)) → IsConstantRead word (c.Float n) i rest
float_read word n i gap rest is holds less blanks seam at =
    let w = float_number_said word n i gap rest holds less blanks seam at in
    (by_kind word (c.Float n) i (advanced (advanced i)) k.Number w.0 (is k.Number refl w.1), w.2)

pub constant_is_read : (word : Word) (x : Constant) (i : Input) (gap rest : Text) → FitsType word x → AreBlanks gap → IsSeam rest → Stands i.cursor (gap ++ (constant_shown word x ++ rest)) → IsConstantRead word x i rest
constant_is_read sort.Pointer (c.Number n) i gap rest fits blanks seam at = pointer_number_read n i gap rest fits blanks seam at
constant_is_read (sort.Integer bits) (c.Number n) i gap rest fits blanks seam at = by (bits == 1) refl at where
  by : (one : Bool) → bits == 1 ≡ one → Stands i.cursor (gap ++ (number_text one n ++ rest)) → IsConstantRead (sort.Integer bits) (c.Number n) i rest
  by true e at = bit_read bits n i gap rest e fits.2 blanks seam at
  by false e at =
      let within : n < 2 * numbers.half_of bits = subst (λ (most : ℕ). n < most) (sym (half_is bits fits.0 fits.1)) fits.2 in
      integer_read bits n i gap rest (wide bits n fits.1 fits.2) within blanks seam at
constant_is_read sort.Float (c.Number n) i gap rest fits blanks seam at = absurd fits
constant_is_read sort.Double (c.Number n) i gap rest fits blanks seam at = absurd fits
constant_is_read sort.Float (c.Float n) i gap rest fits blanks seam at =
    float_read sort.Float n i gap rest (λ token e h. subst (λ (y : Kind). (constant_by sort.Float y).says i (c.Float n) (advanced (advanced i))) (sym e) h) fits.0 fits.1 blanks seam at
constant_is_read sort.Double (c.Float n) i gap rest fits blanks seam at =
    float_read sort.Double n i gap rest (λ token e h. subst (λ (y : Kind). (constant_by sort.Double y).says i (c.Float n) (advanced (advanced i))) (sym e) h) refl fits blanks seam at
constant_is_read sort.Pointer (c.Float n) i gap rest fits blanks seam at = absurd fits
constant_is_read (sort.Integer bits) (c.Float n) i gap rest fits blanks seam at = absurd fits
constant_is_read word c.Null i gap rest fits blanks seam at = null_read word i gap rest blanks seam at
constant_is_read sort.Pointer (c.Truth truth) i gap rest fits blanks seam at = truth_read sort.Pointer truth i gap rest blanks seam at
constant_is_read sort.Float (c.Truth truth) i gap rest fits blanks seam at = truth_read sort.Float truth i gap rest blanks seam at
constant_is_read sort.Double (c.Truth truth) i gap rest fits blanks seam at = truth_read sort.Double truth i gap rest blanks seam at
constant_is_read (sort.Integer bits) (c.Truth truth) i gap rest fits blanks seam at =
    let same : truth_of (sort.Integer bits) truth ≡ c.Truth truth = ap (λ (t : Bool). if t then c.Number (if truth then 1 else 0) else c.Truth truth) fits in
    subst (λ (x : Constant). IsConstantRead (sort.Integer bits) x i rest) same (truth_read (sort.Integer bits) truth i gap rest blanks seam at)

pub constants_are_read : ConstantsAreRead
constants_are_read word x i fits = λ gap rest blanks seam at. constant_is_read word x i gap rest fits blanks seam at

-- ---- integer types

plain_digits : (digits : Text) → list_all is_digit digits ≡ true → list_all (λ byte. is_letter byte || is_digit byte) digits ≡ true
plain_digits [] e = refl
plain_digits (b ∷ digits) e =
    let parts = and_parts (is_digit b) (list_all is_digit digits) e in
    rw (or_second (is_letter b) (is_digit b) parts.0) (plain_digits digits parts.1)

integer_kind : (digits : Text) → AreDigits digits → word_kind (105 ∷ digits) ≡ k.IntegerType
unfolding word_kind
integer_kind [] own = absurd (omega (arith, own.0))
integer_kind (b ∷ digits) own =
    ap (λ (t : Bool). if t then k.IntegerType else unwrap_or (kind_in keywords (105 ∷ b ∷ digits)) (other_word (105 ∷ b ∷ digits))) own.1

pub integer_types_are_read : IntegerTypesAreRead
unfolding integer bits_at name
integer_types_are_read bits i gap rest some most blanks seam at =
    let less : bits < 2 ^ 64 = omega (arith, most) in
    let own = are_digits bits less in
    let w = word_comes i.cursor gap (105 ∷ text.decimal bits) rest blanks (plain_digits (text.decimal bits) own.1) seam at in
    let value : bits_at i ≡ bits = ap (λ (x : Text). numbers.decimal (drop 1 x)) w.1 ∙ number_is bits less in
    let low : nat_le 1 bits ≡ true = grind (arith, nat_tests) in
    let high : nat_le bits 64 ≡ true = grind (arith, nat_tests) in
    let in_range : (nat_le 1 (bits_at i) && nat_le (bits_at i) 64) ≡ true = ap (λ (n : ℕ). nat_le 1 n && nat_le n 64) value ∙ rw (low, high) refl in
    (w.0 ∙ integer_kind (text.decimal bits) own, (tt, i, (in_range, refl), (value, refl)), w.3)
