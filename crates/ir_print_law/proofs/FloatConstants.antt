-- The bits of a floating point number, as they are printed, are read as that number: they are two tokens without a gap.
use Rattle.std.proofs.Common.{◌≡◌, ℕ, zero, suc, ◌+◌, ◌-◌, ◌*◌, ◌/◌, ◌%◌, ◌<◌, ◌≤◌, ◌^◌, Bool, true, false, not, if◌then◌else◌, List, [], ◌∷◌, ◌++◌, length, take, drop, Option, None, Some, is_some, unwrap_or, refl, sym, ap, subst, ◌∙◌, arith, append_assoc, length-append}
use Rattle.std.specs.Prelude.{◌==◌, ◌&&◌, ◌||◌, nat_lt, option_and_then, codes}
use Rattle.std.specs.List.{list_all, prefix_len}
use Rattle.std.proofs.lemmas.Bool.Decides.{nat_tests}
use Rattle.std.proofs.lemmas.Bool.{eqb-true}
use Rattle.lemmas.specs.Bools.{and_parts}
use Rattle.std.proofs.Math.Nat.{pow-succ'}
use Rattle.ir_ast.specs.declared.operand.Constant.TheVariants as c
use Rattle.ir_tokens.specs.declared.class.ByteClass.{ByteClass}
use Rattle.ir_tokens.specs.declared.class.ByteClass.TheVariants as class
use Rattle.ir_tokens.specs.declared.token.Kind.{Kind}
use Rattle.ir_tokens.specs.declared.token.Kind.TheVariants as k
use Rattle.ir_tokens.specs.declared.token.Token.{Token}
use Rattle.ir_tokens.specs.declared.lexed.Lexed.{Lexed}
use Rattle.ir_tokens.specs.Bytes.{Text, is_letter, is_digit, is_name, class_of, digit}
use Rattle.ir_tokens.specs.Form.{Outcome, begins}
use Rattle.ir_tokens.specs.Tokens.{token, token_by, number, word, past_gap, is_blank, make, ended, on_token, lex_at, lex_from}
use Rattle.ir_tokens.specs.Keywords.{word_kind}
use Rattle.name_text.specs.Names.{hexadecimal, is_plain}
use Rattle.name_text.specs.Numbers.{is_nil, small}
use Rattle.ir_forms.specs.Place.{Place}
use Rattle.ir_forms.specs.Cursor.{kind, next, start, run, sees_float, begun_at, past_run}
use Rattle.ir_forms.specs.FloatNumbers.{is_part, run_of, is_hexadecimal_digit, are_hexadecimal_digits, is_float_number, float_bits, with_digit, hexadecimal_after}
use Rattle.ir_forms.specs.declared.input.Input.{Input}
use Rattle.ir_forms.specs.Input.{advanced}
use Rattle.ir_forms.specs.Operand.{holds_float, held_float, float_at, float_number, after_run}
use Rattle.ir_forms.specs.declared.written.Word.{Word}
use Rattle.ir_print.specs.Hexadecimal.{digits_text, bits_text}
use Rattle.ir_print_law.specs.Stands.{Stands, IsSeam, AreBlanks, ends_token}
use Rattle.ir_print_law.proofs.Seams.{no_name}
use Rattle.ir_print_law.proofs.NumberTokens.{word_no_plus}
use Rattle.ir_print_law.proofs.Spelled.{word_read}
use Rattle.ir_print_law.proofs.Standing.{Comes, comes, begins_there, begun_next, begun_late}
use Rattle.ir_print_law.proofs.Words.{past_blanks, no_gap, word_comes}

-- ---- digits

-- what holds of each number below 16
each_digit : (P : ℕ → Type 0) → P 0 → P 1 → P 2 → P 3 → P 4 → P 5 → P 6 → P 7 → P 8 → P 9 → P 10 → P 11 → P 12 → P 13 → P 14 → P 15 → (d : ℕ) → d < 16 → P d
each_digit P h0 h1 h2 h3 h4 h5 h6 h7 h8 h9 h10 h11 h12 h13 h14 h15 zero less = h0
each_digit P h0 h1 h2 h3 h4 h5 h6 h7 h8 h9 h10 h11 h12 h13 h14 h15 (suc zero) less = h1
each_digit P h0 h1 h2 h3 h4 h5 h6 h7 h8 h9 h10 h11 h12 h13 h14 h15 (suc (suc zero)) less = h2
each_digit P h0 h1 h2 h3 h4 h5 h6 h7 h8 h9 h10 h11 h12 h13 h14 h15 (suc (suc (suc zero))) less = h3
each_digit P h0 h1 h2 h3 h4 h5 h6 h7 h8 h9 h10 h11 h12 h13 h14 h15 (suc (suc (suc (suc zero)))) less = h4
each_digit P h0 h1 h2 h3 h4 h5 h6 h7 h8 h9 h10 h11 h12 h13 h14 h15 (suc (suc (suc (suc (suc zero))))) less = h5
each_digit P h0 h1 h2 h3 h4 h5 h6 h7 h8 h9 h10 h11 h12 h13 h14 h15 (suc (suc (suc (suc (suc (suc zero)))))) less = h6
each_digit P h0 h1 h2 h3 h4 h5 h6 h7 h8 h9 h10 h11 h12 h13 h14 h15 (suc (suc (suc (suc (suc (suc (suc zero))))))) less = h7
each_digit P h0 h1 h2 h3 h4 h5 h6 h7 h8 h9 h10 h11 h12 h13 h14 h15 (suc (suc (suc (suc (suc (suc (suc (suc zero)))))))) less = h8
each_digit P h0 h1 h2 h3 h4 h5 h6 h7 h8 h9 h10 h11 h12 h13 h14 h15 (suc (suc (suc (suc (suc (suc (suc (suc (suc zero))))))))) less = h9
each_digit P h0 h1 h2 h3 h4 h5 h6 h7 h8 h9 h10 h11 h12 h13 h14 h15 (suc (suc (suc (suc (suc (suc (suc (suc (suc (suc zero)))))))))) less = h10
each_digit P h0 h1 h2 h3 h4 h5 h6 h7 h8 h9 h10 h11 h12 h13 h14 h15 (suc (suc (suc (suc (suc (suc (suc (suc (suc (suc (suc zero))))))))))) less = h11
each_digit P h0 h1 h2 h3 h4 h5 h6 h7 h8 h9 h10 h11 h12 h13 h14 h15 (suc (suc (suc (suc (suc (suc (suc (suc (suc (suc (suc (suc zero)))))))))))) less = h12
each_digit P h0 h1 h2 h3 h4 h5 h6 h7 h8 h9 h10 h11 h12 h13 h14 h15 (suc (suc (suc (suc (suc (suc (suc (suc (suc (suc (suc (suc (suc zero))))))))))))) less = h13
each_digit P h0 h1 h2 h3 h4 h5 h6 h7 h8 h9 h10 h11 h12 h13 h14 h15 (suc (suc (suc (suc (suc (suc (suc (suc (suc (suc (suc (suc (suc (suc zero)))))))))))))) less = h14
each_digit P h0 h1 h2 h3 h4 h5 h6 h7 h8 h9 h10 h11 h12 h13 h14 h15 (suc (suc (suc (suc (suc (suc (suc (suc (suc (suc (suc (suc (suc (suc (suc zero))))))))))))))) less = h15
each_digit P h0 h1 h2 h3 h4 h5 h6 h7 h8 h9 h10 h11 h12 h13 h14 h15 (suc (suc (suc (suc (suc (suc (suc (suc (suc (suc (suc (suc (suc (suc (suc (suc d)))))))))))))))) less = absurd (omega (arith, less))

-- a printed digit is read as its number
digit_is : (d : ℕ) → d < 16 → digit (hexadecimal d) ≡ Some d
unfolding digit
digit_is = each_digit (λ d. digit (hexadecimal d) ≡ Some d) refl refl refl refl refl refl refl refl refl refl refl refl refl refl refl refl

-- a printed digit may be in a name
digit_plain : (d : ℕ) → d < 16 → (is_letter (hexadecimal d) || is_digit (hexadecimal d)) ≡ true
digit_plain = each_digit (λ d. (is_letter (hexadecimal d) || is_digit (hexadecimal d)) ≡ true) refl refl refl refl refl refl refl refl refl refl refl refl refl refl refl refl

-- and so in a number
digit_part : (d : ℕ) → d < 16 → is_part (hexadecimal d) ≡ true
unfolding is_name class_of
digit_part = each_digit (λ d. is_part (hexadecimal d) ≡ true) refl refl refl refl refl refl refl refl refl refl refl refl refl refl refl refl

all_on : (p : ℕ → Bool) (xs : Text) (x : ℕ) → list_all p xs ≡ true → p x ≡ true → list_all p (xs ++ x ∷ []) ≡ true
all_on p [] x all is = rw is refl
all_on p (y ∷ xs) x all is =
    let parts = and_parts (p y) (list_all p xs) all in
    rw (parts.0, all_on p xs x parts.1 is) refl

-- what holds of each digit
digits_all : (p : ℕ → Bool) → ((d : ℕ) → d < 16 → p (hexadecimal d) ≡ true) → (many n : ℕ) → list_all p (digits_text many n) ≡ true
unfolding digits_text
digits_all p each zero n = refl
digits_all p each (suc many) n = all_on p (digits_text many (n / 16)) (hexadecimal (n % 16)) (digits_all p each many (n / 16)) (each (n % 16) (omega arith))

some_on : (xs : Text) (x : ℕ) → is_nil (xs ++ x ∷ []) ≡ false
some_on [] x = refl
some_on (y ∷ xs) x = refl

digits_some : (many n : ℕ) → is_nil (digits_text (suc many) n) ≡ false
unfolding digits_text
digits_some many n = some_on (digits_text many (n / 16)) (hexadecimal (n % 16))

digits_long : (many n : ℕ) → length (digits_text many n) ≡ many
unfolding digits_text
digits_long zero n = refl
digits_long (suc many) n =
    let a = length-append (digits_text many (n / 16)) (hexadecimal (n % 16) ∷ []) in
    let b = digits_long many (n / 16) in
    omega (arith, a, b)

-- the digits of a number spell it
digits_value : (many n : ℕ) (rest : Text) → n < 16 ^ many → n < 2 ^ 64 → hexadecimal_after 0 (digits_text many n ++ rest) ≡ hexadecimal_after n rest
unfolding digits_text
digits_value zero zero rest below less = refl
digits_value zero (suc n) rest below less = absurd (omega (arith, below))
digits_value (suc many) n rest below less =
    let grows = pow-succ' 16 many in
    let front : n / 16 < 16 ^ many = omega (arith, below, grows) in
    let whole : 16 * (n / 16) + n % 16 ≡ n = omega arith in
    let fits : nat_lt n 18446744073709551616 ≡ true = grind (arith, nat_tests) in
    let is = digit_is (n % 16) (omega arith) in
    let step : hexadecimal_after (n / 16) (hexadecimal (n % 16) ∷ rest) ≡ hexadecimal_after n rest =
    ap (λ (d : Option ℕ). option_and_then (λ m. hexadecimal_after m rest) (option_and_then (λ d. small (16 * (n / 16) + d)) d)) is
    ∙ ap (λ (m : ℕ). option_and_then (λ m. hexadecimal_after m rest) (small m)) whole ∙ ap (λ (t : Bool). option_and_then (λ m. hexadecimal_after m rest) (if t then Some n else None)) fits in
    ap (hexadecimal_after 0) (append_assoc (digits_text many (n / 16)) (hexadecimal (n % 16) ∷ []) rest)
    ∙ digits_value many (n / 16) (hexadecimal (n % 16) ∷ rest) front (omega (arith, less)) ∙ step

-- the list of hexadecimal digits, at least one
digits_are : (many n : ℕ) → are_hexadecimal_digits (digits_text (suc many) n) ≡ true
digits_are many n =
    let each : (d : ℕ) → d < 16 → is_hexadecimal_digit (hexadecimal d) ≡ true = λ d less. ap is_some (digit_is d less) in
    rw (digits_some many n, digits_all is_hexadecimal_digit each (suc many) n) refl

-- the printed bits are a floating point number
bits_are : (n : ℕ) → is_float_number (bits_text n) ≡ true
unfolding is_float_number
bits_are n = rw (digits_are 15 n) refl

-- of these bits
bits_read : (n : ℕ) → n < 2 ^ 64 → float_bits (bits_text n) ≡ Some n
unfolding float_bits
bits_read n less =
    let all = ap (hexadecimal_after 0) (append_nil (digits_text 16 n)) in
    rw (digits_are 15 n) (sym all ∙ digits_value 16 n [] (omega (arith, less)) less)
  where
    append_nil : (xs : Text) → xs ++ [] ≡ xs
    append_nil [] = refl
    append_nil (x ∷ xs) = ap (λ (y : Text). x ∷ y) (append_nil xs)

-- ---- the bytes of the number

-- a byte after a number is no plus
no_plus : (b : ℕ) (t : Bool) → b == 43 ≡ t → ends_token (class_of b) ≡ true → t ≡ false
unfolding class_of
no_plus b false e is = refl
no_plus b true e is = let same = eqb-true b 43 e in absurd (let bad = ap (λ (x : ℕ). ends_token (class_of x)) (sym same) ∙ is in cc)

-- no byte after the number belongs to it
no_part : (rest : Text) → IsSeam rest → begins is_part rest ≡ false
unfolding is_name
no_part [] seam = refl
no_part (b ∷ bytes) seam = by (class_of b) refl seam (b == 43) refl where
  by : (x : ByteClass) → class_of b ≡ x → ends_token x ≡ true → (t : Bool) → b == 43 ≡ t → (is_name b || t) ≡ false
  by class.Letter e is t f = absurd cc
  by class.Digit e is t f = absurd cc
  by _ e is t f = rw (no_name (b ∷ bytes) seam) (no_plus b t f seam)

-- bytes of a number before others are those that belong to it
run_is : (word rest : Text) → list_all is_part word ≡ true → begins is_part rest ≡ false → run_of (word ++ rest) ≡ word
run_is [] [] all none = refl
run_is [] (b ∷ rest) all none = rw none refl
run_is (b ∷ word) rest all none =
    let parts = and_parts (is_part b) (list_all is_part word) all in
    let on : 1 + prefix_len is_part (word ++ rest) ≡ suc (prefix_len is_part (word ++ rest)) = omega arith in
    rw parts.0 (ap (λ (n : ℕ). take n (b ∷ (word ++ rest))) on ∙ ap (λ (x : Text). b ∷ x) (run_is word rest parts.1 none))

bits_run : (n : ℕ) (rest : Text) → IsSeam rest → run_of (bits_text n ++ rest) ≡ bits_text n
unfolding is_name class_of
bits_run n rest seam =
    let all : list_all is_part (bits_text n) ≡ true = digits_all is_part digit_part 16 n in
    run_is (bits_text n) rest all (no_part rest seam)

-- ---- the two tokens

-- the 0 is a number, whatever letter follows
zero_read : (bytes : Text) → token.read (48 ∷ 120 ∷ bytes) ≡ Some (k.Number, 120 ∷ bytes)
unfolding token number class_of
zero_read bytes =
    let said : number.says (48 ∷ 120 ∷ bytes) k.Number (120 ∷ bytes) = (48 ∷ [], 120 ∷ bytes, (refl, (refl, tt), refl), (refl, refl)) in
    token.again (48 ∷ 120 ∷ bytes) k.Number (120 ∷ bytes) said

-- what follows it is a word
word_plain : (n : ℕ) → is_plain (120 ∷ digits_text 16 n) ≡ true
word_plain n = digits_all (λ byte. is_letter byte || is_digit byte) digit_plain 16 n

-- the printed bits are read as the number that they are
pub float_number_said : (word : Word) (n : ℕ) (i : Input) (gap rest : Text) → holds_float word n ≡ true → n < 2 ^ 64 → AreBlanks gap → IsSeam rest → Stands i.cursor (gap ++ (bits_text n ++ rest))
    → (kind i.cursor ≡ k.Number) × (float_number word).says i (c.Float n) (advanced (advanced i)) × Stands (next (next i.cursor)) rest
unfolding float_number float_at sees_float run past_run next
float_number_said word n i gap rest holds less blanks seam at =
    let bytes = digits_text 16 n ++ rest in
    let past = past_blanks gap (48 ∷ 120 ∷ bytes) blanks (no_gap 48 (120 ∷ bytes) refl) in
    let a = comes i.cursor gap 48 (120 ∷ bytes) (48 ∷ []) (120 ∷ bytes) k.Number refl past (zero_read bytes) refl (omega arith) at in
    let plain = word_plain n in
    let b = word_comes (next i.cursor) [] (120 ∷ digits_text 16 n) rest refl plain seam a.3 in
    let there = begins_there i.cursor gap 48 (120 ∷ bytes) (120 ∷ bytes) k.Number refl past (zero_read bytes) at in
    let own : run i.cursor ≡ bits_text n = ap run_of there.1 ∙ bits_run n rest seam in
    let is : sees_float i.cursor ≡ true = ap is_float_number own ∙ bits_are n in
    let value : float_at word i ≡ Some n =
    ap (λ (x : Text). held_float word (float_bits x)) own ∙ ap (held_float word) (bits_read n less) ∙ ap (λ (t : Bool). if t then Some n else None) holds in
    let long : length (run i.cursor) ≡ 18 = ap length own ∙ ap (λ (m : ℕ). suc (suc m)) (digits_long 16 n) in
    let all : length bytes ≡ 16 + length rest = length-append (digits_text 16 n) rest ∙ ap (λ (m : ℕ). m + length rest) (digits_long 16 n) in
    let from = there.0 in
    let word_past = past_blanks [] (120 ∷ bytes) refl (no_gap 120 bytes refl) in
    let word_there = begins_there (next i.cursor) [] 120 bytes rest (word_kind (120 ∷ digits_text 16 n)) (word_no_plus (120 ∷ digits_text 16 n)) word_past (word_read (120 ∷ digits_text 16 n) rest plain seam) a.3 in
    let from_word = word_there.0 in
    let place = start i.cursor + length (run i.cursor) in
    let first = begun_next i.cursor gap 48 (120 ∷ bytes) (120 ∷ bytes) k.Number refl past (zero_read bytes) at place (omega (arith, long)) in
    let second = begun_next (next i.cursor) [] 120 bytes rest (word_kind (120 ∷ digits_text 16 n)) (word_no_plus (120 ∷ digits_text 16 n)) word_past (word_read (120 ∷ digits_text 16 n) rest plain seam) a.3 place
    (omega (arith, from, from_word, long, all)) in
    let last = begun_late (next (next i.cursor)) rest place b.3 (omega (arith, from, long, all)) in
    let moved : after_run i ≡ advanced (advanced i) = ap (λ (ts : List Token). record i { cursor = record i.cursor { rest = ts } }) (first ∙ second ∙ last) in (
      a.0,
      (tt, i, (tt, i, (is, refl), (ap is_some value, refl)), (ap (λ (x : Option ℕ). c.Float (unwrap_or x 0)) value, moved)),
      b.3,
    )
