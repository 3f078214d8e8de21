-- The key of a value or a block, as it is printed.
use Rattle.std.proofs.Common.{◌≡◌, ℕ, ◌+◌, ◌/◌, ◌%◌, ◌<◌, ◌≤◌, ◌^◌, Bool, true, false, [], ◌∷◌, ◌++◌, refl, arith, rules}
use Rattle.std.specs.Prelude.{◌==◌}
use Rattle.std.specs.List.{list_all}
use Rattle.std.specs.Fmt.{decimal}
use Rattle.std.proofs.lemmas.Bool.Decides.{nat_tests}
use Rattle.std.proofs.lemmas.Fmt.{decimal_by_steps, decimal_nonempty, digits_decimal, length-decimal-le}
use Rattle.std.proofs.lemmas.Str.Parse.{IsNumeralModel, numerals_by_fold}
use Rattle.ir_ast.specs.LocalKeys.{key_of_digits}
use Rattle.ir_tokens.specs.Bytes.{Text, is_digit}
use Rattle.name_text.specs.Numbers.{decimal_after}
use Rattle.certificate.specs.Named.{IsNumberKey}

-- ---- numbers

abbrev begins_zero : Text → Bool
begins_zero [] = true
begins_zero (digit ∷ digits) = digit == 48

stays_by : (digits : Text) → begins_zero digits ≡ false → key_of_digits digits ≡ digits
stays_by [] e = absurd cc
stays_by (digit ∷ []) e = refl
stays_by (digit ∷ next ∷ digits) e = rw e refl

longer : (digits : Text) (last : ℕ) → begins_zero digits ≡ false → begins_zero (digits ++ last ∷ []) ≡ false
longer [] last e = absurd cc
longer (digit ∷ digits) last e = e

abbrev IsPlain : ℕ → Text → Type 0
IsPlain n digits = (key_of_digits digits ≡ digits) × (1 ≤ n → begins_zero digits ≡ false)

plain : (n : ℕ) → n < 2 ^ 64 → IsPlain n (decimal n)
plain n less = decimal_by_steps IsPlain one more n less
  where
    one : (n : ℕ) → n < 10 → IsPlain n ((48 + n) ∷ [])
    one n less = (refl, λ some. grind (arith, nat_tests))

    more : (n : ℕ) (digits : Text) → 10 ≤ n → IsPlain (n / 10) digits → IsPlain n (digits ++ ((48 + n % 10) ∷ []))
    more n digits ge h =
        let front = longer digits (48 + n % 10) (h.1 (omega (arith, ge))) in
        (stays_by (digits ++ ((48 + n % 10) ∷ [])) front, λ some. front)

digits : IsNumeralModel (λ (s : Text). list_all is_digit s ≡ true) (decimal_after 0)
digits = numerals_by_fold _ (search rules) decimal_after (search rules)

-- a number is the key of a value or a block without a name
pub number_key : (n : ℕ) → n < 2 ^ 32 → IsNumberKey (decimal n)
number_key n less =
    let wide : n < 2 ^ 64 = omega (arith, less) in
    let few : n < 10 ^ 10 = omega (arith, less) in
    let short = length-decimal-le 10 n (omega arith) few wide in
    (decimal_nonempty n wide, digits_decimal digits n wide, (plain n wide).0, omega (arith, short))
