-- The key of a number as it is written is the number in decimal.
use Rattle.std.proofs.Common.{◌≡◌, ℕ, ◌+◌, ◌-◌, ◌*◌, ◌<◌, ◌^◌, Bool, true, false, [], ◌∷◌, length, get_or, if◌then◌else◌, None, Some, refl, sym, ap, subst, ◌∙◌, arith, rules}
use Rattle.std.specs.Prelude.{nat_lt, ◌==◌, ◌&&◌}
use Rattle.std.specs.List.{list_all}
use Rattle.std.specs.Fmt as text
use Rattle.std.proofs.lemmas.Bool.Decides.{nat_tests}
use Rattle.std.proofs.lemmas.Fmt.{decimal-digits_value}
use Rattle.std.proofs.lemmas.Str.Parse.{IsNumeralModel, numerals_by_fold}
use Rattle.ir_ast.specs.LocalKeys.{key_of_digits}
use Rattle.ir_tokens.specs.Bytes.{Text, is_digit}
use Rattle.ir_forms.specs.Number as numbers
use Rattle.name_text.specs.Numbers as written
use Rattle.ir_forms.specs.Names.{is_at}
use Rattle.ir_print_law.specs.Stands.{AreDigits}

model : IsNumeralModel (λ (s : Text). list_all is_digit s ≡ true) (numbers.decimal_after 0)
model = numerals_by_fold _ (search rules) numbers.decimal_after (search rules)

-- digits without zeros before them are those of their number
plain_digits : (digits : Text) → AreDigits digits → (get_or digits 0 0 ≡ 48 → length digits ≡ 1) → numbers.decimal_after 0 digits < 2 ^ 64 → text.decimal (numbers.decimal_after 0 digits) ≡ digits
plain_digits digits own plain less = decimal-digits_value model digits own.1 own.0 plain less

later_digits : (first : ℕ) (rest : Text) → list_all is_digit (first ∷ rest) ≡ true → list_all is_digit rest ≡ true
later_digits first rest e = by (is_digit first) e where
  by : (t : Bool) → (t && list_all is_digit rest) ≡ true → list_all is_digit rest ≡ true
  by true h = h
  by false h = absurd cc

key_is : (digits : Text) → AreDigits digits → numbers.decimal_after 0 digits < 2 ^ 64 → key_of_digits digits ≡ text.decimal (numbers.decimal_after 0 digits)
key_is [] own less = absurd (let some = own.0 in omega (arith, some))
key_is (digit ∷ []) own less = sym (plain_digits (digit ∷ []) own (λ e. refl) less)
key_is (digit ∷ next ∷ digits) own less = by (digit == 48) refl (λ own less. key_is (next ∷ digits) own less) where
  by : (t : Bool) → digit == 48 ≡ t → (AreDigits (next ∷ digits) → numbers.decimal_after 0 (next ∷ digits) < 2 ^ 64 → key_of_digits (next ∷ digits) ≡ text.decimal (numbers.decimal_after 0 (next ∷ digits)))
      → (if t then key_of_digits (next ∷ digits) else digit ∷ next ∷ digits) ≡ text.decimal (numbers.decimal_after 0 (digit ∷ next ∷ digits))
  by true e further =
      let none : 10 * 0 + (digit - 48) ≡ 0 = (let is : digit ≡ 48 = grind (arith, nat_tests) in omega (arith, is)) in
      let same : numbers.decimal_after 0 (digit ∷ next ∷ digits) ≡ numbers.decimal_after 0 (next ∷ digits) = ap (λ (n : ℕ). numbers.decimal_after n (next ∷ digits)) none in
      further (omega arith, later_digits digit (next ∷ digits) own.1) (subst (λ (n : ℕ). n < 2 ^ 64) same less) ∙ ap text.decimal (sym same)
  by false e further =
      let other : digit ≡ 48 → length (digit ∷ next ∷ digits) ≡ 1 = λ is. absurd (grind (arith, nat_tests)) in
      sym (plain_digits (digit ∷ next ∷ digits) own other less)

-- digits that spell this number below 2 to the 64 have its key
pub number_key : (digits : Text) (wanted : ℕ) → AreDigits digits → is_at wanted (numbers.small (numbers.decimal digits)) ≡ true → key_of_digits digits ≡ text.decimal wanted
unfolding written.decimal
number_key digits wanted own is = by (nat_lt (numbers.decimal_after 0 digits) 18446744073709551616) refl is where
  by : (t : Bool) → nat_lt (numbers.decimal_after 0 digits) 18446744073709551616 ≡ t → is_at wanted (if t then Some (numbers.decimal_after 0 digits) else None) ≡ true → key_of_digits digits ≡ text.decimal wanted
  by true less e =
      let small : numbers.decimal_after 0 digits < 2 ^ 64 = grind (arith, nat_tests) in
      let same : numbers.decimal_after 0 digits ≡ wanted = grind (arith, nat_tests) in
      key_is digits own small ∙ ap text.decimal same
  by false less e = absurd cc
