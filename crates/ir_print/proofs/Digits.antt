-- The digits of a number.
use Rattle.std.proofs.Common.{◌≡◌, ℕ, zero, suc, ◌≤◌, ◌-◌, ◌/◌, ◌%◌, [], ◌∷◌, ◌++◌, refl, arith}
use Rattle.name_text.specs.Names.{hexadecimal}
use Rattle.ir_print.specs.Hexadecimal.{digits_text}

-- some digits are all but the last of them, and the last
pub one_digit : (many number : ℕ) → 1 ≤ many → digits_text (many - 1) (number / 16) ++ hexadecimal (number % 16) ∷ [] ≡ digits_text many number
unfolding digits_text
one_digit zero number some = absurd (omega (arith, some))
one_digit (suc many) number some =
    let less : suc many - 1 ≡ many = omega arith in
    rw less refl
