-- Worked examples of floating point numbers as they are written.
use Rattle.std.specs.Prelude.{◌≡◌, true, false, codes, Some, None, refl}
use Rattle.ir_tokens.specs.Bytes.{class_of, is_name, digit}
use Rattle.ir_ast.specs.Floats.{is_float, narrowed}
use Rattle.ir_forms.specs.FloatNumbers.{run_of, is_decimal, is_hexadecimal, float_bits}

-- A number ends where a byte comes that no name has, other than a plus.
runs : (run_of (codes "1.25e+00, double") ≡ codes "1.25e+00") × (run_of (codes "-5.0e-01)") ≡ codes "-5.0e-01") × (run_of (codes "0x3FF4000000000000 ") ≡ codes "0x3FF4000000000000")
unfolding is_name class_of
runs = (refl, refl, refl)

-- A decimal has a point, with digits before it.
decimals : (is_decimal (codes "1.25e+00") ≡ true) × (is_decimal (codes "-5.0e-01") ≡ true) × (is_decimal (codes "0.") ≡ true) × (is_decimal (codes "10.5E7") ≡ true)
decimals = (refl, refl, refl, refl)

no_decimals : (is_decimal (codes "5") ≡ false) × (is_decimal (codes "-5") ≡ false) × (is_decimal (codes ".5") ≡ false) × (is_decimal (codes "1e5") ≡ false) × (is_decimal (codes "1.0e") ≡ false)
    × (is_decimal (codes "1.0e+") ≡ false) × (is_decimal (codes "+1.0") ≡ false) × (is_decimal (codes "1.0f") ≡ false)
no_decimals = (refl, refl, refl, refl, refl, refl, refl, refl)

hexadecimals : (is_hexadecimal (codes "0x3FF4000000000000") ≡ true) × (is_hexadecimal (codes "0x3ff4") ≡ true) × (is_hexadecimal (codes "0x") ≡ false) × (is_hexadecimal (codes "0xK400") ≡ false)
unfolding digit
hexadecimals = (refl, refl, refl, refl)

-- 1.25, and a number of more than 64 bits
bits : (float_bits (codes "0x3FF4000000000000") ≡ Some 4608308318706860032) × (float_bits (codes "0x10000000000000000") ≡ None)
unfolding float_bits digit
bits = (refl, refl)

-- 32 bits hold 1.25, the least of their numbers above zero and the greatest one, and do not hold what is nearest to 0.1.
held : (is_float 4608308318706860032 ≡ true) × (is_float 3936146074321813504 ≡ true) × (is_float 5183643170566569984 ≡ true) × (is_float 4591870180066957722 ≡ false)
held = (refl, refl, refl, refl)

words : (narrowed 4608308318706860032 ≡ 1067450368) × (narrowed 3936146074321813504 ≡ 1) × (narrowed 5183643170566569984 ≡ 2139095039) × (narrowed 13826050856027422720 ≡ 3204448256)
words = (refl, refl, refl, refl)
