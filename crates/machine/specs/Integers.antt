-- What integer instructions give.
use Rattle.std.specs.Prelude.{ℕ, ◌+◌, ◌-◌, ◌*◌, ◌/◌, ◌%◌, ◌^◌, ◌==◌, Bool, true, false, not, ◌&&◌, nat_lt, nat_le, bit_and, bit_or, bit_xor, if◌then◌else◌}
use Rattle.ir_ast.specs.declared.numbers.Arithmetic.{Arithmetic}
use Rattle.ir_ast.specs.declared.numbers.Arithmetic.TheVariants.{Add, Sub, Mul, And, Or, Xor, ShiftLeft, ShiftRight, ShiftRightSigned, Divide, DivideSigned, Remainder, RemainderSigned}
use Rattle.ir_ast.specs.declared.numbers.Resize.{Resize}
use Rattle.ir_ast.specs.declared.numbers.Resize.TheVariants.{ZeroExtend, SignExtend, Truncate}
use Rattle.ir_ast.specs.declared.numbers.Comparison.{Comparison}
use Rattle.ir_ast.specs.declared.numbers.Comparison.TheVariants as compare
use Rattle.machine.specs.Kinds.{modulus, wrapped}

-- the sign bit of an integer of `bits` bits is set
abbrev pub is_negative : (bits n : ℕ) → Bool
is_negative bits n = nat_le (modulus bits) (2 * n)

-- how far an integer is from zero, read with its sign
abbrev pub magnitude : (bits n : ℕ) → ℕ
magnitude bits n = if is_negative bits n then modulus bits - n else n

-- a number with this sign, modulo the number of values
abbrev pub with_sign : (bits : ℕ) → (negative : Bool) → (n : ℕ) → ℕ
with_sign bits negative n = if negative then modulus bits - n else n

-- a shift by `by` bits is less than the width
abbrev pub may_shift : (bits by : ℕ) → Bool
may_shift bits by = nat_lt by bits && nat_lt by 64

-- an integer shifted down, with its sign in the place of what is gone
abbrev pub signed_shift : (bits n by : ℕ) → ℕ
signed_shift bits n by = if is_negative bits n then (modulus bits - 1) - ((modulus bits - 1) - n) / 2 ^ by else n / 2 ^ by

-- one of them holds, and the other one does not
abbrev pub differ : Bool → Bool → Bool
differ true b = not b
differ false b = b

-- how many times the second number is in the first one; 0 where the second one is 0
abbrev pub quotient : (a b : ℕ) → ℕ
quotient a b = if b == 0 then 0 else a / b

-- what is left of the first number then; 0 where the second one is 0
abbrev pub rest : (a b : ℕ) → ℕ
rest a b = if b == 0 then 0 else a % b

-- the sum, the product and so on of two integers of `bits` bits
abbrev pub computed : Arithmetic → (bits first second : ℕ) → ℕ
computed Add bits a b = wrapped bits (a + b)
computed Sub bits a b = wrapped bits ((a + modulus bits) - wrapped bits b)
computed Mul bits a b = wrapped bits (a * b)
computed And bits a b = wrapped bits (bit_and a b)
computed Or bits a b = wrapped bits (bit_or a b)
computed Xor bits a b = wrapped bits (bit_xor a b)
computed ShiftLeft bits a b = wrapped bits (if may_shift bits b then a * 2 ^ b else 0)
computed ShiftRight bits a b = wrapped bits (if may_shift bits b then a / 2 ^ b else 0)
computed ShiftRightSigned bits a b = wrapped bits (if may_shift bits b then signed_shift bits a b else 0)
computed Divide bits a b = wrapped bits (quotient a b)
computed DivideSigned bits a b = wrapped bits (with_sign bits (differ (is_negative bits a) (is_negative bits b)) (quotient (magnitude bits a) (magnitude bits b)))
computed Remainder bits a b = wrapped bits (rest a b)
computed RemainderSigned bits a b = wrapped bits (with_sign bits (is_negative bits a) (rest (magnitude bits a) (magnitude bits b)))

-- an integer of `bits` bits, read with its sign, as one of more bits
abbrev pub sign_extended : (bits to n : ℕ) → ℕ
sign_extended bits to n = if is_negative bits n then (n + modulus to) - modulus bits else n

-- a change of the width
abbrev pub resized : Resize → (bits to n : ℕ) → ℕ
resized ZeroExtend bits to n = wrapped to n
resized SignExtend bits to n = wrapped to (sign_extended bits to n)
resized Truncate bits to n = wrapped to n

-- whether the width may change so
abbrev pub may_resize : Resize → (bits to : ℕ) → Bool
may_resize ZeroExtend bits to = nat_lt bits to
may_resize SignExtend bits to = nat_lt bits to
may_resize Truncate bits to = nat_lt to bits

-- a number that orders as the integer does that is read with its sign
abbrev pub signed_rank : (bits n : ℕ) → ℕ
signed_rank bits n = if is_negative bits n then n else n + modulus bits

-- a comparison of two integers of `bits` bits
abbrev pub compares : Comparison → (bits first second : ℕ) → Bool
compares compare.Equal bits a b = a == b
compares compare.NotEqual bits a b = not (a == b)
compares compare.UnsignedGreater bits a b = nat_lt b a
compares compare.UnsignedGreaterOrEqual bits a b = nat_le b a
compares compare.UnsignedLess bits a b = nat_lt a b
compares compare.UnsignedLessOrEqual bits a b = nat_le a b
compares compare.SignedGreater bits a b = nat_lt (signed_rank bits b) (signed_rank bits a)
compares compare.SignedGreaterOrEqual bits a b = nat_le (signed_rank bits b) (signed_rank bits a)
compares compare.SignedLess bits a b = nat_lt (signed_rank bits a) (signed_rank bits b)
compares compare.SignedLessOrEqual bits a b = nat_le (signed_rank bits a) (signed_rank bits b)

-- a comparison asks only whether its operands are equal
abbrev pub is_equality : Comparison → Bool
is_equality compare.Equal = true
is_equality compare.NotEqual = true
is_equality _ = false

-- a comparison of two references, by whether they are equal
abbrev pub compares_equal : Comparison → (equal : Bool) → Bool
compares_equal compare.NotEqual equal = not equal
compares_equal _ equal = equal

-- a truth as an i1
abbrev pub truth : Bool → ℕ
truth b = if b then 1 else 0
