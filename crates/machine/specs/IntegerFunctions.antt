-- What LLVM's functions of integers give.
use Rattle.std.specs.Prelude.{ℕ, zero, suc, ◌+◌, ◌-◌, ◌*◌, ◌/◌, ◌%◌, ◌^◌, ◌==◌, nat_lt, if◌then◌else◌}
use Rattle.ir_ast.specs.declared.integer_function.IntegerFunction.{IntegerFunction}
use Rattle.ir_ast.specs.declared.integer_function.IntegerFunction.TheVariants.{MaximumSigned, MinimumSigned, Maximum, Minimum, Absolute, CountOnes, CountLeadingZeros, CountTrailingZeros, SwapBytes, ReverseBits, FunnelLeft, FunnelRight}
use Rattle.ir_ast.specs.declared.numbers.Arithmetic.TheVariants.{Add, ShiftLeft, ShiftRight}
use Rattle.ir_ast.specs.declared.numbers.Comparison.{Comparison}
use Rattle.ir_ast.specs.declared.numbers.Comparison.TheVariants.{UnsignedGreater, UnsignedLess, SignedGreater, SignedLess}
use Rattle.machine.specs.Integers.{compares, computed, magnitude, rest}
use Rattle.machine.specs.Kinds.{wrapped}

-- the first of two integers if they compare so, or else the second one
abbrev pub first_if : Comparison → (bits a b : ℕ) → ℕ
first_if comparison bits a b = if compares comparison bits a b then a else b

-- how many of the lowest `bits` bits of a number are set
abbrev pub ones : (bits n : ℕ) → ℕ
ones zero n = 0
ones (suc bits) n = n % 2 + ones bits (n / 2)

-- how many of `bits` bits lie above the highest one that is set of a number that they hold
abbrev pub zeros_above : (bits n : ℕ) → ℕ
zeros_above zero n = 0
zeros_above (suc bits) n = if n == 0 then suc bits else zeros_above bits (n / 2)

-- and below the lowest one that is set
abbrev pub zeros_below : (bits n : ℕ) → ℕ
zeros_below zero n = 0
zeros_below (suc bits) n = if n % 2 == 0 then suc (zeros_below bits (n / 2)) else 0

-- the lowest digits of a number, to this base, in the other order
abbrev pub reversed : (base digits n : ℕ) → ℕ
reversed base zero n = 0
reversed base (suc digits) n = (n % base) * base ^ digits + reversed base digits (n / base)

-- the first of two integers of `bits` bits above the second, as one of twice the width, shifted up by less than `bits`: the upper half
abbrev pub shifted_up : (bits a b by : ℕ) → ℕ
shifted_up bits a b by = computed Add bits (computed ShiftLeft bits a by) (computed ShiftRight bits b (bits - by))

-- the same shifted down: the lower half
abbrev pub shifted_down : (bits a b by : ℕ) → ℕ
shifted_down bits a b by = computed Add bits (computed ShiftLeft bits a (bits - by)) (computed ShiftRight bits b by)

-- what a function of integers of `bits` bits gives of what it takes; what it does not take is not looked at
abbrev pub given_by : IntegerFunction → (bits a b c : ℕ) → ℕ
given_by MaximumSigned bits a b c = first_if SignedGreater bits a b
given_by MinimumSigned bits a b c = first_if SignedLess bits a b
given_by Maximum bits a b c = first_if UnsignedGreater bits a b
given_by Minimum bits a b c = first_if UnsignedLess bits a b
given_by Absolute bits a b c = magnitude bits a
given_by CountOnes bits a b c = ones bits a
given_by CountLeadingZeros bits a b c = zeros_above bits a
given_by CountTrailingZeros bits a b c = zeros_below bits a
given_by SwapBytes bits a b c = reversed 256 (bits / 8) a
given_by ReverseBits bits a b c = reversed 2 bits a
given_by FunnelLeft bits a b c = shifted_up bits a b (rest c bits)
given_by FunnelRight bits a b c = shifted_down bits a b (rest c bits)

-- no integer has more than 64 bits
abbrev pub width_at : (bits : ℕ) → ℕ
width_at bits = if nat_lt bits 64 then bits else 64

-- what a function gives, as an integer of `bits` bits
abbrev pub function_value : IntegerFunction → (bits a b c : ℕ) → ℕ
function_value function bits a b c = wrapped bits (given_by function (width_at bits) a b c)
