-- LLVM's functions of integers: their names, and what they take.
use Rattle.std.specs.Prelude.{ℕ, ◌+◌, ◌-◌, ◌*◌, ◌%◌, ◌==◌, Bool, true, ◌&&◌, nat_le, if◌then◌else◌, List, [], ◌∷◌, length, take, drop, Option, Some, None, codes}
use Rattle.std.specs.Str.{bytes_eq}
use Rattle.ir_ast.specs.declared.integer_function.IntegerFunction.{IntegerFunction}
use Rattle.ir_ast.specs.declared.integer_function.IntegerFunction.TheVariants.{MaximumSigned, MinimumSigned, Maximum, Minimum, Absolute, CountOnes, CountLeadingZeros, CountTrailingZeros, SwapBytes, ReverseBits, FunnelLeft, FunnelRight}
use Rattle.ir_ast.specs.declared.integer_function.IntegersTaken.{IntegersTaken}
use Rattle.ir_ast.specs.declared.integer_function.IntegersTaken.TheVariants.{One, Flagged, Two, Three}
use Rattle.ir_ast.specs.declared.runtime.Runtime.{Runtime}
use Rattle.ir_ast.specs.declared.runtime.Runtime.TheVariants.{Integer}

-- what the name of a function of integers begins with; the digits of the width follow
abbrev pub word_of : IntegerFunction → List ℕ
word_of MaximumSigned = codes "llvm.smax.i"
word_of MinimumSigned = codes "llvm.smin.i"
word_of Maximum = codes "llvm.umax.i"
word_of Minimum = codes "llvm.umin.i"
word_of Absolute = codes "llvm.abs.i"
word_of CountOnes = codes "llvm.ctpop.i"
word_of CountLeadingZeros = codes "llvm.ctlz.i"
word_of CountTrailingZeros = codes "llvm.cttz.i"
word_of SwapBytes = codes "llvm.bswap.i"
word_of ReverseBits = codes "llvm.bitreverse.i"
word_of FunnelLeft = codes "llvm.fshl.i"
word_of FunnelRight = codes "llvm.fshr.i"

-- a name begins with this word
abbrev pub begins : (word name : List ℕ) → Bool
begins word name = nat_le (length word) (length name) && bytes_eq (take (length word) name) word

-- the function of integers whose word a name begins with
abbrev pub function_begun : List ℕ → Option IntegerFunction
function_begun name =
    if begins (word_of MaximumSigned) name then Some MaximumSigned
    else (if begins (word_of MinimumSigned) name then Some MinimumSigned
    else (if begins (word_of Maximum) name then Some Maximum
    else (if begins (word_of Minimum) name then Some Minimum
    else (if begins (word_of Absolute) name then Some Absolute
    else (if begins (word_of CountOnes) name then Some CountOnes
    else (if begins (word_of CountLeadingZeros) name then Some CountLeadingZeros
    else (if begins (word_of CountTrailingZeros) name then Some CountTrailingZeros
    else (if begins (word_of SwapBytes) name then Some SwapBytes
    else (if begins (word_of ReverseBits) name then Some ReverseBits
    else (if begins (word_of FunnelLeft) name then Some FunnelLeft
    else (if begins (word_of FunnelRight) name then Some FunnelRight
    else None)))))))))))

-- a width that integers have
abbrev pub up_to_64 : ℕ → Option ℕ
up_to_64 bits = if nat_le bits 64 then Some bits else None

-- a width from 1 to 64, in one or two digits
abbrev pub width_of : List ℕ → Option ℕ
width_of (ones ∷ []) = if nat_le 49 ones && nat_le ones 57 then Some (ones - 48) else None
width_of (tens ∷ ones ∷ []) = if nat_le 49 tens && nat_le tens 54 && nat_le 48 ones && nat_le ones 57 then up_to_64 ((tens - 48) * 10 + (ones - 48)) else None
width_of _ = None

-- there is such a function of integers of `bits` bits: bytes change places in pairs
abbrev pub has_width : IntegerFunction → (bits : ℕ) → Bool
has_width SwapBytes bits = bits % 16 == 0
has_width _ bits = true

-- a function of integers of this width, if there is one
abbrev pub with_width : IntegerFunction → Option ℕ → Option Runtime
with_width function None = None
with_width function (Some bits) = if has_width function bits then Some (Integer function bits) else None

-- a function of integers with these digits
abbrev pub with_digits : (name : List ℕ) → Option IntegerFunction → Option Runtime
with_digits name None = None
with_digits name (Some function) = with_width function (width_of (drop (length (word_of function)) name))

-- the function of integers that has this name
abbrev pub integers_named : List ℕ → Option Runtime
integers_named name = with_digits name (function_begun name)

-- what a function of integers takes
abbrev pub taken_by : IntegerFunction → IntegersTaken
taken_by MaximumSigned = Two
taken_by MinimumSigned = Two
taken_by Maximum = Two
taken_by Minimum = Two
taken_by Absolute = Flagged
taken_by CountOnes = One
taken_by CountLeadingZeros = Flagged
taken_by CountTrailingZeros = Flagged
taken_by SwapBytes = One
taken_by ReverseBits = One
taken_by FunnelLeft = Three
taken_by FunnelRight = Three

-- the widths of these integers: a flag is an i1, and each other one has `bits` bits
abbrev pub widths_taken : IntegersTaken → (bits : ℕ) → List ℕ
widths_taken One bits = bits ∷ []
widths_taken Flagged bits = bits ∷ 1 ∷ []
widths_taken Two bits = bits ∷ bits ∷ []
widths_taken Three bits = bits ∷ bits ∷ bits ∷ []

-- the widths of what a function of integers of `bits` bits takes
abbrev pub widths : IntegerFunction → (bits : ℕ) → List ℕ
widths function bits = widths_taken (taken_by function) bits
