-- LLVM's functions of floating point numbers: their names, and what they take.
use Rattle.std.specs.Prelude.{ℕ, ◌==◌, ◌&&◌, List, [], ◌∷◌, length, drop, Option, Some, None, if◌then◌else◌, codes}
use Rattle.ir_ast.specs.IntegerFunctions.{begins}
use Rattle.ir_ast.specs.declared.float_function.FloatFunction.{FloatFunction}
use Rattle.ir_ast.specs.declared.float_function.FloatFunction.TheVariants.{Absolute, SquareRoot, Floor, Ceiling, Truncated, Rounded, NearbyInteger, RoundedAway, Sine, Cosine, Exponential, Logarithm, CopySign, Minimum, Maximum, Power, MultiplyAdd, MultiplyAddLoosely}
use Rattle.ir_ast.specs.declared.float_function.FloatsTaken.{FloatsTaken}
use Rattle.ir_ast.specs.declared.float_function.FloatsTaken.TheVariants.{One, Two, Three}
use Rattle.ir_ast.specs.declared.runtime.Runtime.{Runtime}
use Rattle.ir_ast.specs.declared.runtime.Runtime.TheVariants.{Float}

-- what the name of a function of floating point numbers begins with; the digits of the width follow
abbrev pub word_of : FloatFunction → List ℕ
word_of Absolute = codes "llvm.fabs.f"
word_of SquareRoot = codes "llvm.sqrt.f"
word_of Floor = codes "llvm.floor.f"
word_of Ceiling = codes "llvm.ceil.f"
word_of Truncated = codes "llvm.trunc.f"
word_of Rounded = codes "llvm.rint.f"
word_of NearbyInteger = codes "llvm.nearbyint.f"
word_of RoundedAway = codes "llvm.round.f"
word_of Sine = codes "llvm.sin.f"
word_of Cosine = codes "llvm.cos.f"
word_of Exponential = codes "llvm.exp.f"
word_of Logarithm = codes "llvm.log.f"
word_of CopySign = codes "llvm.copysign.f"
word_of Minimum = codes "llvm.minnum.f"
word_of Maximum = codes "llvm.maxnum.f"
word_of Power = codes "llvm.pow.f"
word_of MultiplyAdd = codes "llvm.fma.f"
word_of MultiplyAddLoosely = codes "llvm.fmuladd.f"

-- the function of two numbers or three whose word a name begins with
abbrev pub larger_begun : List ℕ → Option FloatFunction
larger_begun name =
    if begins (word_of CopySign) name then Some CopySign
    else (if begins (word_of Minimum) name then Some Minimum
    else (if begins (word_of Maximum) name then Some Maximum
    else (if begins (word_of Power) name then Some Power
    else (if begins (word_of MultiplyAdd) name then Some MultiplyAdd
    else (if begins (word_of MultiplyAddLoosely) name then Some MultiplyAddLoosely
    else None)))))

-- the function that rounds whose word a name begins with, or one of those
abbrev pub rounding_begun : List ℕ → Option FloatFunction
rounding_begun name =
    if begins (word_of Floor) name then Some Floor
    else (if begins (word_of Ceiling) name then Some Ceiling
    else (if begins (word_of Truncated) name then Some Truncated
    else (if begins (word_of Rounded) name then Some Rounded
    else (if begins (word_of NearbyInteger) name then Some NearbyInteger
    else (if begins (word_of RoundedAway) name then Some RoundedAway
    else larger_begun name)))))

-- the function of floating point numbers whose word a name begins with
abbrev pub function_begun : List ℕ → Option FloatFunction
function_begun name =
    if begins (word_of Absolute) name then Some Absolute
    else (if begins (word_of SquareRoot) name then Some SquareRoot
    else (if begins (word_of Sine) name then Some Sine
    else (if begins (word_of Cosine) name then Some Cosine
    else (if begins (word_of Exponential) name then Some Exponential
    else (if begins (word_of Logarithm) name then Some Logarithm
    else rounding_begun name)))))

-- a width, in two digits: 32 or 64
abbrev pub width_of : List ℕ → Option ℕ
width_of (tens ∷ ones ∷ []) = if tens == 51 && ones == 50 then Some 32 else (if tens == 54 && ones == 52 then Some 64 else None)
width_of _ = None

-- a function of floating point numbers of this width, if there is one
abbrev pub with_width : FloatFunction → Option ℕ → Option Runtime
with_width function None = None
with_width function (Some bits) = Some (Float function bits)

-- a function of floating point numbers with these digits
abbrev pub with_digits : (name : List ℕ) → Option FloatFunction → Option Runtime
with_digits name None = None
with_digits name (Some function) = with_width function (width_of (drop (length (word_of function)) name))

-- the function of floating point numbers that has this name
abbrev pub floats_named : List ℕ → Option Runtime
floats_named name = with_digits name (function_begun name)

-- what a function of floating point numbers takes
abbrev pub taken_by : FloatFunction → FloatsTaken
taken_by Absolute = One
taken_by SquareRoot = One
taken_by Floor = One
taken_by Ceiling = One
taken_by Truncated = One
taken_by Rounded = One
taken_by NearbyInteger = One
taken_by RoundedAway = One
taken_by Sine = One
taken_by Cosine = One
taken_by Exponential = One
taken_by Logarithm = One
taken_by CopySign = Two
taken_by Minimum = Two
taken_by Maximum = Two
taken_by Power = Two
taken_by MultiplyAdd = Three
taken_by MultiplyAddLoosely = Three

-- the widths of what a function of floating point numbers of `bits` bits takes
abbrev pub widths : FloatsTaken → (bits : ℕ) → List ℕ
widths One bits = bits ∷ []
widths Two bits = bits ∷ bits ∷ []
widths Three bits = bits ∷ bits ∷ bits ∷ []
