-- The lines of a text.
use Rattle.std.specs.Prelude.{◌≡◌, ◌<◌, ◌≤◌, Bool, true, false, not, cond, ◌||◌, ◌&&◌, ◌==◌, if◌then◌else◌, [], ◌∷◌, length}
use Rattle.std.proofs.Common.{arith}
use Rattle.ir_tokens.specs.Bytes.{Text}
use Rattle.name_text.specs.Numbers.{is_nil}
use Rattle.name_text.specs.Words.{past_blanks, ends_line}

-- whether a line ends here, or the text
abbrev pub line_ends : Text → Bool
line_ends bytes = is_nil bytes || ends_line bytes

-- whether `.` stands at the front, and the line ends after it
abbrev pub dot_first : Text → Bool
dot_first [] = false
dot_first (byte ∷ bytes) = byte == 46 && line_ends (past_blanks bytes)

-- whether `.` stands alone on the line that begins here
abbrev pub is_dot : Text → Bool
is_dot bytes = dot_first (past_blanks bytes)

-- what follows the line that begins here, or that ends here
abbrev pub past_line : Text → Text
past_line [] = []
past_line (byte ∷ bytes) = if byte == 10 then bytes else past_line bytes

-- ---- what is left never grows, and after a line that has bytes it is shorter

-- a bound of both texts bounds the one that is chosen
one_of : (t : Bool) (x y bytes : Text) → length x ≤ length bytes → length y ≤ length bytes → length (cond t x y) ≤ length bytes
one_of true x y bytes h k = h
one_of false x y bytes h k = k

pub past_line_falls : (bytes : Text) → length (past_line bytes) ≤ length bytes
past_line_falls [] = omega arith
past_line_falls (byte ∷ bytes) =
    let rest = past_line_falls bytes in
    one_of (byte == 10) bytes (past_line bytes) (byte ∷ bytes) (omega arith) (omega (arith, rest))

pub past_line_takes : (bytes : Text) → not (is_nil bytes) ≡ true → length (past_line bytes) < length bytes
past_line_takes [] e = absurd cc
past_line_takes (byte ∷ bytes) e =
    let rest = past_line_falls bytes in
    let less = one_of (byte == 10) bytes (past_line bytes) bytes (omega arith) rest in
    omega (arith, less)
