-- Classes of bytes, and the bytes of quoted text.
use Rattle.std.specs.Prelude.{ℕ, ◌+◌, ◌-◌, ◌*◌, Bool, true, false, ◌||◌, ◌&&◌, if◌then◌else◌, ◌==◌, nat_le, List, [], ◌∷◌, Option, Some, None}
use Rattle.ir_tokens.specs.declared.token.Kind.TheVariants as k
use Rattle.ir_tokens.specs.declared.class.ByteClass.{ByteClass}
use Rattle.ir_tokens.specs.declared.class.ByteClass.TheVariants as c

-- a text is a list of bytes
abbrev pub Text : Type 0
Text = List ℕ

-- a byte from `low` to `high`
abbrev pub within : (low high byte : ℕ) → Bool
within low high byte = nat_le low byte && nat_le byte high

-- `0` to `9`
abbrev pub is_digit : ℕ → Bool
is_digit byte = within 48 57 byte

-- a letter, `-`, `$`, `.` or `_`
abbrev pub is_letter : ℕ → Bool
is_letter byte = within 97 122 byte || within 65 90 byte || byte == 45 || byte == 36 || byte == 46 || byte == 95

-- `=`, `,`, `(`, `)`, `[`, `]`, `{`, `}`, `*`, `<`, `>`, `|` and `+` are tokens of one byte
abbrev pub sign_of : ℕ → ByteClass
sign_of byte =
    if byte == 61 then c.Sign k.Equals
    else (if byte == 44 then c.Sign k.Comma
    else (if byte == 40 then c.Sign k.OpenRound
    else (if byte == 41 then c.Sign k.CloseRound
    else (if byte == 91 then c.Sign k.OpenSquare
    else (if byte == 93 then c.Sign k.CloseSquare
    else (if byte == 123 then c.Sign k.OpenBrace
    else (if byte == 125 then c.Sign k.CloseBrace
    else (if byte == 42 then c.Sign k.Star
    else (if byte == 60 then c.Sign k.Less
    else (if byte == 62 then c.Sign k.Greater
    else (if byte == 124 then c.Sign k.Bar
    else (if byte == 43 then c.Sign k.Plus
    else c.Other))))))))))))

-- `"`, `%`, `@`, `#`, `!` and `:` begin or end longer tokens
unfoldable pub class_of : ℕ → ByteClass
class_of byte =
    if is_letter byte then c.Letter
    else (if is_digit byte then c.Digit
    else (if byte == 34 then c.Quote
    else (if byte == 37 then c.Percent
    else (if byte == 64 then c.At
    else (if byte == 35 then c.Hash
    else (if byte == 33 then c.Exclamation
    else (if byte == 58 then c.Colon
    else sign_of byte)))))))

-- the class of the first byte
abbrev pub first_class : Text → ByteClass
first_class [] = c.End
first_class (byte ∷ bytes) = class_of byte

-- letters and digits
abbrev pub is_name_class : ByteClass → Bool
is_name_class c.Letter = true
is_name_class c.Digit = true
is_name_class _ = false

-- whether a plain name goes on with this byte
unfoldable pub is_name : ℕ → Bool
is_name byte = is_name_class (class_of byte)

-- the number of a hexadecimal digit
unfoldable pub digit : ℕ → Option ℕ
digit byte =
    if within 48 57 byte then Some (byte - 48)
    else (if within 97 102 byte then Some (byte - 97 + 10)
    else (if within 65 70 byte then Some (byte - 65 + 10)
    else None))

-- an optional value, mapped by this function
abbrev pub shown : {A B : Type 0} → (A → B) → Option A → Option B
shown f None = None
shown f (Some a) = Some (f a)

-- the byte of two hexadecimal digits, and the bytes after it
abbrev pub pair_of : Text → Option ℕ → Option ℕ → Option (ℕ × Text)
pair_of rest None low = None
pair_of rest (Some high) None = None
pair_of rest (Some high) (Some low) = Some (16 * high + low, rest)

-- the byte that a backslash and the bytes after it spell: another backslash, or two hexadecimal digits
abbrev pub after_backslash : Text → Option (ℕ × Text)
after_backslash [] = None
after_backslash (a ∷ []) = if a == 92 then Some (92, []) else None
after_backslash (a ∷ b ∷ rest) = if a == 92 then Some (92, b ∷ rest) else pair_of rest (digit a) (digit b)

-- the first byte of a quoted text, and the bytes after it
unfoldable pub next : Text → Option (ℕ × Text)
next [] = None
next (byte ∷ bytes) = if byte == 34 then None else (if byte == 92 then after_backslash bytes else Some (byte, bytes))
