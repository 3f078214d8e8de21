-- How names are printed.
use Rattle.std.specs.Prelude.{ℕ, ◌+◌, ◌/◌, ◌%◌, ◌==◌, nat_le, nat_lt, Bool, false, not, ◌&&◌, ◌||◌, if◌then◌else◌, List, [], ◌∷◌, ◌++◌, slice_get}
use Rattle.std.specs.List.{list_all, flat_map}
use Rattle.ir_ast.specs.KeyNames.{is_number_key, name_of_key}
use Rattle.ir_ast.specs.Names.{name_at}
use Rattle.ir_ast.specs.StructNames.{struct_name}
use Rattle.ir_ast.specs.declared.module.Module.{Module}
use Rattle.ir_tokens.specs.Bytes.{Text, is_letter, is_digit}
use Rattle.name_text.specs.declared.blank.Blank.{Blank}
use Rattle.name_text.specs.declared.blank.Blank.TheVariants as blank
use Rattle.name_text.specs.declared.quoted.QuotedByte.{QuotedByte}
use Rattle.name_text.specs.declared.quoted.QuotedByte.TheVariants as quoted

-- whether a letter is at the front
abbrev pub begins_plain : Text → Bool
begins_plain [] = false
begins_plain (first ∷ rest) = is_letter first

-- a plain name: letters and digits, of which the first is a letter
abbrev pub is_plain : Text → Bool
is_plain name = begins_plain name && list_all (λ byte. is_letter byte || is_digit byte) name

-- the lowest byte that may be printed as it is: the blank, or the one after it
abbrev pub first_shown : Blank → ℕ
first_shown blank.Kept = 32
first_shown blank.Escaped = 33

-- up to ~, except the quote and the backslash
abbrev pub is_shown : Blank → ℕ → Bool
is_shown blank byte = nat_le (first_shown blank) byte && nat_le byte 126 && not (byte == 34) && not (byte == 92)

-- a hexadecimal digit
abbrev pub hexadecimal : ℕ → ℕ
hexadecimal digit = if nat_lt digit 10 then 48 + digit else 55 + digit

-- a byte between quotes
abbrev pub quoted_byte : Blank → ℕ → Text
quoted_byte blank byte = if is_shown blank byte then byte ∷ [] else 92 ∷ hexadecimal (byte / 16) ∷ hexadecimal (byte % 16) ∷ []

-- the bytes that are given for a byte between quotes
abbrev pub bytes_of : QuotedByte → Text
bytes_of (quoted.Shown bytes) = bytes
bytes_of (quoted.Escaped bytes) = bytes

-- a text in quotes
abbrev pub quoted_text : Blank → Text → Text
quoted_text blank name = 34 ∷ (flat_map (quoted_byte blank) name ++ 34 ∷ [])

-- a name, in quotes where it is not plain
abbrev pub name_text : Blank → Text → Text
name_text blank name = if is_plain name then name else quoted_text blank name

-- what has this key: the number of a value or a block without a name as it is, and otherwise the name
abbrev pub key_text : Blank → Text → Text
key_text blank key = if is_number_key key then key else name_text blank (name_of_key key)

-- a local name with its sign
abbrev pub local_text : Blank → (locals : List Text) → (value : ℕ) → Text
local_text blank locals value = 37 ∷ key_text blank (name_at locals value)

-- a global name with its sign
abbrev pub global_text : Blank → Module → (symbol : ℕ) → Text
global_text blank m symbol = 64 ∷ name_text blank (name_at m.symbols symbol)

-- the name of a layout's type, without its sign
abbrev pub layout_text : Blank → Module → (layout : ℕ) → Text
layout_text blank m layout = name_text blank (struct_name m (slice_get m.structs layout))
