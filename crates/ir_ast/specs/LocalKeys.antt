-- The keys of local names, by which the names of a function are told apart.
use Rattle.std.specs.Prelude.{ℕ, Bool, false, ◌||◌, ◌&&◌, ◌==◌, nat_le, if◌then◌else◌, List, [], ◌∷◌}

-- A value or a block without a name has the digits of its number as its key. So a name that begins with a digit has a
-- mark before it, a quote, and so has one that begins with a quote.
abbrev pub needs_mark : List ℕ → Bool
needs_mark [] = false
needs_mark (byte ∷ bytes) = (nat_le 48 byte && nat_le byte 57) || byte == 34

-- the key of a name
abbrev pub key_of_name : List ℕ → List ℕ
key_of_name name = if needs_mark name then 34 ∷ name else name

-- the key of a number as it is written: its digits without zeros before them
abbrev pub key_of_digits : List ℕ → List ℕ
key_of_digits [] = []
key_of_digits (digit ∷ []) = digit ∷ []
key_of_digits (digit ∷ next ∷ digits) = if digit == 48 then key_of_digits (next ∷ digits) else digit ∷ next ∷ digits
