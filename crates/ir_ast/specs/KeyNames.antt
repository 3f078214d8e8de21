-- From the keys of local names back to the names.
use Rattle.std.specs.Prelude.{ℕ, Bool, false, ◌&&◌, ◌==◌, nat_le, if◌then◌else◌, List, [], ◌∷◌}

-- the key is one of a value or a block without a name
abbrev pub is_number_key : List ℕ → Bool
is_number_key [] = false
is_number_key (byte ∷ bytes) = nat_le 48 byte && nat_le byte 57

-- the name that has this key
abbrev pub name_of_key : List ℕ → List ℕ
name_of_key [] = []
name_of_key (byte ∷ bytes) = if byte == 34 then bytes else byte ∷ bytes
