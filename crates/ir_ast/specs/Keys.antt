-- A name is found again in its key, and no name has the key of a number.
use Rattle.std.proofs.Common.{◌≡◌, ℕ, Bool, true, false, List, [], ◌∷◌, refl}
use Rattle.std.specs.Prelude.{◌==◌, ◌&&◌, nat_le}
use Rattle.ir_ast.specs.LocalKeys.{key_of_name}
use Rattle.ir_ast.specs.KeyNames.{is_number_key, name_of_key}

-- by whether the first byte is a digit, and whether it is a quote
again_by : (digit quote : Bool) (byte : ℕ) (bytes : List ℕ) → (nat_le 48 byte && nat_le byte 57) ≡ digit → (byte == 34) ≡ quote
    → name_of_key (key_of_name (byte ∷ bytes)) ≡ byte ∷ bytes
again_by true quote byte bytes d q = rw d refl
again_by false true byte bytes d q = rw (d, q) refl
again_by false false byte bytes d q = rw (d, q) (rw q refl)

pub name_again : (name : List ℕ) → name_of_key (key_of_name name) ≡ name
name_again [] = refl
name_again (byte ∷ bytes) = again_by (nat_le 48 byte && nat_le byte 57) (byte == 34) byte bytes refl refl

no_number_by : (digit quote : Bool) (byte : ℕ) (bytes : List ℕ) → (nat_le 48 byte && nat_le byte 57) ≡ digit → (byte == 34) ≡ quote
    → is_number_key (key_of_name (byte ∷ bytes)) ≡ false
no_number_by true quote byte bytes d q = rw d refl
no_number_by false true byte bytes d q = rw (d, q) refl
no_number_by false false byte bytes d q = rw (d, q) d

pub no_number : (name : List ℕ) → is_number_key (key_of_name name) ≡ false
no_number [] = refl
no_number (byte ∷ bytes) = no_number_by (nat_le 48 byte && nat_le byte 57) (byte == 34) byte bytes refl refl
