-- Where reading is in a text.
use Rattle.std.specs.Prelude.{◌≡◌, ℕ, ◌<◌, ◌≤◌, Bool, true, false, [], ◌++◌, length}
use Rattle.std.specs.List.{list_all}
use Rattle.ir_tokens.specs.declared.class.ByteClass.{ByteClass}
use Rattle.ir_tokens.specs.declared.class.ByteClass.TheVariants as class
use Rattle.ir_tokens.specs.declared.token.Kind.TheVariants as k
use Rattle.ir_tokens.specs.Bytes.{Text, is_digit, first_class}
use Rattle.ir_tokens.specs.Tokens.{is_blank, lex_from}
use Rattle.ir_forms.specs.Place.{Place}

-- The place is before these bytes: they are what is left of its text, and the tokens that it has left are those that these bytes are
-- read as.
abbrev pub Stands : Place → Text → Type 0
Stands c bytes =
    (front : Text) × (most : ℕ) × (first : Bool) × (c.text ≡ front ++ bytes) × (length bytes ≤ most)
    × (c.rest ≡ (lex_from most (length c.text) first [] bytes).tokens) × (c.bad ≡ (lex_from most (length c.text) first [] bytes).bad)

-- a byte of this class ends a name, a word and a number, and makes no label of them; a plus may belong to a number
abbrev pub ends_token : ByteClass → Bool
ends_token class.Letter = false
ends_token class.Digit = false
ends_token class.Colon = false
ends_token (class.Sign k.Plus) = false
ends_token _ = true

-- a name, a word or a number ends before these bytes
abbrev pub IsSeam : Text → Type 0
IsSeam rest = ends_token (first_class rest) ≡ true

-- blanks and ends of lines
abbrev pub AreBlanks : Text → Type 0
AreBlanks gap = list_all is_blank gap ≡ true

-- decimal digits, one at least
abbrev pub AreDigits : Text → Type 0
AreDigits digits = (0 < length digits) × (list_all is_digit digits ≡ true)
