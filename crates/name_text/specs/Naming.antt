-- What a word names after its sign.
use Rattle.std.specs.Prelude.{ℕ, ◌^◌, nat_le, ◌==◌, if◌then◌else◌, List, [], ◌∷◌, Option, Some, None, length}
use Rattle.ir_ast.specs.LocalKeys.{key_of_name, key_of_digits}
use Rattle.ir_tokens.specs.Bytes.{Text}
use Rattle.ir_tokens.specs.Names.{name_of}
use Rattle.ir_tokens.specs.Tokens.{lexed_of}
use Rattle.ir_tokens.specs.declared.token.Token.{Token}
use Rattle.ir_tokens.specs.declared.token.Kind.{Kind}
use Rattle.ir_tokens.specs.declared.token.Kind.TheVariants as k
use Rattle.name_text.specs.declared.naming.Sigil.{Sigil}
use Rattle.name_text.specs.declared.naming.Sigil.TheVariants as sigil

-- What a name of the IR with this sign is looked up by: a local name by its key, and so is the number of a value or a block
-- that has no name.
abbrev pub name_by : Sigil → Kind → Text → Option Text
name_by sigil.Global k.GlobalName name = Some name
name_by sigil.Local k.LocalName name = Some (key_of_name name)
name_by sigil.Local k.LocalNumber digits = Some (key_of_digits digits)
name_by sigil.Layout k.LocalName name = Some name
name_by sign kind name = None

-- the name where the IR reads the word as one token
abbrev pub name_from : Sigil → Text → (bad : Option ℕ) → (tokens : List Token) → Option Text
name_from sign word (Some place) tokens = None
name_from sign word None (token ∷ []) = if token.length == length word then name_by sign token.kind (name_of word token) else None
name_from sign word None _ = None

-- no text of the IR, and so no name, is longer than 2 to the 24 bytes
abbrev pub name_in : Sigil → Text → Option Text
name_in sign word = if nat_le (length word) (2 ^ 24) then name_from sign word (lexed_of word).bad (lexed_of word).tokens else None
