-- The names that tokens spell.
use Rattle.std.specs.Prelude.{ℕ, zero, suc, ◌-◌, Bool, false, ◌||◌, ◌&&◌, if◌then◌else◌, ◌==◌, [], ◌∷◌, length, take, drop}
use Rattle.std.specs.List.{list_any}
use Rattle.ir_tokens.specs.declared.token.Kind.{Kind}
use Rattle.ir_tokens.specs.declared.token.Kind.TheVariants as k
use Rattle.ir_tokens.specs.declared.token.Token.{Token}
use Rattle.ir_tokens.specs.Bytes.{Text, next}
use Rattle.ir_tokens.specs.Form.{on_next}

-- the bytes that spell a token
abbrev pub spelling : Text → Token → Text
spelling bytes t = take t.length (drop t.start bytes)

-- a spelling without the sign before a name and without the `:` of a label
abbrev pub bare : Kind → Text → Text
bare k.LocalName s = drop 1 s
bare k.LocalNumber s = drop 1 s
bare k.GlobalName s = drop 1 s
bare k.AttributeGroup s = drop 1 s
bare k.MetadataName s = drop 1 s
bare k.MetadataNumber s = drop 1 s
bare k.LabelName s = take (length s - 1) s
bare k.LabelNumber s = take (length s - 1) s
bare _ s = s

-- a text that begins with a quote
abbrev pub begins_quote : Text → Bool
begins_quote [] = false
begins_quote (b ∷ bs) = b == 34

-- what is between the first byte and the last
abbrev pub inside : Text → Text
inside s = take (length s - 2) (drop 1 s)

-- the bytes that quoted text spells, at most n
unfoldable pub unescaped_from : ℕ → Text → Text
unescaped_from zero s = []
unescaped_from (suc n) s = on_next (next s) [] (λ b rest. b ∷ unescaped_from n rest)

-- the bytes that quoted text spells, up to the quote that ends it
abbrev pub unescaped : Text → Text
unescaped s = unescaped_from (length s) s

-- what a name, a label, a number, a word or quoted text spells, without its sign, its quotes and its escapes
abbrev pub unquoted : Text → Text
unquoted s = if begins_quote s then unescaped (inside s) else s

-- the name that a token spells
abbrev pub name_of : Text → Token → Text
name_of bytes t = unquoted (bare t.kind (spelling bytes t))

-- whether something in quotes has to be read byte by byte
abbrev pub is_special : ℕ → Bool
is_special b = b == 92 || b == 34

-- a quoted text with an escape in it
abbrev pub has_escape : Text → Bool
has_escape s = begins_quote s && list_any is_special (inside s)
