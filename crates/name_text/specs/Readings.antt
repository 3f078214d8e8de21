-- What printed names are read as.
use Rattle.std.specs.Prelude.{◌≡◌, ◌<◌, ◌^◌, true, [], ◌∷◌, length, None}
use Rattle.std.specs.List.{AllByRecursion, list_all}
use Rattle.ir_tokens.specs.Bytes.{Text, is_digit}
use Rattle.ir_tokens.specs.Names.{name_of}
use Rattle.ir_tokens.specs.Tokens.{lexed_of}
use Rattle.ir_tokens.specs.declared.token.Kind.{Kind}
use Rattle.ir_tokens.specs.declared.token.Kind.TheVariants as k
use Rattle.ir_tokens.specs.declared.token.Token.{Token}
use Rattle.name_text.specs.Names.{name_text}
use Rattle.name_text.specs.Words.{is_word}
use Rattle.name_text.specs.declared.blank.Blank.{Blank}

-- a name is bytes
abbrev pub AreBytes : Text → Type 0
AreBytes = AllByRecursion (λ byte. byte < 256)

-- a name of bytes that is shorter than a text may be when it is printed
abbrev pub IsShort : Blank → Text → Type 0
IsShort blank name = AreBytes name × (length (name_text blank name) < 2 ^ 24)

-- a text as one token
abbrev pub whole : Kind → Text → Token
whole kind text = record { kind = kind; begins_line = true; start = 0; length = length text }

-- the text is one token of this kind, which spells the name
abbrev pub IsName : Kind → (text name : Text) → Type 0
IsName kind text name = (lexed_of text ≡ record { tokens = whole kind text ∷ []; bad = None }) × (name_of text (whole kind text) ≡ name)

-- a printed name after `@`
abbrev pub GlobalsAreRead : Type 0
GlobalsAreRead = (blank : Blank) (name : Text) → AreBytes name → IsName k.GlobalName (64 ∷ name_text blank name) name

-- a printed name after `%`
abbrev pub LocalsAreRead : Type 0
LocalsAreRead = (blank : Blank) (name : Text) → AreBytes name → IsName k.LocalName (37 ∷ name_text blank name) name

-- a number after `%`
abbrev pub NumbersAreRead : Type 0
NumbersAreRead = (digits : Text) → 0 < length digits → list_all is_digit digits ≡ true → IsName k.LocalNumber (37 ∷ digits) digits

-- a printed name is one word
abbrev pub NamesAreWords : Type 0
NamesAreWords = (blank : Blank) (name : Text) → is_word (name_text blank name) ≡ true
