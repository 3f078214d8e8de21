-- The tokens of a text.
use Rattle.std.specs.Prelude.{◌≡◌, ◌≢◌, ℕ, zero, suc, ◌+◌, ◌-◌, Bool, true, false, not, ◌&&◌, ◌||◌, if◌then◌else◌, ◌==◌, List, [], ◌∷◌, ◌++◌, length, take, Some, None, ◌⊎◌, MatchOption}
use Rattle.std.specs.List.{list_any}
use Rattle.ir_tokens.specs.declared.class.ByteClass.{ByteClass}
use Rattle.ir_tokens.specs.declared.class.ByteClass.TheVariants as c
use Rattle.ir_tokens.specs.declared.token.Kind.{Kind}
use Rattle.ir_tokens.specs.declared.token.Kind.TheVariants as k
use Rattle.ir_tokens.specs.declared.token.Token.{Token}
use Rattle.ir_tokens.specs.declared.lexed.Lexed.{Lexed}
use Rattle.ir_tokens.specs.Bytes.{Text, is_name, is_digit}
use Rattle.ir_tokens.specs.Form.{Form, Outcome, pure, ◌>>=◌, ◌>>◌, look, refuse, skip, span, quoted}
use Rattle.ir_tokens.specs.Keywords.{word_kind}

-- ---- the forms of tokens

-- a plain name, up to the first byte that no name has
abbrev pub name : Kind → Form Kind
name x = span is_name >>= λ _. pure x

-- the longest run of digits
abbrev pub digits : Kind → Form Kind
digits x = span is_digit >>= λ _. pure x

-- text between quotes
abbrev pub quotation : Kind → Form Kind
quotation x = skip >> quoted >> pure x

-- a token of one byte
abbrev pub sign : Kind → Form Kind
sign x = skip >> pure x

-- what follows `%`
abbrev pub local_by : ByteClass → Form Kind
local_by c.Quote = quotation k.LocalName
local_by c.Letter = name k.LocalName
local_by c.Digit = digits k.LocalNumber
local_by _ = refuse

-- `%` with a name, a quoted name or a number
unfoldable pub local : Form Kind
local = skip >> look local_by

-- what follows `@`
abbrev pub global_by : ByteClass → Form Kind
global_by c.Quote = quotation k.GlobalName
global_by c.Letter = name k.GlobalName
global_by _ = refuse

-- `@` with a name or a quoted name
unfoldable pub global : Form Kind
global = skip >> look global_by

-- the name of a debug record, which begins with `dbg_`
abbrev pub is_record : Text → Bool
is_record (d ∷ b ∷ g ∷ line ∷ name) = d == 100 && b == 98 && g == 103 && line == 95
is_record _ = false

-- a debug record, if its name is one
abbrev pub record_by : Bool → Form Kind
record_by true = pure k.DebugRecord
record_by false = refuse

-- the name of a debug record
unfoldable pub record_name : Form Kind
record_name = span is_name >>= λ name. record_by (is_record name)

-- what follows `#`
abbrev pub group_by : ByteClass → Form Kind
group_by c.Digit = digits k.AttributeGroup
group_by c.Letter = record_name
group_by _ = refuse

-- `#` with a number, or with the name of a debug record
unfoldable pub group : Form Kind
group = skip >> look group_by

-- what follows `!`, if anything
abbrev pub metadata_by : ByteClass → Form Kind
metadata_by c.Letter = name k.MetadataName
metadata_by c.Digit = digits k.MetadataNumber
metadata_by _ = pure k.Exclamation

-- `!` with a name, with a number, or alone
unfoldable pub metadata : Form Kind
metadata = skip >> look metadata_by

-- with `:` directly after it a label, else this
abbrev pub label_or : (colon other : Kind) → ByteClass → Form Kind
label_or colon other c.Colon = skip >> pure colon
label_or colon other _ = pure other

-- what is written like a plain name: a label, or a word of its kind
unfoldable pub word : Form Kind
word = span is_name >>= λ t. look (label_or k.LabelName (word_kind t))

-- digits: a label or a number
unfoldable pub number : Form Kind
number = span is_digit >>= λ t. look (label_or k.LabelNumber k.Number)

-- quoted text: a label or the text
unfoldable pub quote : Form Kind
quote = skip >> quoted >> look (label_or k.LabelName k.Quoted)

-- which token a byte of a class begins
abbrev pub token_by : ByteClass → Form Kind
token_by c.Letter = word
token_by c.Digit = number
token_by c.Quote = quote
token_by c.Percent = local
token_by c.At = global
token_by c.Hash = group
token_by c.Exclamation = metadata
token_by (c.Sign x) = sign x
token_by _ = refuse

-- a token, as its first byte tells
unfoldable pub token : Form Kind
token = look token_by

-- ---- what is between tokens

-- space, tab, and the bytes that end a line
abbrev pub is_blank : ℕ → Bool
is_blank b = b == 32 || b == 9 || b == 10 || b == 13

-- Blanks and comments, up to `rest`. The flag says whether a comment is open: it begins with `;` and ends with its line.
abbrev pub IsGap : (comment : Bool) → Text → Text → Type 0
IsGap false [] rest = Unit {0}
IsGap true [] rest = rest ≡ []
IsGap false (b ∷ gap) rest = ((b ≡ 59) × IsGap true gap rest) ⊎ ((is_blank b ≡ true) × IsGap false gap rest)
IsGap true (b ∷ gap) rest = IsGap (not (b == 10)) gap rest

-- whether a blank or a comment comes first
abbrev pub begins_gap : Text → Bool
begins_gap [] = false
begins_gap (b ∷ bs) = b == 59 || is_blank b

-- whether a line ends in these bytes
abbrev pub ends_line : Text → Bool
ends_line gap = list_any (λ b. b == 10) gap

-- the bytes after blanks and comments; the flag as above
unfoldable pub past_gap : Bool → Text → Text
past_gap comment [] = []
past_gap true (b ∷ bs) = past_gap (not (b == 10)) bs
past_gap false (b ∷ bs) = if b == 59 then past_gap true bs else (if is_blank b then past_gap false bs else b ∷ bs)

-- ---- a text and its tokens

-- These tokens are at the front of the bytes, up to `last`, with their places in a text of `total` bytes. The flag says whether no
-- token is before these bytes.
abbrev pub Cut : (total : ℕ) → (first : Bool) → Text → List Token → Text → Type 0
Cut total first bytes [] last = (gap : Text) × (bytes ≡ gap ++ last) × IsGap false gap last
Cut total first bytes (t ∷ ts) last =
    (gap : Text) × (at : Text) × (rest : Text) × (bytes ≡ gap ++ at) × IsGap false gap at × token.says at t.kind rest
    × (t.start + length at ≡ total) × (t.length + length rest ≡ length at) × (t.begins_line ≡ (first || ends_line gap)) × Cut total false rest ts last

-- The bytes are a text of these tokens.
abbrev pub IsTokens : Text → List Token → Type 0
IsTokens bytes ts = Cut (length bytes) true bytes ts []

-- At this place the bytes begin no token, and before it they are these tokens.
abbrev pub IsBad : Text → List Token → ℕ → Type 0
IsBad bytes ts place =
    (last : Text) × Cut (length bytes) true bytes ts last × (place + length last ≡ length bytes)
    × (last ≢ []) × (begins_gap last ≡ false) × ((x : Kind) (rest : Text) → token.says last x rest → ⊥)

-- The tokens of the whole text, or those up to the first place at which no token begins.
abbrev pub IsLexed : Text → Lexed → Type 0
IsLexed bytes lexed = MatchOption lexed.bad (IsTokens bytes lexed.tokens) (IsBad bytes lexed.tokens)

-- ---- reading

-- the token of this kind between two places, told by the bytes from there on
abbrev pub make : (total : ℕ) → Bool → (at : Text) → Kind → (rest : Text) → Token
make total begins at x rest =
    record { kind = x; begins_line = begins; start = total - length at; length = (total - length rest) - (total - length at) }

-- no further token is read: the text ends here, or goes on badly
abbrev pub ended : ℕ → List Token → Text → Lexed
ended total found [] = record { tokens = found; bad = None }
ended total found (b ∷ bs) = record { tokens = found; bad = Some (total - length (b ∷ bs)) }

-- a choice by what was read
abbrev pub on_token : {X : Type 0} → Outcome Kind → X → (Kind → Text → X) → X
on_token None x f = x
on_token (Some p) x f = f p.0 p.1

-- the token at the front, and more after it
abbrev pub lex_at : ℕ → Bool → List Token → Text → (List Token → Text → Lexed) → Lexed
lex_at total begins found [] more = record { tokens = found; bad = None }
lex_at total begins found (b ∷ bs) more =
    on_token (token.read (b ∷ bs)) (record { tokens = found; bad = Some (total - length (b ∷ bs)) })
    (λ x rest. more (found ++ make total begins (b ∷ bs) x rest ∷ []) rest)

-- the bytes before the rest
abbrev pub before : (bytes rest : Text) → Text
before bytes rest = take (length bytes - length rest) bytes

-- at most n tokens of the bytes, after those found before
unfoldable pub lex_from : ℕ → ℕ → Bool → List Token → Text → Lexed
lex_from zero total first found bytes = ended total found (past_gap false bytes)
lex_from (suc n) total first found bytes =
    lex_at total (first || ends_line (before bytes (past_gap false bytes))) found (past_gap false bytes) (lex_from n total false)

-- all tokens up to the end or the first bad place
abbrev pub lexed_of : Text → Lexed
lexed_of bytes = lex_from (length bytes) (length bytes) true [] bytes
