-- The next token: what it is, where it is, and how it is refused.
use Rattle.std.specs.Prelude.{ℕ, ◌+◌, Bool, true, false, not, ◌&&◌, ◌||◌, if◌then◌else◌, nat_lt, List, [], ◌∷◌, length, take, drop, Option, Some, None}
use Rattle.ir_tokens.specs.declared.token.Kind.{Kind}
use Rattle.ir_tokens.specs.declared.token.Kind.TheVariants as k
use Rattle.ir_tokens.specs.contracts.token.Kind.{the_type}
use Rattle.ir_tokens.specs.declared.token.Token.{Token}
use Rattle.ir_tokens.specs.Names.{name_of}
use Rattle.ir_ast.specs.LocalKeys.{key_of_name, key_of_digits}
use Rattle.ir_forms.specs.FloatNumbers.{run_of, is_float_number}
use Rattle.ir_forms.specs.declared.fault.Fault.{Fault}
use Rattle.ir_forms.specs.declared.fault.Fault.TheVariants.{BadByte, Unfinished, Unexpected, LeftOut}
use Rattle.ir_forms.specs.Place.{Place}
use denote.Enum.Bare.{sameb}

-- two kinds of token are the same
unfoldable pub same_kind : Kind → Kind → Bool
same_kind = sameb the_type

-- a plus, which stands in numbers of the wide forms alone
abbrev pub is_plus : Kind → Bool
is_plus k.Plus = true
is_plus _ = false

-- no form goes on from this token on: it is a plus where the wide forms may not stand
abbrev pub is_stop : (wide : Bool) → Kind → Bool
is_stop wide kind = is_plus kind && not wide

-- the tokens that are seen: none from such a token on
abbrev pub here : (wide : Bool) → List Token → List Token
here wide [] = []
here wide (t ∷ ts) = if is_stop wide t.kind then [] else t ∷ ts

-- the kind of the first of these tokens; the end of the text is a kind of its own
abbrev pub kind_first : List Token → Kind
kind_first [] = k.End
kind_first (t ∷ ts) = t.kind

-- the tokens after the first one
abbrev pub rest_of : List Token → List Token
rest_of [] = []
rest_of (t ∷ ts) = ts

-- what the next token is
unfoldable pub kind : Place → Kind
kind c = kind_first (here c.wide c.rest)

-- what the token after the next one is
unfoldable pub kind_after : Place → Kind
kind_after c = kind_first (here c.wide (rest_of c.rest))

-- what the third token is
unfoldable pub kind_third : Place → Kind
kind_third c = kind_first (here c.wide (rest_of (rest_of c.rest)))

-- the first token is the first one of its line
abbrev pub begins_first : List Token → Bool
begins_first [] = false
begins_first (t ∷ ts) = t.begins_line

-- the next token is the first one on its line
unfoldable pub begins_line : Place → Bool
begins_line c = begins_first (here c.wide c.rest)

-- the next token is of this kind
unfoldable pub sees : Kind → Place → Bool
sees k c = same_kind (kind c) k

-- where the first token starts, or else where the text ends
abbrev pub start_first : List Token → ℕ → ℕ
start_first [] end = end
start_first (t ∷ ts) end = t.start

-- where the next token begins; after the last token, where the text ends
unfoldable pub start : Place → ℕ
start c = start_first (here c.wide c.rest) (length c.text)

-- how many bytes the first token has
abbrev pub size_first : List Token → ℕ
size_first [] = 0
size_first (t ∷ ts) = t.length

-- how many bytes spell the next token
unfoldable pub size : Place → ℕ
size c = size_first (here c.wide c.rest)

-- the bytes that spell the next token
unfoldable pub spelling : Place → List ℕ
spelling c = take (size c) (drop (start c) c.text)

-- one token further on
unfoldable pub next : Place → Place
next c = record c { rest = rest_of c.rest }

-- the fault where the text ends too early: a bad byte is there, or the text is not finished
abbrev pub end_fault : Option ℕ → ℕ → Fault
end_fault None end = Unfinished end
end_fault (Some bad) end = BadByte bad

-- where no token begins: at the first of these tokens where no form goes on from it on, and else at the bad byte after them
abbrev pub bad_from : (wide : Bool) → List Token → Option ℕ → Option ℕ
bad_from wide [] bad = bad
bad_from wide (t ∷ ts) bad = if is_stop wide t.kind then Some t.start else bad

-- where no token begins, if there is such a place
unfoldable pub bad_here : Place → Option ℕ
bad_here c = bad_from c.wide c.rest c.bad

-- the fault at the end of the tokens: a bad byte after them, or an unfinished text
unfoldable pub at_end : Place → Fault
at_end c = end_fault (bad_here c) (length c.text)

-- the fault of a token that begins a form that is left out
unfoldable pub left_out : Place → Fault
left_out c = LeftOut (start c) (size c)

-- The fault of a token that no form goes on with. A word of the left-out forms is named, and so is one that
-- begins a form that is not read yet.
unfoldable pub refused : Bool → Place → Fault
refused unread c = if sees k.End c then at_end c else (if unread || sees k.LeftOut c then left_out c else Unexpected (start c))

-- ---- numbers of more than one token

-- the bytes from the next token on that belong to one number
unfoldable pub run : Place → List ℕ
run c = run_of (drop (start c) c.text)

-- those bytes are a floating point number
unfoldable pub sees_float : Place → Bool
sees_float c = is_float_number (run c)

-- the tokens from the first one on that begins at this place or later
abbrev pub begun_at : (place : ℕ) → List Token → List Token
begun_at place [] = []
begun_at place (t ∷ ts) = if nat_lt t.start place then begun_at place ts else t ∷ ts

-- after the tokens of which those bytes are
unfoldable pub past_run : Place → Place
past_run c = record c { rest = begun_at (start c + length (run c)) c.rest }

-- ---- names

-- what follows the first byte that spells the next token
unfoldable pub name : Place → List ℕ
name c = drop 1 (spelling c)

-- what follows the first byte that spells the third token
unfoldable pub name_third : Place → List ℕ
name_third c = name (next (next c))

-- the name that the first token spells
abbrev pub spelled_first : List ℕ → List Token → List ℕ
spelled_first text [] = []
spelled_first text (t ∷ ts) = name_of text t

-- what the next token spells, without its sign, its quotes and its escapes
unfoldable pub spelled : Place → List ℕ
spelled c = spelled_first c.text c.rest

-- a number in place of a local name
abbrev pub is_local_number : Kind → Bool
is_local_number k.LocalNumber = true
is_local_number k.LabelNumber = true
is_local_number _ = false

-- the key of the next token as a local name
unfoldable pub local_key : Place → List ℕ
local_key c = if is_local_number (kind c) then key_of_digits (spelled c) else key_of_name (spelled c)
