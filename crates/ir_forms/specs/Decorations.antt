-- Decorations: what is written beside the parts of a form and has no effect on the module.
use Rattle.std.specs.Prelude.{◌≡◌, ◌≢◌, ◌+◌, ◌-◌, ◌==◌, nat_lt, Bool, true, false, not, ◌&&◌, ◌||◌, List, refl}
use Rattle.grammar.specs.Grammar.{pure, checked, refuse, look, ◌>>◌}
use Rattle.grammar.specs.Takes.{Takes, TakesWhere, first_takes, first_takes_where, second_takes, look_takes, checked_takes}
use Rattle.ir_tokens.specs.declared.token.Kind.{Kind}
use Rattle.ir_tokens.specs.declared.token.Kind.TheVariants as k
use Rattle.ir_forms.specs.Cursor.{kind, kind_after, same_kind, sees, begins_line, sees_float}
use Rattle.ir_forms.specs.declared.input.Input.{Input}
use Rattle.ir_forms.specs.Input.{Form, limit, unexpected, unread, skip, expect, expect_takes, IsKind, skip_takes}
use Rattle.ir_forms.specs.declared.decorating.Brackets.{Brackets}
use Rattle.ir_forms.specs.declared.decorating.FlagsAfter.{FlagsAfter}
use Rattle.ir_forms.specs.declared.decorating.Spot.{Spot}
use Rattle.ir_forms.specs.declared.decorating.Spot.TheVariants as spot
use Rattle.ir_forms.specs.declared.decorating.Trail.{Trail}
use Rattle.ir_forms.specs.declared.decorating.Trail.TheVariants as trail
use Rattle.ir_forms.specs.ManyWith.{many_with}
use Rattle.ir_forms.specs.Starts.{is_flag_of, begins_any_type}

-- one form or the other
abbrev pub either : {A : Type 0} → Form A → Form A → Bool → Form A
either a b true = a
either a b false = b

-- ---- any token

ends_text : (i : Input) → kind i.cursor ≡ k.End → sees k.End i.cursor ≡ true
unfolding sees same_kind
ends_text i e = rw e refl

is_token : (i : Input) → not (sees k.End i.cursor) ≡ true → kind i.cursor ≢ k.End
is_token i e = λ is. let ends = ends_text i is in cc

-- a token, whatever its kind, but not the end of the text
unfoldable pub any_token : Form Kind
any_token = checked (λ i. not (sees k.End i.cursor)) unexpected >> look (λ i. kind i.cursor) (λ x. skip >> pure x)

pub any_token_takes : Takes any_token
unfolding any_token
any_token_takes = checked_takes (λ i. not (sees k.End i.cursor)) unexpected (look (λ i. kind i.cursor) (λ x. skip >> pure x))
    (λ i a o e h. first_takes_where (IsKind (kind i.cursor)) skip (λ _. pure (kind i.cursor)) (skip_takes (kind i.cursor) (is_token i e)) i a o refl h)

-- ---- what follows a word

-- each round bracket that was opened is closed
abbrev pub are_closed : Brackets → Input → Bool
are_closed b i = b.depth == 0

-- how many brackets are open is a number of 32 bits
abbrev pub has_room : Brackets → Form (Unit {0})
has_room b = checked (λ _. nat_lt b.depth 4294967295) limit

-- a token within brackets, which may open or close one
abbrev pub in_brackets : Brackets → Form Kind
in_brackets b = has_room b >> any_token

pub in_brackets_takes : (b : Brackets) → Takes (in_brackets b)
in_brackets_takes b = second_takes (has_room b) (λ _. any_token) (λ _. any_token_takes)

-- the brackets after a token, which may open or close one
abbrev pub after_bracket : Brackets → Kind → Brackets
after_bracket b k.OpenRound = record b { depth = b.depth + 1 }
after_bracket b k.CloseRound = record b { depth = b.depth - 1 }
after_bracket b _ = b

-- the tokens after a round bracket, up to the one that closes it
unfoldable pub bracketed : Form (List Kind)
bracketed = many_with are_closed in_brackets in_brackets_takes after_bracket (record { depth = 1 })

-- a part in brackets, up to the one that closes it
unfoldable pub past_brackets : Form (Unit {0})
past_brackets = bracketed >> pure tt

-- the place is that of an argument
abbrev pub is_argument : Spot → Bool
is_argument spot.Argument = true
is_argument _ = false

-- an operand ends before this token
abbrev pub ends_operand : Kind → Bool
ends_operand k.Comma = true
ends_operand k.CloseRound = true
ends_operand _ = false

-- in an argument a number that ends the argument is its operand, and so is a floating point number, where the wide forms may stand
abbrev pub is_operand : Spot → Input → Bool
is_operand s i = is_argument s && (ends_operand (kind_after i.cursor) || (i.wide && sees_float i.cursor))

-- what belongs to a decorating word: a part in brackets, a quoted text or a number after it
abbrev pub word_end_by : Spot → Kind → Form (Unit {0})
word_end_by s k.OpenRound = skip >> past_brackets
word_end_by s k.Quoted = skip
word_end_by s k.Number = look (is_operand s) (either (pure tt) skip)
word_end_by s _ = pure tt

-- round brackets, a quoted text or a number after a word, or nothing
unfoldable pub word_end : Spot → Form (Unit {0})
word_end s = look (λ i. kind i.cursor) (word_end_by s)

-- a decorating word with what belongs to it
abbrev pub word : Spot → Form (Unit {0})
word s = skip >> word_end s

-- ---- decorations of a part

-- words decorate there, and not only groups of attributes or metadata
abbrev pub may_have_word : Spot → Bool
may_have_word spot.GlobalEnd = false
may_have_word spot.Declare = false
may_have_word _ = true

-- a global that is external has no value
abbrev pub may_be_external : Spot → Bool
may_be_external spot.Global = false
may_be_external s = may_have_word s

-- the place is at the end of a function's head
abbrev pub ends_head : Spot → Bool
ends_head spot.Defined = true
ends_head spot.Declared = true
ends_head _ = false

-- groups of attributes may follow parameters, arguments and a global
abbrev pub may_have_group : Spot → Bool
may_have_group spot.Call = true
may_have_group spot.GlobalEnd = true
may_have_group s = ends_head s

-- after a declared function a line may begin that is metadata
abbrev pub may_have_metadata : Spot → Bool → Bool
may_have_metadata spot.Declare first = true
may_have_metadata spot.Defined first = true
may_have_metadata spot.Declared first = not first
may_have_metadata _ first = false

-- a token of this kind is a decoration there, which is the first one on its line or not
abbrev pub begins_decoration : Spot → Bool → Kind → Bool
begins_decoration s first k.LowercaseWord = may_have_word s
begins_decoration s first k.Align = may_have_word s
begins_decoration s first k.External = may_be_external s
begins_decoration s first k.ExternWeak = may_be_external s
begins_decoration s first k.Comdat = ends_head s
begins_decoration s first k.AttributeGroup = may_have_group s
begins_decoration s first k.MetadataName = may_have_metadata s first
begins_decoration s first _ = false

-- `!name !n`
abbrev pub metadata : Form (Unit {0})
metadata = skip >> expect k.MetadataNumber

-- a decoration at this place, by the token with which it begins
abbrev pub decoration_by : Spot → Kind → Form (Unit {0})
decoration_by s k.LowercaseWord = word s
decoration_by s k.Align = word s
decoration_by s k.External = word s
decoration_by s k.ExternWeak = word s
decoration_by s k.Comdat = word s
decoration_by s k.AttributeGroup = skip
decoration_by s k.MetadataName = metadata
decoration_by s _ = refuse unexpected

-- a decoration of this part: a word with what follows it, a group of attributes, or metadata
unfoldable pub decoration : Spot → Form (Unit {0})
decoration s = look (λ i. kind i.cursor) (decoration_by s)

decoration_takes_by : (s : Spot) (x : Kind) → TakesWhere (IsKind x) (decoration_by s x)
decoration_takes_by s k.LowercaseWord = first_takes_where (IsKind k.LowercaseWord) skip (λ _. word_end s) (skip_takes k.LowercaseWord (λ x. cc))
decoration_takes_by s k.Align = first_takes_where (IsKind k.Align) skip (λ _. word_end s) (skip_takes k.Align (λ x. cc))
decoration_takes_by s k.External = first_takes_where (IsKind k.External) skip (λ _. word_end s) (skip_takes k.External (λ x. cc))
decoration_takes_by s k.ExternWeak = first_takes_where (IsKind k.ExternWeak) skip (λ _. word_end s) (skip_takes k.ExternWeak (λ x. cc))
decoration_takes_by s k.Comdat = first_takes_where (IsKind k.Comdat) skip (λ _. word_end s) (skip_takes k.Comdat (λ x. cc))
decoration_takes_by s k.AttributeGroup = skip_takes k.AttributeGroup (λ x. cc)
decoration_takes_by s k.MetadataName = first_takes_where (IsKind k.MetadataName) skip (λ _. expect k.MetadataNumber) (skip_takes k.MetadataName (λ x. cc))
decoration_takes_by s _ = λ i a o e h. absurd h

pub decoration_takes : (s : Spot) → Takes (decoration s)
unfolding decoration
decoration_takes s = look_takes (λ i. kind i.cursor) (decoration_by s) (decoration_takes_by s)

-- no decoration of this place begins here
abbrev pub at_no_decoration : Spot → Input → Bool
at_no_decoration s i = not (begins_decoration s (begins_line i.cursor) (kind i.cursor))

-- the place stays the same after a decoration
abbrev pub same_spot : Spot → Unit {0} → Spot
same_spot s _ = s

-- the decorations of this part
unfoldable pub decorations : Spot → Form (Unit {0})
decorations s = many_with at_no_decoration decoration decoration_takes same_spot s >> pure tt

-- ---- words that are written once

-- this word, if it is there
unfoldable pub optional : Kind → Form (Unit {0})
optional x = look (λ i. sees x i.cursor) (either skip (pure tt))

-- ---- the word of an instruction

-- a flag of the instruction with this word
unfoldable pub flag : Kind → Form (Unit {0})
flag word = checked (λ i. is_flag_of word (kind i.cursor)) unexpected >> skip

flag_is_token : (x y : Kind) → is_flag_of x y ≡ true → y ≢ k.End
flag_is_token x k.End e = absurd cc
flag_is_token x _ e = λ is. cc

pub flag_takes : (f : FlagsAfter) → Takes (flag f.word)
unfolding flag
flag_takes f = checked_takes (λ i. is_flag_of f.word (kind i.cursor)) unexpected skip
    (λ i a o e h. skip_takes (kind i.cursor) (flag_is_token f.word (kind i.cursor) e) i a o refl h)

-- no flag of the instruction is here
abbrev pub at_no_flag : FlagsAfter → Input → Bool
at_no_flag f i = not (is_flag_of f.word (kind i.cursor))

-- the flags are those of the same instruction after one of them
abbrev pub same_flags : FlagsAfter → Unit {0} → FlagsAfter
same_flags f _ = f

-- the flags of the instruction with this word
unfoldable pub flags : Kind → Form (Unit {0})
flags word = many_with at_no_flag (λ f. flag f.word) flag_takes same_flags (record { word = word }) >> pure tt

-- this word of an instruction, with the flags after it
abbrev pub flagged : Kind → Form (Unit {0})
flagged word = skip >> flags word

-- the word of an instruction, with the flags after it
unfoldable pub flagged_word : Form (Unit {0})
flagged_word = look (λ i. kind i.cursor) flagged

-- ---- after an instruction or a global

-- an instruction of this sort may have an alignment
abbrev pub may_align : Trail → Bool
may_align trail.Slot = true
may_align trail.Memory = true
may_align trail.Global = true
may_align trail.Other = false

-- what ends here is a global
abbrev pub is_global : Trail → Bool
is_global trail.Global = true
is_global _ = false

-- the instruction is an alloca
abbrev pub is_slot : Trail → Bool
is_slot trail.Slot = true
is_slot _ = false

-- `align n`, where it is allowed
abbrev pub aligned : Bool → Form (Unit {0})
aligned true = skip >> expect k.Number
aligned false = refuse unexpected

-- where a global is placed, as `comdat($x)` or `section "x"`: a word with what belongs to it
abbrev pub placed : Bool → Form (Unit {0})
placed true = word spot.Global
placed false = refuse unexpected

-- the count of an alloca, which begins with its type, is left out
abbrev pub begins_count : Trail → Kind → Bool
begins_count t x = is_slot t && begins_any_type x

-- what may follow the comma of an instruction or a global: metadata, an alignment, or where the global is placed
abbrev pub trail_by : Trail → Kind → Form (Unit {0})
trail_by t k.MetadataName = metadata
trail_by t k.Align = aligned (may_align t)
trail_by t k.Comdat = placed (is_global t)
trail_by t k.LowercaseWord = placed (is_global t)
trail_by t _ = refuse (unread (begins_count t))

-- what follows a comma at an instruction's end
abbrev pub trail_after : Trail → Form (Unit {0})
trail_after t = look (λ i. kind i.cursor) (trail_by t)

-- `, align n`, `, !name !n`, or `, comdat` and the like after a global
unfoldable pub comma_trail : Trail → Form (Unit {0})
comma_trail t = expect k.Comma >> trail_after t

pub comma_trail_takes : (t : Trail) → Takes (comma_trail t)
unfolding comma_trail
comma_trail_takes t = first_takes (expect k.Comma) (λ _. trail_after t) (expect_takes k.Comma (λ x. cc))

-- no comma follows an instruction
abbrev pub at_no_trail : Trail → Input → Bool
at_no_trail t i = not (sees k.Comma i.cursor)

-- the sort of the instruction stays the same after a trailing part
abbrev pub same_trail : Trail → Unit {0} → Trail
same_trail t _ = t

-- the decorations after an instruction or a global
unfoldable pub trailing : Trail → Form (Unit {0})
trailing t = many_with at_no_trail comma_trail comma_trail_takes same_trail t >> pure tt
