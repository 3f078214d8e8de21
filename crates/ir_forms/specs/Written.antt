-- Types as they are written: a base with stars after it, where arrays and structs are bases that have types inside.
use Rattle.std.specs.Prelude.{ℕ, codes, zero, suc, ◌-◌, ◌≤◌, Bool, true, false, not, ◌||◌, ◌==◌, ◌&&◌, if◌then◌else◌, nat_lt, nat_le, min, List, [], ◌∷◌, Option, Some, None, is_some, is_none, unwrap_or, slice_get}
use Rattle.std.specs.Str.{bytes_eq}
use Rattle.std.proofs.Common.{arith}
use Rattle.grammar.specs.Grammar.{pure, step, checked, refuse, look, ◌>>=◌, ◌>>◌}
use Rattle.grammar.specs.Takes.{Takes, TakesWhere, first_takes, first_takes_where, look_takes, stays_takes}
use Rattle.grammar.specs.Many.{many}
use Rattle.ir_tokens.specs.declared.token.Kind.{Kind}
use Rattle.ir_tokens.specs.declared.token.Kind.TheVariants as k
use Rattle.ir_ast.specs.Names.{place_of}
use Rattle.ir_ast.specs.PointerKinds.{has_typed}
use Rattle.ir_ast.specs.Types.{place_of_type, number_of_type, numbered_type}
use Rattle.ir_ast.specs.declared.ir_type.IrType.{IrType}
use Rattle.ir_ast.specs.declared.ir_type.IrType.TheVariants as type
use Rattle.ir_forms.specs.declared.fault.Fault.{Fault}
use Rattle.ir_forms.specs.declared.fault.Fault.TheVariants.{OutOfRange, Unexpected, OtherPointer}
use Rattle.ir_forms.specs.declared.input.Input.{Input}
use Rattle.ir_forms.specs.declared.written.Base.{Base}
use Rattle.ir_forms.specs.declared.written.Base.TheVariants.{Integer, Float, Double, Named, Opaque, Aggregate}
use Rattle.ir_forms.specs.declared.written.FloatType.{FloatType}
use Rattle.ir_forms.specs.declared.written.FloatType.TheVariants as size
use Rattle.ir_forms.specs.declared.written.Word.{Word}
use Rattle.ir_forms.specs.declared.written.Word.TheVariants as sort
use Rattle.ir_forms.specs.declared.written.WrittenType.{WrittenType}
use Rattle.ir_forms.specs.Cursor.{kind, kind_after, sees, start, name, spelled, spelling, left_out, refused}
use Rattle.ir_forms.specs.Number.{decimal, natural}
use Rattle.ir_forms.specs.Input.{Form, left, limit, unexpected, unread, advanced, advanced_falls, advanced_left, advance_takes, skip, skip_takes, sees_a, expect, IsKind}
use Rattle.ir_forms.specs.Starts.{makes_level}
use Rattle.ir_forms.specs.Names.{has_number, is_at, struct_name, struct_name_takes}

-- ---- the table of types

-- the number of a type in the table of types
abbrev pub place_in_table : IrType → Input → ℕ
place_in_table t i = number_of_type t i.types

-- the type is in the table of types
abbrev pub with_type_interned : IrType → Input → Input
with_type_interned t i = record i { types = numbered_type t i.types }

pub with_type_interned_falls : (t : IrType) (i : Input) → left (with_type_interned t i) ≤ left i
unfolding left
with_type_interned_falls t i = omega arith

-- the place of a type in the table, which has it from now on; no token is read
unfoldable pub intern : IrType → Form ℕ
intern t = has_number (place_in_table t) >> step (place_in_table t) (with_type_interned t) (with_type_interned_falls t)

-- ---- both kinds of pointers

-- `ptr` is among these types
abbrev pub has_opaque : List IrType → Bool
has_opaque types = is_some (place_of_type type.Opaque types)

-- pointers of the other kind than this type are among these types
abbrev pub has_other_pointer : IrType → List IrType → Bool
has_other_pointer (type.Pointer part) types = has_opaque types
has_other_pointer type.Opaque types = has_typed types
has_other_pointer _ types = false

-- the type is the first pointer of its kind, after pointers of the other kind
abbrev pub is_other_kind : IrType → List IrType → Bool
is_other_kind t types = has_other_pointer t types && is_none (place_of_type t types)

-- so it is of the types that were read
unfoldable pub is_second_kind : IrType → Input → Bool
is_second_kind t i = is_other_kind t i.types

-- a pointer type comes into the table; it is written from this place on
abbrev pub interned_pointer : ℕ → IrType → Bool → Form ℕ
interned_pointer start t other = intern t >>= λ id. checked (λ _. not other) (λ _. OtherPointer start) >> pure id

-- the place of a pointer type, which is written from this place on: no text has pointers of both kinds
unfoldable pub intern_pointer : ℕ → IrType → Form ℕ
intern_pointer start t = look (is_second_kind t) (interned_pointer start t)

-- `ptr`: its place
unfoldable pub opaque_type : Form ℕ
opaque_type = look (λ i. start i.cursor) (λ start. skip >> intern_pointer start type.Opaque)

-- ---- a type before its stars

-- how many bits the digits after the `i` of an integer type tell
unfoldable pub bits_at : Input → ℕ
bits_at i = decimal (name i.cursor)

-- an integer has 1 to 64 bits
abbrev pub has_bits : Form (Unit {0})
has_bits = checked (λ i. nat_le 1 (bits_at i) && nat_le (bits_at i) 64) (λ i. OutOfRange (start i.cursor))

-- an integer type
unfoldable pub integer : Form ℕ
integer = has_bits >> step bits_at advanced advanced_falls

-- ---- floating point types

-- the type of floating point numbers that a word names
abbrev pub float_of : List ℕ → Option FloatType
float_of word = if bytes_eq word (codes "float") then Some size.Single else (if bytes_eq word (codes "double") then Some size.Double else None)

-- the same of the next token, where the wide forms may stand
unfoldable pub float_here : Input → Option FloatType
float_here i = if i.wide && sees k.LeftOut i.cursor then float_of (spelling i.cursor) else None

-- what it is before its stars
abbrev pub float_base : FloatType → Base
float_base size.Single = Float
float_base size.Double = Double

-- what it is in the table of types
abbrev pub float_entry : FloatType → IrType
float_entry size.Single = type.Float
float_entry size.Double = type.Double

-- ---- types inside of types

-- a form that takes a token
pub record Firm : Type 1 where
  pub form : Form WrittenType
  pub takes : Takes form

-- a type of the forms that are read may begin so
abbrev pub begins_type : Kind → Bool
begins_type k.IntegerType = true
begins_type k.LocalName = true
begins_type k.OpenSquare = true
begins_type k.OpenBrace = true
begins_type k.Ptr = true
begins_type k.LeftOut = true
begins_type _ = false

-- numbered types, vectors, packed structs and lists of any length
abbrev pub begins_unread_type : Kind → Bool
begins_unread_type k.LocalNumber = true
begins_unread_type k.Less = true
begins_unread_type k.Dots = true
begins_unread_type k.Target = true
begins_unread_type _ = false

-- a type without a star, with room for this number of further levels
abbrev pub part_of : Base → ℕ → ℕ → WrittenType
part_of base room id = record { base = base; stars = 0; id = id; room = room }

-- this type, which the table has from now on
abbrev pub interned : Base → ℕ → IrType → Form WrittenType
interned base room t = intern t >>= λ id. pure (part_of base room id)

-- the length that the next token spells, if it is below 2 to the 64
unfoldable pub length_at : Input → Option ℕ
length_at i = natural (spelling i.cursor)

-- the number that is here is the length of an array
abbrev pub has_length : Form (Unit {0})
has_length = checked (λ i. is_some (length_at i)) (λ i. OutOfRange (start i.cursor))

-- the length of an array
unfoldable pub array_length : Form ℕ
array_length = sees_a k.Number >> has_length >> step (λ i. unwrap_or (length_at i) 0) advanced advanced_falls

-- what follows the bracket of an array type
abbrev pub array_after : Firm → Form WrittenType
array_after inner = do
  n ← array_length
  expect k.X
  part ← inner.form
  expect k.CloseSquare
  interned Aggregate part.room (type.Array n part.id)

-- `[n x T]`
abbrev pub array : Firm → Form WrittenType
array inner = skip >> array_after inner

-- the list of fields ends here
abbrev pub at_brace : Input → Bool
at_brace i = sees k.CloseBrace i.cursor

-- no comma before the first field, and one before each further field
abbrev pub comma_or : Bool → Form (Unit {0})
comma_or true = pure tt
comma_or false = expect k.Comma >> checked (λ i. not (at_brace i)) unexpected

-- nothing before the brace that closes, or else a comma with a further field after it
unfoldable pub after_field : Form (Unit {0})
after_field = look at_brace comma_or

-- a field with what follows it
abbrev pub field_of : WrittenType → Form WrittenType
field_of p = after_field >> pure p

-- a field of a struct
abbrev pub field : Firm → Form WrittenType
field inner = inner.form >>= field_of

pub field_takes : (inner : Firm) → Takes (field inner)
field_takes inner = first_takes inner.form field_of inner.takes

-- the struct that has this field before those of another struct
abbrev pub field_before : WrittenType → WrittenType → Form WrittenType
field_before p whole = interned Aggregate (min p.room whole.room) (type.Struct p.id whole.id)

-- the struct that has these fields before those of another struct
unfoldable pub before : List WrittenType → WrittenType → Form WrittenType
before [] whole = pure whole
before (p ∷ parts) whole = before parts whole >>= field_before p

-- the struct with these fields
unfoldable pub struct_of : ℕ → List WrittenType → Form WrittenType
struct_of room fields = interned Aggregate room type.EmptyStruct >>= before fields

-- the brace that closes a struct type
abbrev pub close_struct : ℕ → List WrittenType → Form WrittenType
close_struct room fields = expect k.CloseBrace >> struct_of room fields

-- the fields of a struct type, up to its brace
abbrev pub fields_afterwards : ℕ → Firm → Form WrittenType
fields_afterwards room inner = many at_brace (field inner) (field_takes inner) >>= close_struct room

-- `{ T, .. }`
abbrev pub braced : ℕ → Firm → Form WrittenType
braced room inner = skip >> fields_afterwards room inner

-- a round bracket, as after the result of a function type
abbrev pub is_round : Kind → Bool
is_round k.OpenRound = true
is_round _ = false

-- `void` begins no type but a function type, which is left out
abbrev pub no_void : Form WrittenType
no_void = refuse (λ i. refused (is_round (kind_after i.cursor)) i.cursor)

-- `float` or `double`, if the word is one of them
abbrev pub float_by : ℕ → Option FloatType → Form WrittenType
float_by room None = refuse (unread begins_unread_type)
float_by room (Some t) = skip >> interned (float_base t) room (float_entry t)

-- `float` or `double`, where the wide forms may stand
abbrev pub float_written : ℕ → Form WrittenType
float_written room = look float_here (float_by room)

-- a type without the stars after it, by the token with which it begins
abbrev pub base_by : ℕ → Firm → Kind → Form WrittenType
base_by room inner k.IntegerType = integer >>= λ bits. interned (Integer bits) room (type.Integer bits)
base_by room inner k.LocalName = struct_name >>= λ name. interned Named room (type.Named name)
base_by room inner k.OpenSquare = array inner
base_by room inner k.OpenBrace = braced room inner
base_by room inner k.Ptr = opaque_type >>= λ id. pure (part_of Opaque room id)
base_by room inner k.LeftOut = float_written room
base_by room inner k.Void = no_void
base_by room inner _ = refuse (unread begins_unread_type)

-- a type before its stars
abbrev pub base : ℕ → Firm → Form WrittenType
base room inner = look (λ i. kind i.cursor) (base_by room inner)

-- ---- stars

-- a star is here
abbrev pub at_star : Input → Bool
at_star i = sees k.Star i.cursor

-- one form at a star, the other elsewhere
abbrev pub star_or : {A : Type 0} → Form A → Form A → Bool → Form A
star_or star none true = star
star_or star none false = none

-- At most n stars after a type that is written from this place on: the room for further levels that is left, and the place of the
-- pointer type.
unfoldable pub pointers : ℕ → ℕ → ℕ → Form (ℕ × ℕ)
pointers start zero pointee = look at_star (star_or (refuse limit) (pure (0, pointee)))
pointers start (suc room) pointee =
    look at_star (star_or (skip >> intern_pointer start (type.Pointer pointee) >>= pointers start room) (pure (suc room, pointee)))

-- the stars after a type, which is written from this place on; `ptr` takes none
abbrev pub stars_after : ℕ → WrittenType → Base → Form (ℕ × ℕ)
stars_after start p Opaque = pure (p.room, p.id)
stars_after start p _ = pointers start p.room p.id

-- no function type
abbrev pub no_parameters : Form (Unit {0})
no_parameters = checked (λ i. not (sees k.OpenRound i.cursor)) (λ i. left_out i.cursor)

-- a type with the stars that were found after it
abbrev pub with_stars : WrittenType → ℕ × ℕ → WrittenType
with_stars p found = record { base = p.base; stars = p.room - found.0; id = found.1; room = found.0 }

-- a type with the stars after it, which is written from this place on
unfoldable pub starred : ℕ → WrittenType → Form WrittenType
starred start p = do
  found ← stars_after start p p.base
  no_parameters
  pure (with_stars p found)

-- ---- a type

-- the next token makes a level of a type
unfoldable pub sees_level : Input → Bool
sees_level i = makes_level (kind i.cursor) (spelling i.cursor)

-- a type that passes the limit of levels, whichever it is
unfoldable pub no_type : Form WrittenType
no_type = refuse (λ i. if sees_level i then limit i else unread begins_unread_type i)

-- a type with its stars, whose parts are of this form
abbrev pub over : ℕ → Firm → Form WrittenType
over room inner = look (λ i. start i.cursor) (λ start. base room inner >>= starred start)

pub integer_takes : TakesWhere (IsKind k.IntegerType) integer
unfolding integer
integer_takes = stays_takes (IsKind k.IntegerType) has_bits (step bits_at advanced advanced_falls) (λ i a o h. h.1) (advance_takes k.IntegerType (λ x. cc) bits_at advanced advanced_falls advanced_left)

opaque_takes : TakesWhere (IsKind k.Ptr) opaque_type
unfolding opaque_type
opaque_takes i = first_takes_where (IsKind k.Ptr) skip (λ _. intern_pointer (start i.cursor) type.Opaque) (skip_takes k.Ptr (λ x. cc)) i

float_takes_by : (room : ℕ) (t : Option FloatType) → TakesWhere (IsKind k.LeftOut) (float_by room t)
float_takes_by room None = λ i a o e h. absurd h
float_takes_by room (Some t) = first_takes_where (IsKind k.LeftOut) skip (λ _. interned (float_base t) room (float_entry t)) (skip_takes k.LeftOut (λ x. cc))

pub base_takes_by : (room : ℕ) (inner : Firm) (x : Kind) → TakesWhere (IsKind x) (base_by room inner x)
base_takes_by room inner k.IntegerType = first_takes_where (IsKind k.IntegerType) integer (λ bits. interned (Integer bits) room (type.Integer bits)) integer_takes
base_takes_by room inner k.LocalName = first_takes_where (IsKind k.LocalName) struct_name (λ name. interned Named room (type.Named name)) struct_name_takes
base_takes_by room inner k.OpenSquare = first_takes_where (IsKind k.OpenSquare) skip (λ _. array_after inner) (skip_takes k.OpenSquare (λ x. cc))
base_takes_by room inner k.OpenBrace = first_takes_where (IsKind k.OpenBrace) skip (λ _. fields_afterwards room inner) (skip_takes k.OpenBrace (λ x. cc))
base_takes_by room inner k.Ptr = first_takes_where (IsKind k.Ptr) opaque_type (λ id. pure (part_of Opaque room id)) opaque_takes
base_takes_by room inner k.LeftOut = λ i a o e h. float_takes_by room (float_here i) i a o e h
base_takes_by room inner _ = λ i a o e h. absurd h

pub over_takes : (room : ℕ) (inner : Firm) → Takes (over room inner)
over_takes room inner i = first_takes (base room inner) (starred (start i.cursor)) (look_takes (λ i. kind i.cursor) (base_by room inner) (base_takes_by room inner)) i

pub no_type_takes : Takes no_type
unfolding no_type
no_type_takes i a o h = absurd h

-- a type of at most n levels: an integer or a name is one, and each star, array or struct around it is one more
unfoldable pub firm : ℕ → Firm
firm zero = record { form = no_type; takes = no_type_takes }
firm (suc room) = record { form = over room (firm room); takes = over_takes room (firm room) }

-- a type of at most n levels
abbrev pub part : ℕ → Form WrittenType
part levels = (firm levels).form

-- a type of at most `room` levels over its first
unfoldable pub type_within : ℕ → Form WrittenType
type_within room = part (suc room)

-- `{ T, .. }` as the definition of a named struct: its place
unfoldable pub struct_body : Form ℕ
struct_body = braced 63 (firm 63) >>= λ p. pure p.id

-- ---- which types are allowed where

-- a type of numbers, before its stars
abbrev pub is_number_base : Base → Bool
is_number_base (Integer bits) = true
is_number_base Float = true
is_number_base Double = true
is_number_base Named = false
is_number_base Opaque = false
is_number_base Aggregate = false

-- the word that a type without stars is
abbrev pub word_of_base : Base → Word
word_of_base (Integer bits) = sort.Integer bits
word_of_base Float = sort.Float
word_of_base Double = sort.Double
word_of_base Named = sort.Pointer
word_of_base Opaque = sort.Pointer
word_of_base Aggregate = sort.Pointer

-- a pointer before its stars
abbrev pub is_opaque_base : Base → Bool
is_opaque_base Opaque = true
is_opaque_base _ = false

-- a pointer
abbrev pub is_pointer : WrittenType → Bool
is_pointer w = nat_lt 0 w.stars || is_opaque_base w.base

-- a number or a pointer, which are one word
abbrev pub is_scalar : WrittenType → Bool
is_scalar w = is_pointer w || is_number_base w.base

-- the word that a type is; an array or a struct counts as a pointer, and no value has such a type
abbrev pub word_of : WrittenType → Word
word_of w = if w.stars == 0 then word_of_base w.base else sort.Pointer

-- a floating point number
abbrev pub is_float_word : Word → Bool
is_float_word sort.Float = true
is_float_word sort.Double = true
is_float_word _ = false

-- a type of floating point numbers
abbrev pub is_float : WrittenType → Bool
is_float w = is_float_word (word_of w)

-- a number, a reference, `i8*` or `ptr`, which a function may take and return
abbrev pub is_passed : WrittenType → Bool
is_passed w = passed_by w.base w.stars where
  passed_by : Base → ℕ → Bool
  passed_by (Integer bits) stars = stars == 0 || (stars == 1 && bits == 8)
  passed_by Float stars = stars == 0
  passed_by Double stars = stars == 0
  passed_by Named stars = stars == 1
  passed_by Opaque stars = stars == 0
  passed_by Aggregate stars = false

-- a number, a reference or `ptr`, which a global may hold
abbrev pub is_held : WrittenType → Bool
is_held w = held_by w.base w.stars where
  held_by : Base → ℕ → Bool
  held_by (Integer bits) stars = stars == 0
  held_by Float stars = stars == 0
  held_by Double stars = stars == 0
  held_by Named stars = stars == 1
  held_by Opaque stars = stars == 0
  held_by Aggregate stars = false

-- The type before here is allowed, or else has this fault. Where the text ends, the fault is that of its end, since a star might follow.
abbrev pub allow : Bool → Fault → Form (Unit {0})
allow allowed fault = checked (λ i. allowed) (λ i. if sees k.End i.cursor then unexpected i else fault)

-- the type, if it is allowed here, or else the fault
abbrev pub then_allowed : (WrittenType → Bool) → WrittenType → Fault → Form WrittenType
then_allowed may_stand w fault = allow (may_stand w) fault >> pure w

-- a type that is allowed here, or else its first word is left out
abbrev pub type_that : (WrittenType → Bool) → ℕ → Form WrittenType
type_that may_stand room = look (λ i. left_out i.cursor) (λ fault. type_within room >>= λ w. then_allowed may_stand w fault)

-- any type but `void`: a type has at most 64 levels
unfoldable pub any_type : Form WrittenType
any_type = type_within 63

-- a type that a word holds, with at most n levels over its first
unfoldable pub scalar_within : ℕ → Form WrittenType
scalar_within = type_that is_scalar

-- a type that a word holds
unfoldable pub scalar : Form WrittenType
scalar = scalar_within 63

-- the type of a parameter or a result
unfoldable pub passed_type : Form WrittenType
passed_type = type_that is_passed 63

-- the type of a global
unfoldable pub held_type : Form WrittenType
held_type = type_that is_held 63

-- a type of floating point numbers
unfoldable pub float_scalar : Form WrittenType
float_scalar = scalar >>= λ w. checked (λ _. is_float w) unexpected >> pure w

-- a type of integers, or a pointer type
unfoldable pub integer_scalar : Form WrittenType
integer_scalar = scalar >>= λ w. checked (λ _. not (is_float w)) unexpected >> pure w

-- a pointer type: `ptr`, or a type with a star after it
unfoldable pub pointer_type : Form WrittenType
pointer_type = any_type >>= λ w. checked (λ _. is_pointer w) unexpected >> pure w

-- ---- the type of a call's result

-- a type with the stars after it, which is written from this place on; a round bracket may follow
abbrev pub result_stars : ℕ → WrittenType → Form WrittenType
result_stars start p = stars_after start p p.base >>= λ found. pure (with_stars p found)

-- a type before the types of a function's parameters, or without them
unfoldable pub type_before : Form WrittenType
type_before = look (λ i. start i.cursor) (λ start. base 63 (firm 63) >>= result_stars start)

-- such a type that a word holds, or else this fault
abbrev pub word_before : Fault → Form WrittenType
word_before fault = type_before >>= λ w. then_allowed is_scalar w fault

-- the type of a call's result, where the wide forms may stand or not
abbrev pub result_by : (wide : Bool) → Form WrittenType
result_by true = look (λ i. left_out i.cursor) word_before
result_by false = scalar

-- the type of a call's result; where the wide forms may stand, the types of the function's parameters may follow it
unfoldable pub result_type : Form WrittenType
result_type = look (λ i. i.wide) result_by

-- ---- a second mention of a type

-- the next token begins a type, as a token of this kind does
abbrev pub sees_type : Kind → Form (Unit {0})
sees_type wanted = checked (λ i. sees wanted i.cursor) (unread begins_unread_type)

-- an integer of n bits again
unfoldable pub integer_again : ℕ → Form (Unit {0})
integer_again bits = sees_type k.IntegerType >> has_bits >> checked (λ i. bits_at i == bits) unexpected >> skip

-- the next token's name is the one with this number
unfoldable pub is_named : ℕ → Input → Bool
is_named wanted i = is_at wanted (place_of (spelled i.cursor) i.struct_names.names)

-- the name of a struct again
unfoldable pub name_again : ℕ → Form (Unit {0})
name_again wanted = sees_type k.LocalName >> checked (is_named wanted) unexpected >> skip

-- two types of floating point numbers are one
abbrev pub is_same_float : FloatType → FloatType → Bool
is_same_float size.Single size.Single = true
is_same_float size.Double size.Double = true
is_same_float _ _ = false

-- `float` or `double` again, by what is here
abbrev pub float_again_by : FloatType → Option FloatType → Form (Unit {0})
float_again_by wanted None = refuse (unread begins_unread_type)
float_again_by wanted (Some t) = checked (λ _. is_same_float wanted t) (λ i. Unexpected (start i.cursor)) >> skip

-- `float` or `double` again
unfoldable pub float_again : FloatType → Form (Unit {0})
float_again wanted = look float_here (float_again_by wanted)

-- the length of an array again
unfoldable pub length_again : ℕ → Form (Unit {0})
length_again wanted = sees_a k.Number >> has_length >> checked (λ i. is_at wanted (length_at i)) unexpected >> skip

-- the array type of this length and part once more
abbrev pub array_again : (ℕ → Form (Unit {0})) → ℕ → ℕ → Form (Unit {0})
array_again inner n part = do
  sees_type k.OpenSquare
  skip
  length_again n
  expect k.X
  inner part
  expect k.CloseSquare

-- the type of this number
abbrev pub type_at : ℕ → Input → Option IrType
type_at id i = slice_get i.types id

-- another field once more, or the end of the struct type
abbrev pub field_or : (ℕ → ℕ → Form (Unit {0})) → Option IrType → Form (Unit {0})
field_or next (Some (type.Struct first rest)) = expect k.Comma >> next first rest
field_or next _ = expect k.CloseBrace

-- at most n fields of this struct again, after others
unfoldable pub fields_again : (ℕ → Form (Unit {0})) → ℕ → ℕ → Form (Unit {0})
fields_again inner zero id = refuse unexpected
fields_again inner (suc most) id = look (type_at id) (field_or (λ first rest. inner first >> fields_again inner most rest))

-- each field has a token before it
abbrev pub all_fields_again : (ℕ → Form (Unit {0})) → ℕ → Form (Unit {0})
all_fields_again inner id = look left (λ most. fields_again inner (suc most) id)

-- this type once more, its parts by the inner form
abbrev pub again_by : (ℕ → Form (Unit {0})) → Option IrType → Form (Unit {0})
again_by inner (Some (type.Integer bits)) = integer_again bits
again_by inner (Some type.Float) = float_again size.Single
again_by inner (Some type.Double) = float_again size.Double
again_by inner (Some (type.Named wanted)) = name_again wanted
again_by inner (Some (type.Pointer part)) = inner part >> expect k.Star
again_by inner (Some type.Opaque) = sees_type k.Ptr >> skip
again_by inner (Some (type.Array n part)) = array_again inner n part
again_by inner (Some type.EmptyStruct) = sees_type k.OpenBrace >> skip >> expect k.CloseBrace
again_by inner (Some (type.Struct first rest)) = sees_type k.OpenBrace >> skip >> inner first >> all_fields_again inner rest
again_by inner _ = refuse unexpected

-- the type of this number once more
abbrev pub again_over : (ℕ → Form (Unit {0})) → ℕ → Form (Unit {0})
again_over inner id = look (type_at id) (again_by inner)

-- the type with this place again, which has at most n levels
unfoldable pub again_within : ℕ → ℕ → Form (Unit {0})
again_within zero id = refuse unexpected
again_within (suc room) id = again_over (again_within room) id >> no_parameters

-- the same type again: no form goes on at the first token that differs
unfoldable pub again : WrittenType → Form (Unit {0})
again w = again_within 64 w.id

-- a star, with room for this number of further levels
abbrev pub further_star : ℕ → Form (Unit {0})
further_star room = sees_a k.Star >> checked (λ _. nat_lt 0 room) limit >> skip

-- the same type again with a star: the place of the pointer type
abbrev pub starred_again : WrittenType → Form ℕ
starred_again w = look (λ i. start i.cursor) (λ start. again w >> further_star w.room >> intern_pointer start (type.Pointer w.id))

-- one form at `ptr`, the other elsewhere
abbrev pub opaque_or : {A : Type 0} → Form A → Form A → Bool → Form A
opaque_or opaque typed true = opaque
opaque_or opaque typed false = typed

-- a pointer to a type that is written before it, `ptr` or the same type again with a star: the place of its type
unfoldable pub pointer_again : WrittenType → Form ℕ
pointer_again w = look (λ i. sees k.Ptr i.cursor) (opaque_or opaque_type (starred_again w))

-- ---- types take a token

pub type_takes : (room : ℕ) → Takes (type_within room)
unfolding type_within
type_takes room = (firm (suc room)).takes

type_that_takes : (may_stand : WrittenType → Bool) (room : ℕ) → Takes (type_that may_stand room)
type_that_takes may_stand room = look_takes (λ i. left_out i.cursor) (λ fault. type_within room >>= λ w. then_allowed may_stand w fault)
    (λ fault i a o e h. first_takes (type_within room) (λ w. then_allowed may_stand w fault) (type_takes room) i a o h)

pub any_type_takes : Takes any_type
unfolding any_type
any_type_takes = type_takes 63

pub scalar_within_takes : (room : ℕ) → Takes (scalar_within room)
unfolding scalar_within
scalar_within_takes room = type_that_takes is_scalar room

pub scalar_takes : Takes scalar
unfolding scalar
scalar_takes = scalar_within_takes 63

pub passed_type_takes : Takes passed_type
unfolding passed_type
passed_type_takes = type_that_takes is_passed 63
