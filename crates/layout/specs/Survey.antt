-- What is known of the types of a table while their scalar fields are collected.
use Rattle.std.specs.Prelude.{◌≡◌, ◌<◌, ◌≤◌, ◌+◌, ◌*◌, ◌==◌, nat_lt, if◌then◌else◌, ℕ, suc, Bool, true, false, List, [], ◌∷◌, ◌++◌, length, Option, Some, None, slice_get, slice_set, unwrap_or, take, drop, min, map, position, is_none}
use Rattle.std.specs.List.{list_any}
use Rattle.ir_ast.specs.declared.items_of_module.StructType.{StructType}
use Rattle.pools.specs.declared.word_kind.WordKind.{WordKind}
use Rattle.pools.specs.declared.word_kind.WordKind.TheVariants as kind
use Rattle.layout.specs.declared.fault.LayoutFault.{LayoutFault}
use Rattle.layout.specs.declared.fault.LayoutFault.TheVariants.{ShapesWanted, HoldsItself, TooManyWords, NoSuchLayout}
use Rattle.ir_ast.specs.declared.module.Module.{Module}
use Rattle.ir_ast.specs.declared.ir_type.IrType.{IrType}
use Rattle.ir_ast.specs.declared.ir_type.IrType.TheVariants.{Array, EmptyStruct, Struct, Named}
use Rattle.ir_ast.specs.Shapes.{shape_at}
use Rattle.layout.specs.Words.{Scalars, is_scalar, copies, shaped_word, shapes_of, some_nowhere}
use Rattle.layout.specs.Layouts.{IsPart, Holds, wants_shapes}
use Rattle.layout.specs.declared.survey.SizeMark.{SizeMark}
use Rattle.layout.specs.declared.survey.SizeMark.TheVariants.{New, Open, Endless, Large, Known}
use Rattle.layout.specs.declared.survey.Span.{Span}
use Rattle.layout.specs.declared.survey.SizeTurn.{SizeTurn}
use Rattle.types.specs.Elements.{body_named}
use Rattle.layout.specs.declared.survey.SizeTurn.TheVariants.{Wait, Done, Alone, Join, Repeat}

-- what is known of a type: outside of the table there is no end
abbrev pub mark_at : List SizeMark → (written : ℕ) → SizeMark
mark_at marks written = unwrap_or (slice_get marks written) Endless

-- the scalar fields at a span
abbrev pub fields_at : List ℕ → Span → List ℕ
fields_at fields span = take span.count (drop span.start fields)

-- a span lies within the fields, and is no longer than a cell
pub record IsWithin (fields : List ℕ) (span : Span) : Type 0 where
  pub inside : span.start + span.count ≤ length fields
  pub few : span.count ≤ 64

-- a type has more than 64 scalar fields
pub record IsLarge (m : Module) (written : ℕ) : Type 0 where
  pub fields : List ℕ
  pub scalars : Scalars m written fields
  pub many : 64 < length fields

-- a type has no list of scalar fields
abbrev pub IsEndless : Module → (written : ℕ) → Type 0
IsEndless m written = (fields : List ℕ) → Scalars m written fields → ⊥

-- what is known of a type is so
abbrev pub MarkFits : Module → (fields : List ℕ) → (written : ℕ) → SizeMark → Type 0
MarkFits m fields written New = Unit {0}
MarkFits m fields written Open = Unit {0}
MarkFits m fields written Endless = IsEndless m written
MarkFits m fields written Large = IsLarge m written
MarkFits m fields written (Known span) = IsWithin fields span × Scalars m written (fields_at fields span)

-- what is known is so, and each open type holds this one
pub record IsReady (m : Module) (marks : List SizeMark) (fields : List ℕ) (top : ℕ) : Type 0 where
  pub fits : (written : ℕ) → MarkFits m fields written (mark_at marks written)
  pub holds : (written : ℕ) → mark_at marks written ≡ Open → Holds m written top

-- what is known is so, and each open type waits on the stack for the part above it
pub record IsSurvey (m : Module) (marks : List SizeMark) (fields stack : List ℕ) : Type 0 where
  pub one_each : length marks ≡ length m.types
  pub fits : (written : ℕ) → MarkFits m fields written (mark_at marks written)
  pub open_in : (written : ℕ) → mark_at marks written ≡ Open → (i : ℕ) × (slice_get stack i ≡ Some written)
  pub chain : (i lower upper : ℕ) → slice_get stack i ≡ Some lower → slice_get stack (suc i) ≡ Some upper → IsPart m lower upper

-- a turn at a type is right
abbrev pub TurnFits : Module → List SizeMark → (fields : List ℕ) → (written : ℕ) → SizeTurn → Type 0
TurnFits m marks fields written (Wait part) = IsPart m written part × (mark_at marks part ≡ New)
TurnFits m marks fields written (Done New) = ⊥
TurnFits m marks fields written (Done Open) = ⊥
TurnFits m marks fields written (Done mark) = MarkFits m fields written mark
TurnFits m marks fields written Alone = is_scalar m (slice_get m.types written) ≡ true
TurnFits m marks fields written (Join one other) = IsWithin fields one × IsWithin fields other × (one.count + other.count ≤ 64) × Scalars m written (fields_at fields one ++ fields_at fields other)
TurnFits m marks fields written (Repeat times span) = IsWithin fields span × (times * span.count ≤ 64) × Scalars m written (copies times (fields_at fields span))

-- the turn at a name, by what is known of its body
abbrev pub name_turn : (body : ℕ) → SizeMark → SizeTurn
name_turn body New = Wait body
name_turn body Open = Done Endless
name_turn body Endless = Done Endless
name_turn body Large = Done Large
name_turn body (Known span) = Done (Known span)

-- no field
abbrev pub no_fields : Span
no_fields = record { start = 0; count = 0 }

-- the turn at an array whose elements have these fields
abbrev pub repeat_turn : (length : ℕ) → Span → SizeTurn
repeat_turn length span =
    if nat_lt 64 (length * span.count) then Done Large else if length * span.count == 0 then Done (Known no_fields) else if length == 1 then Done (Known span) else Repeat length span

-- the turn at an array, by what is known of its elements' type
abbrev pub array_turn : (length part : ℕ) → SizeMark → SizeTurn
array_turn length part New = Wait part
array_turn length part Open = Done Endless
array_turn length part Endless = Done Endless
array_turn length part Large = if length == 0 then Done (Known no_fields) else Done Large
array_turn length part (Known span) = repeat_turn length span

-- the turn at a struct whose parts have these fields
abbrev pub join_turn : (one other : Span) → SizeTurn
join_turn one other =
    if nat_lt 64 (one.count + other.count) then Done Large else if other.count == 0 then Done (Known one) else if one.count == 0 then Done (Known other) else Join one other

-- the turn at a struct with a large first field, by what is known of the others
abbrev pub large_turn : (rest : ℕ) → SizeMark → SizeTurn
large_turn rest New = Wait rest
large_turn rest Open = Done Endless
large_turn rest Endless = Done Endless
large_turn rest Large = Done Large
large_turn rest (Known span) = Done Large

-- the turn at a struct whose first field has these fields, by what is known of the others
abbrev pub known_turn : Span → (rest : ℕ) → SizeMark → SizeTurn
known_turn one rest New = Wait rest
known_turn one rest Open = Done Endless
known_turn one rest Endless = Done Endless
known_turn one rest Large = Done Large
known_turn one rest (Known other) = join_turn one other

-- the turn at a struct, by what is known of its first field and of the others
abbrev pub struct_turn : (first rest : ℕ) → (of_first of_rest : SizeMark) → SizeTurn
struct_turn first rest New of_rest = Wait first
struct_turn first rest Open of_rest = Done Endless
struct_turn first rest Endless of_rest = Done Endless
struct_turn first rest Large of_rest = large_turn rest of_rest
struct_turn first rest (Known one) of_rest = known_turn one rest of_rest

-- the turn at a name, by its body
abbrev pub body_turn : List SizeMark → Option ℕ → SizeTurn
body_turn marks None = Alone
body_turn marks (Some body) = name_turn body (mark_at marks body)

-- the turn at a type
abbrev pub turn_at : Module → List SizeMark → Option IrType → SizeTurn
turn_at m marks None = Done Endless
turn_at m marks (Some (Array length part)) = array_turn length part (mark_at marks part)
turn_at m marks (Some EmptyStruct) = Done (Known no_fields)
turn_at m marks (Some (Struct first rest)) = struct_turn first rest (mark_at marks first) (mark_at marks rest)
turn_at m marks (Some (Named name)) = body_turn marks (body_named m name)
turn_at m marks _ = Alone

-- whether nothing is known of a type so far
abbrev pub is_new : SizeMark → Bool
is_new New = true
is_new _ = false

-- of how many types nothing is known
abbrev pub new_count : List SizeMark → ℕ
new_count [] = 0
new_count (mark ∷ marks) = (if is_new mark then 1 else 0) + new_count marks

-- how many turns are left at most
abbrev pub turns_left : List SizeMark → (stack : List ℕ) → ℕ
turns_left marks stack = 2 * new_count marks + length stack

-- a turn at the type on top of the stack makes progress: what is known stays so, and fewer turns are left
pub record IsAdvance (m : Module) (marks : List SizeMark) (fields stack : List ℕ) (later_marks : List SizeMark) (later_fields later_stack : List ℕ) : Type 0 where
  pub survey : IsSurvey m later_marks later_fields later_stack
  pub fewer : turns_left later_marks later_stack < turns_left marks stack
  pub kept : (written : ℕ) → is_new (mark_at marks written) ≡ false → is_new (mark_at later_marks written) ≡ false

-- what is known of a type after its turn, where these fields are there
abbrev pub mark_after : SizeTurn → (fields : List ℕ) → SizeMark
mark_after (Wait part) fields = Open
mark_after (Done mark) fields = mark
mark_after Alone fields = Known (record { start = length fields; count = 1 })
mark_after (Join one other) fields = Known (record { start = length fields; count = one.count + other.count })
mark_after (Repeat times span) fields = Known (record { start = length fields; count = times * span.count })

-- what is known after a turn at the type on top of the stack
abbrev pub marks_after : SizeTurn → List SizeMark → (fields : List ℕ) → (top : ℕ) → List SizeMark
marks_after (Wait part) marks fields top = slice_set marks part Open
marks_after turn marks fields top = slice_set marks top (mark_after turn fields)

-- the fields after a turn
abbrev pub fields_after : SizeTurn → (fields : List ℕ) → (top : ℕ) → List ℕ
fields_after (Wait part) fields top = fields
fields_after (Done mark) fields top = fields
fields_after Alone fields top = fields ++ top ∷ []
fields_after (Join one other) fields top = fields ++ (fields_at fields one ++ fields_at fields other)
fields_after (Repeat times span) fields top = fields ++ copies times (fields_at fields span)

-- the stack after a turn at the type that was on top of these
abbrev pub stack_after : SizeTurn → (stack : List ℕ) → (top : ℕ) → List ℕ
stack_after (Wait part) stack top = (stack ++ top ∷ []) ++ part ∷ []
stack_after turn stack top = stack

-- the spans that a turn takes fields from lie within them
abbrev pub SpansFit : (fields : List ℕ) → SizeTurn → Type 0
SpansFit fields (Join one other) = IsWithin fields one × IsWithin fields other
SpansFit fields (Repeat times span) = IsWithin fields span × (times * span.count ≤ 64)
SpansFit fields _ = Unit {0}

-- a type is being settled: what is known so far is so, what was known stays so, and the type has been met
pub record IsSettling (m : Module) (marks : List SizeMark) (first : ℕ) (later_marks : List SizeMark) (later_fields later_stack : List ℕ) : Type 0 where
  pub survey : IsSurvey m later_marks later_fields later_stack
  pub kept : (written : ℕ) → is_new (mark_at marks written) ≡ false → is_new (mark_at later_marks written) ≡ false
  pub met : is_new (mark_at later_marks first) ≡ false

-- each type is settled
pub record IsSettled (m : Module) (marks : List SizeMark) (fields : List ℕ) : Type 0 where
  pub survey : IsSurvey m marks fields []
  pub met : (written : ℕ) → is_new (mark_at marks written) ≡ false

-- whether a type has no end
abbrev pub is_endless : SizeMark → Bool
is_endless Endless = true
is_endless _ = false

-- whether a type has more than 64 scalar fields
abbrev pub is_large : SizeMark → Bool
is_large Large = true
is_large _ = false

-- where the fields of a type are
abbrev pub span_of : SizeMark → Span
span_of (Known span) = span
span_of _ = no_fields

-- how many words a type has, where it has at most 64
abbrev pub size_in : SizeMark → Option ℕ
size_in (Known span) = Some (min span.count 64)
size_in _ = None

-- a struct has no end
abbrev pub struct_is_endless : List SizeMark → StructType → Bool
struct_is_endless marks struct = is_endless (mark_at marks struct.body)

-- a struct has more than 64 words
abbrev pub struct_is_large : List SizeMark → StructType → Bool
struct_is_large marks struct = is_large (mark_at marks struct.body)

-- the scalar fields of a struct
abbrev pub struct_fields : List SizeMark → (fields : List ℕ) → StructType → List ℕ
struct_fields marks fields struct = fields_at fields (span_of (mark_at marks struct.body))

-- a scalar field of a struct is no word
abbrev pub points_nowhere : Module → List SizeMark → (fields : List ℕ) → StructType → Bool
points_nowhere m marks fields struct = some_nowhere m (shapes_of m struct) 0 (struct_fields marks fields struct)

-- what a field holds, where it is a word
abbrev pub known_word : Module → (shape : Option ℕ) → (field : ℕ) → WordKind
known_word m shape field = unwrap_or (shaped_word m shape field) (kind.Integer 64)

-- what some fields hold, the first of which has this place among the shapes
abbrev pub known_words : Module → (shapes : List (Option ℕ)) → (place : ℕ) → (fields : List ℕ) → List WordKind
known_words m shapes place [] = []
known_words m shapes place (field ∷ fields) = known_word m (shape_at shapes place) field ∷ known_words m shapes (suc place) fields

-- the words of a struct, where each of its fields is one
abbrev pub words_of : Module → List SizeMark → (fields : List ℕ) → StructType → List WordKind
words_of m marks fields struct = known_words m (shapes_of m struct) 0 (struct_fields marks fields struct)

-- the first fault by the first struct of each kind
abbrev pub fault_by : (endless large nowhere : Option ℕ) → Option LayoutFault
fault_by (Some struct) large nowhere = Some (HoldsItself struct)
fault_by None (Some struct) nowhere = Some (TooManyWords struct)
fault_by None None (Some struct) = Some (NoSuchLayout struct)
fault_by None None None = None

-- the first fault in the layouts, by what was found of each struct
abbrev pub first_fault : Module → List SizeMark → (fields : List ℕ) → Option LayoutFault
first_fault m marks fields =
    if wants_shapes m then Some ShapesWanted
    else fault_by (position (struct_is_endless marks) m.structs) (position (struct_is_large marks) m.structs) (position (points_nowhere m marks fields) m.structs)
