-- What stands between the instructions of a body and has no effect: debug records, and calls of intrinsics that are dropped.
use Rattle.std.specs.Prelude.{◌≡◌, Bool, true, false, not, ◌&&◌, ◌||◌, if◌then◌else◌}
use Rattle.grammar.specs.Grammar.{pure, look, ◌>>=◌, ◌>>◌}
use Rattle.grammar.specs.Takes.{Takes, TakesWhere, first_takes, second_takes, look_takes}
use Rattle.grammar.specs.Many.{many}
use Rattle.ir_tokens.specs.declared.token.Kind.{Kind}
use Rattle.ir_tokens.specs.declared.token.Kind.TheVariants as k
use Rattle.ir_ast.specs.declared.memory.MemoryOp.TheVariants as memory
use Rattle.ir_ast.specs.declared.op.Op.{Op}
use Rattle.ir_ast.specs.declared.op.Op.TheVariants as op
use Rattle.ir_forms.specs.Cursor.{kind, kind_after, kind_third, name_third, same_kind, sees, next}
use Rattle.ir_forms.specs.Place.{Place}
use Rattle.ir_forms.specs.Intrinsics.{is_dropped}
use Rattle.ir_forms.specs.declared.input.Input.{Input}
use Rattle.ir_forms.specs.Input.{Form, skip, expect, expect_takes}
use Rattle.ir_forms.specs.Decorations.{either, past_brackets, decorations, trailing}
use Rattle.ir_forms.specs.Lists.{separator}
use Rattle.ir_forms.specs.declared.decorating.Spot.TheVariants as spot
use Rattle.ir_forms.specs.declared.decorating.Trail.{Trail}
use Rattle.ir_forms.specs.declared.decorating.Trail.TheVariants as trail

-- ---- debug records

-- what follows the name of a debug record
abbrev pub record_after : Form (Unit {0})
record_after = expect k.OpenRound >> past_brackets

-- `#dbg_value(..)`
unfoldable pub debug_record : Form (Unit {0})
debug_record = expect k.DebugRecord >> record_after

pub debug_record_takes : Takes debug_record
unfolding debug_record
debug_record_takes = first_takes (expect k.DebugRecord) (λ _. record_after) (expect_takes k.DebugRecord (λ x. cc))

-- ---- calls that are dropped

-- a word that may stand before a call
abbrev pub is_tail : Kind → Bool
is_tail k.Tail = true
is_tail k.Notail = true
is_tail _ = false

-- `call void @f` comes next, of an intrinsic that has no effect
abbrev pub calls_dropped : Place → Bool
calls_dropped c = same_kind (kind c) k.Call && (same_kind (kind_after c) k.Void && (same_kind (kind_third c) k.GlobalName && is_dropped (name_third c)))

-- the same, with a word before it or without
abbrev pub drops_at : Place → Bool
drops_at c = if is_tail (kind c) then calls_dropped (next c) else calls_dropped c

-- a call that is dropped comes next, where the wide forms may stand
abbrev pub drops : Input → Bool
drops i = i.wide && drops_at i.cursor

-- what follows the name of a bundle
abbrev pub bundle_after : Form (Unit {0})
bundle_after = expect k.OpenRound >> past_brackets >> separator k.CloseSquare

-- `"name"(..)`, a bundle of operands
unfoldable pub bundle : Form (Unit {0})
bundle = expect k.Quoted >> bundle_after

pub bundle_takes : Takes bundle
unfolding bundle
bundle_takes = first_takes (expect k.Quoted) (λ _. bundle_after) (expect_takes k.Quoted (λ x. cc))

-- the bundles end here
abbrev pub at_square : Input → Bool
at_square i = sees k.CloseSquare i.cursor

-- `[ "name"(..), .. ]`
abbrev pub bundle_list : Form (Unit {0})
bundle_list = skip >> many at_square bundle bundle_takes >> expect k.CloseSquare

-- the bundles of a call, if there are any
unfoldable pub bundles : Form (Unit {0})
bundles = look (λ i. sees k.OpenSquare i.cursor) (either bundle_list (pure tt))

-- what follows the name of the intrinsic
abbrev pub dropped_arguments : Form (Unit {0})
dropped_arguments = do
  expect k.OpenRound
  past_brackets
  decorations spot.Call
  bundles
  trailing trail.Other

-- what follows `call`
abbrev pub dropped_after : Form (Unit {0})
dropped_after = expect k.Void >> expect k.GlobalName >> dropped_arguments

-- `call void @f(..)`
unfoldable pub dropped_call : Form (Unit {0})
dropped_call = expect k.Call >> dropped_after

dropped_call_takes : Takes dropped_call
unfolding dropped_call
dropped_call_takes = first_takes (expect k.Call) (λ _. dropped_after) (expect_takes k.Call (λ x. cc))

-- the same, with a word before it or without
abbrev pub dropped_by : Bool → Form (Unit {0})
dropped_by true = skip >> dropped_call
dropped_by false = dropped_call

-- a call that is dropped
unfoldable pub dropped : Form (Unit {0})
dropped = look (λ i. is_tail (kind i.cursor)) dropped_by

dropped_takes_by : (t : Bool) → TakesWhere (λ i. is_tail (kind i.cursor) ≡ t) (dropped_by t)
dropped_takes_by true i a o is h = second_takes skip (λ _. dropped_call) (λ _. dropped_call_takes) i a o h
dropped_takes_by false i a o is h = dropped_call_takes i a o h

pub dropped_takes : Takes dropped
unfolding dropped
dropped_takes = look_takes (λ i. is_tail (kind i.cursor)) dropped_by dropped_takes_by

-- ---- before an instruction

-- a call that is dropped, or a debug record
abbrev pub effectless_by : Bool → Form (Unit {0})
effectless_by true = dropped
effectless_by false = debug_record

-- what has no effect
unfoldable pub effectless : Form (Unit {0})
effectless = look drops effectless_by

effectless_takes_by : (t : Bool) → TakesWhere (λ i. drops i ≡ t) (effectless_by t)
effectless_takes_by true i a o is h = dropped_takes i a o h
effectless_takes_by false i a o is h = debug_record_takes i a o h

pub effectless_takes : Takes effectless
unfolding effectless
effectless_takes = look_takes drops effectless_by effectless_takes_by

-- something that has no effect begins here
abbrev pub begins_record : Input → Bool
begins_record i = sees k.DebugRecord i.cursor || drops i

-- nothing begins here that has no effect
abbrev pub at_no_record : Input → Bool
at_no_record i = not (begins_record i)

-- the debug records and dropped calls before an instruction
unfoldable pub debug_records : Form (Unit {0})
debug_records = many at_no_record effectless effectless_takes >> pure tt

-- ---- after an instruction

-- what may follow an instruction
abbrev pub trail_of : Op → Trail
trail_of (op.Memory (memory.Alloca held)) = trail.Slot
trail_of (op.Memory (memory.Buffer held count)) = trail.Slot
trail_of (op.Memory x) = trail.Memory
trail_of _ = trail.Other

-- the decorations after an instruction, and the debug records before the next one
unfoldable pub instruction_end : Trail → Form (Unit {0})
instruction_end t = trailing t >> debug_records

-- an instruction, with what comes before the next one
abbrev pub trailed : Op → Form Op
trailed x = instruction_end (trail_of x) >> pure x
