-- Calls of intrinsics that are left out, in the place of which another value stands where the wide forms may.
use Rattle.std.specs.Prelude.{ℕ, Bool, true, ◌&&◌, if◌then◌else◌, List, codes}
use Rattle.grammar.specs.Grammar.{pure, ◌>>=◌, ◌>>◌}
use Rattle.ir_tokens.specs.declared.token.Kind.TheVariants as k
use Rattle.ir_ast.specs.declared.casts.Cast.{Cast}
use Rattle.ir_ast.specs.declared.operand.Constant.TheVariants as constant
use Rattle.ir_ast.specs.declared.operand.Operand.TheVariants as operand
use Rattle.ir_forms.specs.Cursor.{name, sees}
use Rattle.ir_forms.specs.Intrinsics.{begins_with, is_left_out}
use Rattle.ir_forms.specs.declared.input.Input.{Input}
use Rattle.ir_forms.specs.declared.stand_ins.StandIn.{StandIn}
use Rattle.ir_forms.specs.declared.stand_ins.StandIn.TheVariants.{Itself, First, Null}
use Rattle.ir_forms.specs.Decorations.{decorations, past_brackets}
use Rattle.ir_forms.specs.Input.{Form, skip, expect}
use Rattle.ir_forms.specs.Lists.{argument}
use Rattle.ir_forms.specs.Names.{set_type}
use Rattle.ir_forms.specs.declared.decorating.Spot.TheVariants as spot

-- what stands in the place of a call of the intrinsic with this name, which is left out
abbrev pub stand_in_of : List ℕ → StandIn
stand_in_of name =
    if begins_with (codes "llvm.expect.") name then First
    else (if begins_with (codes "llvm.invariant.start") name then Null else Itself)

-- the same by whether it is left out
abbrev pub stand_in_by : (left_out : Bool) → List ℕ → StandIn
stand_in_by left_out name = if left_out then stand_in_of name else Itself

-- what stands in the place of the call of the function that is named here
abbrev pub stand_in : Input → StandIn
stand_in i = if i.wide && sees k.GlobalName i.cursor then stand_in_by (is_left_out true (name i.cursor)) (name i.cursor) else Itself

-- `@f(T V, ..)`: its first argument under another name
unfoldable pub first_of : ℕ → Form Cast
first_of value = do
  skip
  expect k.OpenRound
  x ← argument
  past_brackets
  decorations spot.Call
  set_type value x.written
  pure (record { from = x.written; operand = x.operand; to = x.written })

-- `@f(..)` after the type of its result: null of that type
unfoldable pub null_of : (value written : ℕ) → Form Cast
null_of value written = do
  skip
  expect k.OpenRound
  past_brackets
  decorations spot.Call
  set_type value written
  pure (record { from = written; operand = operand.Constant constant.Null; to = written })
