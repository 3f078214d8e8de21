-- How a block ends.
use Rattle.std.specs.Prelude.{Bool, true, false, not, List, []}
use Rattle.grammar.specs.Grammar.{pure, checked, refuse, look, ◌>>=◌, ◌>>◌}
use Rattle.grammar.specs.Takes.{Takes, TakesWhere, first_takes, first_takes_where, second_takes, look_takes}
use Rattle.ir_tokens.specs.declared.token.Kind.{Kind}
use Rattle.ir_tokens.specs.declared.token.Kind.TheVariants as k
use Rattle.ir_ast.specs.declared.operand.Constant.{Constant}
use Rattle.ir_ast.specs.declared.ends.Case.{Case}
use Rattle.ir_ast.specs.declared.ends.End.{End}
use Rattle.ir_ast.specs.declared.ends.End.TheVariants as end
use Rattle.ir_forms.specs.declared.fault.Fault.TheVariants.{DefinedTwice}
use Rattle.ir_forms.specs.declared.input.Input.{Input}
use Rattle.ir_forms.specs.declared.written.Word.{Word}
use Rattle.ir_forms.specs.declared.written.WrittenType.{WrittenType}
use Rattle.ir_forms.specs.Cursor.{kind, sees, start}
use Rattle.ir_forms.specs.Input.{Form, unexpected, skip, skip_takes, expect, expect_takes, IsKind}
use Rattle.ir_forms.specs.Names.{target}
use Rattle.ir_forms.specs.Written.{integer_scalar, again, word_of}
use Rattle.ir_forms.specs.Operand.{operand, constant}
use Rattle.ir_forms.specs.declared.ends.Cases.{Cases}
use Rattle.ir_forms.specs.declared.decorating.Trail.TheVariants as trail
use Rattle.ir_forms.specs.declared.case_values.CaseValue.{CaseValue}
use Rattle.ir_forms.specs.CaseValues.{value_of, is_among, with_value}
use Rattle.ir_forms.specs.Numbers.{condition}
use Rattle.ir_forms.specs.Lists.{typed}
use Rattle.ir_forms.specs.Decorations.{either, trailing}
use Rattle.ir_forms.specs.ManyWith.{many_with}

-- ---- br

-- `label %b`
abbrev pub jump : Form End
jump = target >>= λ b. pure (end.Jump b)

-- `br i1 V, label %a, label %b` after its word
unfoldable pub branch : Form End
branch = do
  x ← condition
  expect k.Comma
  taken ← target
  expect k.Comma
  other ← target
  pure (end.Branch x.written x.operand taken other)

-- what follows `br`: a jump, or a branch on a value
abbrev pub br_after : Form End
br_after = look (λ i. sees k.Label i.cursor) (either jump branch)

-- `br label %b`, or a branch
unfoldable pub br : Form End
br = skip >> br_after

-- ---- switch

-- the constant of a case, after cases of these values
unfoldable pub case_constant : Word → List CaseValue → Form Constant
case_constant word seen = look (λ i. start i.cursor) (λ place. constant word >>= λ x. checked (λ _. not (is_among (value_of x) seen)) (λ _. DefinedTwice place) >> pure x)

-- a case with this constant and the block that is read
abbrev pub case_target : Constant → Form Case
case_target x = target >>= λ b. pure (record { constant = x; target = b })

-- what follows the constant of a case
abbrev pub case_of : Constant → Form Case
case_of x = expect k.Comma >> case_target x

-- a case after its type: a constant that no case before it has, and the block
abbrev pub case_after : Cases → Form Case
case_after c = case_constant (word_of c.written) c.seen >>= case_of

-- `T c, label %b`
unfoldable pub case : Cases → Form Case
case c = again c.written >> case_after c

case_of_takes : (x : Constant) → Takes (case_of x)
case_of_takes x = first_takes (expect k.Comma) (λ _. case_target x) (expect_takes k.Comma (λ x. cc))

case_after_takes : (c : Cases) → Takes (case_after c)
case_after_takes c = second_takes (case_constant (word_of c.written) c.seen) case_of case_of_takes

pub case_takes : (c : Cases) → Takes (case c)
unfolding case
case_takes c = second_takes (again c.written) (λ _. case_after c) (λ _. case_after_takes c)

-- the list of cases ends here
abbrev pub at_square : Cases → Input → Bool
at_square c i = sees k.CloseSquare i.cursor

-- the list of cases with this one after it
abbrev pub after_case : Cases → Case → Cases
after_case c x = record c { seen = with_value (value_of x.constant) c.seen }

-- the cases of a switch of this type
unfoldable pub all_cases : WrittenType → Form (List Case)
all_cases w = many_with at_square case case_takes after_case (record { written = w; seen = [] })

-- `[ T c, label %b .. ]`
unfoldable pub bracketed_cases : WrittenType → Form (List Case)
bracketed_cases w = do
  expect k.OpenSquare
  xs ← all_cases w
  expect k.CloseSquare
  pure xs

-- what follows `switch`
abbrev pub switch_after : Form End
switch_after = do
  w ← integer_scalar
  x ← operand (word_of w)
  expect k.Comma
  otherwise ← target
  xs ← bracketed_cases w
  pure (end.Switch w.id x otherwise xs)

-- `switch T V, label %d [ T c, label %b .. ]`
unfoldable pub switch : Form End
switch = skip >> switch_after

-- ---- ret

-- `T V`
abbrev pub returned_value : Form End
returned_value = typed >>= λ x. pure (end.Return x)

-- what follows `ret`
abbrev pub ret_after : Form End
ret_after = look (λ i. sees k.Void i.cursor) (either (skip >> pure end.ReturnVoid) returned_value)

-- `ret void` or `ret T V`
unfoldable pub ret : Form End
ret = skip >> ret_after

-- ---- by the word

-- the instruction that ends a block, by the word with which it begins
abbrev pub terminator_by : Kind → Form End
terminator_by k.Ret = ret
terminator_by k.Br = br
terminator_by k.Switch = switch
terminator_by k.Unreachable = skip >> pure end.Unreachable
terminator_by _ = refuse unexpected

-- the instruction that ends a block
unfoldable pub terminator : Form End
terminator = look (λ i. kind i.cursor) terminator_by

ret_takes : TakesWhere (IsKind k.Ret) ret
unfolding ret
ret_takes = first_takes_where (IsKind k.Ret) skip (λ _. ret_after) (skip_takes k.Ret (λ x. cc))

br_takes : TakesWhere (IsKind k.Br) br
unfolding br
br_takes = first_takes_where (IsKind k.Br) skip (λ _. br_after) (skip_takes k.Br (λ x. cc))

switch_takes : TakesWhere (IsKind k.Switch) switch
unfolding switch
switch_takes = first_takes_where (IsKind k.Switch) skip (λ _. switch_after) (skip_takes k.Switch (λ x. cc))

terminator_takes_by : (x : Kind) → TakesWhere (IsKind x) (terminator_by x)
terminator_takes_by k.Ret = ret_takes
terminator_takes_by k.Br = br_takes
terminator_takes_by k.Switch = switch_takes
terminator_takes_by k.Unreachable = first_takes_where (IsKind k.Unreachable) skip (λ _. pure end.Unreachable) (skip_takes k.Unreachable (λ x. cc))
terminator_takes_by _ = λ i a o e h. absurd h

pub terminator_takes : Takes terminator
unfolding terminator
terminator_takes = look_takes (λ i. kind i.cursor) terminator_by terminator_takes_by

-- an instruction that begins with this token ends its block
abbrev pub ends_block : Kind → Bool
ends_block k.Ret = true
ends_block k.Br = true
ends_block k.Switch = true
ends_block k.Unreachable = true
ends_block _ = false

-- the end of a block with the decorations after it
abbrev pub with_trail : End → Form End
with_trail x = trailing trail.Other >> pure x

-- the end of a block, and the decorations after it
unfoldable pub block_end : Form End
block_end = terminator >>= with_trail

pub block_end_takes : Takes block_end
unfolding block_end
block_end_takes = first_takes terminator with_trail terminator_takes
