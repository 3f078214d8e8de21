-- The instructions of the body of a block.
use Rattle.std.specs.Prelude.{◌≢◌, ℕ, nat_lt, Bool, true, false, List}
use Rattle.grammar.specs.Grammar.{pure, checked, refuse, look, ◌>>=◌, ◌>>◌}
use Rattle.grammar.specs.Takes.{Takes, TakesWhere, first_takes_where, second_takes, look_takes}
use Rattle.ir_tokens.specs.declared.token.Kind.{Kind}
use Rattle.ir_tokens.specs.declared.token.Kind.TheVariants as k
use Rattle.ir_ast.specs.declared.op.Op.{Op}
use Rattle.ir_ast.specs.declared.op.Op.TheVariants as op
use Rattle.ir_ast.specs.declared.instr.Instr.{Instr}
use Rattle.ir_forms.specs.declared.input.Input.{Input}
use Rattle.ir_forms.specs.Cursor.{kind}
use Rattle.ir_forms.specs.Input.{Form, limit, unexpected, skip, expect, sees_a, IsKind, skip_takes}
use Rattle.ir_forms.specs.Names.{new_value, new_value_takes, numbered_value, numbered_value_takes}
use Rattle.ir_forms.specs.declared.site.Site.{Site}
use Rattle.ir_forms.specs.Ends.{ends_block}
use Rattle.ir_forms.specs.Calls.{call, tail_call, valued, unnamed, call_statement, call_statement_after, tail_call_statement, sees_call}
use Rattle.ir_forms.specs.Casts.{bitcast, freezes, freeze}
use Rattle.ir_forms.specs.Choices.{select}
use Rattle.ir_forms.specs.Elements.{element}
use Rattle.ir_forms.specs.ManyWith.{many_with}
use Rattle.ir_forms.specs.Memory.{alloca, load, store, stored_here}
use Rattle.ir_forms.specs.FloatOps.{number_op}
use Rattle.ir_forms.specs.Numbers.{compare, integer_op}
use Rattle.ir_forms.specs.Ops.{as_op}
use Rattle.ir_forms.specs.Sites.{first_of, afterwards}

-- an instruction that begins with a word that is left out where the wide forms may not stand
abbrev pub wide_op_by : ℕ → Bool → Form Op
wide_op_by value true = as_op op.Cast (freeze value)
wide_op_by value false = number_op value

-- the value under another name, or an operation on numbers
unfoldable pub wide_op : ℕ → Form Op
wide_op value = look freezes (wide_op_by value)

-- an instruction that gives a value, by the word with which it begins after `=`
abbrev pub named_op_by : Site → ℕ → Kind → Form Op
named_op_by site value k.Alloca = as_op op.Memory (alloca value)
named_op_by site value k.Bitcast = as_op op.Cast (bitcast value)
named_op_by site value k.Load = as_op op.Memory (load value)
named_op_by site value k.Getelementptr = as_op op.Element (element site value)
named_op_by site value k.Icmp = as_op op.Number (compare value)
named_op_by site value k.Select = as_op op.Choice (select value)
named_op_by site value k.Call = call value
named_op_by site value k.Tail = tail_call value
named_op_by site value k.Notail = tail_call value
named_op_by site value k.LeftOut = wide_op value
named_op_by site value _ = as_op op.Number (integer_op value)

-- what follows `%v =`
unfoldable pub named_op : Site → ℕ → Form Op
named_op site value = look (λ i. kind i.cursor) (named_op_by site value)

-- what follows the name of a result
abbrev pub named_after : Site → ℕ → Form Instr
named_after site value = do
  expect k.Equals
  x ← named_op site value
  valued value x

-- an instruction of a body, by the token with which it begins
abbrev pub instruction_by : Site → Kind → Form Instr
instruction_by site k.LocalName = new_value >>= named_after site
instruction_by site k.LocalNumber = numbered_value >>= named_after site
instruction_by site k.Call = call_statement
instruction_by site k.Tail = tail_call_statement
instruction_by site k.Notail = tail_call_statement
instruction_by site k.Store = as_op op.Memory store >>= unnamed
instruction_by site _ = refuse unexpected

-- an instruction of a body
unfoldable pub instruction : Site → Form Instr
instruction site = look (λ i. kind i.cursor) (instruction_by site)

-- an instruction's place in its body is a number of 32 bits
abbrev pub has_place : Site → Form (Unit {0})
has_place site = checked (λ _. nat_lt site.place 4294967295) limit

-- an instruction for which its body has room
abbrev pub placed : Site → Form Instr
placed site = has_place site >> instruction site

call_takes : TakesWhere (IsKind k.Call) call_statement
unfolding call_statement
call_takes = first_takes_where (IsKind k.Call) skip (λ _. call_statement_after) (skip_takes k.Call (λ x. cc))

store_takes : TakesWhere (IsKind k.Store) store
unfolding store
store_takes = first_takes_where (IsKind k.Store) skip (λ _. stored_here) (skip_takes k.Store (λ x. cc))

sees_call_takes : (word : Kind) → word ≢ k.End → TakesWhere (IsKind word) sees_call
sees_call_takes word ne = first_takes_where (IsKind word) skip (λ _. sees_a k.Call) (skip_takes word ne)

tail_call_takes : (word : Kind) → word ≢ k.End → TakesWhere (IsKind word) tail_call_statement
unfolding tail_call_statement
tail_call_takes word ne = first_takes_where (IsKind word) sees_call (λ _. call_statement) (sees_call_takes word ne)

instruction_takes_by : (site : Site) (x : Kind) → TakesWhere (IsKind x) (instruction_by site x)
instruction_takes_by site k.LocalName = first_takes_where (IsKind k.LocalName) new_value (named_after site) new_value_takes
instruction_takes_by site k.LocalNumber = first_takes_where (IsKind k.LocalNumber) numbered_value (named_after site) numbered_value_takes
instruction_takes_by site k.Call = call_takes
instruction_takes_by site k.Tail = tail_call_takes k.Tail (λ x. cc)
instruction_takes_by site k.Notail = tail_call_takes k.Notail (λ x. cc)
instruction_takes_by site k.Store = first_takes_where (IsKind k.Store) (as_op op.Memory store) unnamed (first_takes_where (IsKind k.Store) store (λ x. pure (op.Memory x)) store_takes)
instruction_takes_by site _ = λ i a o e h. absurd h

instruction_takes : (site : Site) → Takes (instruction site)
unfolding instruction
instruction_takes site = look_takes (λ i. kind i.cursor) (instruction_by site) (instruction_takes_by site)

pub placed_takes : (site : Site) → Takes (placed site)
placed_takes site = second_takes (has_place site) (λ _. instruction site) (λ _. instruction_takes site)

-- the instruction that ends the block begins here
abbrev pub at_terminator : Site → Input → Bool
at_terminator site i = ends_block (kind i.cursor)

-- the instructions of the body of the block with this number
unfoldable pub body : ℕ → Form (List Instr)
body block = many_with at_terminator placed placed_takes afterwards (first_of block)
