-- What is outside of the module: what of it is lost, and the constant expressions that are addresses there.
use Rattle.std.specs.Prelude.{◌≤◌, ℕ, zero, suc, Bool, ◌&&◌, Option, Some, None}
use Rattle.std.proofs.Common.{arith}
use Rattle.grammar.specs.Grammar.{pure, step, checked, look, ◌>>=◌, ◌>>◌}
use Rattle.ir_tokens.specs.declared.token.Kind.{Kind}
use Rattle.ir_tokens.specs.declared.token.Kind.TheVariants as k
use Rattle.ir_forms.specs.declared.fault.Fault.{Fault}
use Rattle.ir_forms.specs.declared.input.Input.{Input}
use Rattle.ir_forms.specs.Cursor.{kind, sees, spelled, left_out}
use Rattle.ir_forms.specs.Input.{Form, left, skip, expect}
use Rattle.ir_forms.specs.Names.{is_outside, sort_of_symbol, used_global}
use Rattle.ir_forms.specs.Written.{any_type}
use Rattle.ir_forms.specs.Decorations.{flagged_word, past_brackets}

-- ---- what is lost

-- the first of two losses, the one that was found before going before
abbrev pub first_lost : Option Fault → Fault → Option Fault
first_lost None lost = Some lost
first_lost (Some before) lost = Some before

-- the form that begins here is lost, unless something was before
abbrev pub with_lost_here : Input → Input
with_lost_here i = record i { lost = first_lost i.lost (left_out i.cursor) }

pub with_lost_here_falls : (i : Input) → left (with_lost_here i) ≤ left i
unfolding left
with_lost_here_falls i = omega arith

-- the form that begins here is lost; no token is read
unfoldable pub lost_here : Form (Unit {0})
lost_here = step (λ _. tt) with_lost_here with_lost_here_falls

-- ---- addresses outside

-- the name of something outside is here
abbrev pub names_outside : Input → Bool
names_outside i = sees k.GlobalName i.cursor && is_outside (sort_of_symbol i) (spelled i.cursor)

-- the name of something outside, which is used as an operand
unfoldable pub outside_name : Form ℕ
outside_name = checked names_outside (λ i. left_out i.cursor) >> used_global

-- `getelementptr (T,`
unfoldable pub element_begin : Form (Unit {0})
element_begin = flagged_word >> expect k.OpenRound >> any_type >> expect k.Comma

-- `bitcast (`
unfoldable pub cast_begin : Form (Unit {0})
cast_begin = skip >> expect k.OpenRound

-- `T* D, ..)`: an address with its type, and what comes after it in its brackets
abbrev pub about : Form ℕ → Form ℕ
about inner = do
  any_type
  symbol ← inner
  past_brackets
  pure symbol

-- the begin of a constant expression, or the name of something outside
abbrev pub outside_begin_by : Kind → Form (Option ℕ)
outside_begin_by k.Getelementptr = element_begin >> pure None
outside_begin_by k.Bitcast = cast_begin >> pure None
outside_begin_by _ = outside_name >>= λ symbol. pure (Some symbol)

-- `getelementptr (T,` or `bitcast (`, before an address; or the name of something outside
unfoldable pub outside_begin : Form (Option ℕ)
outside_begin = look (λ i. kind i.cursor) outside_begin_by

-- that name, or the one in the address that follows
abbrev pub outside_rest : Form ℕ → Option ℕ → Form ℕ
outside_rest inner None = about inner
outside_rest inner (Some symbol) = pure symbol

-- the name of something outside, with at most n constant expressions about it
unfoldable pub outside : ℕ → Form ℕ
outside zero = outside_name
outside (suc n) = outside_begin >>= outside_rest (outside n)
