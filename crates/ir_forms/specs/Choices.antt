-- Values that are one of several: select and phi.
use Rattle.std.specs.Prelude.{ℕ, Bool, true, false, not, ◌&&◌, List}
use Rattle.grammar.specs.Grammar.{pure, refuse, look, ◌>>=◌, ◌>>◌}
use Rattle.grammar.specs.Many.{many}
use Rattle.grammar.specs.Takes.{Takes, TakesWhere, first_takes, second_takes, look_takes}
use Rattle.ir_tokens.specs.declared.token.Kind.{Kind}
use Rattle.ir_tokens.specs.declared.token.Kind.TheVariants as k
use Rattle.ir_ast.specs.declared.choices.Choice.{Choice}
use Rattle.ir_ast.specs.declared.choices.Incoming.{Incoming}
use Rattle.ir_ast.specs.declared.choices.Phi.{Phi}
use Rattle.ir_forms.specs.declared.input.Input.{Input}
use Rattle.ir_forms.specs.Cursor.{kind, kind_after, kind_third, same_kind}
use Rattle.ir_forms.specs.Input.{Form, unexpected, skip, expect, expect_takes, IsKind}
use Rattle.ir_forms.specs.Names.{incoming_label, set_type, new_value, new_value_takes, numbered_value, numbered_value_takes}
use Rattle.ir_forms.specs.Written.{scalar, again, word_of}
use Rattle.ir_forms.specs.Operand.{operand}
use Rattle.ir_forms.specs.Numbers.{condition}
use Rattle.ir_forms.specs.declared.choices.Entries.{Entries}
use Rattle.ir_forms.specs.declared.numbers.TwoOperands.{TwoOperands}
use Rattle.ir_forms.specs.declared.written.Word.{Word}
use Rattle.ir_forms.specs.declared.decorating.Trail.TheVariants as trail
use Rattle.ir_forms.specs.Records.{instruction_end}
use Rattle.ir_forms.specs.Lists.{at_no_comma}
use Rattle.ir_forms.specs.ManyWith.{many_with}

-- ---- select

-- `T V, T W`
unfoldable pub typed_pair : Form TwoOperands
typed_pair = do
  w ← scalar
  x ← operand (word_of w)
  expect k.Comma
  again w
  y ← operand (word_of w)
  pure (record { written = w.id; first = x; second = y })

-- `select i1 V, T V, T W`
unfoldable pub select : ℕ → Form Choice
select value = do
  skip
  x ← condition
  expect k.Comma
  p ← typed_pair
  set_type value p.written
  pure (record { condition_type = x.written; condition = x.operand; written = p.written; chosen = p.first; other = p.second })

-- ---- the entries of a phi

-- after the first entry a comma is before each
unfoldable pub separated : Bool → Form (Unit {0})
separated true = expect k.Comma
separated false = pure tt

-- an entry of a phi after its bracket
abbrev pub incoming_after : Word → Form Incoming
incoming_after w = do
  x ← operand w
  expect k.Comma
  b ← incoming_label
  expect k.CloseSquare
  pure (record { operand = x; from = b })

-- `[ V, %b ]`
unfoldable pub incoming : Word → Form Incoming
incoming w = expect k.OpenSquare >> incoming_after w

incoming_takes : (w : Word) → Takes (incoming w)
unfolding incoming
incoming_takes w = first_takes (expect k.OpenSquare) (λ _. incoming_after w) (expect_takes k.OpenSquare (λ x. cc))

-- an entry, the first or a further one
unfoldable pub entry : Entries → Form Incoming
entry e = separated e.is_further >> incoming e.word

pub entry_takes : (e : Entries) → Takes (entry e)
unfolding entry
entry_takes e = second_takes (separated e.is_further) (λ _. incoming e.word) (λ _. incoming_takes e.word)

-- the list of entries ends here
abbrev pub ends_entries : Entries → Input → Bool
ends_entries e i = e.is_further && at_no_comma i

-- the list of entries has one now
abbrev pub after_entry : Entries → Incoming → Entries
after_entry e x = record e { is_further = true }

-- the entries of a phi, of which there is one at least
unfoldable pub all_entries : Word → Form (List Incoming)
all_entries w = many_with ends_entries entry entry_takes after_entry (record { word = w; is_further = false })

-- ---- phi

-- a local name or its number
abbrev pub is_local : Kind → Bool
is_local k.LocalName = true
is_local k.LocalNumber = true
is_local _ = false

-- `%v = phi` begins here
abbrev pub begins_phi : Input → Bool
begins_phi i = is_local (kind i.cursor) && (same_kind (kind_after i.cursor) k.Equals && same_kind (kind_third i.cursor) k.Phi)

-- no further phi is here
abbrev pub at_no_phi : Input → Bool
at_no_phi i = not (begins_phi i)

-- the value of a phi, by the token of its name
abbrev pub phi_value_by : Kind → Form ℕ
phi_value_by k.LocalName = new_value
phi_value_by k.LocalNumber = numbered_value
phi_value_by _ = refuse unexpected

-- the name of the value of a phi
unfoldable pub phi_value : Form ℕ
phi_value = look (λ i. kind i.cursor) phi_value_by

-- `= phi T [ V, %b ], [ W, %c ]`
abbrev pub phi_after : ℕ → Form Phi
phi_after value = do
  expect k.Equals
  expect k.Phi
  w ← scalar
  xs ← all_entries (word_of w)
  set_type value w.id
  instruction_end trail.Other
  pure (record { value = value; written = w.id; incoming = xs })

-- `%v = phi T [ V, %b ], [ W, %c ]`
unfoldable pub phi : Form Phi
phi = phi_value >>= phi_after

phi_value_takes_by : (x : Kind) → TakesWhere (IsKind x) (phi_value_by x)
phi_value_takes_by k.LocalName = new_value_takes
phi_value_takes_by k.LocalNumber = numbered_value_takes
phi_value_takes_by _ = λ i a o e h. absurd h

phi_value_takes : Takes phi_value
unfolding phi_value
phi_value_takes = look_takes (λ i. kind i.cursor) phi_value_by phi_value_takes_by

pub phi_takes : Takes phi
unfolding phi
phi_takes = first_takes phi_value phi_after phi_value_takes

-- the phis of a block
unfoldable pub phis : Form (List Phi)
phis = many at_no_phi phi phi_takes
