-- What a reader of modules reads from, and the steps that every form is made of.
use Rattle.std.specs.Prelude.{◌≡◌, ◌≢◌, ℕ, ◌<◌, ◌≤◌, Bool, true, false, List, [], ◌∷◌, length, None, Result, refl}
use Rattle.std.proofs.Common.{arith, sym, ◌∙◌, rules}
use Rattle.grammar.specs.Outcome as outcome
use Rattle.grammar.specs.Grammar.{Grammar, step, checked, ◌>>=◌, ◌>>◌}
use Rattle.grammar.specs.Takes.{Takes, TakesWhere, step_takes, checked_takes}
use Rattle.ir_tokens.specs.declared.token.Kind.{Kind}
use Rattle.ir_tokens.specs.declared.token.Kind.TheVariants as k
use Rattle.ir_tokens.specs.contracts.token.Kind.{the_type}
use Rattle.ir_tokens.specs.declared.token.Token.{Token}
use Rattle.ir_forms.specs.declared.fault.Fault.{Fault}
use Rattle.ir_forms.specs.declared.fault.Fault.TheVariants.{Memory, Limit}
use Rattle.ir_forms.specs.declared.input.Input.{Input}
use Rattle.ir_forms.specs.Place.{Place}
use Rattle.ir_forms.specs.Table.{empty}
use Rattle.ir_forms.specs.Cursor.{kind, kind_first, here, same_kind, sees, start, next, rest_of, refused}
use denote.Enum.Bare.{same_true}

-- how many tokens are left
unfoldable pub left : Input → ℕ
left i = length i.cursor.rest

-- what reading a part of a module's text gives
abbrev pub Outcome : Type 0 → Type 0
Outcome A = outcome.Outcome Input Fault A

-- a form of a module's text
abbrev pub Form : Type 0 → Type 1
Form A = Grammar Input Fault left A

-- What a function that reads ensures: the outcome, unless memory runs out.
abbrev pub Reads : {A : Type 0} → Outcome A → Result A Fault → Input → Type 0
Reads = outcome.Reads Memory

-- before the first token
abbrev pub start_of : Place → Input
start_of place = record {
  cursor = place;
  types = [];
  struct_names = empty;
  struct_uses = [];
  symbols = empty;
  symbol_uses = [];
  locals = empty;
  local_uses = [];
  values = 0;
  unnamed = 0;
  missing = None;
  structs = [];
  globals = [];
  declares = [];
  functions = [];
  wide = false;
  lost = None;
}

-- ---- faults at the next token

-- it passes a limit
abbrev pub limit : Input → Fault
limit i = Limit (start i.cursor)

-- no form goes on with it
abbrev pub unexpected : Input → Fault
unexpected i = refused false i.cursor

-- no form goes on with it, or one would that is not read yet, which this test of its kind tells
abbrev pub unread : (Kind → Bool) → Input → Fault
unread is_unread i = refused (is_unread (kind i.cursor)) i.cursor

-- ---- a token

-- after the next token
abbrev pub advanced : Input → Input
advanced i = record i { cursor = next i.cursor }

rest_falls : (ts : List Token) → length (rest_of ts) ≤ length ts
rest_falls [] = omega arith
rest_falls (t ∷ ts) = omega arith

rest_less : (wide : Bool) (ts : List Token) → kind_first (here wide ts) ≢ k.End → length (rest_of ts) < length ts
rest_less wide [] ne = absurd (ne refl)
rest_less wide (t ∷ ts) ne = omega arith

-- a step to the next token, whatever else it changes, never increases the number of tokens left
pub next_falls : (i : Input) → length (next i.cursor).rest ≤ left i
unfolding left next
next_falls i = rest_falls i.cursor.rest

-- and takes the token that is there
pub next_takes : (i : Input) → kind i.cursor ≢ k.End → length (next i.cursor).rest < left i
unfolding left next kind
next_takes i ne = rest_less i.cursor.wide i.cursor.rest ne

pub advanced_falls : (i : Input) → left (advanced i) ≤ left i
unfolding left
advanced_falls i = next_falls i

-- a token, whatever its kind
abbrev pub skip : Form (Unit {0})
skip = step (λ _. tt) advanced advanced_falls

-- the next token is of this kind
abbrev pub sees_a : Kind → Form (Unit {0})
sees_a wanted = checked (λ i. sees wanted i.cursor) unexpected

-- a token of this kind
abbrev pub expect : Kind → Form (Unit {0})
expect wanted = sees_a wanted >> skip

-- what the next token is, as a fact
abbrev pub IsKind : Kind → Input → Type 0
IsKind wanted i = kind i.cursor ≡ wanted

pub sees_is : (wanted : Kind) (i : Input) → sees wanted i.cursor ≡ true → IsKind wanted i
unfolding sees same_kind
sees_is wanted i e = same_true the_type (search rules) _ _ e

-- a step to the next token takes it
pub advance_takes : {A : Type 0} (wanted : Kind) → wanted ≢ k.End → (value : Input → A) (n : Input → Input) (falls : (i : Input) → left (n i) ≤ left i)
    → ((i : Input) → left (n i) ≡ length (next i.cursor).rest) → TakesWhere (IsKind wanted) (step {E = Fault} {left = left} value n falls)
advance_takes wanted ne value n falls same =
    step_takes Fault (IsKind wanted) value n falls (λ i is. let less = next_takes i (λ e. ne (sym is ∙ e)) in let e = same i in omega (arith, less, e))

pub advanced_left : (i : Input) → left (advanced i) ≡ length (next i.cursor).rest
unfolding left
advanced_left i = refl

pub skip_takes : (wanted : Kind) → wanted ≢ k.End → TakesWhere (IsKind wanted) skip
skip_takes wanted ne = advance_takes wanted ne (λ _. tt) advanced advanced_falls advanced_left

pub expect_takes : (wanted : Kind) → wanted ≢ k.End → Takes (expect wanted)
expect_takes wanted ne = checked_takes (λ i. sees wanted i.cursor) unexpected skip (λ i a o e h. skip_takes wanted ne i a o (sees_is wanted i e) h)

-- a form whose first part preserves P takes a token if its second part takes one where P holds
pub keeps_takes : {A B : Type 0} (P : Input → Type 0) (c : Form A) (g : A → Form B) → ((i : Input) (a : A) (o : Input) → c.says i a o → P i → P o)
    → ((a : A) → TakesWhere P (g a)) → TakesWhere P (c >>= g)
keeps_takes P c g keeps takes i b o p h =
    let x = c.moves i h.0 h.1 h.2 in
    let y = takes h.0 h.1 b o (keeps i h.0 h.1 h.2 p) h.3 in
    omega (arith, x, y)
