-- Steps that both readings make.
use Rattle.std.proofs.Common.{◌≡◌, ◌≤◌, Bool, [], ◌⊎◌, inl, inr, length, None, sym, ◌∙◌}
use Rattle.grammar.specs.Grammar.{step, checked}
use Rattle.ir_tokens.specs.declared.token.Kind.{Kind}
use Rattle.ir_forms.specs.Cursor.{sees}
use Rattle.ir_forms.specs.declared.fault.Fault.{Fault}
use Rattle.ir_forms.specs.declared.input.Input.{Input}
use Rattle.ir_forms.specs.Input.{left, unexpected, advanced, advanced_falls, skip, sees_a, expect}
use Rattle.ir_print_law.proofs.Seats.{Seat, Along, Own, Symbols, Structs, Beside, Grown, grown_itself, next_either, sees_same}
use Rattle.ir_print_law.proofs.Sim.{Between, Any, At, Same, stepped, past, tested}

module _ (s : Seat) where
  -- both cursors are along, or the first is past the function
  abbrev pub Goes : Input → Input → Type 0
  Goes o p = Along s o.cursor p.cursor ⊎ (length o.cursor.rest ≤ length s.tail)

  -- what holds after a step
  abbrev pub Stepped : Input → Input → Input → Input → Type 0
  Stepped i j o p =
      Goes o p × Own o.locals p.locals o.local_uses p.local_uses o.values p.values o.unnamed p.unnamed × Symbols o.symbols p.symbols o.symbol_uses p.symbol_uses
      × Structs o.struct_names.names p.struct_names.names o.struct_uses p.struct_uses × (p.missing ≡ None) × (p.functions ≡ []) × (o.wide ≡ p.wide) × Grown i o × Grown j p

  pub steps : {A B : Type 0} {V : Between A B} (value : Input → A) (other : Input → B) (n m : Input → Input) (falls : (i : Input) → left (n i) ≤ left i) (less : (i : Input) → left (m i) ≤ left i) (i j : Input)
      → (Beside s i j → Stepped i j (n i) (m j)) → (Beside s i j → V (n i) (m j) (value i) (other j))
      → At s V (step {E = Fault} {left = left} value n falls) (step {E = Fault} {left = left} other m less) i j
  unfolding left
  steps {V = V} value other n m falls less i j on tells = stepped s {V = V} value other n m falls less i j (λ b.
      let r = on b in
      elim r.0 [
        | inl along ↦ inl (record { along = along; own = r.1; symbols = r.2; structs = r.3; missing = r.4; functions = r.5; forms = r.6 }, r.7, r.8, tells b)
        | inr over ↦ inr over
      ])

  -- the next token, and what it tells
  pub takes : {A B : Type 0} {V : Between A B} (value : Input → A) (other : Input → B) (i j : Input) → (Beside s i j → V (advanced i) (advanced j) (value i) (other j))
      → At s V (step {E = Fault} {left = left} value advanced advanced_falls) (step {E = Fault} {left = left} other advanced advanced_falls) i j
  takes {V = V} value other i j tells =
      steps {V = V} value other advanced advanced advanced_falls advanced_falls i j (λ b. (next_either s i.cursor j.cursor b.along, b.own, b.symbols, b.structs, b.missing, b.functions, b.forms, grown_itself i, grown_itself j)) tells

  pub skip_same : Same s skip
  skip_same i j = takes {V = Any} (λ _. tt) (λ _. tt) i j (λ b. tt)

  -- a rule that is the same in both
  pub rule : (test : Input → Bool) (fault : Input → Fault) → ((i j : Input) → Beside s i j → test i ≡ test j) → Same s (checked {left = left} test fault)
  rule test fault same i j = tested s test test fault fault i j (λ b e. sym (same i j b) ∙ e)

  pub seen : (x : Kind) → Same s (sees_a x)
  seen x = rule (λ i. sees x i.cursor) unexpected (λ i j b. sees_same s x i.cursor j.cursor b.along)

  pub expect_same : (x : Kind) → Same s (expect x)
  expect_same x i j = past s (seen x i j) skip_same
