-- A whole text as one form: what is read is what the text says, and what is refused is refused for its first fault.
use Rattle.std.specs.Prelude.{◌≡◌, ◌≢◌, ℕ, Result, Ok, Err, refl}
use Rattle.std.proofs.Common.{ap, sym, ◌∙◌}
use Rattle.grammar.specs.Outcome.{Outcome}
use Rattle.grammar.specs.Grammar.{Grammar}

-- what reading gives, without the state from which reading goes on
abbrev pub value_of : {S E A : Type 0} → Outcome S E A → Result A E
value_of (Ok p) = Ok p.0
value_of (Err e) = Err e

-- ---- laws of results

abbrev given : {A E : Type 0} → A → Result A E
given a = Ok a

abbrev refused : {A E : Type 0} → E → Result A E
refused e = Err e

ok_is : (A E : Type 0) (a b : A) → given {E = E} a ≡ given b → a ≡ b
ok_is A E a b e = cc

err_is : (A E : Type 0) (d e : E) → refused {A = A} d ≡ refused e → d ≡ e
err_is A E d e h = cc

apart : (A E : Type 0) (a : A) (e : E) → given a ≡ refused e → ⊥
apart A E a e h = cc

read_is : (S E A : Type 0) (r : Outcome S E A) (a : A) → value_of r ≡ Ok a → (o : S) × (r ≡ Ok (a, o))
read_is S E A (Ok p) a e = let q : p.0 ≡ a = cc in (p.1, ap (λ (x : A). Ok (x, p.1)) q)
read_is S E A (Err d) a e = absurd cc

fault_is : (S E A : Type 0) (r : Outcome S E A) (d : E) → value_of r ≡ Err d → r ≡ Err d
fault_is S E A (Ok p) d e = absurd cc
fault_is S E A (Err b) d e = let q : b ≡ d = cc in ap (λ (x : E). Err x) q

-- ---- laws of a whole text

module _ {S E A F : Type 0} {left : S → ℕ} (file : Grammar S E left A) (start : S) (placed : E → F) where
  -- the text says this
  abbrev Says : A → Type 0
  Says a = (o : S) × file.says start a o

  -- the text has this fault, which is shown so
  abbrev HasFault : F → Type 0
  HasFault f = (e : E) × file.stuck start e × (placed e ≡ f)

  again : (a : A) → Says a → value_of (file.read start) ≡ Ok a
  again a h = ap value_of (file.again start a h.0 h.1)

  broken : (f : F) (h : HasFault f) → value_of (file.read start) ≡ Err h.0
  broken f h = ap value_of (file.broken start h.0 h.1)

  -- what is read is what the text says
  pub found : (a : A) → value_of (file.read start) ≡ Ok a → Says a
  found a e = let p = read_is S E A (file.read start) a e in (p.0, file.sound start a p.0 p.1)

  -- and it says nothing else
  pub only : (a b : A) → value_of (file.read start) ≡ Ok a → Says b → given {E = F} b ≡ Ok a
  only a b e h = ap (λ (x : A). given {E = F} x) (ok_is A E b a (sym (again b h) ∙ e))

  -- and has no fault
  pub no_fault : (a : A) → value_of (file.read start) ≡ Ok a → (f : F) → HasFault f → refused {A = A} f ≡ Ok a
  no_fault a e f h = absurd (apart A E a h.0 (sym e ∙ broken f h))

  module _ (memory : E) where
    not_memory : (d : E) → placed d ≢ placed memory → d ≢ memory
    not_memory d other is = other (ap placed is)

    -- where it is refused for another fault than memory, it says nothing
    pub no_value : (d : E) → (d ≢ memory → value_of (file.read start) ≡ Err d) → (a : A) → Says a → placed d ≢ placed memory → given {E = F} a ≡ Err (placed d)
    no_value d e a h other = absurd (apart A E a d (sym (again a h) ∙ e (not_memory d other)))

    -- and has this fault
    pub has_fault : (d : E) → (d ≢ memory → value_of (file.read start) ≡ Err d) → placed d ≢ placed memory → HasFault (placed d)
    has_fault d e other = (d, file.breaks start d (fault_is S E A (file.read start) d (e (not_memory d other))), refl)

    -- and no other
    pub only_fault : (d : E) → (d ≢ memory → value_of (file.read start) ≡ Err d) → (f : F) → HasFault f → placed d ≢ placed memory → refused {A = A} f ≡ Err (placed d)
    only_fault d e f h other = ap (λ (x : F). refused {A = A} x) (sym h.2 ∙ ap placed (err_is A E h.0 d (sym (broken f h) ∙ e (not_memory d other))))
