-- Laws of outcomes, from which each form has its own.
use Rattle.std.specs.Prelude.{◌≡◌, ℕ, ◌≤◌, Bool, true, false, cond, Ok, Err, refl}
use Rattle.std.proofs.Common.{ap, arith, inl, inr, ◌⊎◌}
use Rattle.grammar.specs.Outcome.{Outcome, Parser, and_then}

abbrev given : {S E A : Type 0} → A × S → Outcome S E A
given p = Ok p

-- a value was read, and the text goes on there
abbrev pub done : {S E A : Type 0} → A → S → Outcome S E A
done a i = Ok (a, i)

-- nothing was read, for this fault
abbrev pub failed : {S E A : Type 0} → E → Outcome S E A
failed e = Err e

ok_is : (S E A : Type 0) (p q : A × S) → given {E = E} p ≡ given q → p ≡ q
ok_is S E A p q e = cc

pub done_is : (S E A : Type 0) (a b : A) (i o : S) → done {E = E} a i ≡ done b o → (a ≡ b) × (i ≡ o)
done_is S E A a b i o e =
    let p = ok_is S E A (a, i) (b, o) e in
    (ap (λ (x : A × S). x.0) p, ap (λ (x : A × S). x.1) p)

pub done_again : (S E A : Type 0) (a b : A) (i o : S) → (a ≡ b) × (i ≡ o) → done {E = E} a i ≡ done b o
done_again S E A a b i o h = let e = h.0 in let f = h.1 in cc

pub never : (S E A : Type 0) (p : A × S) (e : E) → Ok p ≡ Err e → ⊥
never S E A p e h = cc

pub refused : (S E A : Type 0) (e : E) (p : A × S) → Err e ≡ Ok p → ⊥
refused S E A e p h = cc

pub fails_is : (S E A : Type 0) (d e : E) → failed {S = S} {A = A} d ≡ failed e → d ≡ e
fails_is S E A d e h = cc

pub fails_again : (S E A : Type 0) (d e : E) → d ≡ e → failed {S = S} {A = A} d ≡ failed e
fails_again S E A d e h = rw h refl

pub same_left : {S : Type 0} (left : S → ℕ) (i o : S) → i ≡ o → left o ≤ left i
same_left left i o e = let p = ap left e in omega arith

-- ---- a rule, and the fault where it fails

pub tested : (S E : Type 0) (t : Bool) (e : E) (a : Unit {0}) (i o : S) → cond t (done tt i) (Err e) ≡ done a o → (t ≡ true) × (i ≡ o)
tested S E true e a i o h = let p = done_is S E (Unit {0}) tt a i o h in (refl, p.1)
tested S E false e a i o h = absurd cc

pub tested_again : (S E : Type 0) (t : Bool) (e : E) (a : Unit {0}) (i o : S) → (t ≡ true) × (i ≡ o) → cond t (done tt i) (Err e) ≡ done a o
tested_again S E t e a i o h = rw (h.0, h.1) refl

-- a form without a value was read
abbrev pub passed : {S E : Type 0} → S → Outcome S E (Unit {0})
passed i = Ok (tt, i)

pub untested : (S E : Type 0) (t : Bool) (i : S) (d e : E) → cond t (passed i) (Err d) ≡ Err e → (t ≡ false) × (d ≡ e)
untested S E true i d e h = absurd cc
untested S E false i d e h = (refl, cc)

pub untested_again : (S E : Type 0) (t : Bool) (i : S) (d e : E) → (t ≡ false) × (d ≡ e) → cond t (passed i) (Err d) ≡ Err e
untested_again S E t i d e h = rw (h.0, h.1) refl

-- ---- one after the other

pub and_then_ok : {S E A B : Type 0} (r : Outcome S E A) (f : A → Parser S E B) (p : B × S) → and_then r f ≡ Ok p
    → (a : A) × (m : S) × (r ≡ Ok (a, m)) × (f a m ≡ Ok p)
and_then_ok (Ok q) f p e = (q.0, q.1, refl, e)
and_then_ok (Err d) f p e = absurd cc

pub and_then_again : {S E A B : Type 0} (r : Outcome S E A) (f : A → Parser S E B) (a : A) (m : S) → r ≡ Ok (a, m) → and_then r f ≡ f a m
and_then_again r f a m e = rw e refl

pub and_then_err : {S E A B : Type 0} (r : Outcome S E A) (f : A → Parser S E B) (e : E) → and_then r f ≡ Err e
    → (r ≡ Err e) ⊎ ((a : A) × (m : S) × (r ≡ Ok (a, m)) × (f a m ≡ Err e))
and_then_err (Ok q) f e h = inr (q.0, q.1, refl, h)
and_then_err {E = E} (Err d) f e h = inl (let p : d ≡ e = cc in ap (λ (x : E). Err x) p)

pub and_then_fails : {S E A B : Type 0} (r : Outcome S E A) (f : A → Parser S E B) (e : E) → r ≡ Err e → and_then r f ≡ Err e
and_then_fails r f e h = rw h refl

-- ---- a choice

-- where a choice gives a value, one of its sides does
pub choice_ok : {S E A : Type 0} (t : Bool) (x y : Outcome S E A) (p : A × S) → cond t x y ≡ Ok p → ((t ≡ true) × (x ≡ Ok p)) ⊎ ((t ≡ false) × (y ≡ Ok p))
choice_ok true x y p e = inl (refl, e)
choice_ok false x y p e = inr (refl, e)

pub choice_err : {S E A : Type 0} (t : Bool) (p : A × S) (y : Outcome S E A) (e : E) → cond t (Ok p) y ≡ Err e → (t ≡ false) × (y ≡ Err e)
choice_err true p y e h = absurd cc
choice_err false p y e h = (refl, h)
