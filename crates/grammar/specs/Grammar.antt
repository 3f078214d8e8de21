-- A form: its relation to a text, how it is read, and that both agree. `S` is the state that is read from, `E` the
-- faults, and `left` how much is left to read.
use Rattle.std.specs.Prelude.{◌≡◌, ℕ, ◌≤◌, Bool, true, false, if◌then◌else◌, Ok, Err, ◌⊎◌}
use Rattle.std.proofs.Common.{◌∙◌, ap, arith, inl, inr}
use Rattle.grammar.specs.Outcome.{Parser, and_then}
use Rattle.grammar.specs.Laws.{done_is, done_again, never, refused, fails_is, fails_again, same_left, tested, tested_again, untested, untested_again, and_then_ok, and_then_again, and_then_err, and_then_fails}

-- a form of text that is read as values of this type
pub record Grammar (S E : Type 0) (left : S → ℕ) (A : Type 0) : Type 1 where
  -- how the form is read
  pub read : Parser S E A
  -- the text from here on begins with a form that is read as this value, and goes on there
  pub says : S → A → S → Type 0
  pub sound : (i : S) (a : A) (o : S) → read i ≡ Ok (a, o) → says i a o
  pub again : (i : S) (a : A) (o : S) → says i a o → read i ≡ Ok (a, o)
  -- no form gives back what it read
  pub moves : (i : S) (a : A) (o : S) → says i a o → left o ≤ left i
  -- the text from here on is of this form up to a place, where it has this fault
  pub stuck : S → E → Type 0
  pub breaks : (i : S) (e : E) → read i ≡ Err e → stuck i e
  pub broken : (i : S) (e : E) → stuck i e → read i ≡ Err e

-- ---- laws of one form after another

pub bind_sound : {S E : Type 0} {left : S → ℕ} {A B : Type 0} (g : Grammar S E left A) (f : A → Grammar S E left B) (i : S) (b : B) (o : S)
    → and_then (g.read i) (λ a. (f a).read) ≡ Ok (b, o) → (a : A) × (m : S) × g.says i a m × (f a).says m b o
bind_sound g f i b o e =
    let p = and_then_ok (g.read i) (λ a. (f a).read) (b, o) e in
    (p.0, p.1, g.sound i p.0 p.1 p.2, (f p.0).sound p.1 b o p.3)

pub bind_again : {S E : Type 0} {left : S → ℕ} {A B : Type 0} (g : Grammar S E left A) (f : A → Grammar S E left B) (i : S) (b : B) (o : S)
    → ((a : A) × (m : S) × g.says i a m × (f a).says m b o) → and_then (g.read i) (λ a. (f a).read) ≡ Ok (b, o)
bind_again g f i b o p =
    and_then_again (g.read i) (λ a. (f a).read) p.0 p.1 (g.again i p.0 p.1 p.2) ∙ (f p.0).again p.1 b o p.3

pub bind_moves : {S E : Type 0} {left : S → ℕ} {A B : Type 0} (g : Grammar S E left A) (f : A → Grammar S E left B) (i : S) (b : B) (o : S)
    → ((a : A) × (m : S) × g.says i a m × (f a).says m b o) → left o ≤ left i
bind_moves g f i b o p =
    let x = g.moves i p.0 p.1 p.2 in
    let y = (f p.0).moves p.1 b o p.3 in
    omega (arith, x, y)

pub bind_breaks : {S E : Type 0} {left : S → ℕ} {A B : Type 0} (g : Grammar S E left A) (f : A → Grammar S E left B) (i : S) (e : E)
    → and_then (g.read i) (λ a. (f a).read) ≡ Err e → g.stuck i e ⊎ ((a : A) × (m : S) × g.says i a m × (f a).stuck m e)
bind_breaks g f i e h =
    elim (and_then_err (g.read i) (λ a. (f a).read) e h) [
      | inl p ↦ inl (g.breaks i e p)
      | inr p ↦ inr (p.0, p.1, g.sound i p.0 p.1 p.2, (f p.0).breaks p.1 e p.3)
    ]

pub bind_broken : {S E : Type 0} {left : S → ℕ} {A B : Type 0} (g : Grammar S E left A) (f : A → Grammar S E left B) (i : S) (e : E)
    → (g.stuck i e ⊎ ((a : A) × (m : S) × g.says i a m × (f a).stuck m e)) → and_then (g.read i) (λ a. (f a).read) ≡ Err e
bind_broken g f i e (inl h) = and_then_fails (g.read i) (λ a. (f a).read) e (g.broken i e h)
bind_broken g f i e (inr p) = and_then_again (g.read i) (λ a. (f a).read) p.0 p.1 (g.again i p.0 p.1 p.2) ∙ (f p.0).broken p.1 e p.3

pub step_moves : {S : Type 0} (left : S → ℕ) (n : S → S) (falls : (i : S) → left (n i) ≤ left i) (i o : S) → n i ≡ o → left o ≤ left i
step_moves left n falls i o e = let p = ap left e in let q = falls i in omega arith

-- ---- the forms

-- this value, and the text goes on there
abbrev pub step : {S E : Type 0} {left : S → ℕ} {A : Type 0} (value : S → A) (n : S → S) → ((i : S) → left (n i) ≤ left i) → Grammar S E left A
step {S = S} {E = E} {left = left} {A = A} value n falls = record {
  read = λ i. Ok (value i, n i);
  says = λ i b o. (value i ≡ b) × (n i ≡ o);
  sound = λ i b o. done_is S E A (value i) b (n i) o;
  again = λ i b o. done_again S E A (value i) b (n i) o;
  moves = λ i b o h. step_moves left n falls i o h.1;
  stuck = λ i e. ⊥;
  breaks = λ i e. never S E A (value i, n i) e;
  broken = λ i e h. absurd h;
}

-- this value, and nothing is read
abbrev pub pure : {S E : Type 0} {left : S → ℕ} {A : Type 0} → A → Grammar S E left A
pure {S = S} {E = E} {left = left} {A = A} a = record {
  read = λ i. Ok (a, i);
  says = λ i b o. (a ≡ b) × (i ≡ o);
  sound = λ i b o. done_is S E A a b i o;
  again = λ i b o. done_again S E A a b i o;
  moves = λ i b o h. same_left left i o h.1;
  stuck = λ i e. ⊥;
  breaks = λ i e. never S E A (a, i) e;
  broken = λ i e h. absurd h;
}

-- a rule, and the fault where it fails
abbrev pub checked : {S E : Type 0} {left : S → ℕ} → (S → Bool) → (S → E) → Grammar S E left (Unit {0})
checked {S = S} {E = E} {left = left} test fault = record {
  read = λ i. if test i then Ok (tt, i) else Err (fault i);
  says = λ i _ o. (test i ≡ true) × (i ≡ o);
  sound = λ i a o. tested S E (test i) (fault i) a i o;
  again = λ i a o. tested_again S E (test i) (fault i) a i o;
  moves = λ i a o h. same_left left i o h.1;
  stuck = λ i e. (test i ≡ false) × (fault i ≡ e);
  breaks = λ i e. untested S E (test i) i (fault i) e;
  broken = λ i e. untested_again S E (test i) i (fault i) e;
}

-- one form, and then the one that its value tells
infixl 10 ◌>>=◌
abbrev pub ◌>>=◌ : {S E : Type 0} {left : S → ℕ} {A B : Type 0} → Grammar S E left A → (A → Grammar S E left B) → Grammar S E left B
◌>>=◌ {S = S} g f = record {
  read = λ i. and_then (g.read i) (λ a. (f a).read);
  says = λ i b o. (a : _) × (m : S) × g.says i a m × (f a).says m b o;
  sound = bind_sound g f;
  again = bind_again g f;
  moves = bind_moves g f;
  stuck = λ i e. g.stuck i e ⊎ ((a : _) × (m : S) × g.says i a m × (f a).stuck m e);
  breaks = bind_breaks g f;
  broken = bind_broken g f;
}

infixl 10 ◌>>◌
abbrev pub ◌>>◌ : {S E : Type 0} {left : S → ℕ} {A B : Type 0} → Grammar S E left A → Grammar S E left B → Grammar S E left B
g >> h = g >>= (λ _. h)

-- the form that the state tells, as by the kind of the next token
abbrev pub look : {S E : Type 0} {left : S → ℕ} {K A : Type 0} → (S → K) → (K → Grammar S E left A) → Grammar S E left A
look kind f = record {
  read = λ i. (f (kind i)).read i;
  says = λ i. (f (kind i)).says i;
  sound = λ i. (f (kind i)).sound i;
  again = λ i. (f (kind i)).again i;
  moves = λ i. (f (kind i)).moves i;
  stuck = λ i. (f (kind i)).stuck i;
  breaks = λ i. (f (kind i)).breaks i;
  broken = λ i. (f (kind i)).broken i;
}

-- no form, and the fault
abbrev pub refuse : {S E : Type 0} {left : S → ℕ} {A : Type 0} → (S → E) → Grammar S E left A
refuse {S = S} {E = E} {A = A} fault = record {
  read = λ i. Err (fault i);
  says = λ _ _ _. ⊥;
  sound = λ i a o. refused S E A (fault i) (a, o);
  again = λ i a o h. absurd h;
  moves = λ i a o h. absurd h;
  stuck = λ i e. fault i ≡ e;
  breaks = λ i e. fails_is S E A (fault i) e;
  broken = λ i e. fails_again S E A (fault i) e;
}
