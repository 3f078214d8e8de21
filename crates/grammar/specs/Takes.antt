-- Forms that take something from what is left to read.
use Rattle.std.specs.Prelude.{◌≡◌, ℕ, ◌<◌, ◌≤◌, Bool, true, refl}
use Rattle.std.proofs.Common.{ap, sym, subst, ◌∙◌, arith}
use Rattle.grammar.specs.Grammar.{Grammar, ◌>>=◌, ◌>>◌, look, checked, step}

-- the form takes something
abbrev pub Takes : {S E : Type 0} {left : S → ℕ} {A : Type 0} → Grammar S E left A → Type 0
Takes {S = S} {left = left} {A = A} g = (i : S) (a : A) (o : S) → g.says i a o → left o < left i

-- the form takes something where this holds of the state
abbrev pub TakesWhere : {S E : Type 0} {left : S → ℕ} {A : Type 0} → (S → Type 0) → Grammar S E left A → Type 0
TakesWhere {S = S} {left = left} {A = A} P g = (i : S) (a : A) (o : S) → P i → g.says i a o → left o < left i

-- a step that goes on takes something
pub step_takes : {S : Type 0} (E : Type 0) {left : S → ℕ} {A : Type 0} (P : S → Type 0) (value : S → A) (n : S → S) (falls : (i : S) → left (n i) ≤ left i)
    → ((i : S) → P i → left (n i) < left i) → TakesWhere {E = E} P (step {E = E} {left = left} value n falls)
step_takes E {left = left} P value n falls on i a o p h = let q = ap left h.1 in let r = on i p in omega (arith, q, r)

-- what begins with a form that takes something takes something
pub first_takes : {S E : Type 0} {left : S → ℕ} {A B : Type 0} (g : Grammar S E left A) (f : A → Grammar S E left B) → Takes g → Takes (g >>= f)
first_takes g f takes i b o h =
    let x = takes i h.0 h.1 h.2 in
    let y = (f h.0).moves h.1 b o h.3 in
    omega (arith, x, y)

pub first_takes_where : {S E : Type 0} {left : S → ℕ} {A B : Type 0} (P : S → Type 0) (g : Grammar S E left A) (f : A → Grammar S E left B) → TakesWhere P g → TakesWhere P (g >>= f)
first_takes_where P g f takes i b o e h =
    let x = takes i h.0 h.1 e h.2 in
    let y = (f h.0).moves h.1 b o h.3 in
    omega (arith, x, y)

-- what goes on with a form that takes something takes something
pub second_takes : {S E : Type 0} {left : S → ℕ} {A B : Type 0} (g : Grammar S E left A) (f : A → Grammar S E left B) → ((a : A) → Takes (f a)) → Takes (g >>= f)
second_takes g f takes i b o h =
    let x = g.moves i h.0 h.1 h.2 in
    let y = takes h.0 h.1 b o h.3 in
    omega (arith, x, y)

-- after a rule that holds, the form takes something
pub checked_takes : {S E : Type 0} {left : S → ℕ} {A : Type 0} (test : S → Bool) (fault : S → E) (g : Grammar S E left A)
    → TakesWhere (λ i. test i ≡ true) g → Takes (checked test fault >> g)
checked_takes {left = left} test fault g takes i a o h =
    let m = h.2.1 in
    let holds : test h.1 ≡ true = sym (ap test m) ∙ h.2.0 in
    let p = takes h.1 a o holds h.3 in
    let q = ap left m in
    omega (arith, p, q)

-- where each form that the state may tell takes something, what it tells takes something
pub look_takes : {S E : Type 0} {left : S → ℕ} {K A : Type 0} (kind : S → K) (f : K → Grammar S E left A) → ((k : K) → TakesWhere (λ i. kind i ≡ k) (f k)) → Takes (look kind f)
look_takes kind f each i a o h = each (kind i) i a o refl h

-- ---- forms that read nothing

-- the form reads nothing, and leaves the state as it is
abbrev pub Stays : {S E : Type 0} {left : S → ℕ} {A : Type 0} → Grammar S E left A → Type 0
Stays {S = S} {A = A} g = (i : S) (a : A) (o : S) → g.says i a o → i ≡ o

-- after a form that reads nothing, a form takes what it takes
pub stays_takes : {S E : Type 0} {left : S → ℕ} {A B : Type 0} (P : S → Type 0) (c : Grammar S E left A) (g : Grammar S E left B)
    → Stays c → TakesWhere P g → TakesWhere P (c >> g)
stays_takes {left = left} P c g stays takes i b o p h =
    let e = stays i h.0 h.1 h.2 in
    let q = takes h.1 b o (subst P e p) h.3 in
    let l = ap left e in
    omega (arith, q, l)
