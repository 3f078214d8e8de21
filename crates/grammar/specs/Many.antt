-- Lists of forms, up to where a test of the state holds.
use Rattle.std.specs.Prelude.{◌≡◌, ℕ, zero, suc, ◌<◌, ◌≤◌, Bool, true, false, if◌then◌else◌, List, [], ◌∷◌, ◌++◌, Ok, Err, refl}
use Rattle.std.proofs.Common.{sym, ◌∙◌, ap, subst, arith, append_assoc, inl, inr}
use Rattle.std.proofs.lemmas.List.{append-nil}
use Rattle.grammar.specs.Outcome.{Parser, and_then}
use Rattle.grammar.specs.Laws.{done, done_is, same_left, and_then_ok, and_then_again, and_then_err, and_then_fails, choice_ok, choice_err}
use Rattle.grammar.specs.Grammar.{Grammar}
use Rattle.grammar.specs.Takes.{Takes}

-- these forms and at most n further ones, up to where the test holds
unfoldable pub many_from : {S E A : Type 0} → (S → Bool) → Parser S E A → ℕ → List A → Parser S E (List A)
many_from stop item zero found i = Ok (found, i)
many_from stop item (suc n) found i = if stop i then Ok (found, i) else and_then (item i) (λ a. many_from stop item n (found ++ a ∷ []))

-- forms one after another, up to where the test holds
abbrev pub Listed : {S A : Type 0} → (S → Bool) → (S → A → S → Type 0) → S → List A → S → Type 0
Listed stop Says i [] o = (stop i ≡ true) × (i ≡ o)
Listed {S = S} stop Says i (a ∷ xs) o = (stop i ≡ false) × (m : S) × Says i a m × Listed stop Says m xs o

-- some forms, where the test holds before none of them
abbrev pub Before : {S A : Type 0} → (S → Bool) → (S → A → S → Type 0) → S → List A → S → Type 0
Before stop Says i [] o = i ≡ o
Before {S = S} stop Says i (a ∷ xs) o = (stop i ≡ false) × (m : S) × Says i a m × Before stop Says m xs o

-- some forms, and then one that has this fault
abbrev pub BreaksIn : {S E : Type 0} {left : S → ℕ} {A : Type 0} → (S → Bool) → Grammar S E left A → S → E → Type 0
BreaksIn {S = S} {A = A} stop g i e = (xs : List A) × (m : S) × Before stop g.says i xs m × (stop m ≡ false) × g.stuck m e

-- ---- laws

many_sound : {S E : Type 0} {left : S → ℕ} {A : Type 0} (stop : S → Bool) (g : Grammar S E left A) (takes : Takes g) (n : ℕ) (found : List A) (i : S) (xs : List A) (o : S)
    → left i < n → many_from stop g.read n found i ≡ Ok (xs, o) → (more : List A) × (found ++ more ≡ xs) × Listed stop g.says i more o
unfolding many_from
many_sound stop g takes zero found i xs o le e = absurd (omega arith)
many_sound {S = S} {E = E} {A = A} stop g takes (suc n) found i xs o le e =
    elim (choice_ok (stop i) (Ok (found, i)) (and_then (g.read i) (λ a. many_from stop g.read n (found ++ a ∷ []))) (xs, o) e) [
      | inl h ↦ let p = done_is S E (List A) found xs i o h.1 in ([], append-nil found ∙ p.0, (h.0, p.1))
      | inr h ↦
          let p = and_then_ok (g.read i) (λ a. many_from stop g.read n (found ++ a ∷ [])) (xs, o) h.1 in
          let s = g.sound i p.0 p.1 p.2 in
          let less = takes i p.0 p.1 s in
          let r = many_sound stop g takes n (found ++ p.0 ∷ []) p.1 xs o (omega (arith, less)) p.3 in
          (p.0 ∷ r.0, sym (append_assoc found (p.0 ∷ []) r.0) ∙ r.1, (h.0, p.1, s, r.2))
    ]

many_again : {S E : Type 0} {left : S → ℕ} {A : Type 0} (stop : S → Bool) (g : Grammar S E left A) (takes : Takes g) (n : ℕ) (found : List A) (i : S) (more : List A) (o : S)
    → left i < n → Listed stop g.says i more o → many_from stop g.read n found i ≡ Ok (found ++ more, o)
unfolding many_from
many_again stop g takes zero found i more o le h = absurd (omega arith)
many_again stop g takes (suc n) found i [] o le h = rw (h.0, h.1, append-nil found) refl
many_again {S = S} {E = E} {A = A} stop g takes (suc n) found i (a ∷ xs) o le h =
    let p = takes i a h.1 h.2 in
    let r = many_again stop g takes n (found ++ a ∷ []) h.1 xs o (omega (arith, p)) h.3 in
    let q = and_then_again (g.read i) (λ a. many_from stop g.read n (found ++ a ∷ [])) a h.1 (g.again i a h.1 h.2) in
    rw h.0 (q ∙ r ∙ ap (λ (x : List A). done {E = E} x o) (append_assoc found (a ∷ []) xs))

many_moves : {S E : Type 0} {left : S → ℕ} {A : Type 0} (stop : S → Bool) (g : Grammar S E left A) (i : S) (xs : List A) (o : S) → Listed stop g.says i xs o → left o ≤ left i
many_moves {left = left} stop g i [] o h = same_left left i o h.1
many_moves stop g i (a ∷ xs) o h =
    let p = g.moves i a h.1 h.2 in
    let q = many_moves stop g h.1 xs o h.3 in
    omega (arith, p, q)

many_breaks : {S E : Type 0} {left : S → ℕ} {A : Type 0} (stop : S → Bool) (g : Grammar S E left A) (takes : Takes g) (n : ℕ) (found : List A) (i : S) (e : E)
    → left i < n → many_from stop g.read n found i ≡ Err e → BreaksIn stop g i e
unfolding many_from
many_breaks stop g takes zero found i e le h = absurd (omega arith)
many_breaks stop g takes (suc n) found i e le h =
    let p = choice_err (stop i) (found, i) (and_then (g.read i) (λ a. many_from stop g.read n (found ++ a ∷ []))) e h in
    elim (and_then_err (g.read i) (λ a. many_from stop g.read n (found ++ a ∷ [])) e p.1) [
      | inl q ↦ ([], i, refl, p.0, g.breaks i e q)
      | inr q ↦
          let s = g.sound i q.0 q.1 q.2 in
          let less = takes i q.0 q.1 s in
          let r = many_breaks stop g takes n (found ++ q.0 ∷ []) q.1 e (omega (arith, less)) q.3 in
          (q.0 ∷ r.0, r.1, (p.0, q.1, s, r.2), r.3, r.4)
    ]

many_broken : {S E : Type 0} {left : S → ℕ} {A : Type 0} (stop : S → Bool) (g : Grammar S E left A) (takes : Takes g) (n : ℕ) (found : List A) (i : S) (xs : List A) (m : S) (e : E)
    → left i < n → Before stop g.says i xs m → stop m ≡ false → g.stuck m e → many_from stop g.read n found i ≡ Err e
unfolding many_from
many_broken stop g takes zero found i xs m e le h not_stop st = absurd (omega arith)
many_broken {S = S} stop g takes (suc n) found i [] m e le h not_stop st =
    let here : g.stuck i e = subst (λ (x : S). g.stuck x e) (sym h) st in
    rw (ap stop h ∙ not_stop) (and_then_fails (g.read i) (λ a. many_from stop g.read n (found ++ a ∷ [])) e (g.broken i e here))
many_broken stop g takes (suc n) found i (a ∷ xs) m e le h not_stop st =
    let p = takes i a h.1 h.2 in
    let r = many_broken stop g takes n (found ++ a ∷ []) h.1 xs m e (omega (arith, p)) h.3 not_stop st in
    let q = and_then_again (g.read i) (λ a. many_from stop g.read n (found ++ a ∷ [])) a h.1 (g.again i a h.1 h.2) in
    rw h.0 (q ∙ r)

pub listed_by_reading : {S E : Type 0} {left : S → ℕ} {A : Type 0} (stop : S → Bool) (g : Grammar S E left A) → Takes g → (i : S) (xs : List A) (o : S)
    → many_from stop g.read (suc (left i)) [] i ≡ Ok (xs, o) → Listed stop g.says i xs o
listed_by_reading {left = left} {A = A} stop g takes i xs o e =
    let p = many_sound stop g takes (suc (left i)) [] i xs o (omega arith) e in
    subst (λ (x : List A). Listed stop g.says i x o) p.1 p.2

pub listed_is_read : {S E : Type 0} {left : S → ℕ} {A : Type 0} (stop : S → Bool) (g : Grammar S E left A) → Takes g → (i : S) (xs : List A) (o : S)
    → Listed stop g.says i xs o → many_from stop g.read (suc (left i)) [] i ≡ Ok (xs, o)
listed_is_read {left = left} stop g takes i xs o h = many_again stop g takes (suc (left i)) [] i xs o (omega arith) h

pub listed_moves : {S E : Type 0} {left : S → ℕ} {A : Type 0} (stop : S → Bool) (g : Grammar S E left A) (i : S) (xs : List A) (o : S) → Listed stop g.says i xs o → left o ≤ left i
listed_moves = many_moves

pub breaks_by_reading : {S E : Type 0} {left : S → ℕ} {A : Type 0} (stop : S → Bool) (g : Grammar S E left A) → Takes g → (i : S) (e : E)
    → many_from stop g.read (suc (left i)) [] i ≡ Err e → BreaksIn stop g i e
breaks_by_reading {left = left} stop g takes i e h = many_breaks stop g takes (suc (left i)) [] i e (omega arith) h

pub broken_is_read : {S E : Type 0} {left : S → ℕ} {A : Type 0} (stop : S → Bool) (g : Grammar S E left A) → Takes g → (i : S) (e : E)
    → BreaksIn stop g i e → many_from stop g.read (suc (left i)) [] i ≡ Err e
broken_is_read {left = left} stop g takes i e h = many_broken stop g takes (suc (left i)) [] i h.0 h.1 e (omega arith) h.2 h.3 h.4

-- forms one after another, up to where the test holds; each form takes something, and so the list ends
abbrev pub many : {S E : Type 0} {left : S → ℕ} {A : Type 0} → (S → Bool) → (g : Grammar S E left A) → Takes g → Grammar S E left (List A)
many {left = left} stop g takes = record {
  read = λ i. many_from stop g.read (suc (left i)) [] i;
  says = λ i xs o. Listed stop g.says i xs o;
  sound = listed_by_reading stop g takes;
  again = listed_is_read stop g takes;
  moves = listed_moves stop g;
  stuck = BreaksIn stop g;
  breaks = breaks_by_reading stop g takes;
  broken = broken_is_read stop g takes;
}
