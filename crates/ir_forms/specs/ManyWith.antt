-- Lists of forms with an accumulator, on which each form may depend, up to where a test holds.
use Rattle.std.specs.Prelude.{◌≡◌, ℕ, zero, suc, ◌<◌, ◌≤◌, Bool, true, false, if◌then◌else◌, List, [], ◌∷◌, ◌++◌, Ok, Err, refl}
use Rattle.std.proofs.Common.{sym, ◌∙◌, ap, subst, arith, append_assoc, inl, inr}
use Rattle.std.proofs.lemmas.List.{append-nil}
use Rattle.grammar.specs.Outcome.{Parser, and_then}
use Rattle.grammar.specs.Laws.{done, done_is, same_left, and_then_ok, and_then_again, and_then_err, and_then_fails, choice_ok, choice_err}
use Rattle.grammar.specs.Grammar.{Grammar}
use Rattle.grammar.specs.Takes.{Takes}

-- these forms and at most n further ones, up to where the test holds; `c` is the accumulator after the forms so far
unfoldable pub many_with_from : {S E A C : Type 0} → (C → S → Bool) → (C → Parser S E A) → (C → A → C) → ℕ → C → List A → Parser S E (List A)
many_with_from stop item next zero c found i = Ok (found, i)
many_with_from stop item next (suc n) c found i = if stop c i then Ok (found, i) else and_then (item c i) (λ a. many_with_from stop item next n (next c a) (found ++ a ∷ []))

-- forms one after another, up to where the test holds
abbrev pub Follows : {S A C : Type 0} → (C → S → Bool) → (C → S → A → S → Type 0) → (C → A → C) → C → S → List A → S → Type 0
Follows stop Says next c i [] o = (stop c i ≡ true) × (i ≡ o)
Follows {S = S} stop Says next c i (a ∷ xs) o = (stop c i ≡ false) × (m : S) × Says c i a m × Follows stop Says next (next c a) m xs o

-- some forms, where the test holds before none of them; and the accumulator after them
abbrev pub Leads : {S A C : Type 0} → (C → S → Bool) → (C → S → A → S → Type 0) → (C → A → C) → C → S → List A → C → S → Type 0
Leads stop Says next c i [] d o = (c ≡ d) × (i ≡ o)
Leads {S = S} stop Says next c i (a ∷ xs) d o = (stop c i ≡ false) × (m : S) × Says c i a m × Leads stop Says next (next c a) m xs d o

-- some forms, and then one that has this fault
abbrev pub FailsIn : {S E : Type 0} {left : S → ℕ} {A C : Type 0} → (C → S → Bool) → (C → Grammar S E left A) → (C → A → C) → C → S → E → Type 0
FailsIn {S = S} {A = A} {C = C} stop g next c i e = (xs : List A) × (d : C) × (m : S) × Leads stop (λ c. (g c).says) next c i xs d m × (stop d m ≡ false) × (g d).stuck m e

-- ---- laws

with_sound : {S E : Type 0} {left : S → ℕ} {A C : Type 0} (stop : C → S → Bool) (g : C → Grammar S E left A) (takes : (c : C) → Takes (g c)) (next : C → A → C)
    (n : ℕ) (c : C) (found : List A) (i : S) (xs : List A) (o : S)
    → left i < n → many_with_from stop (λ c. (g c).read) next n c found i ≡ Ok (xs, o) → (more : List A) × (found ++ more ≡ xs) × Follows stop (λ c. (g c).says) next c i more o
unfolding many_with_from
with_sound stop g takes next zero c found i xs o le e = absurd (omega arith)
with_sound {S = S} {E = E} {A = A} stop g takes next (suc n) c found i xs o le e =
    elim (choice_ok (stop c i) (Ok (found, i)) (and_then ((g c).read i) (λ a. many_with_from stop (λ c. (g c).read) next n (next c a) (found ++ a ∷ []))) (xs, o) e) [
      | inl h ↦ let p = done_is S E (List A) found xs i o h.1 in ([], append-nil found ∙ p.0, (h.0, p.1))
      | inr h ↦
          let p = and_then_ok ((g c).read i) (λ a. many_with_from stop (λ c. (g c).read) next n (next c a) (found ++ a ∷ [])) (xs, o) h.1 in
          let s = (g c).sound i p.0 p.1 p.2 in
          let less = takes c i p.0 p.1 s in
          let r = with_sound stop g takes next n (next c p.0) (found ++ p.0 ∷ []) p.1 xs o (omega (arith, less)) p.3 in
          (p.0 ∷ r.0, sym (append_assoc found (p.0 ∷ []) r.0) ∙ r.1, (h.0, p.1, s, r.2))
    ]

with_again : {S E : Type 0} {left : S → ℕ} {A C : Type 0} (stop : C → S → Bool) (g : C → Grammar S E left A) (takes : (c : C) → Takes (g c)) (next : C → A → C)
    (n : ℕ) (c : C) (found : List A) (i : S) (more : List A) (o : S)
    → left i < n → Follows stop (λ c. (g c).says) next c i more o → many_with_from stop (λ c. (g c).read) next n c found i ≡ Ok (found ++ more, o)
unfolding many_with_from
with_again stop g takes next zero c found i more o le h = absurd (omega arith)
with_again stop g takes next (suc n) c found i [] o le h = rw (h.0, h.1, append-nil found) refl
with_again {S = S} {E = E} {A = A} stop g takes next (suc n) c found i (a ∷ xs) o le h =
    let p = takes c i a h.1 h.2 in
    let r = with_again stop g takes next n (next c a) (found ++ a ∷ []) h.1 xs o (omega (arith, p)) h.3 in
    let q = and_then_again ((g c).read i) (λ a. many_with_from stop (λ c. (g c).read) next n (next c a) (found ++ a ∷ [])) a h.1 ((g c).again i a h.1 h.2) in
    rw h.0 (q ∙ r ∙ ap (λ (x : List A). done {E = E} x o) (append_assoc found (a ∷ []) xs))

with_moves : {S E : Type 0} {left : S → ℕ} {A C : Type 0} (stop : C → S → Bool) (g : C → Grammar S E left A) (next : C → A → C) (c : C) (i : S) (xs : List A) (o : S)
    → Follows stop (λ c. (g c).says) next c i xs o → left o ≤ left i
with_moves {left = left} stop g next c i [] o h = same_left left i o h.1
with_moves stop g next c i (a ∷ xs) o h =
    let p = (g c).moves i a h.1 h.2 in
    let q = with_moves stop g next (next c a) h.1 xs o h.3 in
    omega (arith, p, q)

with_breaks : {S E : Type 0} {left : S → ℕ} {A C : Type 0} (stop : C → S → Bool) (g : C → Grammar S E left A) (takes : (c : C) → Takes (g c)) (next : C → A → C)
    (n : ℕ) (c : C) (found : List A) (i : S) (e : E)
    → left i < n → many_with_from stop (λ c. (g c).read) next n c found i ≡ Err e → FailsIn stop g next c i e
unfolding many_with_from
with_breaks stop g takes next zero c found i e le h = absurd (omega arith)
with_breaks stop g takes next (suc n) c found i e le h =
    let p = choice_err (stop c i) (found, i) (and_then ((g c).read i) (λ a. many_with_from stop (λ c. (g c).read) next n (next c a) (found ++ a ∷ []))) e h in
    elim (and_then_err ((g c).read i) (λ a. many_with_from stop (λ c. (g c).read) next n (next c a) (found ++ a ∷ [])) e p.1) [
      | inl q ↦ ([], c, i, (refl, refl), p.0, (g c).breaks i e q)
      | inr q ↦
          let s = (g c).sound i q.0 q.1 q.2 in
          let less = takes c i q.0 q.1 s in
          let r = with_breaks stop g takes next n (next c q.0) (found ++ q.0 ∷ []) q.1 e (omega (arith, less)) q.3 in
          (q.0 ∷ r.0, r.1, r.2, (p.0, q.1, s, r.3), r.4, r.5)
    ]

with_broken : {S E : Type 0} {left : S → ℕ} {A C : Type 0} (stop : C → S → Bool) (g : C → Grammar S E left A) (takes : (c : C) → Takes (g c)) (next : C → A → C)
    (n : ℕ) (c : C) (found : List A) (i : S) (xs : List A) (d : C) (m : S) (e : E)
    → left i < n → Leads stop (λ c. (g c).says) next c i xs d m → stop d m ≡ false → (g d).stuck m e → many_with_from stop (λ c. (g c).read) next n c found i ≡ Err e
unfolding many_with_from
with_broken stop g takes next zero c found i xs d m e le h not_stop st = absurd (omega arith)
with_broken {S = S} {C = C} stop g takes next (suc n) c found i [] d m e le h not_stop st =
    let there : (g c).stuck m e = subst (λ (x : C). (g x).stuck m e) (sym h.0) st in
    let here : (g c).stuck i e = subst (λ (x : S). (g c).stuck x e) (sym h.1) there in
    let goes : stop c i ≡ false = ap (λ (x : C). stop x i) h.0 ∙ ap (stop d) h.1 ∙ not_stop in
    rw goes (and_then_fails ((g c).read i) (λ a. many_with_from stop (λ c. (g c).read) next n (next c a) (found ++ a ∷ [])) e ((g c).broken i e here))
with_broken stop g takes next (suc n) c found i (a ∷ xs) d m e le h not_stop st =
    let p = takes c i a h.1 h.2 in
    let r = with_broken stop g takes next n (next c a) (found ++ a ∷ []) h.1 xs d m e (omega (arith, p)) h.3 not_stop st in
    let q = and_then_again ((g c).read i) (λ a. many_with_from stop (λ c. (g c).read) next n (next c a) (found ++ a ∷ [])) a h.1 ((g c).again i a h.1 h.2) in
    rw h.0 (q ∙ r)

pub follows_by_reading : {S E : Type 0} {left : S → ℕ} {A C : Type 0} (stop : C → S → Bool) (g : C → Grammar S E left A) → ((c : C) → Takes (g c)) → (next : C → A → C) (c : C) (i : S) (xs : List A) (o : S)
    → many_with_from stop (λ c. (g c).read) next (suc (left i)) c [] i ≡ Ok (xs, o) → Follows stop (λ c. (g c).says) next c i xs o
follows_by_reading {left = left} {A = A} stop g takes next c i xs o e =
    let p = with_sound stop g takes next (suc (left i)) c [] i xs o (omega arith) e in
    subst (λ (x : List A). Follows stop (λ c. (g c).says) next c i x o) p.1 p.2

pub follows_is_read : {S E : Type 0} {left : S → ℕ} {A C : Type 0} (stop : C → S → Bool) (g : C → Grammar S E left A) → ((c : C) → Takes (g c)) → (next : C → A → C) (c : C) (i : S) (xs : List A) (o : S)
    → Follows stop (λ c. (g c).says) next c i xs o → many_with_from stop (λ c. (g c).read) next (suc (left i)) c [] i ≡ Ok (xs, o)
follows_is_read {left = left} stop g takes next c i xs o h = with_again stop g takes next (suc (left i)) c [] i xs o (omega arith) h

pub follows_moves : {S E : Type 0} {left : S → ℕ} {A C : Type 0} (stop : C → S → Bool) (g : C → Grammar S E left A) (next : C → A → C) (c : C) (i : S) (xs : List A) (o : S)
    → Follows stop (λ c. (g c).says) next c i xs o → left o ≤ left i
follows_moves = with_moves

pub fails_by_reading : {S E : Type 0} {left : S → ℕ} {A C : Type 0} (stop : C → S → Bool) (g : C → Grammar S E left A) → ((c : C) → Takes (g c)) → (next : C → A → C) (c : C) (i : S) (e : E)
    → many_with_from stop (λ c. (g c).read) next (suc (left i)) c [] i ≡ Err e → FailsIn stop g next c i e
fails_by_reading {left = left} stop g takes next c i e h = with_breaks stop g takes next (suc (left i)) c [] i e (omega arith) h

pub failing_is_read : {S E : Type 0} {left : S → ℕ} {A C : Type 0} (stop : C → S → Bool) (g : C → Grammar S E left A) → ((c : C) → Takes (g c)) → (next : C → A → C) (c : C) (i : S) (e : E)
    → FailsIn stop g next c i e → many_with_from stop (λ c. (g c).read) next (suc (left i)) c [] i ≡ Err e
failing_is_read {left = left} stop g takes next c i e h = with_broken stop g takes next (suc (left i)) c [] i h.0 h.1 h.2 e (omega arith) h.3 h.4 h.5

-- Forms one after another, up to where the test holds. `c` is the accumulator before the first, and `next` what a further
-- form makes of it. Each form takes something, and so the list ends.
abbrev pub many_with : {S E : Type 0} {left : S → ℕ} {A C : Type 0} → (stop : C → S → Bool) → (g : C → Grammar S E left A) → ((c : C) → Takes (g c)) → (next : C → A → C) → C → Grammar S E left (List A)
many_with {left = left} stop g takes next c = record {
  read = λ i. many_with_from stop (λ c. (g c).read) next (suc (left i)) c [] i;
  says = λ i xs o. Follows stop (λ c. (g c).says) next c i xs o;
  sound = follows_by_reading stop g takes next c;
  again = follows_is_read stop g takes next c;
  moves = follows_moves stop g next c;
  stuck = FailsIn stop g next c;
  breaks = fails_by_reading stop g takes next c;
  broken = failing_is_read stop g takes next c;
}
