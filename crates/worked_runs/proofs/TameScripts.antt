-- Scripts that only allocate and answer are careful: what the rules of a whole language have to show, on the smallest one.
use Rattle.std.proofs.Common.{◌≡◌, ◌⊎◌, inl, inr, ℕ, true, false, List, [], ◌∷◌, refl, sym, subst}
use Rattle.lemmas.specs.Lists.{IsIn}
use Rattle.pools.specs.Heap.{Setup, IsSetup}
use Rattle.runs.specs.Machine.{WordValue, Action, Alloc, Safepoint, End}
use Rattle.runs.specs.Moves.{Move, Works, Claims, ReadsPosted, StoresStage, null, answer_of}
use Rattle.runs.specs.Discipline.{Holds, MayName, MayCall}
use Rattle.runs.specs.Soundness.{EndsCall, IsSound}
use Rattle.runs.specs.Promises.{HeapLaw, IsSafe}
use Rattle.runs.specs.Calls.{all_careful}
use Rattle.runs.specs.Theorems.{safe}
use Rattle.worked_runs.proofs.Scripts.{Script, scripts, next_call, after_call, afterwards_call}

-- each call allocates or is a safepoint
abbrev IsTame : List (List WordValue → Action) → Type 0
IsTame [] = Unit {0}
IsTame (call ∷ code) = ((v : List WordValue) → (call v ≡ Alloc 0) ⊎ (call v ≡ Safepoint)) × IsTame code

-- each reference that was brought may be named
record Sound (s : Setup) (share : List Move) (script : Script) : Type 0 where
  tame : IsTame script.code
  named : (r : WordValue) → IsIn r script.values → MayName s share r

tame_rest : (code : List (List WordValue → Action)) → IsTame code → IsTame (afterwards_call code)
tame_rest [] t = tt
tame_rest (call ∷ code) t = t.1

kinds : (code : List (List WordValue → Action)) (v : List WordValue) → IsTame code → (next_call code v ≡ Alloc 0) ⊎ (next_call code v ≡ Safepoint) ⊎ (next_call code v ≡ End)
kinds [] v t = inr (inr refl)
kinds (call ∷ code) v t = go (t.0 v)
  where
    go : ((call v ≡ Alloc 0) ⊎ (call v ≡ Safepoint)) → (call v ≡ Alloc 0) ⊎ (call v ≡ Safepoint) ⊎ (call v ≡ End)
    go (inl e) = inl e
    go (inr e) = inr (inl e)

stays : (s : Setup) (share more : List Move) (r : WordValue) → (Holds s share r → Holds s more r) → MayName s share r → MayName s more r
stays s share more r h (inl z) = inl z
stays s share more r h (inr x) = inr (h x)

goes_on : (s : Setup) (share : List Move) (script : Script) (move : Move) → Sound s share script → EndsCall s script.values (next_call script.code script.values) move
    → Sound s (move ∷ share) (after_call script (answer_of (next_call script.code script.values) move))
goes_on s share script move h e = go (next_call script.code script.values) (kinds script.code script.values h.tame) move e
  where
    code_next : IsTame (afterwards_call script.code)
    code_next = tame_rest script.code h.tame

    keep : (move : Move) → ((r : WordValue) → Holds s share r → Holds s (move ∷ share) r) → (r : WordValue) → IsIn r script.values → MayName s (move ∷ share) r
    keep move k r x = stays s share (move ∷ share) r (k r) (h.named r x)

    got : (move : Move) (q : WordValue) → ((r : WordValue) → Holds s share r → Holds s (move ∷ share) r) → MayName s (move ∷ share) q → (r : WordValue) → IsIn r (q ∷ script.values) → MayName s (move ∷ share) r
    got move q k n r (inl same) = subst (λ (x : WordValue). MayName s (move ∷ share) x) (sym same) n
    got move q k n r (inr x) = keep move k r x

    go : (action : Action) → ((action ≡ Alloc 0) ⊎ (action ≡ Safepoint) ⊎ (action ≡ End)) → (move : Move) → EndsCall s script.values action move → Sound s (move ∷ share) (after_call script (answer_of action move))
    go (Alloc layout) k Works e = record { tame = code_next; named = got Works null (λ r x. inr (tt, x)) (inl refl) }
    go (Alloc layout) k (Claims q true) e = record { tame = code_next; named = got (Claims q true) q (λ r x. inr (tt, x)) (inr (inl (refl, refl))) }
    go (Alloc layout) k (Claims q false) e = record { tame = code_next; named = got (Claims q false) null (λ r x. inr (tt, x)) (inl refl) }
    go Safepoint k (ReadsPosted stage) e = record { tame = code_next; named = keep (ReadsPosted stage) (λ r x. inr (tt, x)) }
    go Safepoint k (StoresStage stage rs) e = record { tame = code_next; named = λ r x. answered r x (h.named r x) }
      where
        answered : (r : WordValue) → IsIn r script.values → MayName s share r → MayName s (StoresStage stage rs ∷ share) r
        answered r x (inl z) = inl z
        answered r x (inr y) = inr (inr (subst (λ (qs : List WordValue). IsIn r qs) (sym e) x, y))
    go (Alloc layout) k move e = absurd e
    go Safepoint k move e = absurd e
    go End k move e = absurd e
    go action (inl z) move e = absurd cc
    go action (inr (inl z)) move e = absurd cc
    go action (inr (inr z)) move e = absurd cc

calls : (s : Setup) (share : List Move) (script : Script) → Sound s share script → MayCall s share (next_call script.code script.values)
calls s share script h = go (next_call script.code script.values) (kinds script.code script.values h.tame)
  where
    go : (action : Action) → ((action ≡ Alloc 0) ⊎ (action ≡ Safepoint) ⊎ (action ≡ End)) → MayCall s share action
    go action (inl z) = subst (λ (a : Action). MayCall s share a) (sym z) tt
    go action (inr (inl z)) = subst (λ (a : Action). MayCall s share a) (sym z) tt
    go action (inr (inr z)) = subst (λ (a : Action). MayCall s share a) (sym z) tt

sound : (s : Setup) → IsSound s scripts (Sound s)
sound s = record {
  calls = λ share script h. calls s share script h;
  roots = λ share script h r x. h.named r x;
  grows = λ share more script h g. record { tame = h.tame; named = λ r x. stays s share more r (g.held r) (h.named r x) };
  goes_on = λ share script move h e p. goes_on s share script move h e;
}

-- a script before its first call
abbrev begun : List (List WordValue → Action) → Script
begun code = record { code = code; values = [] }

-- so any number of tame scripts make safe runs, over a heap that satisfies its law
pub tame_safe : (s : Setup) (codes : ℕ → List (List WordValue → Action)) → IsSetup s → HeapLaw s → ((t : ℕ) → IsTame (codes t)) → IsSafe s scripts (λ t. begun (codes t))
tame_safe s codes setup law tame =
    safe s scripts (λ t. begun (codes t)) setup law
    (all_careful s scripts (Sound s) (λ t. begun (codes t)) (record { sound = sound s; begun = λ t lt. record { tame = tame t; named = λ r x. absurd x } }))
