-- A thread whose calls are sound obeys the discipline at each move of each call.
use Rattle.std.proofs.Common.{◌≡◌, ◌≢◌, ℕ, zero, suc, ◌==◌, ◌⊎◌, inl, inr, Bool, true, false, not, Option, Some, None, List, [], ◌∷◌, length, if◌then◌else◌, refl, sym, ◌∙◌, subst, slice_index, slice_get, filter, IsTrue, MatchOption}
use Rattle.std.proofs.Math.Path.{ap}
use Rattle.lemmas.specs.Numbers.{test_yes, test_false}
use Rattle.lemmas.specs.Lists.{IsIn}
use Rattle.pools.specs.declared.word_kind.WordKind.{WordKind}
use Rattle.pools.specs.declared.word_kind.WordKind.TheVariants as kind
use Rattle.pools.specs.Heap.{Setup, kind_of, layout_of, is_late}
use Rattle.pools.specs.Layouts.{is_reference_kind}
use Rattle.colours.specs.Colours.{done}
use Rattle.colours.specs.Steps.{Step}
use Rattle.colours.specs.Mutator.{Phase, Ready, MarkingOld, MarkingNew, Writing, Trying, Answering, Ended, Absent, Arriving, Entering, Leaving, HasBegun, stage_of, phase_of, MayFollow}
use Rattle.runs.specs.Machine.{WordValue, Action, Local, Read, StorePlain, Write, Alloc, Safepoint, End, Wrong, Machine}
use Rattle.runs.specs.Moves.{Move, Works, GoesWrong, ReadsWord, ReadsOldValue, Marks, StoresAfterBarrier, StoresPlain, Claims, ReadsPosted, StoresStage, ReadsPostedFirst, EntersStage, ReadsPostedAgain, step_of, logged, steps_of, phase_afterwards, ends_call, answer_of, state_after, old_of, IsOfTry, AsksFor, Follows, IsAsked, IsShare, HasEnded}
use Rattle.runs.specs.Discipline.{Holds, MayName, MayPut, KeepsTo, ArePossible, MayCall}
use Rattle.runs.specs.Broken.{IsUnderWay}
use Rattle.runs.specs.Soundness.{EndsCall, Grows, IsSound, AreSound}
use Rattle.runs.specs.Promises.{IsCareful, AreCareful}

-- a write holds the old value that it marks
abbrev Old : Setup → List Move → Phase → Type 0
Old s share (MarkingOld c i o) = Holds s share (old_of share)
Old s share phase = Unit {0}

-- after a move of a call: the thread has ended, or its facts hold
abbrev Stands : (s : Setup) (m : Machine) (Sound : List Move → m.State → Type 0) (share : List Move) (state : m.State) → Action → Phase → Move → Type 0
Stands s m Sound share state action phase move =
    (phase ≡ Ended)
    ⊎ (Sound (move ∷ share) (if ends_call move phase then m.after_answer state (answer_of action move) else state) × Old s (move ∷ share) phase × HasBegun phase)

-- a step that keeps all roots and stores nothing changes neither what is held nor what is fresh
abbrev IsQuiet : Move → Type 0
IsQuiet (ReadsOldValue b w v) = Unit {0}
IsQuiet (Marks r) = Unit {0}
IsQuiet (Claims r won) = Unit {0}
IsQuiet (ReadsPosted stage) = Unit {0}
IsQuiet move = ⊥

quiet : (s : Setup) (share : List Move) (move : Move) → IsQuiet move → Grows s share (move ∷ share)
quiet s share (ReadsOldValue b w v) q = record { held = λ r h. inr (tt, h); fresh = λ c f. inr (refl, refl, f) }
quiet s share (Marks r) q = record { held = λ r h. inr (tt, h); fresh = λ c f. inr (refl, refl, f) }
quiet s share (Claims r won) q = record { held = λ r h. inr (tt, h); fresh = λ c f. inr (refl, refl, f) }
quiet s share (ReadsPosted stage) q = record { held = λ r h. inr (tt, h); fresh = λ c f. inr (refl, refl, f) }
quiet s share move q = absurd q

next_at : (s : Setup) (m : Machine) (Sound : List Move → m.State → Type 0) (share : List Move) (state : m.State) (roots : List WordValue) (stage : ℕ) (action : Action) (phase : Phase) (move : Move)
    → AsksFor s roots (old_of share) action phase move → MayCall s share action
    → (EndsCall s roots action move → Sound (move ∷ share) (m.after_answer state (answer_of action move)))
    → (IsQuiet move → Sound (move ∷ share) state)
    → Stands s m Sound share state action (phase_afterwards s stage phase (step_of move)) move
next_at s m Sound share state roots stage Local Ready Works a k ends mid = inr (ends tt, tt, tt)
next_at s m Sound share state roots stage Wrong Ready GoesWrong a k ends mid = absurd k
next_at s m Sound share state roots stage (Read base word) Ready (ReadsWord b w v) a k ends mid = inr (ends a, tt, tt)
next_at s m Sound share state roots stage (StorePlain base word value) Ready (StoresPlain b w v) a k ends mid = inr (ends a, tt, tt)
next_at s m Sound share state roots stage (Write base word value) Ready (ReadsOldValue b w v) a k ends mid = go (v.cell == 0) refl
  where
    go : (z : Bool) → (v.cell == 0) ≡ z → Stands s m Sound share state (Write base word value) (if z then MarkingNew b.cell w v.cell else MarkingOld b.cell w v.cell) (ReadsOldValue b w v)
    go true e = inr (mid tt, tt, tt)
    go false e = inr (mid tt, inl (refl, rw (a.0, a.1) (k.1), test_false v.cell 0 e), tt)
next_at s m Sound share state roots stage (Write base word value) (MarkingOld c i o) (Marks r) a k ends mid = inr (mid tt, tt, tt)
next_at s m Sound share state roots stage (Write base word value) (MarkingNew c i o) (Marks r) a k ends mid = inr (mid tt, tt, tt)
next_at s m Sound share state roots stage (Write base word value) (MarkingNew c i o) (StoresAfterBarrier b w v) a k ends mid = inr (ends a, tt, tt)
next_at s m Sound share state roots stage (Write base word value) (Writing c i o n) (StoresAfterBarrier b w v) a k ends mid = inr (ends a, tt, tt)
next_at s m Sound share state roots stage (Alloc layout) Ready Works a k ends mid = inr (ends a, tt, tt)
next_at s m Sound share state roots stage (Alloc layout) Ready (Claims r true) a k ends mid = inr (ends a, tt, tt)
next_at s m Sound share state roots stage (Alloc layout) Ready (Claims r false) a k ends mid = go (length (r.cell ∷ []) == slice_index s.pools (layout_of s r.cell))
  where
    go : (z : Bool) → Stands s m Sound share state (Alloc layout) (if z then Ready else Trying (r.cell ∷ [])) (Claims r false)
    go true = inr (ends a, tt, tt)
    go false = inr (mid tt, tt, tt)
next_at s m Sound share state roots stage (Alloc layout) (Trying tried) (Claims r true) a k ends mid = inr (ends a, tt, tt)
next_at s m Sound share state roots stage (Alloc layout) (Trying tried) (Claims r false) a k ends mid = go (length (r.cell ∷ tried) == slice_index s.pools (layout_of s r.cell))
  where
    go : (z : Bool) → Stands s m Sound share state (Alloc layout) (if z then Ready else Trying (r.cell ∷ tried)) (Claims r false)
    go true = inr (ends a, tt, tt)
    go false = inr (mid tt, tt, tt)
next_at s m Sound share state roots stage Safepoint Ready (ReadsPosted posted) a k ends mid = go (posted == stage)
  where
    go : (z : Bool) → Stands s m Sound share state Safepoint (if z then Ready else Answering posted []) (ReadsPosted posted)
    go true = inr (ends tt, tt, tt)
    go false = inr (mid tt, tt, tt)
next_at s m Sound share state roots stage Safepoint (Answering next marked) (Marks r) a k ends mid = inr (mid tt, tt, tt)
next_at s m Sound share state roots stage Safepoint (Answering next marked) (StoresStage to rs) a k ends mid = go (to == done)
  where
    go : (z : Bool) → Stands s m Sound share state Safepoint (if z then Ended else Ready) (StoresStage to rs)
    go true = inl refl
    go false = inr (ends a, tt, tt)
next_at s m Sound share state roots stage End Ready (StoresStage to rs) a k ends mid = inl (rw (test_yes to done a.0) refl)
next_at s m Sound share state roots stage action phase move a k ends mid = absurd a

-- ---- the discipline of each step

put_named : (s : Setup) (share : List Move) (k : Option WordKind) (value : WordValue) → IsTrue (is_reference_kind k) → MayPut s share k value → MayName s share value
put_named s share None value r p = absurd p
put_named s share (Some (kind.Integer bits)) value r p = absurd cc
put_named s share (Some (kind.Reference layout)) value r (inl z) = inl z
put_named s share (Some (kind.Reference layout)) value r (inr h) = inr h.0

held_of : (s : Setup) (share : List Move) (r : WordValue) → MayName s share r → r.cell ≢ 0 → Holds s share r
held_of s share r (inl z) n = absurd (n z)
held_of s share r (inr h) n = h

-- what next_root gives is a root that isn't null
pub get_in : (rs : List WordValue) (i : ℕ) (r : WordValue) → slice_get rs i ≡ Some r → IsIn r rs
get_in [] i r e = absurd cc
get_in (q ∷ qs) zero r e = inl (some_is q r e)
  where
    some_is : (q r : WordValue) → Some q ≡ Some r → r ≡ q
    some_is q r e = cc
get_in (q ∷ qs) (suc i) r e = inr (get_in qs i r e)

filtered_in : (p : WordValue → Bool) (rs : List WordValue) (r : WordValue) → IsIn r (filter p rs) → IsIn r rs
filtered_in p [] r h = h
filtered_in p (q ∷ qs) r h = go (filtered_in p qs r) (p q) h
  where
    go : (IsIn r (filter p qs) → IsIn r qs) → (b : Bool) → IsIn r (if b then q ∷ filter p qs else filter p qs) → (r ≡ q) ⊎ IsIn r qs
    go rest true (inl e) = inl e
    go rest true (inr h) = inr (rest h)
    go rest false h = inr (rest h)

root_in : (roots : List WordValue) (i : ℕ) (r : WordValue) → slice_get (filter (λ (q : WordValue). not (q.cell == 0)) roots) i ≡ Some r → IsIn r roots
root_in roots i r e = filtered_in (λ (q : WordValue). not (q.cell == 0)) roots r (get_in (filter (λ (q : WordValue). not (q.cell == 0)) roots) i r e)

keeps_at : (s : Setup) (share : List Move) (roots : List WordValue) (stage : ℕ) (action : Action) (phase : Phase) (move : Move)
    → AsksFor s roots (old_of share) action phase move → MayCall s share action → ((r : WordValue) → IsIn r roots → MayName s share r) → Old s share phase
    → MatchOption (step_of move) (Unit {0}) (λ step. MayFollow s stage phase step) → KeepsTo s share move
keeps_at s share roots stage Local Ready Works a k n o f = tt
keeps_at s share roots stage Wrong Ready GoesWrong a k n o f = k
keeps_at s share roots stage (Read base word) Ready (ReadsWord b w v) a k n o f = rw (a.0, a.1) k
keeps_at s share roots stage (StorePlain base word value) Ready (StoresPlain b w v) a k n o f = rw (a.0, a.1, a.2) k
keeps_at s share roots stage (Write base word value) Ready (ReadsOldValue b w v) a k n o f = rw (a.0, a.1) (k.0, k.1)
keeps_at s share roots stage (Write base word value) (MarkingOld c i old) (Marks r) a k n o f = rw a o
keeps_at s share roots stage (Write base word value) (MarkingNew c i old) (Marks r) a k n o f =
    rw a (held_of s share value (put_named s share (kind_of s base.cell word) value k.1 k.2) (λ z. f.1 (ap (λ (q : WordValue). q.cell) a ∙ z)))
keeps_at s share roots stage (Write base word value) (MarkingNew c i old) (StoresAfterBarrier b w v) a k n o f = rw (a.0, a.1, a.2) k
keeps_at s share roots stage (Write base word value) (Writing c i old new) (StoresAfterBarrier b w v) a k n o f = rw (a.0, a.1, a.2) k
keeps_at s share roots stage (Alloc layout) Ready Works a k n o f = tt
keeps_at s share roots stage (Alloc layout) Ready (Claims r won) a k n o f = tt
keeps_at s share roots stage (Alloc layout) (Trying tried) (Claims r won) a k n o f = tt
keeps_at s share roots stage Safepoint Ready (ReadsPosted posted) a k n o f = tt
keeps_at s share roots stage Safepoint (Answering next marked) (Marks r) a k n o f = held_of s share r (n r (root_in roots (length marked) r a)) f.1
keeps_at s share roots stage Safepoint (Answering next marked) (StoresStage to rs) a k n o f = λ r h. n r (subst (λ (qs : List WordValue). IsIn r qs) a h)
keeps_at s share roots stage End Ready (StoresStage to rs) a k n o f = λ r h. absurd (subst (λ (qs : List WordValue). IsIn r qs) a.1 h)
keeps_at s share roots stage action phase move a k n o f = absurd a

-- ---- a late thread's try

-- a thread that has not begun stays where it started
abbrev TryGoesOn : Setup → List Move → (phase next : Phase) → Move → Type 0
TryGoesOn s share phase next move = (HasBegun phase → ⊥) × (ends_call move next ≡ false) × Old s (move ∷ share) next

try_at : (s : Setup) (share : List Move) (stage : ℕ) (phase : Phase) (move : Move) → IsOfTry phase move → TryGoesOn s share phase (phase_afterwards s stage phase (step_of move)) move
try_at s share stage Absent (ReadsPostedFirst posted) a = (λ x. x, refl, tt)
try_at s share stage (Arriving posted) (EntersStage next) a = (λ x. x, refl, tt)
try_at s share stage Entering (ReadsPostedAgain posted) a = (λ x. x, refl, go (posted == stage))
  where
    go : (z : Bool) → Old s (ReadsPostedAgain posted ∷ share) (if z then Ready else Leaving)
    go true = tt
    go false = tt
try_at s share stage Leaving (StoresStage to roots) a = (λ x. x, refl, tt)
try_at s share stage phase move a = absurd a

try_keeps : (s : Setup) (share : List Move) (phase : Phase) (move : Move) → IsOfTry phase move → KeepsTo s share move
try_keeps s share Absent (ReadsPostedFirst posted) a = tt
try_keeps s share (Arriving posted) (EntersStage next) a = tt
try_keeps s share Entering (ReadsPostedAgain posted) a = tt
try_keeps s share Leaving (StoresStage to roots) a = λ r h. absurd (subst (λ (qs : List WordValue). IsIn r qs) a.1 h)
try_keeps s share phase move a = absurd a

-- ---- every share

-- a thread that has ended asks for nothing
pub no_move : (s : Setup) (roots : List WordValue) (old : WordValue) (phase : Phase) (action : Action) (move : Move) → phase ≡ Ended
    → IsOfTry phase move ⊎ AsksFor s roots old action phase move → ⊥
no_move s roots old phase action move e a = go action (subst (λ (x : Phase). IsOfTry x move ⊎ AsksFor s roots old action x move) e a)
  where
    go : (action : Action) → IsOfTry Ended move ⊎ AsksFor s roots old action Ended move → ⊥
    go action (inl a) = a
    go Local (inr a) = a
    go Wrong (inr a) = a
    go (Read base word) (inr a) = a
    go (StorePlain base word value) (inr a) = a
    go (Write base word value) (inr a) = a
    go (Alloc layout) (inr a) = a
    go Safepoint (inr a) = a
    go End (inr a) = a

-- where a thread is after a move, by its step
pub phase_with : (s : Setup) (t : ℕ) (log : List Step) (o : Option Step) → phase_afterwards s (stage_of log) (phase_of s t log) o ≡ phase_of s t (logged o log)
phase_with s t log None = refl
phase_with s t log (Some step) = refl

follows : (s : Setup) (t : ℕ) (log : List Step) (o : Option Step) → Follows s t log o → MatchOption o (Unit {0}) (λ step. MayFollow s (stage_of log) (phase_of s t log) step)
follows s t log None f = tt
follows s t log (Some step) f = f

-- what holds where a thread has not ended: its facts; and if it has not begun, it is at its start
record Standing (s : Setup) (m : Machine) (t : ℕ) (start : m.State) (Sound : List Move → m.State → Type 0) (share : List Move) (state : m.State) (phase : Phase) : Type 0 where
  facts : Sound share state
  old : Old s share phase
  place : HasBegun phase ⊎ (state ≡ start)

afterwards : (s : Setup) (m : Machine) (t : ℕ) (start : m.State) (Sound : List Move → m.State → Type 0) → IsSound s m Sound → Sound [] start → (share : List Move) → IsShare s m t start share → ArePossible s share
    → HasEnded s t share ⊎ Standing s m t start Sound share (state_after s m t start share) (phase_of s t (steps_of share))
afterwards s m t start Sound sound first [] h p = inr (record { facts = first; old = go (is_late s t); place = inr refl })
  where
    go : (b : Bool) → Old s [] (if b then Absent else Ready)
    go true = tt
    go false = tt
afterwards s m t start Sound sound first (move ∷ share) h p = go (afterwards s m t start Sound sound first share h.0 p.0) h.1.1
  where
    state : m.State
    state = state_after s m t start share

    log : List Step
    log = steps_of share

    phase : Phase
    phase = phase_of s t log

    Goal : Phase → Type 0
    Goal next = (next ≡ Ended) ⊎ Standing s m t start Sound (move ∷ share) (if ends_call move next then m.after_answer state (answer_of (m.action state) move) else state) next

    of_call : Stands s m Sound share state (m.action state) (phase_afterwards s (stage_of log) phase (step_of move)) move → Goal (phase_afterwards s (stage_of log) phase (step_of move))
    of_call (inl e) = inl e
    of_call (inr x) = inr (record { facts = x.0; old = x.1; place = inl x.2 })

    of_try : TryGoesOn s share phase (phase_afterwards s (stage_of log) phase (step_of move)) move → HasBegun phase ⊎ (state ≡ start) → Goal (phase_afterwards s (stage_of log) phase (step_of move))
    of_try x (inl b) = absurd (x.0 b)
    of_try x (inr e) =
        let stays : (if ends_call move (phase_afterwards s (stage_of log) phase (step_of move)) then m.after_answer state (answer_of (m.action state) move) else state) ≡ start = rw x.1 e in
        let anew : Sound (move ∷ share) start = sound.grows [] (move ∷ share) start first (record { held = λ r h. absurd h; fresh = λ c f. absurd f }) in
        inr (record { facts = subst (λ (q : m.State). Sound (move ∷ share) q) (sym stays) anew; old = x.2; place = inr stays })

    go : (HasEnded s t share ⊎ Standing s m t start Sound share state phase) → IsOfTry phase move ⊎ AsksFor s (m.roots state) (old_of share) (m.action state) phase move → Goal (phase_of s t (steps_of (move ∷ share)))
    go (inl e) a = absurd (no_move s (m.roots state) (old_of share) phase (m.action state) move e a)
    go (inr x) (inl a) = subst Goal (phase_with s t log (step_of move)) (of_try (try_at s share (stage_of log) phase move a) x.place)
    go (inr x) (inr a) =
        subst Goal (phase_with s t log (step_of move))
        (of_call (next_at s m Sound share state (m.roots state) (stage_of log) (m.action state) phase move a
        (sound.calls share state x.facts)
        (λ e. sound.goes_on share state move x.facts e p.1)
        (λ q. sound.grows share (move ∷ share) state x.facts (quiet s share move q))))

-- a thread at whose start the facts hold is careful
pub careful : (s : Setup) (m : Machine) (t : ℕ) (start : m.State) (Sound : List Move → m.State → Type 0) → IsSound s m Sound → Sound [] start → IsCareful s m t start
careful s m t start Sound sound first = record {
  moves = λ share move h p a. move_kept share move h p a;
  calls = λ share h p z. call_may share h p z;
  roots = λ share h p n r x. root_named share h p n r x;
}
  where
    call_may : (share : List Move) → IsShare s m t start share → ArePossible s share → phase_of s t (steps_of share) ≡ Ready → MayCall s share (m.action (state_after s m t start share))
    call_may share h p z = go (afterwards s m t start Sound sound first share h p)
      where
        go : (HasEnded s t share ⊎ Standing s m t start Sound share (state_after s m t start share) (phase_of s t (steps_of share))) → MayCall s share (m.action (state_after s m t start share))
        go (inl e) = absurd (apart (sym z ∙ e))
          where
            apart : Ready ≡ Ended → ⊥
            apart x = absurd cc
        go (inr y) = sound.calls share (state_after s m t start share) y.facts

    move_kept : (share : List Move) (move : Move) → IsShare s m t start share → ArePossible s share → IsAsked s m t start share move → KeepsTo s share move
    move_kept share move h p a = go (afterwards s m t start Sound sound first share h p) a.1
      where
        state : m.State
        state = state_after s m t start share

        phase : Phase
        phase = phase_of s t (steps_of share)

        go : (HasEnded s t share ⊎ Standing s m t start Sound share state phase) → IsOfTry phase move ⊎ AsksFor s (m.roots state) (old_of share) (m.action state) phase move → KeepsTo s share move
        go (inl e) x = absurd (no_move s (m.roots state) (old_of share) phase (m.action state) move e x)
        go (inr y) (inl x) = try_keeps s share phase move x
        go (inr y) (inr x) =
            keeps_at s share (m.roots state) (stage_of (steps_of share)) (m.action state) phase move x
            (sound.calls share state y.facts) (sound.roots share state y.facts) y.old (follows s t (steps_of share) (step_of move) a.0)

    root_named : (share : List Move) → IsShare s m t start share → ArePossible s share → IsUnderWay (phase_of s t (steps_of share)) → (r : WordValue) → IsIn r (m.roots (state_after s m t start share)) → MayName s share r
    root_named share h p n r x = go (afterwards s m t start Sound sound first share h p)
      where
        go : (HasEnded s t share ⊎ Standing s m t start Sound share (state_after s m t start share) (phase_of s t (steps_of share))) → MayName s share r
        go (inl e) = absurd (subst (λ (q : Phase). IsUnderWay q) e n)
        go (inr y) = sound.roots share (state_after s m t start share) y.facts r x

-- so are all threads at whose starts they hold
pub all_careful : (s : Setup) (m : Machine) (Sound : List Move → m.State → Type 0) (starts : ℕ → m.State) → AreSound s m Sound starts → AreCareful s m starts
all_careful s m Sound starts sound t lt = careful s m t (starts t) Sound sound.sound (sound.begun t lt)
