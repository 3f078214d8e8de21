-- The roots of the threads under way are the roots of the run.
use Rattle.std.proofs.Common.{◌≡◌, ◌<◌, inl, inr, ℕ, zero, suc, ◌+◌, Some, List, [], ◌∷◌, ◌++◌, length, slice_get, slice_index_or, take, refl, sym, ap, ◌∙◌, subst, arith, append_assoc, append-nil}
use Rattle.std.proofs.lemmas.List.{take_more}
use Rattle.std.proofs.lemmas.Option.{slice_get_within}
use Rattle.lemmas.specs.Lists.{in_either, in_first, in_second, IsIn}
use Rattle.pools.specs.Heap.{Setup}
use Rattle.colours.specs.Mutator.{Phase}
use Rattle.runs.specs.Machine.{WordValue, Machine}
use Rattle.runs.specs.Broken.{IsUnderWay}
use Rattle.moves.specs.declared.actor.Actor.{Actor}
use Rattle.moves.specs.declared.thread_state.CallPhase.{CallPhase}
use Rattle.moves.specs.declared.thread_state.CallPhase.TheVariants as call_phase
use Rattle.moves.specs.declared.thread_state.ThreadState.{ThreadState}
use Rattle.moves.specs.Kinds.{KeepsKinds}
use Rattle.moves.specs.Runs.{run_by}
use Rattle.moves.specs.Stands.{cells_to_try, phase_at}
use Rattle.stepping.specs.Reach.{AreRoots}
use Rattle.stepping.specs.declared.acting.Actors.{Actors}
use Rattle.stepping.specs.Ends.{AreAfterSteps, IsEnd}
use Rattle.stepping.specs.Roots.{under_way, own_roots, roots_of}

-- ---- lists

-- of one thread more
roots-of-append : {State : Type 0} (roots : State → List WordValue) (xs : List (ThreadState State)) (thread_state : ThreadState State) → roots_of roots (xs ++ thread_state ∷ []) ≡ roots_of roots xs ++ own_roots roots thread_state
roots-of-append roots [] thread_state = append-nil (own_roots roots thread_state)
roots-of-append roots (x ∷ xs) thread_state = ap (λ (rs : List WordValue). own_roots roots x ++ rs) (roots-of-append roots xs thread_state) ∙ sym (append_assoc (own_roots roots x) (roots_of roots xs) (own_roots roots thread_state))

-- of the threads up to one
pub roots-of-more : {State : Type 0} (roots : State → List WordValue) (xs : List (ThreadState State)) (i : ℕ) (thread_state : ThreadState State) → i < length xs → thread_state ≡ slice_index_or xs i thread_state
    → roots_of roots (take (i + 1) xs) ≡ roots_of roots (take i xs) ++ own_roots roots thread_state
roots-of-more roots xs i thread_state lt e =
    ap (roots_of roots) (take_more xs i thread_state lt) ∙ roots-of-append roots (take i xs) (slice_index_or xs i thread_state) ∙ ap (λ (v : ThreadState _). roots_of roots (take i xs) ++ own_roots roots v) (sym e)

-- ---- one thread's

-- the reference is a root of this thread
record IsOwn {State : Type 0} (roots : State → List WordValue) (stands : List (ThreadState State)) (r : WordValue) : Type 0 where
  thread : ℕ
  thread_state : ThreadState State
  is : slice_get stands thread ≡ Some thread_state
  own : IsIn r (own_roots roots thread_state)

-- each of them is one of a thread
root-is-own : {State : Type 0} (roots : State → List WordValue) (stands : List (ThreadState State)) (r : WordValue) → IsIn r (roots_of roots stands) → IsOwn roots stands r
root-is-own roots [] r e = absurd e
root-is-own roots (thread_state ∷ stands) r e = elim (in_either r (own_roots roots thread_state) (roots_of roots stands) e) [
  | inl h ↦ record { thread = 0; thread_state = thread_state; is = refl; own = h }
  | inr h ↦ let o = root-is-own roots stands r h in record { thread = suc o.thread; thread_state = o.thread_state; is = o.is; own = o.own }
]

-- and each one of a thread is one of them
own-is-root : {State : Type 0} (roots : State → List WordValue) (stands : List (ThreadState State)) (r : WordValue) (t : ℕ) (thread_state : ThreadState State) → slice_get stands t ≡ Some thread_state → IsIn r (own_roots roots thread_state)
    → IsIn r (roots_of roots stands)
own-is-root {State} roots [] r t thread_state e own = absurd cc
own-is-root {State} roots (x ∷ xs) r zero thread_state e own = in_first r (own_roots roots x) (roots_of roots xs) (subst (λ (v : ThreadState State). IsIn r (own_roots roots v)) (sym (same x thread_state e)) own)
  where
    same : (x y : ThreadState State) → Some x ≡ Some y → x ≡ y
    same x y e = cc
own-is-root {State} roots (x ∷ xs) r (suc t) thread_state e own = in_second r (own_roots roots x) (roots_of roots xs) (own-is-root roots xs r t thread_state e own)

-- a thread with roots is under way
own-is-under-way : (cells : List ℕ) (rs others : List WordValue) (at : CallPhase) (r : WordValue) → IsIn r (under_way at rs) → IsUnderWay (phase_at cells others at) × IsIn r rs
own-is-under-way cells rs others call_phase.Ready r e = (tt, e)
own-is-under-way cells rs others (call_phase.MarkingOld c w o) r e = (tt, e)
own-is-under-way cells rs others (call_phase.MarkingNew c w o) r e = (tt, e)
own-is-under-way cells rs others (call_phase.Writing c w o n) r e = (tt, e)
own-is-under-way cells rs others (call_phase.Trying n) r e = (tt, e)
own-is-under-way cells rs others (call_phase.Answering p n) r e = (tt, e)
own-is-under-way cells rs others call_phase.Ended r e = absurd e
own-is-under-way cells rs others call_phase.Absent r e = absurd e
own-is-under-way cells rs others (call_phase.Arriving p) r e = absurd e
own-is-under-way cells rs others call_phase.Entering r e = absurd e
own-is-under-way cells rs others call_phase.Leaving r e = absurd e

-- and one under way has its roots
pub under-way-is-own : (cells : List ℕ) (rs others : List WordValue) (at : CallPhase) (r : WordValue) → IsUnderWay (phase_at cells others at) → IsIn r rs → IsIn r (under_way at rs)
under-way-is-own cells rs others call_phase.Ready r way e = e
under-way-is-own cells rs others (call_phase.MarkingOld c w o) r way e = e
under-way-is-own cells rs others (call_phase.MarkingNew c w o) r way e = e
under-way-is-own cells rs others (call_phase.Writing c w o n) r way e = e
under-way-is-own cells rs others (call_phase.Trying n) r way e = e
under-way-is-own cells rs others (call_phase.Answering p n) r way e = e
under-way-is-own cells rs others call_phase.Ended r way e = absurd way
under-way-is-own cells rs others call_phase.Absent r way e = absurd way
under-way-is-own cells rs others (call_phase.Arriving p) r way e = absurd way
under-way-is-own cells rs others call_phase.Entering r way e = absurd way
under-way-is-own cells rs others call_phase.Leaving r way e = absurd way

-- ---- the run's

-- they are the roots of the run
pub are-roots : (s : Setup) (m : Machine) (Fits : m.State → Type 0) (starts : ℕ → m.State) (before : List Actor) (a : Actors m.State) → AreAfterSteps s m Fits starts before a
    → ((state : m.State) → Fits state → KeepsKinds s m.action m.after_answer m.roots Fits state) → AreRoots s m starts (run_by s m starts before) (roots_of m.roots a.threads.items)
are-roots s m Fits starts before a b keeps = record {
  are_roots = λ r e some.
      let o = root-is-own m.roots a.threads.items r e in
      let stands = end.stands o.thread o.thread_state o.is in
      let own = own-is-under-way (cells_to_try s o.thread_state.hints (m.action o.thread_state.state)) (m.roots o.thread_state.state) (m.roots o.thread_state.state) o.thread_state.call_phase r o.own in
      record {
        thread = o.thread;
        is_thread = subst (λ n. o.thread < n) end.count (slice_get_within a.threads.items o.thread o.thread_state o.is);
        is_under_way = subst (λ (p : Phase). IsUnderWay p) stands.phase own.0;
        is_root = subst (λ (state : m.State). IsIn r (m.roots state)) stands.state own.1;
      };
  all = λ r root some.
      let there = there-is root.thread root.is_thread in
      let stands = end.stands root.thread there.0 there.1 in
      own-is-root m.roots a.threads.items r root.thread there.0 there.1
      (under-way-is-own (cells_to_try s there.0.hints (m.action there.0.state)) (m.roots there.0.state) (m.roots there.0.state) there.0.call_phase r (subst (λ (p : Phase). IsUnderWay p) (sym stands.phase) root.is_under_way) (subst (λ (state : m.State). IsIn r (m.roots state)) (sym stands.state) root.is_root));
  are_cells = λ r e.
      let o = root-is-own m.roots a.threads.items r e in
      (keeps o.thread_state.state (end.fits o.thread o.thread_state o.is)).roots_fit r (own-is-under-way (cells_to_try s o.thread_state.hints (m.action o.thread_state.state)) (m.roots o.thread_state.state) (m.roots o.thread_state.state) o.thread_state.call_phase r o.own).1;
}
  where
    end : IsEnd s m Fits starts (run_by s m starts before) a.threads.items a.shared a.collector
    end = b.is_after.is_end

    there-is : (t : ℕ) → t < s.threads → (thread_state : ThreadState m.State) × (slice_get a.threads.items t ≡ Some thread_state)
    there-is t lt = go a.threads.items t (subst (λ n. t < n) (sym end.count) lt)
      where
        go : (xs : List (ThreadState m.State)) (t : ℕ) → t < length xs → (thread_state : ThreadState m.State) × (slice_get xs t ≡ Some thread_state)
        go [] t lt = absurd (omega arith)
        go (x ∷ xs) zero lt = (x, refl)
        go (x ∷ xs) (suc t) lt = go xs t (omega arith)
