-- What one event changes of the logs and of what they say.
use Rattle.std.proofs.Common.{◌≡◌, ◌⊎◌, inl, inr, ℕ, ◌<◌, ◌==◌, nat_lt, Bool, true, false, List, [], ◌∷◌, refl, sym, ap, ◌∙◌, subst, if◌then◌else◌, arith}
use Rattle.std.proofs.lemmas.Bool.{cases_eq}
use Rattle.std.proofs.lemmas.Bool.Decides.{nat_tests}
use Rattle.lemmas.specs.Numbers.{test_true, test_yes, test_false, test_no}
use Rattle.pools.specs.Heap.{Setup}
use Rattle.colours.specs.Steps.{Step, ReadWord, ReadOldValue, Mark, StoreAfterBarrier, StorePlain, Claim, ReadPosted, StoreStage, ReadPostedFirst, EnterStage, ReadPostedAgain}
use Rattle.colours.specs.Mutator.{Phase, Ready, MarkingOld, MarkingNew, Trying, Answering, Absent, Arriving, Entering, Leaving, HasBegun, MayFollow, stage_of, phase_of, phase_after, Held, Fresh, gains, Keeps, wins, stores, is_answer}
use Rattle.collector_law.specs.Match.{seen, seen_begun}
use Rattle.colours.specs.Runs.{Event, ByThread, ByCollector, log_of, births_after, given, IsRun}

-- ---- logs

-- the step goes to its thread's log
pub log_here : (t : ℕ) (step : Step) (run : List Event) (u : ℕ) → u ≡ t → log_of u (ByThread t step ∷ run) ≡ step ∷ log_of t run
log_here t step run u e = subst (λ (v : ℕ). log_of v (ByThread t step ∷ run) ≡ step ∷ log_of t run) (sym e) (rw (test_yes t t refl) refl)

-- and to no other
pub log_other : (t : ℕ) (step : Step) (run : List Event) (u : ℕ) → (u ≡ t → ⊥) → log_of u (ByThread t step ∷ run) ≡ log_of u run
log_other t step run u n = rw (test_no t u (λ e. n (sym e))) refl

-- a thread past the last has no log
pub no_log : (s : Setup) (run : List Event) → IsRun s run → (u : ℕ) → (u < s.threads → ⊥) → log_of u run ≡ []
no_log s [] r u n = refl
no_log s (ByThread t step ∷ run) r u n = log_other t step run u (λ e. n (subst (λ (v : ℕ). v < s.threads) (sym e) r.1.0)) ∙ no_log s run r.0 u n
no_log s (ByCollector turn ∷ run) r u n = no_log s run r.0 u n

-- only a thread of the heap holds a cell
pub holder : (s : Setup) (run : List Event) → IsRun s run → (u c : ℕ) → Held s (log_of u run) c → u < s.threads
holder s run r u c h = elim (cases_lt u s.threads) [
  | inl lt ↦ lt
  | inr n ↦ absurd (subst (λ (l : List Step). Held s l c) (no_log s run r u n) h)
]
  where
    cases_lt : (a b : ℕ) → (a < b) ⊎ (a < b → ⊥)
    cases_lt a b = go (nat_lt a b) refl
      where
        go : (t : Bool) → nat_lt a b ≡ t → (a < b) ⊎ (a < b → ⊥)
        go true e = inl (grind (arith, nat_tests))
        go false e = inr (λ lt. grind (arith, nat_tests))

-- ---- stages

-- a step of a thread that has begun, and stores no stage
abbrev pub is_plain : Step → Bool
is_plain (StoreStage stage roots) = false
is_plain (ReadPostedFirst stage) = false
is_plain (EnterStage stage) = false
is_plain (ReadPostedAgain stage) = false
is_plain _ = true

-- a plain step is one of a thread that has begun
pub plain_begun : (s : Setup) (stage : ℕ) (phase : Phase) (step : Step) → is_plain step ≡ true → MayFollow s stage phase step → HasBegun phase
plain_begun s stage Absent (ReadPostedFirst p) e f = absurd cc
plain_begun s stage Absent _ e f = absurd f
plain_begun s stage (Arriving p) (EnterStage q) e f = absurd cc
plain_begun s stage (Arriving p) _ e f = absurd f
plain_begun s stage Entering (ReadPostedAgain q) e f = absurd cc
plain_begun s stage Entering _ e f = absurd f
plain_begun s stage Leaving (StoreStage q roots) e f = absurd cc
plain_begun s stage Leaving _ e f = absurd f
plain_begun s stage _ step e f = tt

-- and after it the thread has begun
plain_after : (s : Setup) (stage : ℕ) (phase : Phase) (step : Step) → is_plain step ≡ true → HasBegun (phase_after s stage phase step)
plain_after s stage phase (ReadWord cell word value) e = tt
plain_after s stage phase (ReadOldValue cell word value) e = go (value == 0)
  where
    go : (b : Bool) → HasBegun (if b then MarkingNew cell word value else MarkingOld cell word value)
    go true = tt
    go false = tt
plain_after s stage (MarkingOld x i old) (Mark c) e = tt
plain_after s stage (MarkingNew x i old) (Mark c) e = tt
plain_after s stage (Answering next marked) (Mark c) e = tt
plain_after s stage _ (Mark c) e = tt
plain_after s stage phase (StoreAfterBarrier cell word value) e = tt
plain_after s stage phase (StorePlain cell word value) e = tt
plain_after s stage phase (Claim cell true) e = tt
plain_after s stage (Trying tried) (Claim cell false) e = go _ _
  where
    go : (b : Bool) (l : List ℕ) → HasBegun (if b then Ready else Trying l)
    go true l = tt
    go false l = tt
plain_after s stage _ (Claim cell false) e = go _ _
  where
    go : (b : Bool) (l : List ℕ) → HasBegun (if b then Ready else Trying l)
    go true l = tt
    go false l = tt
plain_after s stage phase (ReadPosted p) e = go (p == stage)
  where
    go : (b : Bool) → HasBegun (if b then Ready else Answering p [])
    go true = tt
    go false = tt
plain_after s stage phase _ e = absurd cc

-- where the thread's own stage stays, each thread's does
pub seen_kept : (s : Setup) (t : ℕ) (step : Step) (run : List Event)
    → seen (phase_of s t (step ∷ log_of t run)) (stage_of (step ∷ log_of t run)) ≡ seen (phase_of s t (log_of t run)) (stage_of (log_of t run))
    → (u : ℕ) → seen (phase_of s u (log_of u (ByThread t step ∷ run))) (stage_of (log_of u (ByThread t step ∷ run))) ≡ seen (phase_of s u (log_of u run)) (stage_of (log_of u run))
seen_kept s t step run e u = elim (cases_eq u t) [
  | inl is ↦ subst (λ (v : ℕ). seen (phase_of s v (log_of v (ByThread t step ∷ run))) (stage_of (log_of v (ByThread t step ∷ run))) ≡ seen (phase_of s v (log_of v run)) (stage_of (log_of v run))) (sym is)
      (ap (λ (l : List Step). seen (phase_of s t l) (stage_of l)) (log_here t step run t refl) ∙ e)
  | inr n ↦ ap (λ (l : List Step). seen (phase_of s u l) (stage_of l)) (log_other t step run u n)
]

-- a plain step changes no stage
pub stage_stays : (s : Setup) (t : ℕ) (step : Step) (run : List Event) → is_plain step ≡ true → MayFollow s (stage_of (log_of t run)) (phase_of s t (log_of t run)) step
    → (u : ℕ) → seen (phase_of s u (log_of u (ByThread t step ∷ run))) (stage_of (log_of u (ByThread t step ∷ run))) ≡ seen (phase_of s u (log_of u run)) (stage_of (log_of u run))
stage_stays s t step run plain f = seen_kept s t step run
    (seen_begun (phase_of s t (step ∷ log_of t run)) (stage_of (step ∷ log_of t run)) (plain_after s (stage_of (log_of t run)) (phase_of s t (log_of t run)) step plain)
    ∙ same step plain (log_of t run)
    ∙ sym (seen_begun (phase_of s t (log_of t run)) (stage_of (log_of t run)) (plain_begun s (stage_of (log_of t run)) (phase_of s t (log_of t run)) step plain f)))
  where
    same : (step : Step) → is_plain step ≡ true → (log : List Step) → stage_of (step ∷ log) ≡ stage_of log
    same (StoreStage stage roots) e log = absurd cc
    same (EnterStage stage) e log = absurd cc
    same _ e log = refl

-- ---- what is held, and fresh

-- the thread got the cell by this step, or has kept it
pub held_by : (s : Setup) (t : ℕ) (step : Step) (run : List Event) (u c : ℕ) → Held s (log_of u (ByThread t step ∷ run)) c
    → ((u ≡ t) × (gains s step c ≡ true) × ((births_after s (ByThread t step ∷ run)).with_thread u c ≡ given (births_after s run) step c))
    ⊎ (((births_after s (ByThread t step ∷ run)).with_thread u c ≡ (births_after s run).with_thread u c) × (u ≡ t → Keeps step c) × Held s (log_of u run) c)
unfolding births_after
held_by s t step run u c h = go (t == u) (gains s step c) refl refl h
  where
    go : (b g : Bool) → (t == u) ≡ b → gains s step c ≡ g → Held s (if b then step ∷ log_of u run else log_of u run) c
        → ((u ≡ t) × (gains s step c ≡ true) × ((births_after s (ByThread t step ∷ run)).with_thread u c ≡ given (births_after s run) step c))
        ⊎ (((births_after s (ByThread t step ∷ run)).with_thread u c ≡ (births_after s run).with_thread u c) × (u ≡ t → Keeps step c) × Held s (log_of u run) c)
    go true true e f x = inl (sym (test_true t u e), f, rw (e, f) refl)
    go true false e f (inl x) = absurd cc
    go true false e f (inr x) = inr (rw (e, f) refl, λ is. x.0, x.1)
    go false g e f x = inr (rw e refl, λ is. absurd (test_false t u e (sym is)), x)

-- the thread won the cell by this step, or it was fresh and is not stored or given up now
pub fresh_by : (s : Setup) (t : ℕ) (step : Step) (run : List Event) (u c : ℕ) → Fresh s (log_of u (ByThread t step ∷ run)) c
    → ((u ≡ t) × (wins step c ≡ true)) ⊎ ((u ≡ t → (is_answer step ≡ false) × (stores s step c ≡ false)) × Fresh s (log_of u run) c)
fresh_by s t step run u c h = go (t == u) refl h
  where
    go : (b : Bool) → (t == u) ≡ b → Fresh s (if b then step ∷ log_of u run else log_of u run) c
        → ((u ≡ t) × (wins step c ≡ true)) ⊎ ((u ≡ t → (is_answer step ≡ false) × (stores s step c ≡ false)) × Fresh s (log_of u run) c)
    go true e (inl x) = inl (sym (test_true t u e), x)
    go true e (inr x) = inr (λ is. (x.0, x.1), x.2)
    go false e x = inr (λ is. absurd (test_false t u e (sym is)), x)
