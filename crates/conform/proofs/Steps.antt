-- A step that meets the rules leads from one run to the next.
use Rattle.std.proofs.Common.{◌≡◌, ◌≢◌, ◌⊎◌, inl, inr, ℕ, zero, suc, ◌+◌, ◌*◌, ◌^◌, ◌<◌, ◌≤◌, ◌==◌, Bool, true, false, List, [], ◌∷◌, ◌++◌, length, length-append, Option, Some, None, refl, sym, ap, ◌∙◌, subst, if◌then◌else◌, arith, IsTrue, IsFalse}
use Rattle.std.specs.Prelude.{slice_get, slice_set, nat_lt}
use Rattle.std.proofs.lemmas.Option.{slice_get_past}
use Rattle.lemmas.specs.Numbers.{test_same, test_no, test_true, test_false, lt_false, lt_true}
use Rattle.lemmas.specs.Bools.{yes_or_no}
use Rattle.lemmas.specs.Lists.{set_is, set_other, get_either, IsIn}
use Rattle.pools.specs.declared.word_kind.WordKind.{WordKind}
use Rattle.pools.specs.declared.word_kind.WordKind.TheVariants.{Integer, Reference}
use Rattle.pools.specs.Heap.{Setup, cells, kind_of, words_of_cell, layout_of}
use Rattle.pools.specs.Layouts.{is_reference_kind}
use Rattle.colours.specs.Colours.{cycle_of, done}
use Rattle.colours.specs.Steps.{Step, ReadWord, ReadOldValue, Mark, StoreAfterBarrier, StorePlain, Claim, ReadPosted, StoreStage, ReadPostedFirst, EnterStage, ReadPostedAgain, Found, place_of, ask_of}
use Rattle.colours.specs.Mutator.{Phase, Ready, MarkingOld, MarkingNew, Writing, Trying, Answering, Ended, Absent, Arriving, Entering, Leaving, stage_of, phase_of, MayFollow, MayTry, MayUse, MayStore, Held, IsDisciplined, HasBegun}
use Rattle.colours.specs.Collector.{posted_of}
use Rattle.colours.specs.Runs.{Event, ByThread, ByCollector, log_of, turns_of, word_after, ask_in, MayHappen, IsRun, IsHeapRun}
use Rattle.colours.specs.Safety.{IsInStep}
use Rattle.colours.specs.Stages.{Handshake, handshake, no_more}
use Rattle.collector_law.specs.Laws.{FitsKind, EachWordFits}
use Rattle.heap_rule.specs.Rule.{HasPlace}
use Rattle.watch.specs.CellSets.{has}
use Rattle.watch.specs.Knows.{Knows}
use Rattle.watch.specs.declared.holdings.Holdings.{Holdings}
use Rattle.conform.specs.Rules.{ComesNext}
use Rattle.conform.specs.declared.thread_check.CheckedThread.{CheckedThread}
use Rattle.conform.specs.Threads.{IsThreadAt, MayHold, IsMade}
use Rattle.conform.specs.Checks.{AreThreadsAtStart}

-- ---- cells that are held are cells of the heap

has_within : (set : List Bool) (c : ℕ) → has set c ≡ true → c < length set
has_within [] c e = absurd cc
has_within (b ∷ set) zero e = omega arith
has_within (b ∷ set) (suc c) e = let k = has_within set c e in omega (arith, k)

pub held_within : (s : Setup) (log : List Step) (h : Holdings) (c : ℕ) → Knows s log h → Held s log c → c < cells s
held_within s log h c k is = let l = k.held_of in let lt = has_within h.held c ((k.held c).1 is) in omega (arith, l, lt)

pub used_within : (s : Setup) (log : List Step) (h : Holdings) (c : ℕ) → Knows s log h → MayUse s log c → c < cells s
used_within s log h c k (inl e) = omega (arith, e)
used_within s log h c k (inr is) = held_within s log h c k is

-- a word that is there
word_within : (s : Setup) (cell word : ℕ) → kind_of s cell word ≢ None → word < length (words_of_cell s cell)
unfolding kind_of
word_within s cell word some = elim (yes_or_no (nat_lt word (length (words_of_cell s cell)))) [
  | inl e ↦ lt_true _ _ e
  | inr e ↦ absurd (some (slice_get_past (words_of_cell s cell) word (lt_false _ _ e)))
]

reference_there : (o : Option WordKind) → IsTrue (is_reference_kind o) → o ≢ None
reference_there None t e = absurd cc
reference_there (Some kind) t e = absurd cc

stored_there : (s : Setup) (log : List Step) (o : Option WordKind) (value : ℕ) → MayStore s log o value → o ≢ None
stored_there s log None value m e = m
stored_there s log (Some kind) value m e = absurd cc

-- ---- a claim is made on a cell

tried_within : (s : Setup) (tried : List ℕ) (cell : ℕ) → MayTry s tried cell → (0 < cell) × (cell < cells s)
tried_within s [] cell m = m
tried_within s (last ∷ tried) cell m = (m.0.0, m.0.1)

pub claim_within : (s : Setup) (stage : ℕ) (phase : Phase) (cell : ℕ) (won : Bool) → MayFollow s stage phase (Claim cell won) → (0 < cell) × (cell < cells s)
claim_within s stage Ready cell won m = m
claim_within s stage (Trying tried) cell won m = tried_within s tried cell m
claim_within s stage _ cell won m = absurd m

-- ---- the step's word is there

module _ (s : Setup) (t : ℕ) (log : List Step) (h : Holdings) where
  pub place_there : (step : Step) (stage : ℕ) → Knows s log h → t < s.threads → ComesNext s t log step → IsDisciplined s log step → HasPlace s (place_of (ask_of t stage step))
  place_there (ReadWord cell word value) stage k lt m d = (used_within s log h cell k d.0, word_within s cell word d.1)
  place_there (ReadOldValue cell word value) stage k lt m d = (used_within s log h cell k d.0, word_within s cell word (reference_there _ d.1))
  place_there (Mark cell) stage k lt m d = held_within s log h cell k d
  place_there (StoreAfterBarrier cell word value) stage k lt m d = (used_within s log h cell k d.0, word_within s cell word (reference_there _ d.1))
  place_there (StorePlain cell word value) stage k lt m d = (used_within s log h cell k d.0, word_within s cell word (stored_there s log _ value d.2))
  place_there (Claim cell won) stage k lt m d = (claim_within s (stage_of log) (phase_of s t log) cell won m).1
  place_there (ReadPosted posted) stage k lt m d = tt
  place_there (StoreStage next roots) stage k lt m d = lt
  place_there (ReadPostedFirst posted) stage k lt m d = tt
  place_there (EnterStage next) stage k lt m d = lt
  place_there (ReadPostedAgain posted) stage k lt m d = tt

-- ---- a thread that marks or claims is in a cycle of the machine

begun_mark : (s : Setup) (stage : ℕ) (phase : Phase) (cell : ℕ) → MayFollow s stage phase (Mark cell) → HasBegun phase
begun_mark s stage (MarkingOld c w o) cell m = tt
begun_mark s stage (MarkingNew c w o) cell m = tt
begun_mark s stage (Answering n l) cell m = tt
begun_mark s stage _ cell m = absurd m

begun_claim : (s : Setup) (stage : ℕ) (phase : Phase) (cell : ℕ) (won : Bool) → MayFollow s stage phase (Claim cell won) → HasBegun phase
begun_claim s stage Ready cell won m = tt
begun_claim s stage (Trying tried) cell won m = tt
begun_claim s stage _ cell won m = absurd m

begun_low : (s : Setup) (run : List Event) (t : ℕ) (step : Step) → IsRun s run → t < s.threads → ComesNext s t (log_of t run) step → HasBegun (phase_of s t (log_of t run)) → stage_of (log_of t run) < 2 ^ 62
begun_low s run t step r lt m begun = go (hand.in_step t lt begun)
  where
    hand : Handshake s run
    hand = handshake s run r

    go : IsInStep (posted_of (turns_of run)) (stage_of (log_of t run)) → stage_of (log_of t run) < 2 ^ 62
    go (inl e) = let l = hand.low in omega (arith, e, l)
    go (inr (inl e)) = let l = hand.low in omega (arith, e, l)
    go (inr (inr e)) = absurd (no_more s (stage_of (log_of t run)) step (subst (λ (p : Phase). MayFollow s (stage_of (log_of t run)) p step) (hand.ended t lt begun e) m))

pub mark_low : (s : Setup) (run : List Event) (t cell : ℕ) → IsRun s run → t < s.threads → ComesNext s t (log_of t run) (Mark cell) → stage_of (log_of t run) < 2 ^ 62
mark_low s run t cell r lt m = begun_low s run t (Mark cell) r lt m (begun_mark s _ _ cell m)

pub claim_low : (s : Setup) (run : List Event) (t cell : ℕ) (won : Bool) → IsRun s run → t < s.threads → ComesNext s t (log_of t run) (Claim cell won) → stage_of (log_of t run) < 2 ^ 62
claim_low s run t cell won r lt m = begun_low s run t (Claim cell won) r lt m (begun_claim s _ _ cell won m)

-- ---- what a step brings is in the heap

pub fits_within : (s : Setup) (o : Option WordKind) (v : ℕ) → FitsKind s o v → IsTrue (is_reference_kind o) → v < cells s
fits_within s None v f t = absurd cc
fits_within s (Some (Integer bits)) v f t = absurd cc
fits_within s (Some (Reference layout)) v (inl e) t = omega (arith, e)
fits_within s (Some (Reference layout)) v (inr is) t = is.1

may_store_within : (s : Setup) (log : List Step) (o : Option WordKind) (v : ℕ) → MayStore s log o v → IsTrue (is_reference_kind o) → v < cells s
may_store_within s log None v m t = absurd m
may_store_within s log (Some (Integer bits)) v m t = absurd cc
may_store_within s log (Some (Reference layout)) v (inl e) t = omega (arith, e)
may_store_within s log (Some (Reference layout)) v (inr is) t = is.1.1

module _ (s : Setup) (run : List Event) (t : ℕ) (h : Holdings) where
  pub may_hold : (step : Step) → Knows s (log_of t run) h → EachWordFits s run → ComesNext s t (log_of t run) step → IsDisciplined s (log_of t run) step
      → Found step (word_after s run (place_of (ask_in run (ByThread t step)))) → MayHold s (log_of t run) step
  may_hold (ReadWord cell word value) k fits m d f = (used_within s _ h cell k d.0, λ ref. subst (λ v. v < cells s) f (fits_within s (kind_of s cell word) _ (fits cell word) ref))
  may_hold (ReadOldValue cell word value) k fits m d f = (used_within s _ h cell k d.0, d.1, subst (λ v. v < cells s) f (fits_within s (kind_of s cell word) _ (fits cell word) d.1))
  may_hold (StoreAfterBarrier cell word value) k fits m d f = (used_within s _ h cell k d.0, d.1, may_store_within s _ (kind_of s cell word) value d.2 d.1)
  may_hold (StorePlain cell word value) k fits m d f = (used_within s _ h cell k d.0, λ ref. may_store_within s _ (kind_of s cell word) value d.2 ref)
  may_hold (Claim cell won) k fits m d f = claim_within s _ _ cell won m
  may_hold (StoreStage next roots) k fits m d f = d
  may_hold _ k fits m d f = tt

-- ---- the run with the step

pub is_longer : (s : Setup) (run : List Event) (t : ℕ) (step : Step) → IsHeapRun s run → t < s.threads → ComesNext s t (log_of t run) step → IsDisciplined s (log_of t run) step
    → Found step (word_after s run (place_of (ask_in run (ByThread t step)))) → IsHeapRun s (ByThread t step ∷ run)
is_longer s run t step r lt m d f = record { setup = r.setup; run_of = (r.run_of, (lt, m, f)); discipline = (r.discipline, d) }

pub log_here : (t : ℕ) (step : Step) (run : List Event) → log_of t (ByThread t step ∷ run) ≡ step ∷ log_of t run
log_here t step run = rw (test_same t) refl

pub log_else : (t u : ℕ) (step : Step) (run : List Event) → t ≢ u → log_of u (ByThread t step ∷ run) ≡ log_of u run
log_else t u step run ne = rw (test_no t u ne) refl

-- ---- the threads

pub no_threads : (s : Setup) → AreThreadsAtStart s 0 []
no_threads s = record { long = refl; each = λ t x e. absurd cc }

pub more_threads : (s : Setup) (count : ℕ) (threads after : List CheckedThread) (last : CheckedThread) → AreThreadsAtStart s count threads → IsThreadAt s count [] last → after ≡ threads ++ last ∷ [] → AreThreadsAtStart s (count + 1) after
more_threads s count threads after last are at e = rw e (record {
  long = length-append threads (last ∷ []) ∙ (let l = are.long in omega (arith, l));
  each = λ t x got. elim (get_either threads last t x got) [
    | inl before ↦ are.each t x before
    | inr here ↦ subst (λ y. IsThreadAt s t [] y) (sym here.1) (subst (λ n. IsThreadAt s n [] last) (sym (here.0 ∙ are.long)) at)
  ];
})

-- with a thread in the place of another
pub threads_after : (s : Setup) (run : List Event) (t : ℕ) (step : Step) (threads : List CheckedThread) (new : CheckedThread) → ((u : ℕ) (x : CheckedThread) → slice_get threads u ≡ Some x → IsThreadAt s u (log_of u run) x)
    → IsThreadAt s t (step ∷ log_of t run) new → (u : ℕ) (x : CheckedThread) → slice_get (slice_set threads t new) u ≡ Some x → IsThreadAt s u (log_of u (ByThread t step ∷ run)) x
threads_after s run t step threads new each at u x got = elim (yes_or_no (t == u)) [
  | inl e ↦ let same : t ≡ u = test_true t u e in let here : slice_get (slice_set threads t new) t ≡ Some x = subst (λ n. slice_get (slice_set threads t new) n ≡ Some x) (sym same) got in
      subst (λ n. IsThreadAt s n (log_of n (ByThread t step ∷ run)) x) same (subst (λ y. IsThreadAt s t (log_of t (ByThread t step ∷ run)) y) (set_is threads t new x here) (subst (λ (l : List Step). IsThreadAt s t l new) (sym (log_here t step run)) at))
  | inr e ↦ let ne : t ≢ u = test_false t u e in let there : slice_get threads u ≡ Some x = sym (set_other threads t u new (λ y. ne (sym y))) ∙ got in
      subst (λ (l : List Step). IsThreadAt s u l x) (sym (log_else t u step run ne)) (each u x there)
]
