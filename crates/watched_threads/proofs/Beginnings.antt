-- The watched threads of a setup before their first steps: why the heap may serve each of them.
use Rattle.std.proofs.Common.{◌≡◌, ◌<◌, inl, inr, ℕ, zero, suc, Bool, MatchBool, false, Some, List, [], ◌∷◌, ◌++◌, length, map, slice_get, slice_index_or, refl, sym, ap, subst, ◌∙◌, arith}
use Rattle.std.specs.Prelude.{drop}
use Rattle.std.specs.List.{remove}
use Rattle.lemmas.specs.Lists.{get_either}
use Rattle.pools.specs.Heap.{Setup as HeapSetup}
use Rattle.colours.specs.Steps.{Step}
use Rattle.layout.specs.Layouts.{LaidOut}
use Rattle.runs.specs.RealThreads.{IsRealShare}
use Rattle.heap_words.specs.Tokens.{Shared}
use Rattle.heap_table.specs.Holders.{Holder, MayCall, MayBegin}
use Rattle.heap_table.specs.Opening.{IsNew}
use Rattle.mutators.proofs.Beginnings.{BegunFits}
use Rattle.program_runner.specs.Heaps.{heap_of}
use Rattle.program_runner.specs.Kinds.{FitsThread}
use Rattle.program_runner.specs.Threads.{ProgramThread, program_machine}
use Rattle.program_runner.specs.Setups.{HasNoFault, begun_at, new_thread}
use Rattle.program_runner.specs.SafeSetups.{each_may_begin}
use Rattle.stepping.specs.declared.beginning.NewThread.{NewThread}
use Rattle.trace_text.specs.Arrivals.{is_late}
use Rattle.trace_text.specs.declared.trace.Setup.{Setup}
use Rattle.trace_text.specs.declared.trace.Start.{Start}
use Rattle.watched_serving.specs.declared.beside.WatchedJob.{WatchedJob}
use Rattle.watched_serving.specs.declared.watching.WatchedEnd.{WatchedEnd}
use Rattle.watched_serving.specs.Serving.{MayBeServed}
use Rattle.watched_threads.specs.Jobs.{BeginsAs, IsJobOf, AreJobs}

-- ---- one thread

-- the heap knows which threads are late
late_at : (starts : List Start) (t : ℕ) (b : Start) → slice_get starts t ≡ Some b → slice_index_or (map (λ (begun : Start). is_late begun.arrival) starts) t false ≡ is_late b.arrival
late_at [] t b e = absurd cc
late_at (begun ∷ starts) zero b e = let is : begun ≡ b = cc in ap (λ (q : Start). is_late q.arrival) is
late_at (begun ∷ starts) (suc t) b e = late_at starts t b e

-- a thread that has made no step
no_step : (s : HeapSetup) (t : ℕ) (begun : ProgramThread) → IsRealShare s program_machine t begun [] begun
no_step s t begun = record { share = []; asked = tt; no_births = tt; steps = refl; leads_to = refl }

may_be_served : (p : LaidOut) (setup : Setup) (heap : Shared) (t : ℕ) (b : Start) (token : Holder) → BegunFits → heap.setup ≡ heap_of p setup → HasNoFault p setup → slice_get setup.starts t ≡ Some b → IsNew heap t token
    → MayBeServed program_machine FitsThread heap token (is_late b.arrival) (begun_at p setup (Some b))
may_be_served p setup heap t b token fits same none at new =
    let begun = begun_at p setup (Some b) in
    let may = each_may_begin p setup none t b at in
    let over : token.setup ≡ heap_of p setup = new.of.setup ∙ same in
    let late : slice_index_or heap.setup.late t false ≡ is_late b.arrival = ap (λ (q : HeapSetup). slice_index_or q.late t false) same ∙ late_at setup.starts t b at in
    record {
      starts = subst (λ (l : Bool). MatchBool l (MayBegin heap token) (MayCall heap token)) late new.start;
      fits = subst (λ (q : HeapSetup). FitsThread q begun) (sym over) (fits p setup b.function b.arguments b.values may.takes_integers may.takes_these);
      begun = subst (λ (log : List Step). IsRealShare token.setup program_machine token.thread begun log begun) (sym new.log) (no_step token.setup token.thread begun);
    }

-- the thread with its token, at the beginning of its function
pub job_of : (p : LaidOut) (setup : Setup) (heap : Shared) (t : ℕ) (token me : Holder) (thread : NewThread ProgramThread) (outcome : WatchedEnd) → BegunFits → heap.setup ≡ heap_of p setup → HasNoFault p setup
    → BeginsAs p setup t thread → IsNew heap t token → me ≡ token → IsJobOf p setup heap t (record { me = me; machine = thread.machine; is_late = thread.is_late; outcome = outcome })
job_of p setup heap t token me thread outcome fits same none begins new is = let b = begins.0 in
    subst (λ (q : Holder). IsJobOf p setup heap t (record { me = q; machine = thread.machine; is_late = thread.is_late; outcome = outcome })) (sym is) record {
      of = new.of;
      number = new.number;
      machine = ap (λ (q : NewThread ProgramThread). q.machine) begins.2 ∙ ap (begun_at p setup) (sym begins.1);
      may = subst (λ (q : NewThread ProgramThread). MayBeServed program_machine FitsThread heap token q.is_late q.machine) (sym begins.2) (may_be_served p setup heap t b token fits same none begins.1 new);
    }

-- ---- the threads one after another

-- those from this one on
abbrev pub AreFrom : LaidOut → Setup → (thread : ℕ) → List (NewThread ProgramThread) → Type 0
AreFrom p setup t threads = threads ≡ map (new_thread p setup) (drop t setup.starts)

first_of : {A B : Type 0} (f : A → B) (xs : List A) (t : ℕ) (ys : List B) (y : B) → ys ≡ map f (drop t xs) → 0 < length ys → y ≡ slice_index_or ys 0 y → (x : A) × (slice_get xs t ≡ Some x) × (y ≡ f x)
first_of f [] zero ys y are some is = let none : length ys ≡ 0 = ap length are in absurd (omega (arith, none, some))
first_of f [] (suc t) ys y are some is = let none : length ys ≡ 0 = ap length are in absurd (omega (arith, none, some))
first_of f (x ∷ xs) zero ys y are some is = (x, refl, is ∙ ap (λ l. slice_index_or l 0 y) are)
first_of f (x ∷ xs) (suc t) ys y are some is = first_of f xs t ys y are some is

others_of : {A B : Type 0} (f : A → B) (xs : List A) (t : ℕ) (ys rest : List B) → ys ≡ map f (drop t xs) → 0 < length ys → rest ≡ remove ys 0 → rest ≡ map f (drop (suc t) xs)
others_of f [] zero ys rest are some is = let none : length ys ≡ 0 = ap length are in absurd (omega (arith, none, some))
others_of f [] (suc t) ys rest are some is = let none : length ys ≡ 0 = ap length are in absurd (omega (arith, none, some))
others_of f (x ∷ xs) zero ys rest are some is = is ∙ ap (λ l. remove l 0) are
others_of f (x ∷ xs) (suc t) ys rest are some is = others_of f xs t ys rest are some is

pub first_thread : (p : LaidOut) (setup : Setup) (t : ℕ) (threads : List (NewThread ProgramThread)) (thread : NewThread ProgramThread) → AreFrom p setup t threads → 0 < length threads → thread ≡ slice_index_or threads 0 thread → BeginsAs p setup t thread
first_thread p setup t threads thread are some is = first_of (new_thread p setup) setup.starts t threads thread are some is

pub other_threads : (p : LaidOut) (setup : Setup) (t : ℕ) (threads rest : List (NewThread ProgramThread)) → AreFrom p setup t threads → 0 < length threads → rest ≡ remove threads 0 → AreFrom p setup (suc t) rest × (suc (length rest) ≡ length threads)
other_threads p setup t threads rest are some is = (others_of (new_thread p setup) setup.starts t threads rest are some is, fewer threads some is)
  where
    fewer : (threads : List (NewThread ProgramThread)) → 0 < length threads → rest ≡ remove threads 0 → suc (length rest) ≡ length threads
    fewer [] some is = absurd (omega arith)
    fewer (first ∷ threads) some is = ap suc (ap length is)

-- the jobs with one more
pub one_job_more : (p : LaidOut) (setup : Setup) (heap : Shared) (jobs : List (WatchedJob ProgramThread)) (job : WatchedJob ProgramThread) (t : ℕ) → length jobs ≡ t → AreJobs p setup heap jobs → IsJobOf p setup heap t job
    → AreJobs p setup heap (jobs ++ job ∷ [])
one_job_more p setup heap jobs job t count are is u other at = elim (get_either jobs job u other at) [
  | inl there ↦ are u other there
  | inr last ↦ subst (IsJobOf p setup heap u) (sym last.1) (subst (λ n. IsJobOf p setup heap n job) (sym (last.0 ∙ count)) is)
]

-- no job
pub no_jobs : (p : LaidOut) (setup : Setup) (heap : Shared) (jobs : List (WatchedJob ProgramThread)) → jobs ≡ [] → AreJobs p setup heap jobs
no_jobs p setup heap jobs none t job at = let gone : slice_get [] t ≡ Some job = subst (λ (all : List (WatchedJob ProgramThread)). slice_get all t ≡ Some job) none at in absurd cc
