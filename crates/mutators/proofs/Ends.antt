-- What the threads left that were served, and what is told of them.
use Rattle.std.proofs.Common.{◌≡◌, ◌<◌, ◌≤◌, ℕ, zero, suc, List, [], ◌∷◌, ◌++◌, length, map, Some, slice_get, slice_index_or, refl, sym, ap, subst, ◌∙◌, arith}
use Rattle.std.proofs.lemmas.List.{append-nil, length-map}
use Rattle.std.proofs.lemmas.Option.{get_or_from_slice_get, slice_get_within}
use Rattle.std.specs.List.{AllByRecursion}
use Rattle.lemmas.specs.Lists.{get_some}
use Rattle.pools.specs.Heap.{Setup as HeapSetup}
use Rattle.colours.specs.declared.turn.Turn.{Turn}
use Rattle.colours.specs.Runs.{Event, ByThread, log_of, IsHeapRun, TouchesAlive}
use Rattle.colours.specs.Safety.{KeptIsAlive}
use Rattle.colours.specs.Steps.{Step}
use Rattle.layout.specs.Layouts.{LaidOut}
use Rattle.runs.specs.RealThreads.{Left}
use Rattle.heap_words.specs.Tokens.{Shared}
use Rattle.trace_sweep.specs.Cycles.{HasSwept}
use Rattle.heap_words.specs.Endings.{Closing}
use Rattle.heap_table.specs.Closing as closing
use Rattle.heap_table.specs.Closing.{AreOf, HaveLogs}
use Rattle.heap_table.specs.Sweepers.{SweeperLog, IsSweeperOf, IsNowAt}
use Rattle.heap_table.specs.Holders.{Holder, IsOf}
use Rattle.program_runner.specs.Heaps.{heap_of}
use Rattle.program_runner.specs.Kinds.{FitsThread}
use Rattle.program_runner.specs.Threads.{ProgramThread, program_machine}
use Rattle.serving.specs.declared.beside.Job.{Job}
use Rattle.serving.specs.declared.beside.Limits.{Limits}
use Rattle.serving.specs.Endings.{EndsSo}
use Rattle.serving.specs.Jobs.{MayBegin, WasServed, token_of}
use Rattle.serving.specs.Turns.{MayTurn}
use Rattle.trace_text.specs.declared.trace.Setup.{Setup}
use Rattle.mutators.specs.declared.thread_end.ThreadEnd.{ThreadEnd}
use Rattle.mutators.specs.Jobs.{IsJobOf, AreJobs}
use Rattle.mutators.specs.Reports.{IsThreadEnd, IsReport, end_of}
use Rattle.mutators.proofs.Lists.{get_mapped, all_places}
use Rattle.mutators.proofs.Runs.{safe_run}

-- the heap may serve them all
pub all_may : (p : LaidOut) (setup : Setup) (heap : Shared) (jobs : List (Job ProgramThread)) → AreJobs p setup heap jobs → AllByRecursion (MayBegin program_machine FitsThread heap) jobs
all_may p setup heap jobs are = all_places jobs (λ t job e. (are t job e).may)

-- each of them was served
abbrev pub WereServed : (limit : ℕ) (before after : List (Job ProgramThread)) → Type 0
WereServed limit before after = (i : ℕ) (d : Job ProgramThread) → i < length before → WasServed program_machine limit (slice_index_or before i d) (slice_index_or after i d)

-- one of them, with what it was before
was_served : (limit : ℕ) (before after : List (Job ProgramThread)) → length after ≡ length before → WereServed limit before after → (t : ℕ) (job : Job ProgramThread) → slice_get after t ≡ Some job
    → (first : Job ProgramThread) × (slice_get before t ≡ Some first) × WasServed program_machine limit first job
was_served limit before after same each t job at =
    let within : t < length before = subst (λ n. t < n) same (slice_get_within after t job at) in
    let first = get_some before t within in (
      first.0,
      first.1,
      subst (λ (q : Job ProgramThread). WasServed program_machine limit first.0 q) (get_or_from_slice_get after t job job at)
          (subst (λ (q : Job ProgramThread). WasServed program_machine limit q (slice_index_or after t job)) (get_or_from_slice_get before t first.0 job first.1) (each t job within)),
    )

-- its token is of the heap still
pub are_of : (p : LaidOut) (setup : Setup) (heap : Shared) (limit : ℕ) (before after : List (Job ProgramThread)) → length after ≡ length before → WereServed limit before after → AreJobs p setup heap before
    → AreOf heap (map token_of after)
are_of p setup heap limit before after same each are = tokens after (λ t job at.
    let was = was_served limit before after same each t job at in
    let first = are t was.0 was.1 in
    subst (IsOf heap) (sym was.2.token) (record { table = first.of.table; setup = first.of.setup }))
  where
    tokens : (jobs : List (Job ProgramThread)) → ((t : ℕ) (job : Job ProgramThread) → slice_get jobs t ≡ Some job → IsOf heap job.me) → AreOf heap (map token_of jobs)
    tokens [] of = tt
    tokens (job ∷ jobs) of = (of zero job refl, tokens jobs (λ t other at. of (suc t) other at))

-- its log is its thread's share of the run
log_there : (run : List Event) (jobs : List (Job ProgramThread)) (t : ℕ) (job : Job ProgramThread) → HaveLogs run (map token_of jobs) → slice_get jobs t ≡ Some job → log_of job.me.thread run ≡ job.me.log
log_there run [] t job have at = absurd cc
log_there run (other ∷ jobs) zero job have at = let is : other ≡ job = cc in subst (λ (q : Job ProgramThread). log_of q.me.thread run ≡ q.me.log) is have.0
log_there run (other ∷ jobs) (suc t) job have at = log_there run jobs t job have.1 at

-- what holds of a setup, a thread, a machine and a log holds of equal ones
moved : (P : HeapSetup → ℕ → ProgramThread → List Step → Type 0) {s r : HeapSetup} {t u : ℕ} {m n : ProgramThread} {k l : List Step} → s ≡ r → t ≡ u → m ≡ n → k ≡ l → P s t m k → P r u n l
moved P {s} {r} {t} {u} {m} {n} {k} {l} a b c d holds =
    subst (P r u n) d (subst (λ (q : ProgramThread). P r u q k) c (subst (λ (q : ℕ). P r q m k) b (subst (λ (q : HeapSetup). P q t m k) a holds)))

-- what a thread left, and what is told of it
thread_end : (p : LaidOut) (setup : Setup) (heap : Shared) (run : List Event) (limit t : ℕ) (first job : Job ProgramThread) → heap.setup ≡ heap_of p setup → IsJobOf p setup heap t first
    → WasServed program_machine limit first job → log_of job.me.thread run ≡ job.me.log → IsThreadEnd p setup limit t (log_of t run) (end_of job)
thread_end p setup heap run limit t first job same is was mine =
    let over : first.me.setup ≡ heap_of p setup = is.of.setup ∙ same in
    let number : job.me.thread ≡ t = ap (λ (h : Holder). h.thread) was.token ∙ is.number in
    let log : job.me.log ≡ log_of t run = sym mine ∙ ap (λ n. log_of n run) number in
    record {
      left = moved (λ s u m l. Left s program_machine u m l) over is.number is.machine log was.left;
      outcome = job.outcome;
      state = job.machine;
      ends = moved (λ s u m l. EndsSo s program_machine u m limit job.outcome job.machine l) over is.number is.machine log was.end;
      told = refl;
    }

-- so of each thread in the report
pub thread_ends : (p : LaidOut) (setup : Setup) (heap : Shared) (run : List Event) (limit : ℕ) (before after : List (Job ProgramThread)) (ends : List ThreadEnd) → heap.setup ≡ heap_of p setup
    → length after ≡ length before → WereServed limit before after → AreJobs p setup heap before → HaveLogs run (map token_of after) → ends ≡ map end_of after
    → (t : ℕ) (end : ThreadEnd) → slice_get ends t ≡ Some end → IsThreadEnd p setup limit t (log_of t run) end
thread_ends p setup heap run limit before after ends same many each are have told t end at =
    let there = get_mapped end_of after t end (subst (λ (all : List ThreadEnd). slice_get all t ≡ Some end) told at) in
    let was = was_served limit before after many each t there.0 there.1 in
    subst (IsThreadEnd p setup limit t (log_of t run)) there.2
    (thread_end p setup heap run limit t was.0 there.0 same (are t was.0 was.1) was.2 (log_there run after t there.0 have there.1))

-- what came of it all
pub report : (p : LaidOut) (setup : Setup) (heap : Shared) (limits : Limits) (before after left : List (Job ProgramThread)) (first last : SweeperLog) (closed : Closing) (threads : List ThreadEnd) (turns cycles : ℕ)
    → ((s : HeapSetup) (run : List Event) → IsHeapRun s run → KeptIsAlive s run)
    → ((s : HeapSetup) (run : List Event) (t : ℕ) (step : Step) → IsHeapRun s (ByThread t step ∷ run) → TouchesAlive s run t step)
    → heap.setup ≡ heap_of p setup → AreJobs p setup heap before → length before ≡ length setup.starts → length after ≡ length before → left ≡ after → WereServed limits.steps before after
    → IsSweeperOf heap first → first.log ≡ [] → IsNowAt first last.log last → (made : List Turn) × (last.log ≡ made ++ first.log) × (length made ≡ turns) → turns ≤ limits.turns → (0 < limits.turns → MayTurn first.setup first.log → 0 < turns)
    → HasSwept last.setup last.log cycles → closing.EndsSo heap.setup (map token_of left) last closed → threads ≡ map end_of left
    → IsReport p setup limits (record { threads = threads; turns = turns; cycles = cycles })
report p setup heap limits before after left first last closed threads turns cycles kept touched over are count same is each of none now made within least swept ends told =
    let s = heap_of p setup in
    let run = ends.run in
    let is_run = subst (λ (q : HeapSetup). IsHeapRun q run) over ends.is_run in
    let have = subst (λ (all : List (Job ProgramThread)). HaveLogs run (map token_of all)) is ends.threads in
    let here = ap (λ (w : SweeperLog). w.setup) now ∙ of.setup ∙ over in
    record {
      run = run;
      is_run = is_run;
      safe = safe_run s run (kept s) (touched s) is_run;
      one_each = ap length told ∙ length-map left end_of ∙ ap length is ∙ same ∙ count;
      threads = thread_ends p setup heap run limits.steps before after threads over same each are have (told ∙ ap (map end_of) is);
      turns = ap length (ends.collector ∙ made.1 ∙ ap (λ log. made.0 ++ log) none ∙ append-nil made.0) ∙ made.2;
      within = within;
      first = λ some. least some (subst (λ (log : List Turn). MayTurn first.setup log) (sym none) (λ posting. omega arith));
      cycles = subst (λ log. HasSwept s log cycles) (sym ends.collector) (subst (λ (q : HeapSetup). HasSwept q last.log cycles) here swept);
    }
