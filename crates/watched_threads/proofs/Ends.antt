-- What the watched threads left that were served, and what is told of them.
use Rattle.std.proofs.Common.{◌≡◌, ◌<◌, ◌≤◌, ℕ, zero, suc, List, [], ◌∷◌, ◌++◌, length, map, Some, slice_get, slice_index_or, refl, sym, ap, subst, ◌∙◌, arith}
use Rattle.std.proofs.lemmas.List.{append-nil}
use Rattle.std.proofs.lemmas.Option.{get_or_from_slice_get, slice_get_within}
use Rattle.std.specs.List.{AllByRecursion}
use Rattle.lemmas.specs.Lists.{get_some}
use Rattle.pools.specs.Heap.{Setup as HeapSetup}
use Rattle.colours.specs.declared.turn.Turn.{Turn}
use Rattle.colours.specs.Runs.{Event, ByThread, log_of, IsHeapRun, TouchesAlive}
use Rattle.colours.specs.Safety.{KeptIsAlive}
use Rattle.colours.specs.Steps.{Step}
use Rattle.layout.specs.Layouts.{LaidOut}
use Rattle.machine.specs.declared.frame.Frame.{Frame}
use Rattle.machine.specs.Machine.{action}
use Rattle.runs.specs.Machine.{WordValue}
use Rattle.runs.specs.RealThreads.{Left}
use Rattle.heap_words.specs.Tokens.{Shared}
use Rattle.heap_words.specs.Endings.{Closing}
use Rattle.trace_sweep.specs.Cycles.{HasSwept}
use Rattle.heap_table.specs.Closing as closing
use Rattle.heap_table.specs.Closing.{AreOf, HaveLogs}
use Rattle.heap_table.specs.Sweepers.{SweeperLog, IsSweeperOf, IsNowAt}
use Rattle.heap_table.specs.Holders.{Holder, IsOf}
use Rattle.mutators.proofs.Lists.{all_places}
use Rattle.mutators.proofs.Runs.{safe_run}
use Rattle.mutators.specs.declared.thread_end.ThreadEnd.{ThreadEnd}
use Rattle.mutators.specs.Reports.{IsThreadEnd}
use Rattle.program_runner.specs.Heaps.{heap_of}
use Rattle.program_runner.specs.Kinds.{FitsThread}
use Rattle.program_runner.specs.Setups.{starts_of}
use Rattle.program_runner.specs.Threads.{ProgramThread, program_machine}
use Rattle.program_safety.specs.Threads.{asked_as}
use Rattle.serving.specs.declared.beside.Limits.{Limits}
use Rattle.serving.specs.Turns.{MayTurn}
use Rattle.trace_text.specs.declared.trace.Setup.{Setup}
use Rattle.watched_serving.specs.declared.beside.WatchedJob.{WatchedJob}
use Rattle.watched_serving.specs.declared.breach.Breach.{Breach}
use Rattle.watched_serving.specs.declared.watching.WatchedEnd.{WatchedEnd}
use Rattle.watched_serving.specs.declared.watching.WatchedEnd.TheVariants.{Kept, Broke}
use Rattle.watched_serving.specs.Breaches.{IsReason}
use Rattle.watched_serving.specs.Endings.{IsBrokenAt, EndsSo}
use Rattle.watched_serving.specs.Jobs.{MayBegin, WasServed, token_of}
use Rattle.watched_threads.specs.declared.report.BrokenThread.{BrokenThread}
use Rattle.watched_threads.specs.declared.report.ToldThreads.{ToldThreads}
use Rattle.watched_threads.specs.declared.report.ToldThreads.TheVariants.{Ends, Broken}
use Rattle.watched_threads.specs.Ends.{EndedSo, HaveFrames, EndedBefore, IsFirstBroken, AreToldSo}
use Rattle.watched_threads.specs.Jobs.{IsJobOf, AreJobs}
use Rattle.watched_threads.specs.Reports.{BreaksIn, IsWatchReport, report_of}

-- the heap may serve them all
pub all_may : (p : LaidOut) (setup : Setup) (heap : Shared) (jobs : List (WatchedJob ProgramThread)) → AreJobs p setup heap jobs → AllByRecursion (MayBegin program_machine FitsThread heap) jobs
all_may p setup heap jobs are = all_places jobs (λ t job e. (are t job e).may)

-- each of them was served
abbrev pub WereServed : (limit : ℕ) (before after : List (WatchedJob ProgramThread)) → Type 0
WereServed limit before after = (i : ℕ) (d : WatchedJob ProgramThread) → i < length before → WasServed program_machine limit (slice_index_or before i d) (slice_index_or after i d)

-- one of them, with what it was before
was_served : (limit : ℕ) (before after : List (WatchedJob ProgramThread)) → length after ≡ length before → WereServed limit before after → (t : ℕ) (job : WatchedJob ProgramThread) → slice_get after t ≡ Some job
    → (first : WatchedJob ProgramThread) × (slice_get before t ≡ Some first) × WasServed program_machine limit first job
was_served limit before after same each t job at =
    let within : t < length before = subst (λ n. t < n) same (slice_get_within after t job at) in
    let first = get_some before t within in (
      first.0,
      first.1,
      subst (λ (q : WatchedJob ProgramThread). WasServed program_machine limit first.0 q) (get_or_from_slice_get after t job job at)
          (subst (λ (q : WatchedJob ProgramThread). WasServed program_machine limit q (slice_index_or after t job)) (get_or_from_slice_get before t first.0 job first.1) (each t job within)),
    )

-- its token is of the heap still
pub are_of : (p : LaidOut) (setup : Setup) (heap : Shared) (limit : ℕ) (before after : List (WatchedJob ProgramThread)) → length after ≡ length before → WereServed limit before after → AreJobs p setup heap before
    → AreOf heap (map token_of after)
are_of p setup heap limit before after same each are = tokens after (λ t job at.
    let was = was_served limit before after same each t job at in
    let first = are t was.0 was.1 in
    subst (IsOf heap) (sym was.2.token) (record { table = first.of.table; setup = first.of.setup }))
  where
    tokens : (jobs : List (WatchedJob ProgramThread)) → ((t : ℕ) (job : WatchedJob ProgramThread) → slice_get jobs t ≡ Some job → IsOf heap job.me) → AreOf heap (map token_of jobs)
    tokens [] of = tt
    tokens (job ∷ jobs) of = (of zero job refl, tokens jobs (λ t other at. of (suc t) other at))

-- its log is its thread's share of the run
log_there : (run : List Event) (jobs : List (WatchedJob ProgramThread)) (t : ℕ) (job : WatchedJob ProgramThread) → HaveLogs run (map token_of jobs) → slice_get jobs t ≡ Some job → log_of job.me.thread run ≡ job.me.log
log_there run [] t job have at = absurd cc
log_there run (other ∷ jobs) zero job have at = let is : other ≡ job = cc in subst (λ (q : WatchedJob ProgramThread). log_of q.me.thread run ≡ q.me.log) is have.0
log_there run (other ∷ jobs) (suc t) job have at = log_there run jobs t job have.1 at

-- what holds of a setup, a thread, a machine and a log holds of equal ones
moved : (P : HeapSetup → ℕ → ProgramThread → List Step → Type 0) {s r : HeapSetup} {t u : ℕ} {m n : ProgramThread} {k l : List Step} → s ≡ r → t ≡ u → m ≡ n → k ≡ l → P s t m k → P r u n l
moved P {s} {r} {t} {u} {m} {n} {k} {l} a b c d holds =
    subst (P r u n) d (subst (λ (q : ProgramThread). P r u q k) c (subst (λ (q : ℕ). P r q m k) b (subst (λ (q : HeapSetup). P q t m k) a holds)))

-- ---- a thread that broke the discipline has a frame

asks_by_frame : (p : LaidOut) (s : HeapSetup) (log : List Step) (roots : List WordValue) (why : Breach) (frames : List Frame) → IsReason s log roots (asked_as (action p (record { frames = frames }))) why → 0 < length frames
asks_by_frame p s log roots why [] reason = absurd reason
asks_by_frame p s log roots why (frame ∷ frames) reason = omega arith

pub have_frames : (limit : ℕ) (before after : List (WatchedJob ProgramThread)) → length after ≡ length before → WereServed limit before after → HaveFrames after
have_frames limit before after same each t job why at broke =
    let was = was_served limit before after same each t job at in
    let first = was.0 in
    let broken : IsBrokenAt first.me.setup program_machine first.me.thread first.machine why job.machine job.me.log =
    subst (λ (e : WatchedEnd). EndsSo first.me.setup program_machine first.me.thread first.machine limit e job.machine job.me.log) broke was.2.end in
    asks_by_frame job.machine.program first.me.setup broken.before (program_machine.roots job.machine) why job.machine.state.frames broken.breach_is.reason

-- ---- what is told

module _ (p : LaidOut) (setup : Setup) (heap : Shared) (run : List Event) (limit : ℕ) (same : heap.setup ≡ heap_of p setup) where
  module _ (t : ℕ) (first job : WatchedJob ProgramThread) (is : IsJobOf p setup heap t first) (was : WasServed program_machine limit first job) (mine : log_of job.me.thread run ≡ job.me.log) where
    over : first.me.setup ≡ heap_of p setup
    over = is.of.setup ∙ same

    log : job.me.log ≡ log_of t run
    log = sym mine ∙ ap (λ n. log_of n run) (ap (λ (h : Holder). h.thread) was.token ∙ is.number)

    -- how it ended, moved to the run
    ended : (outcome : WatchedEnd) → job.outcome ≡ outcome → EndsSo (heap_of p setup) program_machine t (starts_of p setup t) limit outcome job.machine (log_of t run)
    ended outcome e = moved (λ s u m l. EndsSo s program_machine u m limit outcome job.machine l) over is.number is.machine log
        (subst (λ (o : WatchedEnd). EndsSo first.me.setup program_machine first.me.thread first.machine limit o job.machine job.me.log) e was.end)

    -- of one that broke nothing
    kept_end : (end : ThreadEnd) → EndedSo job end → IsThreadEnd p setup limit t (log_of t run) end
    kept_end end so = record {
      left = moved (λ s u m l. Left s program_machine u m l) over is.number is.machine log was.left;
      outcome = so.outcome;
      state = job.machine;
      ends = ended (Kept so.outcome) so.kept;
      told = so.is_told;
    }

  module _ (before after : List (WatchedJob ProgramThread)) (many : length after ≡ length before) (each : WereServed limit before after) (are : AreJobs p setup heap before) (have : HaveLogs run (map token_of after)) where
    -- of each before this place
    pub ends_before : (ends : List ThreadEnd) (place : ℕ) → EndedBefore after ends place → (t : ℕ) → t < place → t < length after → (end : ThreadEnd) × (slice_get ends t ≡ Some end) × IsThreadEnd p setup limit t (log_of t run) end
    ends_before ends place told t low within =
        let job = get_some after t within in
        let was = was_served limit before after many each t job.0 job.1 in
        let so = told t job.0 low job.1 in
        (so.0, so.1, kept_end t was.0 job.0 (are t was.0 was.1) was.2 (log_there run after t job.0 have job.1) so.0 so.2)

    -- of the first that broke the discipline
    pub broken_there : (b : BrokenThread) → IsFirstBroken after b → BreaksIn p setup run b
    broken_there b is =
        let was = was_served limit before after many each b.thread is.job is.is in
        record {
          state = is.job.machine;
          broken = ended b.thread was.0 is.job (are b.thread was.0 was.1) was.2 (log_there run after b.thread is.job have is.is) (Broke b.why) is.broke;
          at = is.at;
        }

-- what came of it all
pub report : (p : LaidOut) (setup : Setup) (heap : Shared) (limits : Limits) (before after left : List (WatchedJob ProgramThread)) (first last : SweeperLog) (closed : Closing) (told : ToldThreads) (turns cycles : ℕ)
    → ((s : HeapSetup) (run : List Event) → IsHeapRun s run → KeptIsAlive s run)
    → ((s : HeapSetup) (run : List Event) (t : ℕ) (step : Step) → IsHeapRun s (ByThread t step ∷ run) → TouchesAlive s run t step)
    → heap.setup ≡ heap_of p setup → AreJobs p setup heap before → length before ≡ length setup.starts → length after ≡ length before → left ≡ after → WereServed limits.steps before after
    → IsSweeperOf heap first → first.log ≡ [] → IsNowAt first last.log last → (made : List Turn) × (last.log ≡ made ++ first.log) × (length made ≡ turns) → turns ≤ limits.turns → (0 < limits.turns → MayTurn first.setup first.log → 0 < turns)
    → HasSwept last.setup last.log cycles → closing.EndsSo heap.setup (map token_of left) last closed → AreToldSo left told
    → IsWatchReport p setup limits (report_of told turns cycles)
report p setup heap limits before after left first last closed told turns cycles kept touched over are count same is each of none now made within least swept ends so = go told (subst (λ (all : List (WatchedJob ProgramThread)). AreToldSo all told) is so)
  where
    s : HeapSetup
    s = heap_of p setup

    run : List Event
    run = ends.run

    is_run : IsHeapRun s run
    is_run = subst (λ (q : HeapSetup). IsHeapRun q run) over ends.is_run

    have : HaveLogs run (map token_of after)
    have = subst (λ (all : List (WatchedJob ProgramThread)). HaveLogs run (map token_of all)) is ends.threads

    here : last.setup ≡ s
    here = ap (λ (w : SweeperLog). w.setup) now ∙ of.setup ∙ over

    go : (told : ToldThreads) → AreToldSo after told → IsWatchReport p setup limits (report_of told turns cycles)
    go (Ends threads) so = record {
      run = run;
      is_run = is_run;
      safe = safe_run s run (kept s) (touched s) is_run;
      one_each = so.0 ∙ same ∙ count;
      threads = λ t end at.
          let low : t < length after = subst (λ n. t < n) so.0 (slice_get_within threads t end at) in
          let there = ends_before p setup heap run limits.steps over before after same each are have threads (length after) so.1 t low low in
          let one : there.0 ≡ end = some_is threads t there.0 end there.1 at in
          subst (IsThreadEnd p setup limits.steps t (log_of t run)) one there.2;
      turns = ap length (ends.collector ∙ made.1 ∙ ap (λ log. made.0 ++ log) none ∙ append-nil made.0) ∙ made.2;
      within = within;
      first = λ some. least some (subst (λ (log : List Turn). MayTurn first.setup log) (sym none) (λ posting. omega arith));
      cycles = subst (λ log. HasSwept s log cycles) (sym ends.collector) (subst (λ (q : HeapSetup). HasSwept q last.log cycles) here swept);
    }
      where
        some_is : (threads : List ThreadEnd) (t : ℕ) (a b : ThreadEnd) → slice_get threads t ≡ Some a → slice_get threads t ≡ Some b → a ≡ b
        some_is threads t a b at there = let e : Some a ≡ Some b = sym at ∙ there in cc
    go (Broken b) so = record {
      run = run;
      is_run = is_run;
      safe = safe_run s run (kept s) (touched s) is_run;
      is_thread = let w = slice_get_within after b.thread so.job so.is in subst (λ n. b.thread < n) (same ∙ count) w;
      breaks = broken_there p setup heap run limits.steps over before after same each are have b so;
      before = λ t low.
          let w = slice_get_within after b.thread so.job so.is in
          let there = ends_before p setup heap run limits.steps over before after same each are have so.ends b.thread so.before t low (omega (arith, low, w)) in
          (there.0, there.2);
    }
