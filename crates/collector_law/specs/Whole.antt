-- Each run leads to a state that satisfies the invariant.
use Rattle.std.proofs.Common.{◌≡◌, ◌⊎◌, inl, inr, ℕ, zero, suc, slice_index, Bool, true, false, Option, Some, None, List, [], ◌∷◌, refl, sym, ap, ◌∙◌, subst, if◌then◌else◌, arith}
use Rattle.colours.specs.declared.place.Place.TheVariants.{Colour, Word}
use Rattle.pools.specs.Heap.{Setup, is_late, IsSetup, IsStartOf, cells, kind_of}
use Rattle.pools.specs.declared.word_kind.WordKind.{WordKind}
use Rattle.pools.specs.declared.word_kind.WordKind.TheVariants.{Integer, Reference}
use Rattle.pools.specs.Layouts.{is_reference_kind}
use Rattle.colours.specs.Colours.{done, cycle_of, claim_at}
use Rattle.colours.specs.Steps.{Step, ReadWord, ReadOldValue, Mark, StoreAfterBarrier, StorePlain, Claim, ReadPosted, StoreStage, ReadPostedFirst, EnterStage, ReadPostedAgain, FoundBy, place_of}
use Rattle.colours.specs.declared.turn.Turn.{Turn}
use Rattle.colours.specs.declared.turn.Turn.TheVariants.{PostStage, ReadStage, MarkFound, ReadColour, ScanWord, Blacken, ClearWord, Free}
use Rattle.collector_law.specs.Match.{flat, seen}
use Rattle.colours.specs.Mutator.{Ready, Absent, IsDisciplined}
use Rattle.colours.specs.Collector.{Collection, Posting, Waiting, ShadingGlobals, Passing, Scanning, Shading, Sweeping, Clearing, posted_of, has_answered, wait_from, Turns, Collects}
use Rattle.colours.specs.Runs.{Event, ByThread, ByCollector, log_of, turns_of, word_after, births_after, MayHappen, IsRun, KeepsDiscipline, ask_in}
use Rattle.collector_law.specs.Invariant as law
use Rattle.collector_law.specs.Puts.{put, put-other}
use Rattle.collector_law.specs.Law.{start, starts}
use Rattle.collector_law.specs.Match.{IsSync, IsAt, Shows, Safe}
use Rattle.collector_law.specs.Readings.{read_safe, read_old_safe}
use Rattle.collector_law.specs.Marking.{mark_safe}
use Rattle.collector_law.specs.Storing.{write_safe, plain_safe}
use Rattle.collector_law.specs.Claiming.{claim_safe}
use Rattle.collector_law.specs.Replies.{poll_safe, answer_safe, arrive_safe, enter_safe, confirm_safe}
use Rattle.collector_law.specs.Handshakes.{post_safe, check_safe, root_safe}
use Rattle.collector_law.specs.Passes.{out_safe, in_safe, scan_safe, blacken_safe, shade_safe, sweep_safe, clear_safe, free_safe}

-- each step of a thread leads to a state that satisfies the invariant
thread_safe : (s : Setup) (run : List Event) (c : Collection) (t : ℕ) (step : Step) → IsRun s run → MayHappen s run (ByThread t step) → IsDisciplined s (log_of t run) step → Safe s run c → Safe s (ByThread t step ∷ run) c
thread_safe s run c t (ReadWord cell word value) r m d f = read_safe s run c t cell word value r m d f
thread_safe s run c t (ReadOldValue cell word value) r m d f = read_old_safe s run c t cell word value r m d f
thread_safe s run c t (Mark cell) r m d f = mark_safe s run c t cell r m d f
thread_safe s run c t (StoreAfterBarrier cell word value) r m d f = write_safe s run c t cell word value r m d f
thread_safe s run c t (StorePlain cell word value) r m d f = plain_safe s run c t cell word value r m d f
thread_safe s run c t (Claim cell won) r m d f = claim_safe s run c t cell won r m f
thread_safe s run c t (ReadPosted posted) r m d f = poll_safe s run c t posted r m f
thread_safe s run c t (StoreStage stage roots) r m d f = answer_safe s run c t stage roots r m f
thread_safe s run c t (ReadPostedFirst stage) r m d f = arrive_safe s run c t stage m f
thread_safe s run c t (EnterStage stage) r m d f = enter_safe s run c t stage m f
thread_safe s run c t (ReadPostedAgain stage) r m d f = confirm_safe s run c t stage r m f

-- the step says what its word holds
abbrev FoundIn : Setup → List Event → Turn → Type 0
FoundIn s run turn = FoundBy turn (word_after s run (place_of (ask_in run (ByCollector turn))))

-- each step of the collector does
turn_safe : (s : Setup) (run : List Event) (b : Collection) (turn : Turn) (c : Collection) → IsRun s run → FoundIn s run turn → Turns s (posted_of (turns_of run)) b turn c → Safe s run b → Safe s (ByCollector turn ∷ run) c
turn_safe s run Posting (PostStage to) c r m x f = subst (λ c. Safe s (ByCollector (PostStage to) ∷ run) c) (sym x.2) (post_safe s run to r x.0 f)
turn_safe s run (Waiting thread) (ReadStage t found) c r m x f =
    subst (λ c. Safe s (ByCollector (ReadStage t found) ∷ run) c) (sym (x.1 ∙ ap (λ u. if_answered u) (sym x.0))) (check_safe s run t found r m (subst (λ u. Safe s run (Waiting u)) (sym x.0) f))
  where
    if_answered : ℕ → Collection
    if_answered u = if has_answered (posted_of (turns_of run)) found then wait_from s (posted_of (turns_of run)) (suc u) else Waiting u
turn_safe s run ShadingGlobals (MarkFound cell colour) c r m x f =
    subst (λ d. Safe s (ByCollector (MarkFound d colour) ∷ run) c) (sym x.0) (subst (λ c. Safe s (ByCollector (MarkFound 0 colour) ∷ run) c) (sym x.1) (root_safe s run colour r f))
turn_safe s run (Passing p) (ReadColour cell colour) c r m (inl x) f = subst (λ c. Safe s (ByCollector (ReadColour cell colour) ∷ run) c) (sym x.1) (in_safe s run p cell colour x.0 m f)
turn_safe s run (Passing p) (ReadColour cell colour) c r m (inr x) f = subst (λ c. Safe s (ByCollector (ReadColour cell colour) ∷ run) c) (sym x.2) (out_safe s run p cell colour m f)
turn_safe s run (Scanning cell word p) (ScanWord d w value) c r m x f =
    subst (λ d. Safe s (ByCollector (ScanWord d w value) ∷ run) c) (sym x.0)
    (subst (λ c. Safe s (ByCollector (ScanWord cell w value) ∷ run) c) (sym x.3) (scan_safe s run p cell word w value x.1 x.2 (subst (λ e. word_after s run (Word e w) ≡ value) x.0 m) f))
turn_safe s run (Scanning cell word p) (Blacken d) c r m x f =
    subst (λ d. Safe s (ByCollector (Blacken d) ∷ run) c) (sym x.0) (subst (λ c. Safe s (ByCollector (Blacken cell) ∷ run) c) (sym x.2) (blacken_safe s run p cell word x.1 f))
turn_safe s run (Shading value cell word p) (MarkFound d colour) c r m x f =
    subst (λ d. Safe s (ByCollector (MarkFound d colour) ∷ run) c) (sym x.0) (subst (λ c. Safe s (ByCollector (MarkFound value colour) ∷ run) c) (sym x.1) (shade_safe s run p value cell word colour f))
turn_safe s run (Sweeping cell) (ReadColour d colour) c r m x f =
    subst (λ d. Safe s (ByCollector (ReadColour d colour) ∷ run) c) (sym x.0) (subst (λ c. Safe s (ByCollector (ReadColour cell colour) ∷ run) c) (sym x.1) (sweep_safe s run cell colour (subst (λ e. word_after s run (Colour e) ≡ colour) x.0 m) f))
turn_safe s run (Clearing cell word) (ClearWord d w) c r m x f =
    subst (λ d. Safe s (ByCollector (ClearWord d w) ∷ run) c) (sym x.0) (subst (λ w. Safe s (ByCollector (ClearWord cell w) ∷ run) c) (sym x.1) (subst (λ c. Safe s (ByCollector (ClearWord cell word) ∷ run) c) (sym x.3) (clear_safe s run cell word f)))
turn_safe s run (Clearing cell word) (Free d) c r m x f =
    subst (λ d. Safe s (ByCollector (Free d) ∷ run) c) (sym x.0) (subst (λ c. Safe s (ByCollector (Free cell) ∷ run) c) (sym x.2) (free_safe s run cell word x.1 f))
turn_safe s run _ turn c r m x f = absurd x

-- ---- the start

-- the stage words at the start
abbrev start_stage : Setup → ℕ → ℕ
start_stage s t = if is_late s t then done else 0

-- each is 0 or done
at_start : (s : Setup) (t : ℕ) → (start_stage s t ≡ 0) ⊎ (start_stage s t ≡ done)
at_start s t = go (is_late s t)
  where
    go : (b : Bool) → ((if b then done else 0) ≡ 0) ⊎ ((if b then done else 0) ≡ done)
    go true = inr refl
    go false = inl refl

-- the state at the start shows the empty run
start_shows : (s : Setup) → IsSetup s → Shows s [] (start s.threads (cells s) (start_stage s))
unfolding word_after births_after
start_shows s h = record {
  threads = refl;
  cells = refl;
  posted = refl;
  stage = λ t. own (is_late s t);
  phase = λ t. ready (is_late s t);
  colour = colour;
  word = word;
  no_word = λ c i n. refl;
  tag = λ c i r n. absurd (n refl);
  birth = λ c. refl;
  held = λ t c x. x;
  fresh = λ t c x. x;
}
  where
    own : (b : Bool) → (if b then done else 0) ≡ seen (if b then Absent else Ready) 0
    own true = refl
    own false = refl

    ready : (b : Bool) → law.Ready ≡ flat (if b then Absent else Ready)
    ready true = refl
    ready false = refl

    colour : (c : ℕ) → put (λ c. 0) 0 1 c ≡ word_after s [] (Colour c)
    colour zero = refl
    colour (suc c) = put-other (λ c. 0) 0 1 (suc c) (λ e. absurd cc)

    null : (k : Option WordKind) (v : ℕ) → is_reference_kind k ≡ true → IsStartOf k v → 0 ≡ v
    null None v e x = absurd cc
    null (Some (Integer bits)) v e x = absurd cc
    null (Some (Reference layout)) v e x = sym x

    word : (c i : ℕ) → is_reference_kind (kind_of s c i) ≡ true → 0 ≡ word_after s [] (Word c i)
    word zero i e = null (kind_of s 0 i) (slice_index s.values i) e (h i)
    word (suc c) i e = refl

-- each run leads to a state that satisfies the invariant, wherever the collector may be
pub safe : (s : Setup) (run : List Event) → IsSetup s → IsRun s run → KeepsDiscipline s run → (c : Collection) → Collects s (turns_of run) c → Safe s run c
safe s [] h r d c col = record {
  state = start s.threads (cells s) (start_stage s);
  inv = starts done cycle_of claim_at IsSync s.threads (cells s) (start_stage s) (at_start s) (omega arith);
  shows = start_shows s h;
  at = subst (λ c. IsAt s c law.Resting) (sym col) (inl refl);
}
safe s (ByThread t step ∷ run) h r d c col = thread_safe s run c t step r.0 r.1 d.1 (safe s run h r.0 d.0 c col)
safe s (ByCollector turn ∷ run) h r d c col = turn_safe s run col.0 turn c r.0 r.1.1 col.2 (safe s run h r.0 d col.0 col.1)

-- after each run the collector is somewhere
pub collected : (s : Setup) (run : List Event) → IsRun s run → (c : Collection) × Collects s (turns_of run) c
collected s [] r = (Posting, refl)
collected s (ByThread t step ∷ run) r = collected s run r.0
collected s (ByCollector turn ∷ run) r = r.1.0
