-- The poll of the posted stage, and the answer to it.
use Rattle.std.proofs.Common.{◌≡◌, ◌≢◌, ◌⊎◌, inl, inr, ℕ, suc, ◌+◌, ◌*◌, ◌^◌, ◌<◌, ◌==◌, reverse, cond, not, Bool, true, false, List, [], ◌∷◌, refl, sym, ap, ◌∙◌, subst, if◌then◌else◌, arith}
use Rattle.std.proofs.lemmas.Bool.{cases_eq}
use Rattle.std.proofs.lemmas.Grind.{reverse_onto}
use Rattle.lemmas.specs.Lists.{IsIn, in_longer}
use Rattle.lemmas.specs.Numbers.{test_true}
use Rattle.pools.specs.Heap.{Setup}
use Rattle.colours.specs.Colours.{done, cycle_of, claim_at, is_async}
use Rattle.colours.specs.Steps.{Step, ReadPosted, StoreStage, ReadPostedFirst, EnterStage, ReadPostedAgain}
use Rattle.colours.specs.Mutator.{Phase, Ready, Answering, Ended, Absent, Arriving, Entering, Leaving, stage_of, phase_of, phase_after, MayFollow, non_null}
use Rattle.colours.specs.Collector.{Collection, posted_of}
use Rattle.colours.specs.Runs.{Event, ByThread, log_of, turns_of, word_after, births_after, MayHappen, IsRun}
use Rattle.colours.specs.Stages.{posted_is, handshake}
use Rattle.collector_law.specs.Invariant as law
use Rattle.collector_law.specs.Puts.{put, put-here, put-other}
use Rattle.collector_law.specs.Shade.{shaded, shades}
use Rattle.collector_law.specs.Answer.{after_answer, answered}
use Rattle.collector_law.specs.Match.{IsSync, IsInvariant, flat, Shows, Safe}
use Rattle.collector_law.specs.Match.{seen, stage_in}
use Rattle.collector_law.specs.Events.{plain_begun, seen_kept, log_here, log_other, stage_stays, held_by, fresh_by}
use Rattle.collector_law.specs.Threads.{in_range, not_done, phase_put, held_kept, fresh_kept, IsIdle, idle}
use Rattle.collector_law.specs.Numbers.{async_three}
use Rattle.collector_law.specs.Storing.{low_cycle}

-- ---- the poll

-- a thread reads the posted stage between two calls
poll_ready : (s : Setup) (stage : ℕ) (phase : Phase) (posted : ℕ) → MayFollow s stage phase (ReadPosted posted) → phase ≡ Ready
poll_ready s stage Ready posted m = refl
poll_ready s stage _ posted m = absurd m

-- where its own stage is posted nothing changes
poll_idle : (s : Setup) (run : List Event) (t p : ℕ) → MayHappen s run (ByThread t (ReadPosted p)) → (p == stage_of (log_of t run)) ≡ true → IsIdle s run t (ReadPosted p)
unfolding word_after births_after
poll_idle s run t p m e = record {
  gains = λ c. refl;
  wins = λ c. refl;
  stage = stage_stays s t (ReadPosted p) run refl m.1;
  colour = λ c. refl;
  word = λ c i r. refl;
  tag = λ c i r. refl;
  birth = λ c. refl;
  phase = ap flat (poll_ready s (stage_of (log_of t run)) (phase_of s t (log_of t run)) p m.1) ∙ rw e refl;
}

-- the state in which the thread is before its answer shows the run
poll_shows : (s : Setup) (run : List Event) (S : law.State) → Shows s run S → (t p : ℕ) → MayFollow s (stage_of (log_of t run)) (phase_of s t (log_of t run)) (ReadPosted p) → (p == stage_of (log_of t run)) ≡ false
    → Shows s (ByThread t (ReadPosted p) ∷ run) (shaded S S.colour (put S.phase t (law.Answering p [])))
unfolding word_after births_after
poll_shows s run S h t p f e = record {
  threads = h.threads;
  cells = h.cells;
  posted = h.posted;
  stage = λ u. h.stage u ∙ sym (stage_stays s t (ReadPosted p) run refl f u);
  phase = phase_put s run S h t (ReadPosted p) (law.Answering p []) (rw e refl);
  colour = λ c. h.colour c;
  word = λ c i r. h.word c i r;
  no_word = h.no_word;
  tag = λ c i r n. h.tag c i r n;
  birth = λ c. h.birth c;
  held = held_kept s run S t (ReadPosted p) (λ c. refl) h;
  fresh = fresh_kept s run S t (ReadPosted p) (λ c. refl) h;
}

-- a read of the posted stage leads to a state that satisfies the invariant
pub poll_safe : (s : Setup) (run : List Event) (c : Collection) (t p : ℕ) → IsRun s run → MayHappen s run (ByThread t (ReadPosted p)) → Safe s run c → Safe s (ByThread t (ReadPosted p) ∷ run) c
poll_safe s run c t p r m f = go (p == stage_of (log_of t run)) refl
  where
    S : law.State
    S = f.state

    g : ℕ → law.Phase
    g = put S.phase t (law.Answering p [])

    lt : t < S.threads
    lt = in_range s run S f.shows t (ReadPosted p) m

    ready : S.phase t ≡ law.Ready
    ready = f.shows.phase t ∙ ap flat (poll_ready s (stage_of (log_of t run)) (phase_of s t (log_of t run)) p m.1)

    go : (b : Bool) → (p == stage_of (log_of t run)) ≡ b → Safe s (ByThread t (ReadPosted p) ∷ run) c
    go true e = record { state = S; inv = f.inv; shows = idle s run S t (ReadPosted p) (poll_idle s run t p m e) f.shows; at = f.at }
    go false e = record {
      state = shaded S S.colour g;
      inv = shades done cycle_of claim_at IsSync S S.colour g (record {
        up = λ d. inl refl;
        differs = λ u y j n d. elim (cases_eq u t) [
          | inl z ↦ absurd (subst (λ q. law.Differs q y j n) (put-here S.phase t (law.Answering p []) u z) d)
          | inr o ↦ subst (λ q. law.Differs q y j n) (put-other S.phase t (law.Answering p []) u o) d
        ];
        old = λ u y o. elim (cases_eq u t) [
          | inl z ↦ subst (λ q. law.OldIsNot q y) (sym (put-here S.phase t (law.Answering p []) u z)) tt
          | inr n ↦ subst (λ q. law.OldIsNot q y) (sym (put-other S.phase t (law.Answering p []) u n)) o
        ];
        answers = λ u q marked lu z. elim (cases_eq u t) [
          | inl is ↦ let same : law.Answering p [] ≡ law.Answering q marked = sym (put-here S.phase t (law.Answering p []) u is) ∙ z in let one : p ≡ q = cc in (sym one ∙ afterwards.0 ∙ sym f.shows.posted, ap (λ v. suc (S.stage v)) is ∙ ap suc (stage_in s run S f.shows t (plain_begun s (stage_of (log_of t run)) (phase_of s t (log_of t run)) (ReadPosted p) refl m.1)) ∙ afterwards.1 ∙ sym f.shows.posted)
          | inr n ↦ f.inv.stages.answers u q marked lu (sym (put-other S.phase t (law.Answering p []) u n) ∙ z)
        ];
        ready = λ u lu z. elim (cases_eq u t) [
          | inl is ↦ absurd (not_done s run S f.shows r t (ReadPosted p) refl m (ap S.stage (sym is) ∙ z))
          | inr n ↦ put-other S.phase t (law.Answering p []) u n ∙ (f.inv.stages.ended u lu z).0
        ];
        fresh = λ u y lu fr. inl (
          refl,
          λ h. elim (cases_eq u t) [
            | inl is ↦ absurd (subst (λ q. law.HasMarked q y) (ap S.phase is ∙ ready) h)
            | inr n ↦ subst (λ q. law.HasMarked q y) (sym (put-other S.phase t (law.Answering p []) u n)) h
          ],
        );
        stands = λ u lu. elim (cases_eq u t) [
          | inl is ↦ subst (λ q. law.Stands cycle_of IsSync (shaded S S.colour g) u q) (sym (put-here S.phase t (law.Answering p []) u is)) (λ y among. absurd among)
          | inr n ↦ subst (λ q. law.Stands cycle_of IsSync (shaded S S.colour g) u q) (sym (put-other S.phase t (law.Answering p []) u n)) (f.inv.stands u lu)
        ];
      }) f.inv;
      shows = poll_shows s run S f.shows t p m.1 e;
      at = f.at;
    }
      where
        afterwards : (p ≡ posted_of (turns_of run)) × (suc (stage_of (log_of t run)) ≡ posted_of (turns_of run))
        afterwards =
            let now = (handshake s (ByThread t (ReadPosted p) ∷ run) (r, m)).answering t m.0 p [] (ap (λ (l : List Step). phase_of s t l) (log_here t (ReadPosted p) run t refl) ∙ rw e refl) in
            (now.0, ap (λ (l : List Step). suc (stage_of l)) (sym (log_here t (ReadPosted p) run t refl)) ∙ now.1)

-- ---- the answer

-- a root that is not null is among those that are marked
pub among_kept : (c : ℕ) (roots : List ℕ) → c ≢ 0 → IsIn c roots → IsIn c (non_null roots)
among_kept c [] n a = absurd a
among_kept c (x ∷ roots) n a = go (x == 0) refl a (among_kept c roots n)
  where
    go : (b : Bool) → (x == 0) ≡ b → (c ≡ x) ⊎ IsIn c roots → (IsIn c roots → IsIn c (non_null roots)) → IsIn c (cond (not b) (x ∷ non_null roots) (non_null roots))
    go true e (inl is) rest = absurd (n (is ∙ test_true x 0 e))
    go true e (inr m) rest = rest m
    go false e (inl is) rest = inl is
    go false e (inr m) rest = inr (rest m)

-- the order of a list does not matter
pub among_reversed : (c : ℕ) (marked : List ℕ) → IsIn c (reverse marked) → IsIn c marked
among_reversed c [] a = a
among_reversed c (y ∷ marked) a = elim (in_longer c (reverse marked) y (subst (λ (l : List ℕ). IsIn c l) (reverse_onto marked y []) a)) [
  | inl b ↦ inr (among_reversed c marked b)
  | inr e ↦ inl e
]

abbrev IsRoot : List ℕ → ℕ → Type 0
IsRoot roots c = (c ≢ 0) × IsIn c roots

-- after an answer the thread is between two calls
answer_ready : (s : Setup) (stage : ℕ) (phase : Phase) (p : ℕ) (roots : List ℕ) → flat (phase_after s stage phase (StoreStage p roots)) ≡ law.Ready
answer_ready s stage Leaving p roots = refl
answer_ready s stage _ p roots = go (p == done)
  where
    go : (b : Bool) → flat (if b then Ended else Ready) ≡ law.Ready
    go true = refl
    go false = refl

-- the state after an answer shows the run
answer_shows : (s : Setup) (run : List Event) (S : law.State) → IsInvariant S → Shows s run S → (t p : ℕ) (roots : List ℕ) → t < S.threads → p ≡ seen (phase_after s (stage_of (log_of t run)) (phase_of s t (log_of t run)) (StoreStage p roots)) p
    → Shows s (ByThread t (StoreStage p roots) ∷ run) (after_answer S t p (IsRoot roots))
unfolding word_after births_after
answer_shows s run S inv h t p roots lt own = record {
  threads = h.threads;
  cells = h.cells;
  posted = h.posted;
  stage = λ u. elim (cases_eq u t) [
    | inl e ↦ subst (λ (v : ℕ). put S.stage t p v ≡ seen (phase_of s v (log_of v (ByThread t (StoreStage p roots) ∷ run))) (stage_of (log_of v (ByThread t (StoreStage p roots) ∷ run)))) (sym e) (put-here S.stage t p t refl ∙ own ∙ ap (λ (l : List Step). seen (phase_of s t l) (stage_of l)) (sym (log_here t (StoreStage p roots) run t refl)))
    | inr n ↦ put-other S.stage t p u n ∙ h.stage u ∙ sym (ap (λ (l : List Step). seen (phase_of s u l) (stage_of l)) (log_other t (StoreStage p roots) run u n))
  ];
  phase = phase_put s run S h t (StoreStage p roots) law.Ready (sym (answer_ready s (stage_of (log_of t run)) (phase_of s t (log_of t run)) p roots));
  colour = λ c. h.colour c;
  word = λ c i r. h.word c i r;
  no_word = h.no_word;
  tag = λ c i r n. h.tag c i r n;
  birth = λ c. h.birth c;
  held = λ u c x. elim (held_by s t (StoreStage p roots) run u c x) [
    | inl y ↦ absurd (cc (y.1))
    | inr y ↦
        let was = h.held u c y.2 in
        (subst (λ (b : ℕ). S.IsHeld u c b) (sym y.0) was, λ is. ((inv.live.held u c ((births_after s run).with_thread u c) (subst (λ (v : ℕ). v < S.threads) (sym is) lt) was).0, y.1 is))
  ];
  fresh = λ u c x. elim (fresh_by s t (StoreStage p roots) run u c x) [
    | inl y ↦ absurd (cc (y.1))
    | inr y ↦ (h.fresh u c y.1, λ is. absurd (cc ((y.0 is).0)))
  ];
}

-- an answer leads to a state that satisfies the invariant
pub answer_safe : (s : Setup) (run : List Event) (c : Collection) (t p : ℕ) (roots : List ℕ) → IsRun s run → MayHappen s run (ByThread t (StoreStage p roots)) → Safe s run c → Safe s (ByThread t (StoreStage p roots) ∷ run) c
answer_safe s run c t p roots r m f = go (phase_of s t (log_of t run)) refl m.1
  where
    S : law.State
    S = f.state

    lt : t < S.threads
    lt = in_range s run S f.shows t (StoreStage p roots) m

    low : 3 * S.cycle + 6 < done
    low = low_cycle s run S f.inv f.shows r

    low_posted : S.posted < done
    low_posted = let l : posted_of (turns_of run) < 3 * 2 ^ 60 = (handshake s run r).low in let e : S.posted ≡ posted_of (turns_of run) = f.shows.posted in omega (arith, l, e)

    build : p ≡ seen (phase_after s (stage_of (log_of t run)) (phase_of s t (log_of t run)) (StoreStage p roots)) p → ((p ≡ S.posted) × (p ≢ done) × (p ≡ 3 * S.cycle → (d : ℕ) → IsRoot roots d → law.IsMarked S d)) ⊎ ((p ≡ done) × (p ≢ 3 * S.cycle) × ((d : ℕ) → IsRoot roots d → ⊥)) → Safe s (ByThread t (StoreStage p roots) ∷ run) c
    build own next = record {
      state = after_answer S t p (IsRoot roots);
      inv = answered done cycle_of claim_at IsSync S t p (IsRoot roots) lt next f.inv;
      shows = answer_shows s run S f.inv f.shows t p roots lt own;
      at = f.at;
    }

    over : (b : Bool) → p ≡ seen (if b then Ended else Ready) p
    over true = refl
    over false = refl

    go : (q : Phase) → phase_of s t (log_of t run) ≡ q → MayFollow s (stage_of (log_of t run)) q (StoreStage p roots) → Safe s (ByThread t (StoreStage p roots) ∷ run) c
    go Ready e n = build (rw e (over (p == done))) (inr (n.0, λ z. omega (arith, low, n.0, z), λ d x. subst (λ (l : List ℕ). IsIn d l) n.1 x.1))
    go Leaving e n = build (rw e n.0) (inr (n.0, λ z. omega (arith, low, n.0, z), λ d x. subst (λ (l : List ℕ). IsIn d l) n.1 x.1))
    go (Answering next marked) e n = build (rw e (over (p == done))) (inl (
      now,
      λ z. omega (arith, low_posted, now, z),
      λ three d x.
          (stood d (among_reversed d marked (subst (λ (l : List ℕ). IsIn d l) (sym (n.1 (ap is_async (sym n.0) ∙ async_three S.cycle p three))) (among_kept d roots x.0 x.1)))).2,
    ))
      where
        is : S.phase t ≡ law.Answering next marked
        is = f.shows.phase t ∙ ap flat e

        now : p ≡ S.posted
        now = n.0 ∙ (f.inv.stages.answers t next marked lt is).0

        stood : law.Stands cycle_of IsSync S t (law.Answering next marked)
        stood = subst (λ q. law.Stands cycle_of IsSync S t q) is (f.inv.stands t lt)
    go _ e n = absurd n

-- ---- a late thread

abbrev IsLate : Step → Type 0
IsLate (ReadPostedFirst p) = Unit {0}
IsLate (EnterStage p) = Unit {0}
IsLate (ReadPostedAgain p) = Unit {0}
IsLate _ = ⊥

-- a thread that begins counts as between two calls
late_ready : (s : Setup) (stage : ℕ) (phase : Phase) (step : Step) → IsLate step → MayFollow s stage phase step → (flat phase ≡ law.Ready) × (flat (phase_after s stage phase step) ≡ law.Ready)
late_ready s stage Absent (ReadPostedFirst p) l f = (refl, refl)
late_ready s stage (Arriving p) (EnterStage q) l f = (refl, refl)
late_ready s stage Entering (ReadPostedAgain q) l f = (refl, go (q == stage))
  where
    go : (b : Bool) → flat (if b then Ready else Leaving) ≡ law.Ready
    go true = refl
    go false = refl
late_ready s stage _ (ReadPostedFirst p) l f = absurd f
late_ready s stage _ (EnterStage p) l f = absurd f
late_ready s stage _ (ReadPostedAgain p) l f = absurd f
late_ready s stage _ _ l f = absurd l

-- and its steps change nothing
late_idle : (s : Setup) (run : List Event) (t : ℕ) (step : Step) → IsLate step → MayFollow s (stage_of (log_of t run)) (phase_of s t (log_of t run)) step
    → seen (phase_of s t (step ∷ log_of t run)) (stage_of (step ∷ log_of t run)) ≡ seen (phase_of s t (log_of t run)) (stage_of (log_of t run)) → IsIdle s run t step
unfolding word_after births_after
late_idle s run t step l f e = go step l f e
  where
    go : (step : Step) → IsLate step → MayFollow s (stage_of (log_of t run)) (phase_of s t (log_of t run)) step
        → seen (phase_of s t (step ∷ log_of t run)) (stage_of (step ∷ log_of t run)) ≡ seen (phase_of s t (log_of t run)) (stage_of (log_of t run)) → IsIdle s run t step
    go (ReadPostedFirst p) l f e = record { gains = λ c. refl; wins = λ c. refl; stage = seen_kept s t (ReadPostedFirst p) run e; colour = λ c. refl; word = λ c i r. refl; tag = λ c i r. refl; birth = λ c. refl; phase = let q = late_ready s (stage_of (log_of t run)) (phase_of s t (log_of t run)) (ReadPostedFirst p) l f in q.0 ∙ sym q.1 }
    go (EnterStage p) l f e = record { gains = λ c. refl; wins = λ c. refl; stage = seen_kept s t (EnterStage p) run e; colour = λ c. refl; word = λ c i r. refl; tag = λ c i r. refl; birth = λ c. refl; phase = let q = late_ready s (stage_of (log_of t run)) (phase_of s t (log_of t run)) (EnterStage p) l f in q.0 ∙ sym q.1 }
    go (ReadPostedAgain p) l f e = record { gains = λ c. refl; wins = λ c. refl; stage = seen_kept s t (ReadPostedAgain p) run e; colour = λ c. refl; word = λ c i r. refl; tag = λ c i r. refl; birth = λ c. refl; phase = let q = late_ready s (stage_of (log_of t run)) (phase_of s t (log_of t run)) (ReadPostedAgain p) l f in q.0 ∙ sym q.1 }
    go _ l f e = absurd l

-- the first look of a late thread leads to a state that satisfies the invariant
pub arrive_safe : (s : Setup) (run : List Event) (c : Collection) (t p : ℕ) → MayHappen s run (ByThread t (ReadPostedFirst p)) → Safe s run c → Safe s (ByThread t (ReadPostedFirst p) ∷ run) c
arrive_safe s run c t p m f = record { state = f.state; inv = f.inv; shows = idle s run f.state t (ReadPostedFirst p) (late_idle s run t (ReadPostedFirst p) tt m.1 (over (phase_of s t (log_of t run)) m.1)) f.shows; at = f.at }
  where
    over : (q : Phase) → MayFollow s (stage_of (log_of t run)) q (ReadPostedFirst p) → done ≡ seen q (stage_of (log_of t run))
    over Absent n = refl
    over _ n = absurd n

-- its store of the stage does
pub enter_safe : (s : Setup) (run : List Event) (c : Collection) (t p : ℕ) → MayHappen s run (ByThread t (EnterStage p)) → Safe s run c → Safe s (ByThread t (EnterStage p) ∷ run) c
enter_safe s run c t p m f = record { state = f.state; inv = f.inv; shows = idle s run f.state t (EnterStage p) (late_idle s run t (EnterStage p) tt m.1 (over (phase_of s t (log_of t run)) m.1)) f.shows; at = f.at }
  where
    over : (q : Phase) → MayFollow s (stage_of (log_of t run)) q (EnterStage p) → done ≡ seen q (stage_of (log_of t run))
    over (Arriving r) n = refl
    over _ n = absurd n

-- it looks again after that store
entering : (s : Setup) (stage : ℕ) (q : Phase) (p : ℕ) → MayFollow s stage q (ReadPostedAgain p) → q ≡ Entering
entering s stage Entering p n = refl
entering s stage _ p n = absurd n

-- the state in which the thread has begun shows the run
begin_shows : (s : Setup) (run : List Event) (S : law.State) → IsInvariant S → Shows s run S → (t p : ℕ) → t < S.threads → S.stage t ≡ done → phase_of s t (log_of t run) ≡ Entering → (p == stage_of (log_of t run)) ≡ true
    → Shows s (ByThread t (ReadPostedAgain p) ∷ run) (after_answer S t p (λ c. ⊥))
unfolding word_after births_after
begin_shows s run S inv h t p lt ended at same = record {
  threads = h.threads;
  cells = h.cells;
  posted = h.posted;
  stage = λ u. elim (cases_eq u t) [
    | inl e ↦ subst (λ (v : ℕ). put S.stage t p v ≡ seen (phase_of s v (log_of v (ByThread t (ReadPostedAgain p) ∷ run))) (stage_of (log_of v (ByThread t (ReadPostedAgain p) ∷ run)))) (sym e) (put-here S.stage t p t refl ∙ own ∙ ap (λ (l : List Step). seen (phase_of s t l) (stage_of l)) (sym (log_here t (ReadPostedAgain p) run t refl)))
    | inr n ↦ put-other S.stage t p u n ∙ h.stage u ∙ sym (ap (λ (l : List Step). seen (phase_of s u l) (stage_of l)) (log_other t (ReadPostedAgain p) run u n))
  ];
  phase = phase_put s run S h t (ReadPostedAgain p) law.Ready (rw same refl);
  colour = λ c. h.colour c;
  word = λ c i r. h.word c i r;
  no_word = h.no_word;
  tag = λ c i r n. h.tag c i r n;
  birth = λ c. h.birth c;
  held = λ u c x. let was = held_kept s run S t (ReadPostedAgain p) (λ c. refl) h u c x in (was, λ is. none.0 c ((births_after s (ByThread t (ReadPostedAgain p) ∷ run)).with_thread u c) (subst (λ (v : ℕ). S.IsHeld v c ((births_after s (ByThread t (ReadPostedAgain p) ∷ run)).with_thread u c)) is was));
  fresh = λ u c x. let was = fresh_kept s run S t (ReadPostedAgain p) (λ c. refl) h u c x in (was, λ is. none.1 c (subst (λ (v : ℕ). S.IsFresh v c) is was));
}
  where
    none : ((c b : ℕ) → S.IsHeld t c b → ⊥) × ((c : ℕ) → S.IsFresh t c → ⊥)
    none = let e = inv.stages.ended t lt ended in (e.1, e.2)

    own : p ≡ seen (phase_of s t (ReadPostedAgain p ∷ log_of t run)) (stage_of (ReadPostedAgain p ∷ log_of t run))
    own = rw same (test_true p (stage_of (log_of t run)) same)

-- the second look of a late thread leads to a state that satisfies the invariant
pub confirm_safe : (s : Setup) (run : List Event) (c : Collection) (t p : ℕ) → IsRun s run → MayHappen s run (ByThread t (ReadPostedAgain p)) → Safe s run c → Safe s (ByThread t (ReadPostedAgain p) ∷ run) c
confirm_safe s run c t p r m f = go (p == stage_of (log_of t run)) refl
  where
    S : law.State
    S = f.state

    lt : t < S.threads
    lt = in_range s run S f.shows t (ReadPostedAgain p) m

    at : phase_of s t (log_of t run) ≡ Entering
    at = entering s (stage_of (log_of t run)) (phase_of s t (log_of t run)) p m.1

    ended : S.stage t ≡ done
    ended = f.shows.stage t ∙ rw at refl

    now : p ≡ S.posted
    now = sym m.2 ∙ posted_is s run ∙ sym f.shows.posted

    low : S.posted < done
    low = let l : posted_of (turns_of run) < 3 * 2 ^ 60 = (handshake s run r).low in let e : S.posted ≡ posted_of (turns_of run) = f.shows.posted in omega (arith, l, e)

    go : (b : Bool) → (p == stage_of (log_of t run)) ≡ b → Safe s (ByThread t (ReadPostedAgain p) ∷ run) c
    go true e = record {
      state = after_answer S t p (λ d. ⊥);
      inv = answered done cycle_of claim_at IsSync S t p (λ d. ⊥) lt (inl (now, λ z. omega (arith, low, now, z), λ three d x. absurd x)) f.inv;
      shows = begin_shows s run S f.inv f.shows t p lt ended at e;
      at = f.at;
    }
    go false e = record { state = S; inv = f.inv; shows = idle s run S t (ReadPostedAgain p) (late_idle s run t (ReadPostedAgain p) tt m.1 (rw (at, e) refl)) f.shows; at = f.at }
