-- The marks of a thread.
use Rattle.std.proofs.Common.{◌≡◌, ◌≢◌, inl, inr, ℕ, suc, ◌*◌, ◌<◌, ◌≤◌, max, true, false, List, ◌∷◌, refl, sym, ap, ◌∙◌, subst, arith}
use Rattle.std.proofs.lemmas.Bool.{cases_eq}
use Rattle.lemmas.specs.Numbers.{test_yes, test_no}
use Rattle.colours.specs.declared.place.Place.TheVariants.{Colour}
use Rattle.pools.specs.Heap.{Setup}
use Rattle.colours.specs.Colours.{done, cycle_of, claim_at, mark_at, is_async}
use Rattle.colours.specs.Steps.{Step, Mark}
use Rattle.colours.specs.Mutator.{Phase, MarkingOld, MarkingNew, Answering, stage_of, phase_of, phase_after, MayFollow, IsDisciplined}
use Rattle.colours.specs.Collector.{Collection}
use Rattle.colours.specs.Runs.{Event, ByThread, log_of, word_after, births_after, MayHappen, IsRun}
use Rattle.collector_law.specs.Invariant as law
use Rattle.collector_law.specs.Puts.{put, put-here, put-other}
use Rattle.collector_law.specs.Claim.{stands-grow}
use Rattle.collector_law.specs.Shade.{shaded, shades}
use Rattle.collector_law.specs.Match.{IsSync, IsInvariant, flat, Shows, Safe}
use Rattle.collector_law.specs.Events.{stage_stays, is_plain, plain_begun}
use Rattle.collector_law.specs.Match.{stage_in}
use Rattle.collector_law.specs.Threads.{in_range, not_done, held_in, phase_put, held_kept, fresh_kept}
use Rattle.collector_law.specs.Numbers.{AtPosted, Rises, rises, sync_one, sync_cycle, async_next}

-- ---- a mark, over states

-- the thread may mark this cell, and is in the phase after its mark
pub record IsMarking (S : law.State) (t c now : ℕ) (q : law.Phase) : Type 0 where
  pub rise : Rises S.part S.cycle (S.colour c) now
  pub held : S.IsHeld t c (S.birth c)
  pub busy : S.stage t ≢ done
  pub differs : (y j n : ℕ) → law.Differs q y j n → law.Differs (S.phase t) y j n
  pub old : (y : ℕ) → law.OldIsNot (S.phase t) y → law.OldIsNot q y
  pub answers : (p : ℕ) (marked : List ℕ) → q ≡ law.Answering p marked → (p ≡ S.posted) × (suc (S.stage t) ≡ S.posted)
  pub marked : (y : ℕ) → law.HasMarked (S.phase t) y → law.HasMarked q y
  pub own : S.IsFresh t c → IsSync (S.stage t) × law.HasMarked q c
  pub stands : law.Stands cycle_of IsSync (shaded S (put S.colour c now) (put S.phase t q)) t q

-- the colour of a marked cell stays so
pub mark_grows : (S : law.State) (c now : ℕ) → Rises S.part S.cycle (S.colour c) now → (d : ℕ) → 2 * S.cycle ≤ S.colour d → 2 * S.cycle ≤ put S.colour c now d
mark_grows S c now rise d l = elim (cases_eq d c) [
  | inl e ↦ elim rise [
    | inl same ↦ omega (arith, put-here S.colour c now d e, same, ap S.colour e, l)
    | inr r ↦ omega (arith, put-here S.colour c now d e, r.1)
  ]
  | inr n ↦ omega (arith, put-other S.colour c now d n, l)
]

-- the mark preserves the invariant
pub marks : (S : law.State) (t c now : ℕ) (q : law.Phase) → t < S.threads → IsMarking S t c now q → IsInvariant S → IsInvariant (shaded S (put S.colour c now) (put S.phase t q))
marks S t c now q lt w inv = shades done cycle_of claim_at IsSync S (put S.colour c now) (put S.phase t q) (record {
  up = λ d. elim (cases_eq d c) [
    | inl e ↦ elim w.rise [
      | inl same ↦ inl (put-here S.colour c now d e ∙ same ∙ ap S.colour (sym e))
      | inr r ↦ inr (subst (λ z. law.IsWhite S z) (sym e) r.0, put-here S.colour c now d e ∙ r.1, r.2, λ next is. (t, S.birth d, lt, subst (λ z. S.IsHeld t z (S.birth z)) (sym e) w.held))
    ]
    | inr n ↦ inl (put-other S.colour c now d n)
  ];
  differs = λ u y j n d. elim (cases_eq u t) [
    | inl e ↦ subst (λ p. law.Differs p y j n) (ap S.phase (sym e)) (w.differs y j n (subst (λ p. law.Differs p y j n) (put-here S.phase t q u e) d))
    | inr m ↦ subst (λ p. law.Differs p y j n) (put-other S.phase t q u m) d
  ];
  old = λ u y o. elim (cases_eq u t) [
    | inl e ↦ subst (λ p. law.OldIsNot p y) (sym (put-here S.phase t q u e)) (w.old y (subst (λ p. law.OldIsNot p y) (ap S.phase e) o))
    | inr m ↦ subst (λ p. law.OldIsNot p y) (sym (put-other S.phase t q u m)) o
  ];
  answers = λ u p roots lu e. elim (cases_eq u t) [
    | inl is ↦ let z = w.answers p roots (sym (put-here S.phase t q u is) ∙ e) in (z.0, ap (λ v. suc (S.stage v)) is ∙ z.1)
    | inr n ↦ inv.stages.answers u p roots lu (sym (put-other S.phase t q u n) ∙ e)
  ];
  ready = λ u lu e. elim (cases_eq u t) [
    | inl is ↦ absurd (w.busy (ap S.stage (sym is) ∙ e))
    | inr n ↦ put-other S.phase t q u n ∙ (inv.stages.ended u lu e).0
  ];
  fresh = λ u y lu f. elim (cases_eq y c) [
    | inl e ↦
        let own : t ≡ u = inv.fresh.alone u t y (S.birth c) lu lt f (subst (λ z. S.IsHeld t z (S.birth c)) (sym e) w.held) in
        let z = w.own (subst (λ v. S.IsFresh v c) (sym own) (subst (λ z. S.IsFresh u z) e f)) in
        inr (subst (λ v. IsSync (S.stage v)) own z.0, subst (λ p. law.HasMarked p y) (sym (put-here S.phase t q u (sym own))) (subst (λ z. law.HasMarked q z) (sym e) z.1))
    | inr n ↦ inl (
      put-other S.colour c now y n,
      λ h. elim (cases_eq u t) [
        | inl e ↦ subst (λ p. law.HasMarked p y) (sym (put-here S.phase t q u e)) (w.marked y (subst (λ p. law.HasMarked p y) (ap S.phase e) h))
        | inr m ↦ subst (λ p. law.HasMarked p y) (sym (put-other S.phase t q u m)) h
      ],
    )
  ];
  stands = λ u lu. elim (cases_eq u t) [
    | inl e ↦ subst (λ p. law.Stands cycle_of IsSync (shaded S (put S.colour c now) (put S.phase t q)) u p) (sym (put-here S.phase t q u e))
        (subst (λ z. law.Stands cycle_of IsSync (shaded S (put S.colour c now) (put S.phase t q)) z q) (sym e) w.stands)
    | inr n ↦ subst (λ p. law.Stands cycle_of IsSync (shaded S (put S.colour c now) (put S.phase t q)) u p) (sym (put-other S.phase t q u n))
        (stands-grow cycle_of IsSync S (put S.colour c now) S.birth S.IsHeld u (λ y b. b) (mark_grows S c now w.rise) (S.phase u) (inv.stands u lu))
  ];
}) inv

-- ---- a mark, in a run

-- the state's colours are those after the mark
colour_marked : (s : Setup) (run : List Event) (S : law.State) → Shows s run S → (t c y : ℕ) → S.stage t ≡ stage_of (log_of t run)
    → put S.colour c (max (S.colour c) (mark_at (S.stage t))) y ≡ word_after s (ByThread t (Mark c) ∷ run) (Colour y)
unfolding word_after
colour_marked s run S h t c y own = elim (cases_eq y c) [
  | inl e ↦ put-here S.colour c (max (S.colour c) (mark_at (S.stage t))) y e ∙ rw (test_yes c y (sym e), h.colour c, own, e) refl
  | inr n ↦ put-other S.colour c (max (S.colour c) (mark_at (S.stage t))) y n ∙ rw (test_no c y (λ e. n (sym e))) (h.colour y)
]

-- the state after a mark shows the run
mark_shows : (s : Setup) (run : List Event) (S : law.State) → Shows s run S → (t c : ℕ) (q : law.Phase) → MayFollow s (stage_of (log_of t run)) (phase_of s t (log_of t run)) (Mark c)
    → q ≡ flat (phase_after s (stage_of (log_of t run)) (phase_of s t (log_of t run)) (Mark c))
    → Shows s (ByThread t (Mark c) ∷ run) (shaded S (put S.colour c (max (S.colour c) (mark_at (S.stage t)))) (put S.phase t q))
unfolding word_after births_after
mark_shows s run S h t c q f is = record {
  threads = h.threads;
  cells = h.cells;
  posted = h.posted;
  stage = λ u. h.stage u ∙ sym (stage_stays s t (Mark c) run refl f u);
  phase = phase_put s run S h t (Mark c) q is;
  colour = λ y. colour_marked s run S h t c y (stage_in s run S h t (plain_begun s (stage_of (log_of t run)) (phase_of s t (log_of t run)) (Mark c) refl f));
  word = λ d i r. h.word d i r;
  no_word = h.no_word;
  tag = λ d i r n. h.tag d i r n;
  birth = λ d. h.birth d;
  held = held_kept s run S t (Mark c) (λ d. refl) h;
  fresh = fresh_kept s run S t (Mark c) (λ d. refl) h;
}

-- a thread that makes a plain step is at the posted stage or lags by one
pub at_posted : (s : Setup) (run : List Event) (S : law.State) → IsInvariant S → Shows s run S → IsRun s run → (t : ℕ) (step : Step) → is_plain step ≡ true → MayHappen s run (ByThread t step) → AtPosted S.part S.posted (S.stage t) t
at_posted s run S inv h r t step plain m = elim (inv.stages.stages t (in_range s run S h t step m)) [
  | inl e ↦ inl e
  | inr x ↦ elim x [ inl e ↦ absurd (not_done s run S h r t step plain m e) | inr l ↦ inr l ]
]

-- a mark leads to a state that satisfies the invariant
pub mark_safe : (s : Setup) (run : List Event) (c : Collection) (t cell : ℕ) → IsRun s run → MayHappen s run (ByThread t (Mark cell))
    → IsDisciplined s (log_of t run) (Mark cell) → Safe s run c → Safe s (ByThread t (Mark cell) ∷ run) c
mark_safe s run c t cell r m d f = go (phase_of s t (log_of t run)) refl m.1
  where
    S : law.State
    S = f.state

    now : ℕ
    now = max (S.colour cell) (mark_at (S.stage t))

    st : ℕ
    st = stage_of (log_of t run)

    lt : t < S.threads
    lt = in_range s run S f.shows t (Mark cell) m

    held : (cell ≢ 0) × S.IsHeld t cell (S.birth cell)
    held = held_in s run S f.inv f.shows t cell lt d

    live : law.IsLive S cell
    live = (f.inv.live.held t cell (S.birth cell) lt held.1).1

    at : AtPosted S.part S.posted (S.stage t) t
    at = at_posted s run S f.inv f.shows r t (Mark cell) refl m

    rise : Rises S.part S.cycle (S.colour cell) now
    rise = rises S.part S.cycle S.posted (S.stage t) t (S.colour cell) f.inv.stages.posted at (f.inv.colours cell) live

    high : cycle_of (S.stage t) ≡ S.cycle → 2 * S.cycle ≤ now
    high e = omega (arith, e)

    build : (q : law.Phase) → q ≡ flat (phase_after s (stage_of (log_of t run)) (phase_of s t (log_of t run)) (Mark cell)) → IsMarking S t cell now q → Safe s (ByThread t (Mark cell) ∷ run) c
    build q is w = record { state = shaded S (put S.colour cell now) (put S.phase t q); inv = marks S t cell now q lt w f.inv; shows = mark_shows s run S f.shows t cell q m.1 is; at = f.at }

    here : (x : law.Phase) → (2 * S.cycle ≤ now) → law.IsMarked (shaded S (put S.colour cell now) (put S.phase t x)) cell
    here x l = subst (λ z. 2 * S.cycle ≤ z) (sym (put-here S.colour cell now cell refl)) l

    go : (p : Phase) → phase_of s t (log_of t run) ≡ p → MayFollow s st p (Mark cell) → Safe s (ByThread t (Mark cell) ∷ run) c
    go (MarkingOld x i old) e n = build (law.MarkingNew x i old) (rw e refl) (record {
      rise = rise;
      held = held.1;
      busy = not_done s run S f.shows r t (Mark cell) refl m;
      differs = λ y j v z. subst (λ p. law.Differs p y j v) (sym is) z;
      old = λ y o. subst (λ p. law.OldIsNot p y) is o;
      answers = λ p roots z. absurd cc;
      marked = λ y h. absurd (subst (λ p. law.HasMarked p y) is h);
      own = λ h. absurd (subst (λ p. law.OldIsNot p cell) is (f.inv.fresh.not_old t cell lt h) (sym n));
      stands = (stood.0, stood.2, λ k. inr (subst (λ z. 2 * S.cycle ≤ put S.colour cell now z) n (here (law.MarkingNew x i old) (high k))));
    })
      where
        is : S.phase t ≡ law.MarkingOld x i old
        is = f.shows.phase t ∙ ap flat e

        stood : law.Stands cycle_of IsSync S t (law.MarkingOld x i old)
        stood = subst (λ p. law.Stands cycle_of IsSync S t p) is (f.inv.stands t lt)
    go (MarkingNew x i old) e n = build (law.Writing x i old cell) (rw e refl) (record {
      rise = rise;
      held = held.1;
      busy = not_done s run S f.shows r t (Mark cell) refl m;
      differs = λ y j v z. subst (λ p. law.Differs p y j v) (sym is) z;
      old = λ y o. subst (λ p. law.OldIsNot p y) is o;
      answers = λ p roots z. absurd cc;
      marked = λ y h. absurd (subst (λ p. law.HasMarked p y) is h);
      own = λ h. (sync, refl);
      stands = (stood.0, stood.1, λ k. elim (stood.2 k) [ inl z ↦ inl z | inr z ↦ inr (mark_grows S cell now rise old z) ], sync, n.1, inr held.1, here (law.Writing x i old cell) (high cycle));
    })
      where
        is : S.phase t ≡ law.MarkingNew x i old
        is = f.shows.phase t ∙ ap flat e

        stood : law.Stands cycle_of IsSync S t (law.MarkingNew x i old)
        stood = subst (λ p. law.Stands cycle_of IsSync S t p) is (f.inv.stands t lt)

        sync : is_async (S.stage t) ≡ false
        sync = ap is_async (stage_in s run S f.shows t (plain_begun s (stage_of (log_of t run)) (phase_of s t (log_of t run)) (Mark cell) refl m.1)) ∙ n.0

        cycle : cycle_of (S.stage t) ≡ S.cycle
        cycle = sync_cycle S.part S.cycle S.posted (S.stage t) t f.inv.stages.posted at sync
    go (Answering next list) e n = build (law.Answering next (cell ∷ list)) (rw e refl) (record {
      rise = rise;
      held = held.1;
      busy = not_done s run S f.shows r t (Mark cell) refl m;
      differs = λ y j v z. absurd z;
      old = λ y o. tt;
      answers = λ p roots z. let same : next ≡ p = cc in (sym same ∙ was.0, was.1);
      marked = λ y h. tt;
      own = λ h. (sync_one S.cycle (S.stage t) (omega (arith, two)), tt);
      stands = λ y among. elim among [
        | inl z ↦ (subst (λ w. w ≢ 0) (sym z) n.1, subst (λ w. law.IsBase S t w) (sym z) (inr held.1), subst (λ w. 2 * S.cycle ≤ put S.colour cell now w) (sym z) (here (law.Answering next (cell ∷ list)) (high (omega (arith, two)))), three)
        | inr z ↦ let y_is = stood y z in (y_is.0, y_is.1, mark_grows S cell now rise y y_is.2, y_is.3)
      ];
    })
      where
        is : S.phase t ≡ law.Answering next list
        is = f.shows.phase t ∙ ap flat e

        was : (next ≡ S.posted) × (suc (S.stage t) ≡ S.posted)
        was = f.inv.stages.answers t next list lt is

        stood : law.Stands cycle_of IsSync S t (law.Answering next list)
        stood = subst (λ p. law.Stands cycle_of IsSync S t p) is (f.inv.stands t lt)

        three : next ≡ 3 * S.cycle
        three = async_next S.part S.cycle S.posted next f.inv.stages.posted was.0 n.0

        two : suc (S.stage t) ≡ 3 * S.cycle
        two = was.1 ∙ sym was.0 ∙ three
    go _ e n = absurd n
