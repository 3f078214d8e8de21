-- A barriered store preserves the invariant.
use Rattle.std.proofs.Common.{◌≡◌, ◌≢◌, ◌⊎◌, inl, inr, ℕ, zero, suc, ◌+◌, ◌*◌, ◌<◌, ◌≤◌, true, false, List, refl, sym, ap, ◌∙◌, subst, arith}
use Rattle.std.proofs.lemmas.Bool.{cases_eq}
use Rattle.collector_law.specs.Invariant.{State, Phase, Ready, Answering, Part, Resting, Waiting, Rooted, Passing, Scanning, Sweeping, Clearing, Time, Early, Late, Clean, time_of, IsWhite, IsLive, IsLiveAt, IsGood, IsLoose, Differs, picture, MayLag, posted_at, AreInStep, IsUnderWay, AreLive, AreFresh, OldIsNot, HasMarked, RootAt, IsBase, IsNullOrMarked, IsInCycle, Stands, AtTime, IsInvariant}
use Rattle.collector_law.specs.Trace.{store, outside}
use Rattle.collector_law.specs.Puts.{put, put-here, put-other, put_word, here_or_not, put_word-here, put_word-other}

-- the value is stored with its birth, and is fresh no longer
abbrev pub after_store : State → (t x i v : ℕ) → State
after_store s t x i v = record s {
  word = put_word s.word x i v;
  tag = put_word s.tag x i (s.birth v);
  phase = put s.phase t Ready;
  IsFresh = λ u c. s.IsFresh u c × (u ≡ t → v ≢ c);
}

-- what the thread's phase and its discipline say
pub record IsStoring (cycle_of : ℕ → ℕ) (IsSync : ℕ → Type 0) (s : State) (t x i old v : ℕ) : Type 0 where
  pub base : IsBase s t x
  pub replaced : IsInCycle cycle_of s t → IsNullOrMarked s old
  pub differs : s.word x i ≢ old → Differs (s.phase t) x i (s.word x i)
  pub value : IsBase s t v
  pub barrier : IsSync (s.stage t) → IsNullOrMarked s v
  pub own : (c : ℕ) → HasMarked (s.phase t) c → v ≡ c
  pub busy : s.phase t ≢ Ready

-- what the numbers of stages are
pub record AreStages (done : ℕ) (cycle_of : ℕ → ℕ) (IsSync : ℕ → Type 0) (k : ℕ) : Type 0 where
  pub sync1 : (st : ℕ) → st + 2 ≡ 3 * k → IsSync st
  pub sync2 : (st : ℕ) → st + 1 ≡ 3 * k → IsSync st
  pub cycle2 : (st : ℕ) → st + 1 ≡ 3 * k → cycle_of st ≡ k
  pub cycle3 : (st : ℕ) → st ≡ 3 * k → cycle_of st ≡ k
  pub beyond : 3 * k < done

-- a thread in a call has not ended
pub not_done : (done : ℕ) (s : State) → AreInStep done s → (t : ℕ) → t < s.threads → s.phase t ≢ Ready → s.stage t ≡ done → ⊥
not_done done s a t lt busy e = busy ((a.ended t lt e).0)

-- a busy thread is at the posted stage, or at the one before it while the collector waits
pub busy_stage : (done : ℕ) (s : State) → AreInStep done s → (t : ℕ) → t < s.threads → s.phase t ≢ Ready → (s.stage t ≡ s.posted) ⊎ ((suc (s.stage t) ≡ s.posted) × MayLag s.part t)
busy_stage done s a t lt busy = elim (a.stages t lt) [
  | inl e ↦ inl e
  | inr m ↦ elim m [ inl d ↦ absurd (not_done done s a t lt busy d) | inr l ↦ inr l ]
]

-- in the trace's time a busy thread has answered Sync2 at least
pub late_by : (p : Part) (k posted stage t : ℕ) → time_of p ≡ Late → posted_at p k posted → (stage ≡ posted) ⊎ ((suc stage ≡ posted) × MayLag p t) → (stage ≡ 3 * k) ⊎ (stage + 1 ≡ 3 * k)
late_by Resting k posted stage t late is at = cc
late_by (Waiting zero u) k posted stage t late is at = absurd is
late_by (Waiting (suc zero) u) k posted stage t late is at = cc
late_by (Waiting (suc (suc zero)) u) k posted stage t late is at = cc
late_by (Waiting (suc (suc (suc n))) u) k posted stage t late is at = grind (arith, is, at)
late_by Rooted k posted stage t late is at = elim at [ inl e ↦ inr (omega (arith, is, e)) | inr l ↦ absurd l.1 ]
late_by (Passing next met_grey) k posted stage t late is at = elim at [ inl e ↦ inl (e ∙ is) | inr l ↦ absurd l.1 ]
late_by (Scanning cell words hand) k posted stage t late is at = elim at [ inl e ↦ inl (e ∙ is) | inr l ↦ absurd l.1 ]
late_by (Sweeping next) k posted stage t late is at = cc
late_by (Clearing cell words) k posted stage t late is at = cc

-- where another thread is at Sync2 before the trace, a busy one is at Sync1 or Sync2
pub early_by : (p : Part) (k done posted one other t u : ℕ) → time_of p ≡ Early → posted_at p k posted → 3 * k < done → suc other ≡ 3 * k → (other ≡ posted) ⊎ ((other ≡ done) ⊎ ((suc other ≡ posted) × MayLag p u)) → (one ≡ posted) ⊎ ((suc one ≡ posted) × MayLag p t) → (one + 2 ≡ 3 * k) ⊎ (one + 1 ≡ 3 * k)
early_by Resting k done posted one other t u early is big two at on = cc
early_by (Waiting zero w) k done posted one other t u early is big two at on = absurd is
early_by (Waiting (suc zero) w) k done posted one other t u early is big two at on = elim at [
  | inl e ↦ absurd (omega (arith, is, two, e))
  | inr m ↦ elim m [ inl d ↦ absurd (omega (arith, big, two, d)) | inr l ↦ absurd (omega (arith, is, two, l.0)) ]
]
early_by (Waiting (suc (suc zero)) w) k done posted one other t u early is big two at on = elim on [
  | inl e ↦ inr (omega (arith, is, e))
  | inr l ↦ inl (omega (arith, is, l.0))
]
early_by (Waiting (suc (suc (suc n))) w) k done posted one other t u early is big two at on = cc
early_by Rooted k done posted one other t u early is big two at on = cc
early_by (Passing next met_grey) k done posted one other t u early is big two at on = cc
early_by (Scanning cell words hand) k done posted one other t u early is big two at on = cc
early_by (Sweeping next) k done posted one other t u early is big two at on = cc
early_by (Clearing cell words) k done posted one other t u early is big two at on = cc

-- a live cell is not blue
pub live-not_blue : (T : Time) (k c : ℕ) → IsLiveAt T k c → c ≢ 0
live-not_blue Early k c l = l
live-not_blue Late k c l = l
live-not_blue Clean k c l = λ e. omega (arith, l, e)

-- the globals' cell is live
pub root-live : (T : Time) (k c : ℕ) → RootAt T k c → IsLiveAt T k c
root-live Early k c r = r
root-live Late k c r = λ e. omega (arith, r.0, r.1, e)
root-live Clean k c r = r

-- after the trace a live cell is not white
pub clean-not_white : (k c : ℕ) → IsLiveAt Clean k c → suc c ≡ 2 * k → ⊥
clean-not_white k c l e = omega (arith, l, e)

-- null and marked cells are not white
pub not_white : (k c colour : ℕ) → (c ≡ 0) ⊎ (2 * k ≤ colour) → (c ≢ 0) × (suc colour ≡ 2 * k) → ⊥
not_white k c colour m w = elim m [ inl e ↦ w.0 e | inr l ↦ omega (arith, l, w.1) ]

-- a thread that is ready is before no store
pub moved : (s : State) (t : ℕ) (u y j now : ℕ) → Differs (put s.phase t Ready u) y j now → (u ≢ t) × Differs (s.phase u) y j now
moved s t u y j now d = elim (cases_eq u t) [
  | inl e ↦ absurd (subst (λ z. Differs z y j now) (put-here s.phase t Ready u e) d)
  | inr n ↦ (n, subst (λ z. Differs z y j now) (put-other s.phase t Ready u n) d)
]

-- the fact of a phase after the store, from those before it
pub phased : (s : State) (t u : ℕ) (P : Phase → Type 0) → P Ready → P (s.phase u) → P (put s.phase t Ready u)
phased s t u P ready was = elim (cases_eq u t) [
  | inl e ↦ subst P (sym (put-here s.phase t Ready u e)) ready
  | inr n ↦ subst P (sym (put-other s.phase t Ready u n)) was
]

-- a loose word elsewhere was loose before
loose-other : (s : State) (t x i v y j : ℕ) → ((y ≡ x) × (j ≡ i) → ⊥) → IsLoose (after_store s t x i v) y j → IsLoose s y j
loose-other s t x i v y j n l =
    let m = moved s t l.0 y j (put_word s.word x i v y j) l.2 in
    (l.0, l.1, subst (λ z. Differs (s.phase l.0) y j z) (put_word-other s.word x i v y j n) m.1)

-- the law of each time after the store
law_after : (done : ℕ) (cycle_of claim_at : ℕ → ℕ) (IsSync : ℕ → Type 0) (s : State) (t x i old v : ℕ) → AreStages done cycle_of IsSync s.cycle → t < s.threads → IsStoring cycle_of IsSync s t x i old v → IsInvariant done cycle_of claim_at IsSync s → (T : Time) → time_of s.part ≡ T → AtTime s T → AtTime (after_store s t x i v) T
law_after done cycle_of claim_at IsSync s t x i old v g lt w inv Early is law = λ u y j lu two d.
    let m = moved s t u y j (put_word s.word x i v y j) d in
    elim (here_or_not x i y j) [
      | inl e ↦ subst (λ z. IsNullOrMarked s z) (sym (put_word-here s.word x i v y j e)) (w.barrier (elim (early_by s.part s.cycle done s.posted (s.stage t) (s.stage u) t u is inv.stages.posted g.beyond two (inv.stages.stages u lu) (busy_stage done s inv.stages t lt w.busy)) [
        | inl one ↦ g.sync1 (s.stage t) one
        | inr both ↦ g.sync2 (s.stage t) both
      ]))
      | inr n ↦
          let same = put_word-other s.word x i v y j n in
          subst (λ z. IsNullOrMarked s z) (sym same) (law u y j lu two (subst (λ z. Differs (s.phase u) y j z) same m.1))
    ]
law_after done cycle_of claim_at IsSync s t x i old v g lt w inv Late is law =
    let at = late_by s.part s.cycle s.posted (s.stage t) t is inv.stages.posted (busy_stage done s inv.stages t lt w.busy) in
    let now : cycle_of (s.stage t) ≡ s.cycle = elim at [ inl three ↦ g.cycle3 (s.stage t) three | inr two ↦ g.cycle2 (s.stage t) two ] in
    store (picture s) (picture (after_store s t x i v)) x i v (record {
      white = λ c e. e;
      hand = refl;
      read = λ y j r. r;
      held = λ c h. h;
      there = put_word-here s.word x i v x i (refl, refl);
      elsewhere = λ y j n. (put_word-other s.word x i v y j n, loose-other s t x i v y j n);
      replaced = λ W u. elim (cases_eq (s.word x i) old) [
        | inl e ↦ inr (inl (ap W e ∙ outside (picture (after_store s t x i v)) W u old (not_white s.cycle old (s.colour old) (w.replaced now))))
        | inr n ↦ inr (inr (t, lt, w.differs n))
      ];
      stored = elim at [
        | inl three ↦ elim w.value [
          | inl null ↦ inr (λ white. white.0 null)
          | inr held ↦ inl (t, s.birth v, lt, three, held)
        ]
        | inr two ↦ inr (λ white. not_white s.cycle v (s.colour v) (w.barrier (g.sync2 (s.stage t) two)) white)
      ];
    }) law
law_after done cycle_of claim_at IsSync s t x i old v g lt w inv Clean is law = tt

-- a cell that a thread may use is live
pub base-live : (done : ℕ) (cycle_of claim_at : ℕ → ℕ) (IsSync : ℕ → Type 0) (s : State) (t c : ℕ) → t < s.threads → IsInvariant done cycle_of claim_at IsSync s → IsBase s t c → IsLive s c
base-live done cycle_of claim_at IsSync s t c lt inv b = elim b [
  | inl e ↦ subst (λ z. IsLive s z) (sym e) (root-live (time_of s.part) s.cycle (s.colour 0) inv.root)
  | inr h ↦ (inv.live.held t c (s.birth c) lt h).1
]

-- the live cells after the store
pub live_after : (s : State) (t x i v : ℕ) → IsLive s x → IsGood s v (s.birth v) → AreLive s → AreLive (after_store s t x i v)
live_after s t x i v live good a = record {
  held = a.held;
  words = λ c j l. elim (here_or_not x i c j) [
    | inl e ↦ subst (λ z. IsGood s z (put_word s.tag x i (s.birth v) c j)) (sym (put_word-here s.word x i v c j e)) (subst (λ z. IsGood s v z) (sym (put_word-here s.tag x i (s.birth v) c j e)) good)
    | inr n ↦ subst (λ z. IsGood s z (put_word s.tag x i (s.birth v) c j)) (sym (put_word-other s.word x i v c j n)) (subst (λ z. IsGood s (s.word c j) z) (sym (put_word-other s.tag x i (s.birth v) c j n)) (a.words c j l))
  ];
  blue = λ c j e. elim (here_or_not x i c j) [
    | inl h ↦ absurd (live-not_blue (time_of s.part) s.cycle (s.colour x) live (subst (λ z. s.colour z ≡ 0) h.0 e))
    | inr n ↦ put_word-other s.word x i v c j n ∙ a.blue c j e
  ];
}

-- what the collector has done stays done
pub under_way_after : (s : State) (t x i v : ℕ) → IsLive s x → (p : Part) → s.part ≡ p → IsUnderWay s p → IsUnderWay (after_store s t x i v) p
under_way_after s t x i v live Resting is way = way
under_way_after s t x i v live (Waiting sync u) is way = way
under_way_after s t x i v live Rooted is way = way
under_way_after s t x i v live (Passing next true) is way = way
under_way_after s t x i v live (Passing next false) is way = way
under_way_after s t x i v live (Scanning cell words hand) is way = way
under_way_after s t x i v live (Sweeping next) is way = way
under_way_after s t x i v live (Clearing cell words) is way = (
  way.0,
  way.1,
  way.2,
  λ j below. elim (here_or_not x i cell j) [
    | inl e ↦ absurd (clean-not_white s.cycle (s.colour x) (subst (λ z. IsLiveAt (time_of z) s.cycle (s.colour x)) is live) (subst (λ z. IsWhite s z) e.0 way.1))
    | inr n ↦ put_word-other s.word x i v cell j n ∙ way.3 j below
  ],
)

-- the stages after the store
stages_after : (done : ℕ) (s : State) (t x i v : ℕ) → AreInStep done s → AreInStep done (after_store s t x i v)
stages_after done s t x i v a = record {
  posted = a.posted;
  stages = a.stages;
  answers = λ u p marked lu e. elim (cases_eq u t) [
    | inl is ↦ absurd (ready_not_answering p marked (sym (put-here s.phase t Ready u is) ∙ e))
    | inr n ↦ a.answers u p marked lu (sym (put-other s.phase t Ready u n) ∙ e)
  ];
  ended = λ u lu e. (phased s t u (λ z. z ≡ Ready) refl ((a.ended u lu e).0), (a.ended u lu e).1, λ c f. (a.ended u lu e).2 c f.0);
}
  where
    ready_not_answering : (p : ℕ) (marked : List ℕ) → Ready ≡ Answering p marked → ⊥
    ready_not_answering p marked e = cc

-- the fresh cells after the store
fresh_after : (done : ℕ) (cycle_of claim_at : ℕ → ℕ) (IsSync : ℕ → Type 0) (s : State) (t x i old v : ℕ) → t < s.threads → IsStoring cycle_of IsSync s t x i old v → IsInvariant done cycle_of claim_at IsSync s → AreFresh claim_at IsSync (after_store s t x i v)
fresh_after done cycle_of claim_at IsSync s t x i old v lt w inv =
    let a = inv.fresh in
    record {
      held = λ u c lu f. a.held u c lu f.0;
      unnamed = λ u c y j lu f live. elim (here_or_not x i y j) [
        | inl e ↦ λ is. value_not_fresh u c lu f (sym (put_word-here s.word x i v y j e) ∙ is)
        | inr n ↦ λ is. a.unnamed u c y j lu f.0 live (sym (put_word-other s.word x i v y j n) ∙ is)
      ];
      alone = λ u z c b lu lz f h. a.alone u z c b lu lz f.0 h;
      in_no_hand = λ u c lu f. a.in_no_hand u c lu f.0;
      not_old = λ u c lu f. phased s t u (λ p. OldIsNot p c) tt (a.not_old u c lu f.0);
      colour = λ u c lu f. elim (a.colour u c lu f.0) [
        | inl e ↦ inl e
        | inr m ↦ elim (cases_eq u t) [
          | inl is ↦ absurd (f.1 is (w.own c (subst (λ z. HasMarked (s.phase z) c) is m.1)))
          | inr n ↦ inr (m.0, subst (λ p. HasMarked p c) (sym (put-other s.phase t Ready u n)) m.1)
        ]
      ];
    }
  where
    value_not_fresh : (u c : ℕ) → u < s.threads → s.IsFresh u c × (u ≡ t → v ≢ c) → v ≡ c → ⊥
    value_not_fresh u c lu f is = elim w.value [
      | inl null ↦ (inv.live.held u c (s.birth c) lu (inv.fresh.held u c lu f.0)).0 (sym is ∙ null)
      | inr held ↦ f.1 (sym (inv.fresh.alone u t c (s.birth v) lu lt f.0 (subst (λ z. s.IsHeld t z (s.birth v)) is held))) is
    ]

-- a barriered store preserves the invariant
pub written : (done : ℕ) (cycle_of claim_at : ℕ → ℕ) (IsSync : ℕ → Type 0) (s : State) (t x i old v : ℕ) → AreStages done cycle_of IsSync s.cycle → t < s.threads → IsStoring cycle_of IsSync s t x i old v → IsInvariant done cycle_of claim_at IsSync s → IsInvariant done cycle_of claim_at IsSync (after_store s t x i v)
written done cycle_of claim_at IsSync s t x i old v g lt w inv =
    let live = base-live done cycle_of claim_at IsSync s t x lt inv w.base in
    record {
      stages = stages_after done s t x i v inv.stages;
      colours = inv.colours;
      beyond = inv.beyond;
      root = inv.root;
      under_way = under_way_after s t x i v live s.part refl inv.under_way;
      live = live_after s t x i v live (elim w.value [ inl e ↦ inl e | inr h ↦ inr ((inv.live.held t v (s.birth v) lt h).1, refl) ]) inv.live;
      fresh = fresh_after done cycle_of claim_at IsSync s t x i old v lt w inv;
      stands = λ u lu. phased s t u (λ p. Stands cycle_of IsSync s u p) tt (inv.stands u lu);
      law = law_after done cycle_of claim_at IsSync s t x i old v g lt w inv (time_of s.part) refl inv.law;
    }
