-- The posts of stages, the waits, and the end of a scan and of a pass preserve the invariant.
use Rattle.std.proofs.Common.{◌≡◌, ◌≢◌, ◌⊎◌, inl, inr, ℕ, zero, suc, ◌+◌, ◌*◌, ◌<◌, ◌≤◌, true, false, List, refl, sym, ap, ◌∙◌, subst, arith}
use Rattle.std.proofs.lemmas.Bool.{cases_eq, cases_lt}
use Rattle.collector_law.specs.Invariant.{State, Phase, Ready, MarkingOld, MarkingNew, Writing, Answering, Resting, Waiting, Rooted, Passing, Scanning, Time, Early, Late, Clean, time_of, IsGrey, IsMarked, IsLive, IsLiveAt, hand_of, picture, MayLag, posted_at, IsUnderWay, IsColour, RootAt, IsScanned, Stands, AtTime, IsInvariant}
use Rattle.collector_law.specs.Trace.{quiet}
use Rattle.collector_law.specs.Puts.{put, put-here, put-other}
use Rattle.collector_law.specs.Claim.{stands-grow}
use Rattle.collector_law.specs.Turn.{turned, turns, unscanned}

-- ---- looking for a grey cell
find_grey : (s : State) (n : ℕ) → ((c : ℕ) × IsGrey s c) ⊎ ((c : ℕ) → c < n → IsGrey s c → ⊥)
find_grey s zero = inr (λ c below grey. omega (arith, below))
find_grey s (suc n) = elim (find_grey s n) [
  | inl g ↦ inl g
  | inr never ↦ elim (cases_eq (s.colour n) (2 * s.cycle)) [
    | inl grey ↦ inl (n, grey)
    | inr other ↦ inr (λ c below grey. elim (cases_eq c n) [
      | inl e ↦ other (sym (ap s.colour e) ∙ grey)
      | inr m ↦ never c (omega (arith, below, m)) grey
    ])
  ]
]

-- some cell is grey, or none is
pub decides : (s : State) → 0 < s.cycle → ((c : ℕ) → s.cells ≤ c → s.colour c ≡ 0) → ((c : ℕ) × (0 ≤ c) × IsGrey s c) ⊎ ((c : ℕ) → IsGrey s c → ⊥)
decides s positive beyond = elim (find_grey s s.cells) [
  | inl g ↦ inl (g.0, omega arith, g.1)
  | inr never ↦ inr (λ c grey. elim (cases_lt c s.cells) [
    | inl below ↦ never c below grey
    | inr above ↦ omega (arith, beyond c above, grey, positive)
  ])
]

-- ---- a pass that met a grey cell is made again
pub repeats : (done : ℕ) (cycle_of claim_at : ℕ → ℕ) (IsSync : ℕ → Type 0) (s : State) (next : ℕ) → s.part ≡ Passing next true → IsInvariant done cycle_of claim_at IsSync s → IsInvariant done cycle_of claim_at IsSync (turned s (Passing 0 false))
repeats done cycle_of claim_at IsSync s next is inv = turns done cycle_of claim_at IsSync s (Passing 0 false) (record {
  posted = subst (λ p. posted_at p s.cycle s.posted) is inv.stages.posted;
  lag = λ t lt e l. subst (λ p. MayLag p t) is l;
  colour = λ d. subst (λ p. IsColour p s.cycle (s.colour d)) is (inv.colours d);
  time = sym (ap time_of is);
  way = decides s ((subst (λ z. RootAt z s.cycle (s.colour 0)) (ap time_of is) inv.root).0) inv.beyond;
  hand = λ t d lt f e. (inv.live.held t d (s.birth d) lt (inv.fresh.held t d lt f)).0 (sym e);
  law = λ l. unscanned s (Passing 0 false) (λ y j sc. sc) (ap hand_of is) (subst (λ z. AtTime s z) (ap time_of is) l);
}) inv

-- ---- the last wait is over: the trace begins
pub traces : (done : ℕ) (cycle_of claim_at : ℕ → ℕ) (IsSync : ℕ → Type 0) (s : State) → s.part ≡ Waiting 3 s.threads → IsInvariant done cycle_of claim_at IsSync s → IsInvariant done cycle_of claim_at IsSync (turned s (Passing 0 false))
traces done cycle_of claim_at IsSync s is inv = turns done cycle_of claim_at IsSync s (Passing 0 false) (record {
  posted = subst (λ p. posted_at p s.cycle s.posted) is inv.stages.posted;
  lag = λ t lt e l. absurd (late_one t lt (subst (λ p. MayLag p t) is l));
  colour = λ d. subst (λ p. IsColour p s.cycle (s.colour d)) is (inv.colours d);
  time = sym (ap time_of is);
  way = decides s ((subst (λ z. RootAt z s.cycle (s.colour 0)) (ap time_of is) inv.root).0) inv.beyond;
  hand = λ t d lt f e. (inv.live.held t d (s.birth d) lt (inv.fresh.held t d lt f)).0 (sym e);
  law = λ l. unscanned s (Passing 0 false) (λ y j sc. sc) (ap hand_of is) (subst (λ z. AtTime s z) (ap time_of is) l);
}) inv
  where
    late_one : (t : ℕ) → t < s.threads → s.threads ≤ t → ⊥
    late_one t lt seen = omega (arith, lt, seen)

-- ---- waits
same_wait : (w a b : ℕ) → (time_of (Waiting w a) ≡ time_of (Waiting w b)) × ((k p : ℕ) → posted_at (Waiting w a) k p → posted_at (Waiting w b) k p) × ((k c : ℕ) → IsColour (Waiting w a) k c → IsColour (Waiting w b) k c)
same_wait zero a b = (refl, λ k p x. x, λ k c x. x)
same_wait (suc zero) a b = (refl, λ k p x. x, λ k c x. x)
same_wait (suc (suc zero)) a b = (refl, λ k p x. x, λ k c x. x)
same_wait (suc (suc (suc n))) a b = (refl, λ k p x. x, λ k c x. x)

-- a look at a thread that has answered preserves the invariant
pub sees : (done : ℕ) (cycle_of claim_at : ℕ → ℕ) (IsSync : ℕ → Type 0) (s : State) (w t : ℕ) → s.part ≡ Waiting w t → (s.stage t ≡ s.posted) ⊎ (s.stage t ≡ done) → s.posted < done → IsInvariant done cycle_of claim_at IsSync s → IsInvariant done cycle_of claim_at IsSync (turned s (Waiting w (suc t)))
sees done cycle_of claim_at IsSync s w t is seen big inv = turns done cycle_of claim_at IsSync s (Waiting w (suc t)) (record {
  posted = (same_wait w t (suc t)).1 s.cycle s.posted (subst (λ p. posted_at p s.cycle s.posted) is inv.stages.posted);
  lag = λ u lu e l. lag u e (subst (λ p. MayLag p u) is l);
  colour = λ d. (same_wait w t (suc t)).2 s.cycle (s.colour d) (subst (λ p. IsColour p s.cycle (s.colour d)) is (inv.colours d));
  time = sym ((same_wait w t (suc t)).0) ∙ sym (ap time_of is);
  way = tt;
  hand = λ u d lt f e. (inv.live.held u d (s.birth d) lt (inv.fresh.held u d lt f)).0 (sym e);
  law = λ l. law (time_of (Waiting w (suc t))) (subst (λ z. AtTime s z) (ap time_of is ∙ (same_wait w t (suc t)).0) l);
}) inv
  where
    lag : (u : ℕ) → suc (s.stage u) ≡ s.posted → t ≤ u → suc t ≤ u
    lag u e l = elim (cases_eq u t) [
      | inl same ↦ absurd (elim seen [ inl p ↦ omega (arith, e, ap s.stage same, p) | inr d ↦ omega (arith, e, ap s.stage same, d, big) ])
      | inr n ↦ omega (arith, l, n)
    ]

    law : (T : Time) → AtTime s T → AtTime (turned s (Waiting w (suc t))) T
    law Early l = l
    law Late l = unscanned s (Waiting w (suc t)) (λ y j sc. sc) (ap hand_of is) l
    law Clean l = tt

-- ---- the end of a scan
abbrev pub blackened : State → (c next : ℕ) → State
blackened s c next = record s { part = Passing next true; colour = put s.colour c (suc (2 * s.cycle)) }

-- a cell whose words are all read becomes black
pub blackens : (done : ℕ) (cycle_of claim_at : ℕ → ℕ) (IsSync : ℕ → Type 0) (s : State) (c i next : ℕ) → ((st : ℕ) → st ≡ 3 * s.cycle → (claim_at st ≡ suc (2 * s.cycle)) × (IsSync st → ⊥)) → s.part ≡ Scanning c i 0 → ((j : ℕ) → i ≤ j → s.word c j ≡ 0) → IsInvariant done cycle_of claim_at IsSync s → IsInvariant done cycle_of claim_at IsSync (blackened s c next)
blackens done cycle_of claim_at IsSync s c i next async is all inv = record {
  stages = record {
    posted = posted;
    stages = λ t lt. elim (inv.stages.stages t lt) [
      | inl e ↦ inl e
      | inr m ↦ elim m [ inl d ↦ inr (inl d) | inr l ↦ absurd (subst (λ p. MayLag p t) is l.1) ]
    ];
    answers = inv.stages.answers;
    ended = inv.stages.ended;
  };
  colours = λ d. elim (cases_eq d c) [
    | inl e ↦ inr (inr (inr (at d e)))
    | inr n ↦ subst (λ z. IsColour (Passing next true) s.cycle z) (sym (off d n)) (subst (λ p. IsColour p s.cycle (s.colour d)) is (inv.colours d))
  ];
  beyond = λ d above. elim (cases_eq d c) [
    | inl e ↦ absurd (omega (arith, inv.beyond d above, ap s.colour e, way.0, root.0))
    | inr n ↦ off d n ∙ inv.beyond d above
  ];
  root = (root.0, elim (cases_eq 0 c) [ inl e ↦ omega (arith, at 0 e) | inr n ↦ omega (arith, off 0 n, root.1) ]);
  under_way = tt;
  live = record {
    held = λ t d b lt h. let was = inv.live.held t d b lt h in (was.0, grows d was.1, was.2);
    words = λ d j l. elim (inv.live.words d j (was_live d l)) [ inl null ↦ inl null | inr good ↦ inr (grows (s.word d j) good.0, good.1) ];
    blue = λ d j e. elim (cases_eq d c) [
      | inl h ↦ absurd (omega (arith, at d h, e))
      | inr n ↦ inv.live.blue d j (sym (off d n) ∙ e)
    ];
  };
  fresh = record {
    held = inv.fresh.held;
    unnamed = λ t d x j lt f l. inv.fresh.unnamed t d x j lt f (was_live x l);
    alone = inv.fresh.alone;
    in_no_hand = λ t d lt f e. (inv.live.held t d (s.birth d) lt (inv.fresh.held t d lt f)).0 (sym e);
    not_old = inv.fresh.not_old;
    colour = λ t d lt f.
        let now = async (s.stage t) (at_async t lt (λ e. (inv.stages.ended t lt e).2 d f)) in
        elim (inv.fresh.colour t d lt f) [
          | inl e ↦ inl (off d (λ h. omega (arith, e, now.0, ap s.colour h, way.0)) ∙ e)
          | inr m ↦ absurd (now.1 m.0)
        ];
  };
  stands = λ t lt. stands-grow cycle_of IsSync s (put s.colour c (suc (2 * s.cycle))) s.birth s.IsHeld t (λ d b. b) marked (s.phase t) (inv.stands t lt);
  law = quiet (picture s) (picture (blackened s c next)) (record {
    white = λ d white. elim (cases_eq d c) [
      | inl e ↦ absurd (omega (arith, at d e, white.1))
      | inr n ↦ (white.0, ap suc (sym (off d n)) ∙ white.1)
    ];
    hand = λ W u. subst (λ p. W (hand_of p) ≡ false) (sym is) u.hand;
    read = λ W u y j r. elim r [
      | inl black ↦ elim (cases_eq y c) [
        | inl e ↦ elim (cases_lt j i) [
          | inl below ↦ inl (inr (subst (λ p. IsScanned p y j) (sym is) (e, below)))
          | inr above ↦ inr (ap W (ap (λ z. s.word z j) e ∙ all j above) ∙ u.hand)
        ]
        | inr n ↦ inl (inl (sym (off y n) ∙ black))
      ]
      | inr sc ↦ absurd sc
    ];
    word = λ y j. refl;
    loose = λ y j lo. lo;
    held = λ d g. inl g;
  }) (subst (λ z. AtTime s z) late inv.law);
}
  where
    late : time_of s.part ≡ Late
    late = ap time_of is

    posted : s.posted ≡ 3 * s.cycle
    posted = subst (λ p. posted_at p s.cycle s.posted) is inv.stages.posted

    root : (0 < s.cycle) × (2 * s.cycle ≤ s.colour 0)
    root = subst (λ z. RootAt z s.cycle (s.colour 0)) late inv.root

    way : IsUnderWay s (Scanning c i 0)
    way = subst (λ p. IsUnderWay s p) is inv.under_way

    at : (d : ℕ) → d ≡ c → put s.colour c (suc (2 * s.cycle)) d ≡ suc (2 * s.cycle)
    at d e = put-here s.colour c (suc (2 * s.cycle)) d e

    off : (d : ℕ) → (d ≡ c → ⊥) → put s.colour c (suc (2 * s.cycle)) d ≡ s.colour d
    off d n = put-other s.colour c (suc (2 * s.cycle)) d n

    at_async : (t : ℕ) → t < s.threads → s.stage t ≢ done → s.stage t ≡ 3 * s.cycle
    at_async t lt n = elim (inv.stages.stages t lt) [
      | inl e ↦ e ∙ posted
      | inr m ↦ elim m [ inl d ↦ absurd (n d) | inr l ↦ absurd (subst (λ p. MayLag p t) is l.1) ]
    ]

    grows : (d : ℕ) → IsLive s d → IsLive (blackened s c next) d
    grows d l = elim (cases_eq d c) [
      | inl e ↦ λ z. omega (arith, at d e, z)
      | inr n ↦ λ z. subst (λ y. IsLiveAt y s.cycle (s.colour d)) late l (sym (off d n) ∙ z)
    ]

    was_live : (d : ℕ) → IsLive (blackened s c next) d → IsLive s d
    was_live d l = subst (λ z. IsLiveAt z s.cycle (s.colour d)) (sym late) (elim (cases_eq d c) [
      | inl e ↦ λ z. omega (arith, way.0, ap s.colour e, z, root.0)
      | inr n ↦ λ z. l (off d n ∙ z)
    ])

    marked : (d : ℕ) → IsMarked s d → IsMarked (blackened s c next) d
    marked d m = elim (cases_eq d c) [
      | inl e ↦ omega (arith, at d e)
      | inr n ↦ omega (arith, off d n, m)
    ]

-- ---- posts: each thread was seen, so none lags, and none is before an answer
pub none_answers : (done : ℕ) (cycle_of claim_at : ℕ → ℕ) (IsSync : ℕ → Type 0) (s : State) → ((t : ℕ) → t < s.threads → MayLag s.part t → ⊥) → IsInvariant done cycle_of claim_at IsSync s → (t p : ℕ) (marked : List ℕ) → t < s.threads → s.phase t ≡ Answering p marked → ⊥
none_answers done cycle_of claim_at IsSync s seen inv t p marked lt e = elim (inv.stages.stages t lt) [
  | inl at ↦ omega (arith, (inv.stages.answers t p marked lt e).1, at)
  | inr m ↦ elim m [
    | inl d ↦ ready_not_answering (sym ((inv.stages.ended t lt d).0) ∙ e)
    | inr l ↦ seen t lt l.1
  ]
]
  where
    ready_not_answering : Ready ≡ Answering p marked → ⊥
    ready_not_answering f = cc

-- the next stage is posted, and the wait for the threads begins
abbrev pub posted_on : State → (w : ℕ) → State
posted_on s w = record s { part = Waiting w 0; posted = suc s.posted }

-- a post that begins no cycle preserves the invariant
posts_on : (done : ℕ) (cycle_of claim_at : ℕ → ℕ) (IsSync : ℕ → Type 0) (s : State) (w : ℕ) → posted_at (Waiting w 0) s.cycle (suc s.posted) → ((t : ℕ) → t < s.threads → MayLag s.part t → ⊥) → ((d : ℕ) → IsColour (Waiting w 0) s.cycle (s.colour d))
    → time_of s.part ≡ time_of (Waiting w 0) → AtTime (posted_on s w) (time_of (Waiting w 0)) → IsInvariant done cycle_of claim_at IsSync s → IsInvariant done cycle_of claim_at IsSync (posted_on s w)
posts_on done cycle_of claim_at IsSync s w posted seen colours time law inv = record {
  stages = record {
    posted = posted;
    stages = λ t lt. elim (inv.stages.stages t lt) [
      | inl e ↦ inr (inr (ap suc e, omega arith))
      | inr m ↦ elim m [ inl d ↦ inr (inl d) | inr l ↦ absurd (seen t lt l.1) ]
    ];
    answers = λ t p marked lt e. absurd (none_answers done cycle_of claim_at IsSync s seen inv t p marked lt e);
    ended = inv.stages.ended;
  };
  colours = colours;
  beyond = inv.beyond;
  root = subst (λ z. RootAt z s.cycle (s.colour 0)) time inv.root;
  under_way = tt;
  live = record {
    held = λ t d b lt h. let was = inv.live.held t d b lt h in (was.0, grows d was.1, was.2);
    words = λ d j l. elim (inv.live.words d j (was_live d l)) [ inl null ↦ inl null | inr good ↦ inr (grows (s.word d j) good.0, good.1) ];
    blue = inv.live.blue;
  };
  fresh = record {
    held = inv.fresh.held;
    unnamed = λ t d x j lt f l. inv.fresh.unnamed t d x j lt f (was_live x l);
    alone = inv.fresh.alone;
    in_no_hand = λ t d lt f e. (inv.live.held t d (s.birth d) lt (inv.fresh.held t d lt f)).0 (sym e);
    not_old = inv.fresh.not_old;
    colour = inv.fresh.colour;
  };
  stands = inv.stands;
  law = law;
}
  where
    grows : (d : ℕ) → IsLive s d → IsLive (posted_on s w) d
    grows d l = subst (λ z. IsLiveAt z s.cycle (s.colour d)) time l

    was_live : (d : ℕ) → IsLive (posted_on s w) d → IsLive s d
    was_live d l = subst (λ z. IsLiveAt z s.cycle (s.colour d)) (sym time) l

-- Sync2
abbrev pub posted_sync2 : State → State
posted_sync2 s = posted_on s 2

-- the post of the second sync stage preserves the invariant
pub posts_sync2 : (done : ℕ) (cycle_of claim_at : ℕ → ℕ) (IsSync : ℕ → Type 0) (s : State) → 3 * s.cycle < done → s.part ≡ Waiting 1 s.threads → IsInvariant done cycle_of claim_at IsSync s → IsInvariant done cycle_of claim_at IsSync (posted_sync2 s)
posts_sync2 done cycle_of claim_at IsSync s big is inv =
    posts_on done cycle_of claim_at IsSync s 2 (omega (arith, posted)) seen (λ d. subst (λ p. IsColour p s.cycle (s.colour d)) is (inv.colours d)) (ap time_of is) (subst (λ z. AtTime s z) (ap time_of is) inv.law) inv
  where
    posted : s.posted + 2 ≡ 3 * s.cycle
    posted = subst (λ p. posted_at p s.cycle s.posted) is inv.stages.posted

    seen : (t : ℕ) → t < s.threads → MayLag s.part t → ⊥
    seen t lt l = let m : s.threads ≤ t = subst (λ p. MayLag p t) is l in omega (arith, m, lt)

-- Async
abbrev pub posted_async : State → State
posted_async s = posted_on s 3

-- the post of the Async stage preserves the invariant
pub posts_async : (done : ℕ) (cycle_of claim_at : ℕ → ℕ) (IsSync : ℕ → Type 0) (s : State) → s.part ≡ Rooted → IsInvariant done cycle_of claim_at IsSync s → IsInvariant done cycle_of claim_at IsSync (posted_async s)
posts_async done cycle_of claim_at IsSync s is inv =
    posts_on done cycle_of claim_at IsSync s 3 (omega (arith, posted)) seen (λ d. subst (λ p. IsColour p s.cycle (s.colour d)) is (inv.colours d)) (ap time_of is)
    (unscanned s (Waiting 3 0) (λ y j sc. sc) (ap hand_of is) (subst (λ z. AtTime s z) (ap time_of is) inv.law)) inv
  where
    posted : s.posted + 1 ≡ 3 * s.cycle
    posted = subst (λ p. posted_at p s.cycle s.posted) is inv.stages.posted

    seen : (t : ℕ) → t < s.threads → MayLag s.part t → ⊥
    seen t lt l = subst (λ p. MayLag p t) is l

-- Sync1: the next cycle begins, and what was black is white
abbrev pub posted_sync1 : State → State
posted_sync1 s = record s { part = Waiting 1 0; posted = suc s.posted; cycle = suc s.cycle }

-- the post of the first sync stage, which begins a cycle, preserves the invariant
pub posts_sync1 : (done : ℕ) (cycle_of claim_at : ℕ → ℕ) (IsSync : ℕ → Type 0) (s : State) → 3 * s.cycle + 3 < done → ((st : ℕ) → st ≡ 3 * s.cycle → (cycle_of st ≡ s.cycle) × (IsSync st → ⊥)) → s.part ≡ Resting → IsInvariant done cycle_of claim_at IsSync s → IsInvariant done cycle_of claim_at IsSync (posted_sync1 s)
posts_sync1 done cycle_of claim_at IsSync s big async is inv = record {
  stages = record {
    posted = omega (arith, posted);
    stages = λ t lt. elim (inv.stages.stages t lt) [
      | inl e ↦ inr (inr (ap suc e, omega arith))
      | inr m ↦ elim m [ inl d ↦ inr (inl d) | inr l ↦ absurd (seen t lt l.1) ]
    ];
    answers = λ t p marked lt e. absurd (none_answers done cycle_of claim_at IsSync s seen inv t p marked lt e);
    ended = inv.stages.ended;
  };
  colours = λ d. elim (coloured d) [ inl blue ↦ inl blue | inr black ↦ inr (inl (omega (arith, black))) ];
  beyond = inv.beyond;
  root = λ e. omega (arith, e, subst (λ z. RootAt z s.cycle (s.colour 0)) time inv.root);
  under_way = tt;
  live = record {
    held = λ t d b lt h. let was = inv.live.held t d b lt h in (was.0, grows d was.1, was.2);
    words = λ d j l. elim (inv.live.words d j (was_live d l)) [ inl null ↦ inl null | inr good ↦ inr (grows (s.word d j) good.0, good.1) ];
    blue = inv.live.blue;
  };
  fresh = record {
    held = inv.fresh.held;
    unnamed = λ t d x j lt f l. inv.fresh.unnamed t d x j lt f (was_live x l);
    alone = inv.fresh.alone;
    in_no_hand = λ t d lt f e. (inv.live.held t d (s.birth d) lt (inv.fresh.held t d lt f)).0 (sym e);
    not_old = inv.fresh.not_old;
    colour = inv.fresh.colour;
  };
  stands = λ t lt. stands t lt (s.phase t) refl (inv.stands t lt);
  law = λ u y j lu two d. elim (stage_at u lu) [
    | inl e ↦ absurd (omega (arith, e, two))
    | inr over ↦ absurd (omega (arith, over, two, big))
  ];
}
  where
    time : time_of s.part ≡ Clean
    time = ap time_of is

    posted : s.posted ≡ 3 * s.cycle
    posted = subst (λ p. posted_at p s.cycle s.posted) is inv.stages.posted

    seen : (t : ℕ) → t < s.threads → MayLag s.part t → ⊥
    seen t lt l = subst (λ p. MayLag p t) is l

    stage_at : (t : ℕ) → t < s.threads → (s.stage t ≡ 3 * s.cycle) ⊎ (s.stage t ≡ done)
    stage_at t lt = elim (inv.stages.stages t lt) [
      | inl e ↦ inl (e ∙ posted)
      | inr m ↦ elim m [ inl d ↦ inr d | inr l ↦ absurd (seen t lt l.1) ]
    ]

    coloured : (d : ℕ) → IsColour Resting s.cycle (s.colour d)
    coloured d = subst (λ p. IsColour p s.cycle (s.colour d)) is (inv.colours d)

    grows : (d : ℕ) → IsLive s d → IsLive (posted_sync1 s) d
    grows d l = λ e. omega (arith, e, subst (λ z. IsLiveAt z s.cycle (s.colour d)) time l)

    was_live : (d : ℕ) → IsLive (posted_sync1 s) d → IsLive s d
    was_live d l = subst (λ z. IsLiveAt z s.cycle (s.colour d)) (sym time) (elim (coloured d) [ inl blue ↦ absurd (l blue) | inr black ↦ black ])

    now : (t : ℕ) → t < s.threads → s.phase t ≢ Ready → s.stage t ≡ 3 * s.cycle
    now t lt busy = elim (stage_at t lt) [ inl e ↦ e | inr d ↦ absurd (busy ((inv.stages.ended t lt d).0)) ]

    stands : (t : ℕ) → t < s.threads → (q : Phase) → s.phase t ≡ q → Stands cycle_of IsSync s t q → Stands cycle_of IsSync (posted_sync1 s) t q
    stands t lt Ready e w = tt
    stands t lt (MarkingOld cell word old) e w = w
    stands t lt (MarkingNew cell word old) e w = (w.0, w.1, λ in_cycle. absurd (omega (arith, in_cycle, (async (s.stage t) (now t lt (λ r. differ (sym r ∙ e)))).0)))
      where
        differ : Ready ≡ MarkingNew cell word old → ⊥
        differ f = cc
    stands t lt (Writing cell word old new) e w = absurd ((async (s.stage t) (now t lt (λ r. differ (sym r ∙ e)))).1 w.3)
      where
        differ : Ready ≡ Writing cell word old new → ⊥
        differ f = cc
    stands t lt (Answering stage marked) e w = absurd (none_answers done cycle_of claim_at IsSync s seen inv t stage marked lt e)
