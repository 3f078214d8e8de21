-- The steps of the sweep preserve the invariant.
use Rattle.std.proofs.Common.{◌≡◌, inl, inr, ℕ, suc, ◌*◌, ◌<◌, ◌≤◌, refl, sym, ap, ◌∙◌, subst, arith}
use Rattle.std.proofs.lemmas.Bool.{cases_eq, cases_lt}
use Rattle.collector_law.specs.Invariant.{State, Resting, Sweeping, Clearing, Clean, time_of, IsWhite, IsBlack, IsMarked, IsLive, IsLiveAt, IsGood, MayLag, posted_at, IsUnderWay, IsColour, RootAt, IsInvariant}
use Rattle.collector_law.specs.Puts.{put, put-here, put-other, put_word, here_or_not, put_word-here, put_word-other}
use Rattle.collector_law.specs.Turn.{turned, turns}
use Rattle.collector_law.specs.Claim.{stands-grow}

-- ---- a white cell was met: its words are cleared
pub begins_clearing : (done : ℕ) (cycle_of claim_at : ℕ → ℕ) (IsSync : ℕ → Type 0) (s : State) (c : ℕ) → s.part ≡ Sweeping c → 0 < c → IsWhite s c → IsInvariant done cycle_of claim_at IsSync s → IsInvariant done cycle_of claim_at IsSync (turned s (Clearing c 0))
begins_clearing done cycle_of claim_at IsSync s c is above white inv = turns done cycle_of claim_at IsSync s (Clearing c 0) (record {
  posted = subst (λ p. posted_at p s.cycle s.posted) is inv.stages.posted;
  lag = λ t lt e l. subst (λ p. MayLag p t) is l;
  colour = λ d. subst (λ p. IsColour p s.cycle (s.colour d)) is (inv.colours d);
  time = sym (ap time_of is);
  way = (subst (λ p. IsUnderWay s p) is inv.under_way, white, above, λ i below. absurd (omega (arith, below)));
  hand = λ t d lt f e. (inv.live.held t d (s.birth d) lt (inv.fresh.held t d lt f)).0 (sym e);
  law = λ l. tt;
}) inv

-- ---- a cell that is not white was passed
pub sweeps : (done : ℕ) (cycle_of claim_at : ℕ → ℕ) (IsSync : ℕ → Type 0) (s : State) (c : ℕ) → s.part ≡ Sweeping c → (IsWhite s c → ⊥) → IsInvariant done cycle_of claim_at IsSync s → IsInvariant done cycle_of claim_at IsSync (turned s (Sweeping (suc c)))
sweeps done cycle_of claim_at IsSync s c is not_white inv = turns done cycle_of claim_at IsSync s (Sweeping (suc c)) (record {
  posted = subst (λ p. posted_at p s.cycle s.posted) is inv.stages.posted;
  lag = λ t lt e l. subst (λ p. MayLag p t) is l;
  colour = λ d. subst (λ p. IsColour p s.cycle (s.colour d)) is (inv.colours d);
  time = sym (ap time_of is);
  way = λ d above below white. elim (cases_eq d c) [
    | inl e ↦ not_white (subst (λ z. IsWhite s z) e white)
    | inr n ↦ subst (λ p. IsUnderWay s p) is inv.under_way d above (omega (arith, below, n)) white
  ];
  hand = λ t d lt f e. (inv.live.held t d (s.birth d) lt (inv.fresh.held t d lt f)).0 (sym e);
  law = λ l. tt;
}) inv

-- ---- the last cell was swept
pub rests : (done : ℕ) (cycle_of claim_at : ℕ → ℕ) (IsSync : ℕ → Type 0) (s : State) (c : ℕ) → s.part ≡ Sweeping c → s.cells ≤ c → IsInvariant done cycle_of claim_at IsSync s → IsInvariant done cycle_of claim_at IsSync (turned s Resting)
rests done cycle_of claim_at IsSync s c is last inv = turns done cycle_of claim_at IsSync s Resting (record {
  posted = subst (λ p. posted_at p s.cycle s.posted) is inv.stages.posted;
  lag = λ t lt e l. subst (λ p. MayLag p t) is l;
  colour = λ d. elim (subst (λ p. IsColour p s.cycle (s.colour d)) is (inv.colours d)) [
    | inl blue ↦ inl blue
    | inr m ↦ elim m [ inl white ↦ absurd (none d white) | inr black ↦ inr black ]
  ];
  time = sym (ap time_of is);
  way = tt;
  hand = λ t d lt f e. (inv.live.held t d (s.birth d) lt (inv.fresh.held t d lt f)).0 (sym e);
  law = λ l. tt;
}) inv
  where
    root : s.colour 0 ≡ suc (2 * s.cycle)
    root = subst (λ z. RootAt z s.cycle (s.colour 0)) (ap time_of is) inv.root

    none : (d : ℕ) → IsWhite s d → ⊥
    none d white = elim (cases_eq d 0) [
      | inl e ↦ omega (arith, white, ap s.colour e, root)
      | inr n ↦ elim (cases_lt d c) [
        | inl below ↦ subst (λ p. IsUnderWay s p) is inv.under_way d (omega (arith, n)) below white
        | inr above ↦ omega (arith, inv.beyond d (omega (arith, last, above)), white)
      ]
    ]

-- ---- a word of a white cell is cleared
abbrev pub cleared : State → (c i : ℕ) → State
cleared s c i = record s { part = Clearing c (suc i); word = put_word s.word c i 0 }

-- the clearing of a word preserves the invariant
pub clears : (done : ℕ) (cycle_of claim_at : ℕ → ℕ) (IsSync : ℕ → Type 0) (s : State) (c i : ℕ) → s.part ≡ Clearing c i → IsInvariant done cycle_of claim_at IsSync s → IsInvariant done cycle_of claim_at IsSync (cleared s c i)
clears done cycle_of claim_at IsSync s c i is inv = record {
  stages = record {
    posted = subst (λ p. posted_at p s.cycle s.posted) is inv.stages.posted;
    stages = λ t lt. elim (inv.stages.stages t lt) [
      | inl e ↦ inl e
      | inr m ↦ elim m [ inl d ↦ inr (inl d) | inr l ↦ absurd (subst (λ p. MayLag p t) is l.1) ]
    ];
    answers = inv.stages.answers;
    ended = inv.stages.ended;
  };
  colours = λ d. subst (λ p. IsColour p s.cycle (s.colour d)) is (inv.colours d);
  beyond = inv.beyond;
  root = subst (λ z. RootAt z s.cycle (s.colour 0)) time inv.root;
  under_way = (
    way.0,
    way.1,
    way.2,
    λ j below. elim (cases_eq j i) [
      | inl e ↦ put_word-here s.word c i 0 c j (refl, e)
      | inr n ↦ put_word-other s.word c i 0 c j (λ b. n b.1) ∙ way.3 j (omega (arith, below, n))
    ],
  );
  live = record {
    held = λ t d b lt h. let was = inv.live.held t d b lt h in (was.0, grows d was.1, was.2);
    words = λ d j l. subst (λ z. IsGood (cleared s c i) z (s.tag d j)) (sym (other d j l)) (elim (inv.live.words d j (was_live d l)) [
      | inl null ↦ inl null
      | inr good ↦ inr (grows (s.word d j) good.0, good.1)
    ]);
    blue = λ d j e. elim (here_or_not c i d j) [
      | inl h ↦ put_word-here s.word c i 0 d j h
      | inr n ↦ put_word-other s.word c i 0 d j n ∙ inv.live.blue d j e
    ];
  };
  fresh = record {
    held = inv.fresh.held;
    unnamed = λ t d x j lt f l e. inv.fresh.unnamed t d x j lt f (was_live x l) (sym (other x j l) ∙ e);
    alone = inv.fresh.alone;
    in_no_hand = λ t d lt f e. (inv.live.held t d (s.birth d) lt (inv.fresh.held t d lt f)).0 (sym e);
    not_old = inv.fresh.not_old;
    colour = inv.fresh.colour;
  };
  stands = inv.stands;
  law = tt;
}
  where
    time : time_of s.part ≡ Clean
    time = ap time_of is

    way : IsUnderWay s (Clearing c i)
    way = subst (λ p. IsUnderWay s p) is inv.under_way

    grows : (d : ℕ) → IsLive s d → IsLive (cleared s c i) d
    grows d l = subst (λ z. IsLiveAt z s.cycle (s.colour d)) time l

    was_live : (d : ℕ) → IsLive (cleared s c i) d → IsLive s d
    was_live d l = subst (λ z. IsLiveAt z s.cycle (s.colour d)) (sym time) l

    other : (d j : ℕ) → IsBlack s d → put_word s.word c i 0 d j ≡ s.word d j
    other d j black = put_word-other s.word c i 0 d j (λ b. omega (arith, black, ap s.colour b.0, way.1))

-- ---- a white cell whose words are null is freed
abbrev pub freed : State → (c : ℕ) → State
freed s c = record s { part = Sweeping (suc c); colour = put s.colour c 0 }

-- the freeing of a cell preserves the invariant
pub frees : (done : ℕ) (cycle_of claim_at : ℕ → ℕ) (IsSync : ℕ → Type 0) (s : State) (c i : ℕ) → s.part ≡ Clearing c i → ((j : ℕ) → i ≤ j → s.word c j ≡ 0) → IsInvariant done cycle_of claim_at IsSync s → IsInvariant done cycle_of claim_at IsSync (freed s c)
frees done cycle_of claim_at IsSync s c i is all inv = record {
  stages = record {
    posted = subst (λ p. posted_at p s.cycle s.posted) is inv.stages.posted;
    stages = λ t lt. elim (inv.stages.stages t lt) [
      | inl e ↦ inl e
      | inr m ↦ elim m [ inl d ↦ inr (inl d) | inr l ↦ absurd (subst (λ p. MayLag p t) is l.1) ]
    ];
    answers = inv.stages.answers;
    ended = inv.stages.ended;
  };
  colours = λ d. elim (cases_eq d c) [
    | inl e ↦ inl (at d e)
    | inr n ↦ subst (λ z. IsColour (Sweeping (suc c)) s.cycle z) (sym (off d n)) (subst (λ p. IsColour p s.cycle (s.colour d)) is (inv.colours d))
  ];
  beyond = λ d above. elim (cases_eq d c) [ inl e ↦ at d e | inr n ↦ off d n ∙ inv.beyond d above ];
  root = off 0 (λ e. omega (arith, e, way.2)) ∙ subst (λ z. RootAt z s.cycle (s.colour 0)) time inv.root;
  under_way = λ d above below white. elim (cases_eq d c) [
    | inl e ↦ omega (arith, at d e, white)
    | inr n ↦ way.0 d above (omega (arith, below, n)) (ap suc (sym (off d n)) ∙ white)
  ];
  live = record {
    held = λ t d b lt h. let was = inv.live.held t d b lt h in (was.0, grows d was.1, was.2);
    words = λ d j l. elim (inv.live.words d j (was_live d l)) [ inl null ↦ inl null | inr good ↦ inr (grows (s.word d j) good.0, good.1) ];
    blue = λ d j e. elim (cases_eq d c) [
      | inl h ↦ ap (λ z. s.word z j) h ∙ empty j
      | inr n ↦ inv.live.blue d j (sym (off d n) ∙ e)
    ];
  };
  fresh = record {
    held = inv.fresh.held;
    unnamed = λ t d x j lt f l. inv.fresh.unnamed t d x j lt f (was_live x l);
    alone = inv.fresh.alone;
    in_no_hand = λ t d lt f e. (inv.live.held t d (s.birth d) lt (inv.fresh.held t d lt f)).0 (sym e);
    not_old = inv.fresh.not_old;
    colour = λ t d lt f. elim (inv.fresh.colour t d lt f) [
      | inl e ↦ inl (off d (not_here d (inv.live.held t d (s.birth d) lt (inv.fresh.held t d lt f)).1) ∙ e)
      | inr m ↦ inr m
    ];
  };
  stands = λ t lt. stands-grow cycle_of IsSync s (put s.colour c 0) s.birth s.IsHeld t (λ d b. b) marked (s.phase t) (inv.stands t lt);
  law = tt;
}
  where
    time : time_of s.part ≡ Clean
    time = ap time_of is

    way : IsUnderWay s (Clearing c i)
    way = subst (λ p. IsUnderWay s p) is inv.under_way

    at : (d : ℕ) → d ≡ c → put s.colour c 0 d ≡ 0
    at d e = put-here s.colour c 0 d e

    off : (d : ℕ) → (d ≡ c → ⊥) → put s.colour c 0 d ≡ s.colour d
    off d n = put-other s.colour c 0 d n

    empty : (j : ℕ) → s.word c j ≡ 0
    empty j = elim (cases_lt j i) [ inl below ↦ way.3 j below | inr above ↦ all j above ]

    not_here : (d : ℕ) → IsLive s d → d ≡ c → ⊥
    not_here d l e = omega (arith, subst (λ z. IsLiveAt z s.cycle (s.colour d)) time l, ap s.colour e, way.1)

    grows : (d : ℕ) → IsLive s d → IsLive (freed s c) d
    grows d l = off d (not_here d l) ∙ subst (λ z. IsLiveAt z s.cycle (s.colour d)) time l

    was_live : (d : ℕ) → IsLive (freed s c) d → IsLive s d
    was_live d l = subst (λ z. IsLiveAt z s.cycle (s.colour d)) (sym time) (elim (cases_eq d c) [
      | inl e ↦ absurd (omega (arith, at d e, l))
      | inr n ↦ sym (off d n) ∙ l
    ])

    marked : (d : ℕ) → IsMarked s d → IsMarked (freed s c) d
    marked d m = elim (cases_eq d c) [
      | inl e ↦ absurd (omega (arith, m, ap s.colour e, way.1))
      | inr n ↦ omega (arith, off d n, m)
    ]
