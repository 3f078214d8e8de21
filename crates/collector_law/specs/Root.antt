-- The marking of the globals' cell preserves the invariant: here the trace's law begins to hold.
use Rattle.std.proofs.Common.{◌≡◌, ◌≢◌, ◌⊎◌, inl, inr, ℕ, ◌+◌, ◌*◌, ◌<◌, ◌≤◌, refl, sym, ap, ◌∙◌, subst, arith}
use Rattle.std.proofs.lemmas.Bool.{cases_eq}
use Rattle.collector_law.specs.Invariant.{State, Waiting, Rooted, Early, time_of, IsBlack, IsMarked, IsLive, IsLiveAt, Differs, picture, MayLag, posted_at, IsColour, RootAt, LooseIsMarked, AtTime, IsInvariant}
use Rattle.collector_law.specs.Trace.{begins}
use Rattle.collector_law.specs.Puts.{put, put-here, put-other}
use Rattle.collector_law.specs.Claim.{stands-grow}

-- the globals' cell is marked
abbrev pub rooted : State → State
rooted s = record s { part = Rooted; colour = put s.colour 0 (2 * s.cycle) }

-- the mark of the globals' cell begins the law of the trace, and preserves the invariant
pub marks_root : (done : ℕ) (cycle_of claim_at : ℕ → ℕ) (IsSync : ℕ → Type 0) (s : State) → 3 * s.cycle < done → s.part ≡ Waiting 2 s.threads → IsInvariant done cycle_of claim_at IsSync s → IsInvariant done cycle_of claim_at IsSync (rooted s)
marks_root done cycle_of claim_at IsSync s big is inv = record {
  stages = record {
    posted = posted;
    stages = λ t lt. elim (stands_at t lt) [ inl e ↦ inl e | inr d ↦ inr (inl d) ];
    answers = inv.stages.answers;
    ended = inv.stages.ended;
  };
  colours = λ d. elim (cases_eq d 0) [
    | inl e ↦ inr (inr (inl (at d e)))
    | inr n ↦ subst (λ z. IsColour Rooted s.cycle z) (sym (off d n)) (elim (coloured d) [
      | inl blue ↦ inl blue
      | inr m ↦ elim m [ inl white ↦ inr (inl white) | inr grey ↦ inr (inr (inl grey)) ]
    ])
  ];
  beyond = λ d above. elim (cases_eq d 0) [
    | inl e ↦ absurd (root_live (sym (ap s.colour e) ∙ inv.beyond d above))
    | inr n ↦ off d n ∙ inv.beyond d above
  ];
  root = (positive, omega (arith, at 0 refl));
  under_way = tt;
  live = record {
    held = λ t d b lt h. let was = inv.live.held t d b lt h in (was.0, grows d was.1, was.2);
    words = λ d i l. elim (inv.live.words d i (was_live d l)) [ inl null ↦ inl null | inr good ↦ inr (grows (s.word d i) good.0, good.1) ];
    blue = λ d i e. elim (cases_eq d 0) [
      | inl is ↦ absurd (omega (arith, at d is, e, positive))
      | inr n ↦ inv.live.blue d i (sym (off d n) ∙ e)
    ];
  };
  fresh = record {
    held = inv.fresh.held;
    unnamed = λ t d x i lt f l. inv.fresh.unnamed t d x i lt f (was_live x l);
    alone = inv.fresh.alone;
    in_no_hand = λ t d lt f e. fresh_not_null t d lt f (sym e);
    not_old = inv.fresh.not_old;
    colour = λ t d lt f. elim (inv.fresh.colour t d lt f) [ inl e ↦ inl (off d (fresh_not_null t d lt f) ∙ e) | inr m ↦ inr m ];
  };
  stands = λ t lt. stands-grow cycle_of IsSync s (put s.colour 0 (2 * s.cycle)) s.birth s.IsHeld t (λ d b. b) marked (s.phase t) (inv.stands t lt);
  law = begins (picture (rooted s))
      (λ x i r. elim r [ inl black ↦ unread x black | inr scanned ↦ scanned ])
      (λ d h. not_async h.0 h.2 h.3)
      (λ x i l white. elim (stands_at l.0 l.1) [
        | inl e ↦ elim (early l.0 x i l.1 (omega (arith, e, posted)) l.2) [
          | inl null ↦ white.0 null
          | inr m ↦ omega (arith, m, off (s.word x i) white.0, white.1)
        ]
        | inr d ↦ subst (λ p. Differs p x i (s.word x i)) ((inv.stages.ended l.0 l.1 d).0) l.2
      ]);
}
  where
    time : time_of s.part ≡ Early
    time = ap time_of is

    posted : s.posted + 1 ≡ 3 * s.cycle
    posted = subst (λ p. posted_at p s.cycle s.posted) is inv.stages.posted

    positive : 0 < s.cycle
    positive = omega (arith, posted)

    at : (d : ℕ) → d ≡ 0 → put s.colour 0 (2 * s.cycle) d ≡ 2 * s.cycle
    at d e = put-here s.colour 0 (2 * s.cycle) d e

    off : (d : ℕ) → (d ≡ 0 → ⊥) → put s.colour 0 (2 * s.cycle) d ≡ s.colour d
    off d n = put-other s.colour 0 (2 * s.cycle) d n

    stands_at : (t : ℕ) → t < s.threads → (s.stage t ≡ s.posted) ⊎ (s.stage t ≡ done)
    stands_at t lt = elim (inv.stages.stages t lt) [
      | inl e ↦ inl e
      | inr m ↦ elim m [
        | inl d ↦ inr d
        | inr l ↦ let seen : s.threads ≤ t = subst (λ p. MayLag p t) is l.1 in absurd (omega (arith, seen, lt))
      ]
    ]

    not_async : (t : ℕ) → t < s.threads → s.stage t ≡ 3 * s.cycle → ⊥
    not_async t lt e = elim (stands_at t lt) [ inl p ↦ omega (arith, posted, e, p) | inr d ↦ omega (arith, big, e, d) ]

    coloured : (d : ℕ) → IsColour (Waiting 2 s.threads) s.cycle (s.colour d)
    coloured d = subst (λ p. IsColour p s.cycle (s.colour d)) is (inv.colours d)

    root_live : s.colour 0 ≢ 0
    root_live = subst (λ z. RootAt z s.cycle (s.colour 0)) time inv.root

    fresh_not_null : (t d : ℕ) → t < s.threads → s.IsFresh t d → d ≢ 0
    fresh_not_null t d lt f = (inv.live.held t d (s.birth d) lt (inv.fresh.held t d lt f)).0

    not_blue : (d : ℕ) → IsLive s d → s.colour d ≢ 0
    not_blue d l = subst (λ z. IsLiveAt z s.cycle (s.colour d)) time l

    grows : (d : ℕ) → IsLive s d → IsLive (rooted s) d
    grows d l = elim (cases_eq d 0) [
      | inl e ↦ λ z. omega (arith, at d e, z, positive)
      | inr n ↦ λ z. not_blue d l (sym (off d n) ∙ z)
    ]

    was_live : (d : ℕ) → IsLive (rooted s) d → IsLive s d
    was_live d l = subst (λ z. IsLiveAt z s.cycle (s.colour d)) (sym time) (elim (cases_eq d 0) [
      | inl e ↦ λ z. root_live (sym (ap s.colour e) ∙ z)
      | inr n ↦ λ z. l (off d n ∙ z)
    ])

    marked : (d : ℕ) → IsMarked s d → IsMarked (rooted s) d
    marked d m = elim (cases_eq d 0) [
      | inl e ↦ omega (arith, at d e)
      | inr n ↦ omega (arith, off d n, m)
    ]

    unread : (x : ℕ) → IsBlack (rooted s) x → ⊥
    unread x black = elim (cases_eq x 0) [
      | inl e ↦ omega (arith, at x e, black)
      | inr n ↦ elim (coloured x) [
        | inl blue ↦ omega (arith, off x n, black, blue)
        | inr m ↦ elim m [ inl white ↦ omega (arith, off x n, black, white) | inr grey ↦ omega (arith, off x n, black, grey) ]
      ]
    ]

    early : LooseIsMarked s
    early = subst (λ z. AtTime s z) time inv.law
