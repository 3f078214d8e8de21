-- A claim that is won preserves the invariant.
use Rattle.std.proofs.Common.{◌≡◌, ◌≢◌, ◌⊎◌, inl, inr, ℕ, suc, ◌*◌, ◌<◌, ◌≤◌, true, false, refl, sym, ap, ◌∙◌, subst, arith}
use Rattle.std.proofs.lemmas.Bool.{cases_eq}
use Rattle.collector_law.specs.Invariant.{State, Phase, Ready, MarkingOld, MarkingNew, Writing, Answering, Part, Resting, Waiting, Rooted, Passing, Scanning, Sweeping, Clearing, Time, Early, Late, Clean, time_of, IsWhite, IsGrey, IsMarked, IsLive, IsLiveAt, hand_of, picture, IsUnderWay, IsColour, OldIsNot, RootAt, IsBase, Stands, AtTime, IsInvariant}
use Rattle.collector_law.specs.Trace.{claim}
use Rattle.collector_law.specs.Puts.{put, put-here, put-other}
use Rattle.collector_law.specs.Write.{live-not_blue}

-- ---- what is held, and marked, may grow
abbrev pub changed : State → (ℕ → ℕ) → (ℕ → ℕ) → (ℕ → ℕ → ℕ → Type 0) → State
changed s colour birth held = record s { colour = colour; birth = birth; IsHeld = held }

-- where marked cells stay marked and held ones held, a thread is as it was
pub stands-grow : (cycle_of : ℕ → ℕ) (IsSync : ℕ → Type 0) (s : State) (f g : ℕ → ℕ) (h : ℕ → ℕ → ℕ → Type 0) (u : ℕ) → ((c : ℕ) → IsBase s u c → IsBase (changed s f g h) u c) → ((c : ℕ) → IsMarked s c → IsMarked (changed s f g h) c) → (p : Phase) → Stands cycle_of IsSync s u p → Stands cycle_of IsSync (changed s f g h) u p
stands-grow cycle_of IsSync s f g h u base marked Ready w = tt
stands-grow cycle_of IsSync s f g h u base marked (MarkingOld cell word old) w = (base cell w.0, w.1, base old w.2)
stands-grow cycle_of IsSync s f g h u base marked (MarkingNew cell word old) w = (base cell w.0, base old w.1, λ now. elim (w.2 now) [ inl e ↦ inl e | inr m ↦ inr (marked old m) ])
stands-grow cycle_of IsSync s f g h u base marked (Writing cell word old new) w = (base cell w.0, base old w.1, λ now. elim (w.2 now) [ inl e ↦ inl e | inr m ↦ inr (marked old m) ], w.3, w.4, base new w.5, marked new w.6)
stands-grow cycle_of IsSync s f g h u base marked (Answering stage roots) w = λ c among. let r = w c among in (r.0, base c r.1, marked c r.2, r.3)

-- the thread has won the cell: it has this colour and its next birth, is held and is fresh
abbrev pub after_claim : State → (t c q : ℕ) → State
after_claim s t c q = record s {
  colour = put s.colour c q;
  birth = put s.birth c (suc (s.birth c));
  IsHeld = λ u d b. s.IsHeld u d b ⊎ ((u ≡ t) × (d ≡ c) × (b ≡ suc (s.birth c)));
  IsFresh = λ u d. s.IsFresh u d ⊎ ((u ≡ t) × (d ≡ c));
}

-- the thread is between two calls, the cell is blue, and the colour is that of a claim
pub record IsClaiming (done : ℕ) (s : State) (t c q : ℕ) : Type 0 where
  pub blue : s.colour c ≡ 0
  pub cell : (c ≢ 0) × (c < s.cells)
  pub ready : (s.phase t ≡ Ready) × (s.stage t ≢ done)
  pub fits : IsColour s.part s.cycle q  -- by the thread's stage
  pub live : IsLiveAt (time_of s.part) s.cycle q
  pub not_grey : q ≢ 2 * s.cycle
  pub black : s.stage t ≡ 3 * s.cycle → q ≡ suc (2 * s.cycle)

-- the hand does not hold a blue cell
hand_not : (s : State) (c : ℕ) → s.colour c ≡ 0 → c ≢ 0 → (p : Part) → s.part ≡ p → IsUnderWay s p → hand_of p ≢ c
hand_not s c blue n (Scanning cell words hand) is way = λ e. elim way.1 [
  | inl null ↦ n (sym e ∙ null)
  | inr l ↦ live-not_blue (time_of s.part) s.cycle (s.colour hand) l (ap s.colour e ∙ blue)
]
hand_not s c blue n Resting is way = λ e. n (sym e)
hand_not s c blue n (Waiting sync u) is way = λ e. n (sym e)
hand_not s c blue n Rooted is way = λ e. n (sym e)
hand_not s c blue n (Passing next met_grey) is way = λ e. n (sym e)
hand_not s c blue n (Sweeping next) is way = λ e. n (sym e)
hand_not s c blue n (Clearing cell words) is way = λ e. n (sym e)

-- a claim that is won preserves the invariant
pub claimed : (done : ℕ) (cycle_of claim_at : ℕ → ℕ) (IsSync : ℕ → Type 0) (s : State) (t c q : ℕ) → t < s.threads → q ≡ claim_at (s.stage t) → IsClaiming done s t c q → IsInvariant done cycle_of claim_at IsSync s → IsInvariant done cycle_of claim_at IsSync (after_claim s t c q)
claimed done cycle_of claim_at IsSync s t c q lt chosen w inv = record {
  stages = record {
    posted = inv.stages.posted;
    stages = inv.stages.stages;
    answers = inv.stages.answers;
    ended = λ u lu e.
        let was = inv.stages.ended u lu e in
        let other : u ≡ t → ⊥ = λ is. w.ready.1 (ap s.stage (sym is) ∙ e) in
        (was.0, λ d b h. elim h [ inl h ↦ was.1 d b h | inr m ↦ other m.0 ], λ d f. elim f [ inl f ↦ was.2 d f | inr m ↦ other m.0 ]);
  };
  colours = λ d. elim (cases_eq d c) [
    | inl e ↦ subst (λ z. IsColour s.part s.cycle z) (sym (at d e)) w.fits
    | inr n ↦ subst (λ z. IsColour s.part s.cycle z) (sym (off d n)) (inv.colours d)
  ];
  beyond = λ d above. off d (λ e. omega (arith, above, e, w.cell.1)) ∙ inv.beyond d above;
  root = subst (λ z. RootAt (time_of s.part) s.cycle z) (sym (off 0 (λ e. w.cell.0 (sym e)))) inv.root;
  under_way = way s.part refl inv.under_way;
  live = record {
    held = λ u d b lu h. elim h [
      | inl h ↦
          let was = inv.live.held u d b lu h in
          let n = not_claimed d was.1 in
          (was.0, grows d n was.1, was.2 ∙ sym (put-other s.birth c (suc (s.birth c)) d n))
      | inr m ↦ (λ null. w.cell.0 (sym m.1 ∙ null), new_live d m.1, m.2 ∙ sym (put-here s.birth c (suc (s.birth c)) d m.1))
    ];
    words = λ d i l. elim (cases_eq d c) [
      | inl e ↦ inl (ap (λ z. s.word z i) e ∙ inv.live.blue c i w.blue)
      | inr n ↦ elim (inv.live.words d i (was_live d n l)) [
        | inl null ↦ inl null
        | inr good ↦
            let m = not_claimed (s.word d i) good.0 in
            inr (grows (s.word d i) m good.0, good.1 ∙ sym (put-other s.birth c (suc (s.birth c)) (s.word d i) m))
      ]
    ];
    blue = λ d i e. elim (cases_eq d c) [
      | inl is ↦ ap (λ z. s.word z i) is ∙ inv.live.blue c i w.blue
      | inr n ↦ inv.live.blue d i (sym (off d n) ∙ e)
    ];
  };
  fresh = record {
    held = λ u d lu f. elim f [
      | inl f ↦ inl (subst (λ z. s.IsHeld u d z) (sym (put-other s.birth c (suc (s.birth c)) d (fresh_not u d lu f))) (inv.fresh.held u d lu f))
      | inr m ↦ inr (m.0, m.1, put-here s.birth c (suc (s.birth c)) d m.1)
    ];
    unnamed = λ u d x i lu f l. elim (cases_eq x c) [
      | inl is ↦ λ e. fresh_not_null u d lu f (sym e ∙ ap (λ z. s.word z i) is ∙ inv.live.blue c i w.blue)
      | inr n ↦ elim f [
        | inl f ↦ inv.fresh.unnamed u d x i lu f (was_live x n l)
        | inr m ↦ λ e. unnamed x i (was_live x n l) (e ∙ m.1)
      ]
    ];
    alone = λ u z d b lu lz f h. elim f [
      | inl f ↦ elim h [
        | inl h ↦ inv.fresh.alone u z d b lu lz f h
        | inr n ↦ absurd (fresh_not u d lu f n.1)
      ]
      | inr m ↦ elim h [
        | inl h ↦ absurd (not_claimed d (inv.live.held z d b lz h).1 m.1)
        | inr n ↦ n.0 ∙ sym m.0
      ]
    ];
    in_no_hand = λ u d lu f. elim f [
      | inl f ↦ inv.fresh.in_no_hand u d lu f
      | inr m ↦ λ e. hand_not s c w.blue w.cell.0 s.part refl inv.under_way (e ∙ m.1)
    ];
    not_old = λ u d lu f. elim f [
      | inl f ↦ inv.fresh.not_old u d lu f
      | inr m ↦ subst (λ p. OldIsNot p d) (sym (ap s.phase m.0 ∙ w.ready.0)) tt
    ];
    colour = λ u d lu f. elim f [
      | inl f ↦ elim (inv.fresh.colour u d lu f) [ inl e ↦ inl (off d (fresh_not u d lu f) ∙ e) | inr h ↦ inr h ]
      | inr m ↦ inl (at d m.1 ∙ chosen ∙ ap (λ z. claim_at (s.stage z)) (sym m.0))
    ];
  };
  stands = λ u lu. stands-grow cycle_of IsSync s (put s.colour c q) (put s.birth c (suc (s.birth c))) (λ u d b. s.IsHeld u d b ⊎ ((u ≡ t) × (d ≡ c) × (b ≡ suc (s.birth c)))) u (base u lu) marked (s.phase u) (inv.stands u lu);
  law = law (time_of s.part) refl inv.law;
}
  where
    at : (d : ℕ) → d ≡ c → put s.colour c q d ≡ q
    at d e = put-here s.colour c q d e

    off : (d : ℕ) → (d ≡ c → ⊥) → put s.colour c q d ≡ s.colour d
    off d n = put-other s.colour c q d n

    not_claimed : (d : ℕ) → IsLive s d → d ≡ c → ⊥
    not_claimed d l e = live-not_blue (time_of s.part) s.cycle (s.colour d) l (ap s.colour e ∙ w.blue)

    grows : (d : ℕ) → (d ≡ c → ⊥) → IsLive s d → IsLive (after_claim s t c q) d
    grows d n l = subst (λ z. IsLiveAt (time_of s.part) s.cycle z) (sym (off d n)) l

    was_live : (d : ℕ) → (d ≡ c → ⊥) → IsLive (after_claim s t c q) d → IsLive s d
    was_live d n l = subst (λ z. IsLiveAt (time_of s.part) s.cycle z) (off d n) l

    new_live : (d : ℕ) → d ≡ c → IsLive (after_claim s t c q) d
    new_live d e = subst (λ z. IsLiveAt (time_of s.part) s.cycle z) (sym (at d e)) w.live

    fresh_not : (u d : ℕ) → u < s.threads → s.IsFresh u d → d ≡ c → ⊥
    fresh_not u d lu f = not_claimed d (inv.live.held u d (s.birth d) lu (inv.fresh.held u d lu f)).1

    fresh_not_null : (u d : ℕ) → u < s.threads → (s.IsFresh u d ⊎ ((u ≡ t) × (d ≡ c))) → d ≡ 0 → ⊥
    fresh_not_null u d lu f = elim f [ inl f ↦ (inv.live.held u d (s.birth d) lu (inv.fresh.held u d lu f)).0 | inr m ↦ λ e. w.cell.0 (sym m.1 ∙ e) ]

    unnamed : (x i : ℕ) → IsLive s x → s.word x i ≡ c → ⊥
    unnamed x i l e = elim (inv.live.words x i l) [
      | inl null ↦ w.cell.0 (sym e ∙ null)
      | inr good ↦ not_claimed (s.word x i) good.0 e
    ]

    unnamed_late : time_of s.part ≡ Late → (x i : ℕ) → s.word x i ≡ c → ⊥
    unnamed_late late x i e = elim (cases_eq (s.colour x) 0) [
      | inl blue ↦ w.cell.0 (sym e ∙ inv.live.blue x i blue)
      | inr n ↦ unnamed x i (subst (λ z. IsLiveAt z s.cycle (s.colour x)) (sym late) n) e
    ]

    begun : time_of s.part ≡ Late → 0 < s.cycle
    begun late = (subst (λ z. RootAt z s.cycle (s.colour 0)) late inv.root).0

    grey_not : time_of s.part ≡ Late → (d : ℕ) → IsGrey s d → d ≡ c → ⊥
    grey_not late d grey e = omega (arith, begun late, grey, ap s.colour e, w.blue)

    still_black : time_of s.part ≡ Clean → (d : ℕ) → d ≡ c → IsWhite (after_claim s t c q) d → ⊥
    still_black clean d e white = omega (arith, at d e, subst (λ z. IsLiveAt z s.cycle q) clean w.live, white)

    base : (u : ℕ) → u < s.threads → (d : ℕ) → IsBase s u d → IsBase (after_claim s t c q) u d
    base u lu d b = elim b [
      | inl e ↦ inl e
      | inr h ↦ inr (inl (subst (λ z. s.IsHeld u d z) (sym (put-other s.birth c (suc (s.birth c)) d (not_claimed d (inv.live.held u d (s.birth d) lu h).1))) h))
    ]

    marked : (d : ℕ) → IsMarked s d → IsMarked (after_claim s t c q) d
    marked d m = elim (cases_eq d c) [
      | inl e ↦ subst (λ z. 2 * s.cycle ≤ z) (sym (at d e)) (omega (arith, m, ap s.colour e, w.blue))
      | inr n ↦ subst (λ z. 2 * s.cycle ≤ z) (sym (off d n)) m
    ]

    law : (T : Time) → time_of s.part ≡ T → AtTime s T → AtTime (after_claim s t c q) T
    law Early is l = λ u y j lu two d. elim (l u y j lu two d) [ inl e ↦ inl e | inr m ↦ inr (marked (s.word y j) m) ]
    law Late is l = claim (picture s) (picture (after_claim s t c q)) c (record {
      white = λ d n white. (white.0, subst (λ z. suc z ≡ 2 * s.cycle) (off d n) white.1);
      hand = refl;
      read = λ x i n r. elim r [ inl black ↦ inl (sym (off x n) ∙ black) | inr scanned ↦ inr scanned ];
      word = λ x i. refl;
      loose = λ x i l. l;
      unnamed = unnamed_late is;
      null = λ i white. white.0 (inv.live.blue c i w.blue);
      held = λ d h. elim h.4 [
        | inl was ↦ inl ((h.0, h.1, h.2, h.3, was), not_claimed d (inv.live.held h.0 d h.1 h.2 was).1)
        | inr m ↦ inr (λ white. omega (arith, at d m.1, w.black (ap s.stage (sym m.0) ∙ h.3), white.1))
      ];
    }) l
    law Clean is l = tt

    way : (p : Part) → s.part ≡ p → IsUnderWay s p → IsUnderWay (after_claim s t c q) p
    way Resting is l = l
    way (Waiting sync u) is l = l
    way Rooted is l = l
    way (Passing next true) is l = l
    way (Passing next false) is l = elim l [
      | inl g ↦ inl (g.0, g.1, off g.0 (grey_not (ap time_of is) g.0 g.2) ∙ g.2)
      | inr never ↦ inr (λ d grey. elim (cases_eq d c) [
        | inl e ↦ w.not_grey (sym (at d e) ∙ grey)
        | inr n ↦ never d (sym (off d n) ∙ grey)
      ])
    ]
    way (Scanning cell words hand) is l = (
      off cell (grey_not (ap time_of is) cell l.0) ∙ l.0,
      elim l.1 [ inl e ↦ inl e | inr h ↦ inr (grows hand (not_claimed hand h) h) ],
    )
    way (Sweeping next) is l = λ d above below white. elim (cases_eq d c) [
      | inl e ↦ still_black (ap time_of is) d e white
      | inr n ↦ l d above below (subst (λ z. suc z ≡ 2 * s.cycle) (off d n) white)
    ]
    way (Clearing cell words) is l = (
      λ d above below white. elim (cases_eq d c) [
        | inl e ↦ still_black (ap time_of is) d e white
        | inr n ↦ l.0 d above below (subst (λ z. suc z ≡ 2 * s.cycle) (off d n) white)
      ],
      subst (λ z. suc z ≡ 2 * s.cycle) (sym (off cell (λ e. omega (arith, l.1, ap s.colour e, w.blue)))) l.1,
      l.2,
      l.3,
    )
