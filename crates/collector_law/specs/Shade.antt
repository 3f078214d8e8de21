-- A thread's mark preserves the invariant.
use Rattle.std.proofs.Common.{◌≡◌, ◌≢◌, ◌⊎◌, inl, inr, ℕ, zero, suc, ◌*◌, ◌<◌, ◌≤◌, Bool, true, false, List, refl, sym, ap, ◌∙◌, subst, arith}
use Rattle.collector_law.specs.Invariant.{State, Phase, Ready, Answering, Part, Resting, Waiting, Rooted, Passing, Scanning, Sweeping, Clearing, Time, Early, Late, Clean, time_of, IsWhite, IsGrey, IsBlack, IsMarked, IsLiveAt, Differs, picture, IsUnderWay, IsColour, OldIsNot, HasMarked, RootAt, Stands, AtTime, IsInvariant}
use Rattle.collector_law.specs.Traced.{traced}
use Rattle.collector_law.specs.Trace.{quiet}

-- the colours and the phases are others
abbrev pub shaded : State → (ℕ → ℕ) → (ℕ → Phase) → State
shaded s f g = record s { colour = f; phase = g }

-- white cells may have become grey, and the threads' phases say no more than they may
pub record IsShading (done : ℕ) (cycle_of : ℕ → ℕ) (IsSync : ℕ → Type 0) (s : State) (f : ℕ → ℕ) (g : ℕ → Phase) : Type 0 where
  -- a white cell may have become grey, in a pass without grey a held one
  pub up : (d : ℕ) → (f d ≡ s.colour d) ⊎ (IsWhite s d × (f d ≡ 2 * s.cycle) × (time_of s.part ≢ Clean) × ((next : ℕ) → s.part ≡ Passing next false → (t : ℕ) × (b : ℕ) × (t < s.threads) × s.IsHeld t d b))
  pub differs : (u y j now : ℕ) → Differs (g u) y j now → Differs (s.phase u) y j now
  pub old : (u c : ℕ) → OldIsNot (s.phase u) c → OldIsNot (g u) c
  pub answers : (u p : ℕ) (marked : List ℕ) → u < s.threads → g u ≡ Answering p marked → (p ≡ s.posted) × (suc (s.stage u) ≡ s.posted)
  pub ready : (u : ℕ) → u < s.threads → s.stage u ≡ done → g u ≡ Ready
  pub fresh : (u c : ℕ) → u < s.threads → s.IsFresh u c → ((f c ≡ s.colour c) × (HasMarked (s.phase u) c → HasMarked (g u) c)) ⊎ (IsSync (s.stage u) × HasMarked (g u) c)
  pub stands : (u : ℕ) → u < s.threads → Stands cycle_of IsSync (shaded s f g) u (g u)

-- without a grey cell in a pass, no held cell is white
pub held_not_white : (done : ℕ) (cycle_of claim_at : ℕ → ℕ) (IsSync : ℕ → Type 0) (s : State) (next : ℕ) (met : Bool) → s.part ≡ Passing next met → ((c : ℕ) → IsGrey s c → ⊥) → IsInvariant done cycle_of claim_at IsSync s → (t d b : ℕ) → t < s.threads → s.IsHeld t d b → IsWhite s d → ⊥
held_not_white done cycle_of claim_at IsSync s next met is none inv t d b lt h white =
    let black = (traced done cycle_of claim_at IsSync s next met is none inv).held t d b lt h in
    omega (arith, black, white)

-- a cell may be grey at each time but that of the sweep
grey_fits : (p : Part) (k : ℕ) → time_of p ≢ Clean → IsColour p k (2 * k)
grey_fits Resting k n = absurd (n refl)
grey_fits (Waiting zero t) k n = inr (inr refl)
grey_fits (Waiting (suc zero) t) k n = inr (inr refl)
grey_fits (Waiting (suc (suc zero)) t) k n = inr (inr refl)
grey_fits (Waiting (suc (suc (suc m))) t) k n = inr (inr (inl refl))
grey_fits Rooted k n = inr (inr (inl refl))
grey_fits (Passing next met) k n = inr (inr (inl refl))
grey_fits (Scanning cell words hand) k n = inr (inr (inl refl))
grey_fits (Sweeping next) k n = absurd (n refl)
grey_fits (Clearing cell words) k n = absurd (n refl)

-- marks preserve the invariant
pub shades : (done : ℕ) (cycle_of claim_at : ℕ → ℕ) (IsSync : ℕ → Type 0) (s : State) (f : ℕ → ℕ) (g : ℕ → Phase) → IsShading done cycle_of IsSync s f g → IsInvariant done cycle_of claim_at IsSync s → IsInvariant done cycle_of claim_at IsSync (shaded s f g)
shades done cycle_of claim_at IsSync s f g w inv = record {
  stages = record {
    posted = inv.stages.posted;
    stages = inv.stages.stages;
    answers = w.answers;
    ended = λ u lu e. (w.ready u lu e, (inv.stages.ended u lu e).1, (inv.stages.ended u lu e).2);
  };
  colours = λ d. elim (w.up d) [
    | inl e ↦ subst (λ z. IsColour s.part s.cycle z) (sym e) (inv.colours d)
    | inr m ↦ subst (λ z. IsColour s.part s.cycle z) (sym m.1) (grey_fits s.part s.cycle m.2)
  ];
  beyond = λ d above. elim (w.up d) [
    | inl e ↦ e ∙ inv.beyond d above
    | inr m ↦ absurd (omega (arith, m.0, inv.beyond d above))
  ];
  root = root (time_of s.part) refl inv.root;
  under_way = way s.part refl inv.under_way;
  live = record {
    held = λ t d b lt h. let was = inv.live.held t d b lt h in (was.0, grows (time_of s.part) refl d was.1, was.2);
    words = λ d i l. elim (inv.live.words d i (was_live (time_of s.part) refl d l)) [
      | inl null ↦ inl null
      | inr good ↦ inr (grows (time_of s.part) refl (s.word d i) good.0, good.1)
    ];
    blue = λ d i e. elim (w.up d) [
      | inl same ↦ inv.live.blue d i (sym same ∙ e)
      | inr m ↦ absurd (omega (arith, m.0, m.1, e))
    ];
  };
  fresh = record {
    held = inv.fresh.held;
    unnamed = λ t c x i lt fr l. inv.fresh.unnamed t c x i lt fr (was_live (time_of s.part) refl x l);
    alone = inv.fresh.alone;
    in_no_hand = inv.fresh.in_no_hand;
    not_old = λ t c lt fr. w.old t c (inv.fresh.not_old t c lt fr);
    colour = λ t c lt fr. elim (w.fresh t c lt fr) [
      | inl same ↦ elim (inv.fresh.colour t c lt fr) [ inl e ↦ inl (same.0 ∙ e) | inr m ↦ inr (m.0, same.1 m.1) ]
      | inr m ↦ inr m
    ];
  };
  stands = w.stands;
  law = law (time_of s.part) refl inv.law;
}
  where
    marked : (d : ℕ) → IsMarked s d → 2 * s.cycle ≤ f d
    marked d m = elim (w.up d) [ inl e ↦ omega (arith, e, m) | inr n ↦ omega (arith, n.1) ]

    white : (d : ℕ) → suc (f d) ≡ 2 * s.cycle → IsWhite s d
    white d is = elim (w.up d) [ inl e ↦ omega (arith, e, is) | inr n ↦ absurd (omega (arith, n.1, is)) ]

    grows : (T : Time) → time_of s.part ≡ T → (d : ℕ) → IsLiveAt T s.cycle (s.colour d) → IsLiveAt T s.cycle (f d)
    grows Early is d l = elim (w.up d) [ inl e ↦ λ z. l (sym e ∙ z) | inr n ↦ λ z. omega (arith, n.0, n.1, z) ]
    grows Late is d l = elim (w.up d) [ inl e ↦ λ z. l (sym e ∙ z) | inr n ↦ λ z. omega (arith, n.0, n.1, z) ]
    grows Clean is d l = elim (w.up d) [ inl e ↦ e ∙ l | inr n ↦ absurd (n.2 is) ]

    was_live : (T : Time) → time_of s.part ≡ T → (d : ℕ) → IsLiveAt T s.cycle (f d) → IsLiveAt T s.cycle (s.colour d)
    was_live Early is d l = elim (w.up d) [ inl e ↦ λ z. l (e ∙ z) | inr n ↦ λ z. omega (arith, n.0, z) ]
    was_live Late is d l = elim (w.up d) [ inl e ↦ λ z. l (e ∙ z) | inr n ↦ λ z. omega (arith, n.0, z) ]
    was_live Clean is d l = elim (w.up d) [ inl e ↦ sym e ∙ l | inr n ↦ absurd (n.2 is) ]

    root : (T : Time) → time_of s.part ≡ T → RootAt T s.cycle (s.colour 0) → RootAt T s.cycle (f 0)
    root Early is r = grows Early is 0 r
    root Late is r = (r.0, marked 0 r.1)
    root Clean is r = grows Clean is 0 r

    grey_stays : (d : ℕ) → IsGrey s d → f d ≡ 2 * s.cycle
    grey_stays d grey = elim (w.up d) [ inl e ↦ e ∙ grey | inr n ↦ n.1 ]

    way : (p : Part) → s.part ≡ p → IsUnderWay s p → IsUnderWay (shaded s f g) p
    way Resting is l = l
    way (Waiting sync u) is l = l
    way Rooted is l = l
    way (Passing next true) is l = l
    way (Passing next false) is l = elim l [
      | inl grey ↦ inl (grey.0, grey.1, grey_stays grey.0 grey.2)
      | inr never ↦ inr (λ d grey. elim (w.up d) [
        | inl e ↦ never d (sym e ∙ grey)
        | inr n ↦ let h = n.3 next is in held_not_white done cycle_of claim_at IsSync s next false is never inv h.0 d h.1 h.2 h.3 n.0
      ])
    ]
    way (Scanning cell words hand) is l = (grey_stays cell l.0, elim l.1 [ inl e ↦ inl e | inr h ↦ inr (grows (time_of s.part) refl hand h) ])
    way (Sweeping next) is l = λ d above below is_white. l d above below (white d is_white)
    way (Clearing cell words) is l = (
      λ d above below is_white. l.0 d above below (white d is_white),
      elim (w.up cell) [ inl e ↦ omega (arith, e, l.1) | inr n ↦ absurd (n.2 (ap time_of is)) ],
      l.2,
      l.3,
    )

    law : (T : Time) → time_of s.part ≡ T → AtTime s T → AtTime (shaded s f g) T
    law Early is l = λ u y j lu two d. elim (l u y j lu two (w.differs u y j (s.word y j) d)) [ inl e ↦ inl e | inr m ↦ inr (marked (s.word y j) m) ]
    law Late is l = quiet (picture s) (picture (shaded s f g)) (record {
      white = λ d is_white. (is_white.0, white d is_white.1);
      hand = λ W u. u.hand;
      read = λ W u x i r. elim r [ inl black ↦ inl (inl (was_black x black)) | inr scanned ↦ inl (inr scanned) ];
      word = λ x i. refl;
      loose = λ x i lo. (lo.0, lo.1, w.differs lo.0 x i (s.word x i) lo.2);
      held = λ d h. inl h;
    }) l
      where
        was_black : (x : ℕ) → f x ≡ suc (2 * s.cycle) → IsBlack s x
        was_black x black = elim (w.up x) [ inl e ↦ sym e ∙ black | inr n ↦ absurd (omega (arith, n.1, black)) ]
    law Clean is l = tt
