-- The collector's steps that change no word and no colour preserve the invariant.
use Rattle.std.proofs.Common.{◌≡◌, ◌≢◌, ◌⊎◌, inl, inr, ℕ, suc, ◌<◌, ◌≤◌, Bool, true, false, refl, sym, ap, subst, arith}
use Rattle.std.proofs.lemmas.Bool.{cases_eq, cases_lt}
use Rattle.collector_law.specs.Picture.{Picture}
use Rattle.collector_law.specs.Invariant.{State, Part, Passing, Scanning, Late, time_of, IsWhite, IsGrey, IsMarked, IsLive, IsLiveAt, hand_of, picture, MayLag, posted_at, IsUnderWay, IsColour, RootAt, IsScanned, AtTime, IsInvariant}
use Rattle.collector_law.specs.Trace.{quiet, outside}
use Rattle.collector_law.specs.Write.{not_white}

-- the collector is elsewhere
abbrev pub turned : State → Part → State
turned s p = record s { part = p }

-- the collector may be there
pub record IsTurn (done : ℕ) (s : State) (p : Part) : Type 0 where
  pub posted : posted_at p s.cycle s.posted
  pub lag : (t : ℕ) → t < s.threads → suc (s.stage t) ≡ s.posted → MayLag s.part t → MayLag p t
  pub colour : (c : ℕ) → IsColour p s.cycle (s.colour c)
  pub time : time_of p ≡ time_of s.part
  pub way : IsUnderWay (turned s p) p
  pub hand : (t c : ℕ) → t < s.threads → s.IsFresh t c → hand_of p ≢ c
  pub law : AtTime s (time_of s.part) → AtTime (turned s p) (time_of p)

-- a move of the collector alone preserves the invariant
pub turns : (done : ℕ) (cycle_of claim_at : ℕ → ℕ) (IsSync : ℕ → Type 0) (s : State) (p : Part) → IsTurn done s p → IsInvariant done cycle_of claim_at IsSync s → IsInvariant done cycle_of claim_at IsSync (turned s p)
turns done cycle_of claim_at IsSync s p w inv = record {
  stages = record {
    posted = w.posted;
    stages = λ t lt. elim (inv.stages.stages t lt) [
      | inl e ↦ inl e
      | inr m ↦ elim m [ inl d ↦ inr (inl d) | inr l ↦ inr (inr (l.0, w.lag t lt l.0 l.1)) ]
    ];
    answers = inv.stages.answers;
    ended = inv.stages.ended;
  };
  colours = w.colour;
  beyond = inv.beyond;
  root = subst (λ z. RootAt z s.cycle (s.colour 0)) (sym w.time) inv.root;
  under_way = w.way;
  live = record {
    held = λ t c b lt h. let was = inv.live.held t c b lt h in (was.0, live c was.1, was.2);
    words = λ c i l. elim (inv.live.words c i (was_live c l)) [ inl null ↦ inl null | inr good ↦ inr (live (s.word c i) good.0, good.1) ];
    blue = inv.live.blue;
  };
  fresh = record {
    held = inv.fresh.held;
    unnamed = λ t c x i lt f l. inv.fresh.unnamed t c x i lt f (was_live x l);
    alone = inv.fresh.alone;
    in_no_hand = w.hand;
    not_old = inv.fresh.not_old;
    colour = inv.fresh.colour;
  };
  stands = inv.stands;
  law = w.law inv.law;
}
  where
    live : (c : ℕ) → IsLive s c → IsLive (turned s p) c
    live c l = subst (λ z. IsLiveAt z s.cycle (s.colour c)) (sym w.time) l

    was_live : (c : ℕ) → IsLive (turned s p) c → IsLive s c
    was_live c l = subst (λ z. IsLiveAt z s.cycle (s.colour c)) w.time l

-- the globals' cell, and so null, lies in no set of white cells
root_outside : (s : State) (r : Picture) (W : ℕ → Bool) → ((c : ℕ) → W c ≡ true → (c ≢ 0) × IsWhite s c) → W 0 ≡ false
root_outside s r W white = elim (cases_true (W 0)) [ inl e ↦ absurd ((white 0 e).0 refl) | inr f ↦ f ]
  where
    cases_true : (b : Bool) → (b ≡ true) ⊎ (b ≡ false)
    cases_true true = inl refl
    cases_true false = inr refl

-- ---- a word of the cell in scan is read into the hand
pub scans : (done : ℕ) (cycle_of claim_at : ℕ → ℕ) (IsSync : ℕ → Type 0) (s : State) (c i : ℕ) → s.part ≡ Scanning c i 0 → IsInvariant done cycle_of claim_at IsSync s → IsInvariant done cycle_of claim_at IsSync (turned s (Scanning c (suc i) (s.word c i)))
scans done cycle_of claim_at IsSync s c i is inv = turns done cycle_of claim_at IsSync s (Scanning c (suc i) (s.word c i)) (record {
  posted = subst (λ p. posted_at p s.cycle s.posted) is inv.stages.posted;
  lag = λ t lt e l. subst (λ p. MayLag p t) is l;
  colour = λ d. subst (λ p. IsColour p s.cycle (s.colour d)) is (inv.colours d);
  time = sym late;
  way = (way.0, elim (inv.live.words c i live) [ inl null ↦ inl null | inr good ↦ inr (subst (λ z. IsLiveAt z s.cycle (s.colour (s.word c i))) late good.0) ]);
  hand = λ t d lt f. inv.fresh.unnamed t d c i lt f live;
  law = λ l. quiet (picture s) (picture (turned s (Scanning c (suc i) (s.word c i)))) (record {
    white = λ d e. e;
    hand = λ W u. subst (λ p. W (hand_of p) ≡ false) (sym is) (root_outside s (picture s) W u.white);
    read = λ W u y j r. elim r [
      | inl black ↦ inl (inl black)
      | inr sc ↦ elim (cases_lt j i) [
        | inl below ↦ inl (inr (subst (λ p. IsScanned p y j) (sym is) (sc.0, below)))
        | inr above ↦ inr (subst (λ z. W (s.word z j) ≡ false) (sym sc.0) (subst (λ z. W (s.word c z) ≡ false) (last j above sc.1) u.hand))
      ]
    ];
    word = λ y j. refl;
    loose = λ y j lo. lo;
    held = λ d h. inl h;
  }) (subst (λ z. AtTime s z) late l);
}) inv
  where
    late : time_of s.part ≡ Late
    late = ap time_of is

    way : IsUnderWay s (Scanning c i 0)
    way = subst (λ p. IsUnderWay s p) is inv.under_way

    live : IsLive s c
    live = subst (λ z. IsLiveAt z s.cycle (s.colour c)) (sym late) (λ e. omega (arith, way.0, (subst (λ z. RootAt z s.cycle (s.colour 0)) late inv.root).0, e))

    last : (j : ℕ) → i ≤ j → j < suc i → i ≡ j
    last j above below = omega (arith, above, below)

-- ---- the hand is empty again, after the mark of what was in it
pub drops : (done : ℕ) (cycle_of claim_at : ℕ → ℕ) (IsSync : ℕ → Type 0) (s : State) (c i h : ℕ) → s.part ≡ Scanning c i h → IsMarked s h → IsInvariant done cycle_of claim_at IsSync s → IsInvariant done cycle_of claim_at IsSync (turned s (Scanning c i 0))
drops done cycle_of claim_at IsSync s c i h is marked inv = turns done cycle_of claim_at IsSync s (Scanning c i 0) (record {
  posted = subst (λ p. posted_at p s.cycle s.posted) is inv.stages.posted;
  lag = λ t lt e l. subst (λ p. MayLag p t) is l;
  colour = λ d. subst (λ p. IsColour p s.cycle (s.colour d)) is (inv.colours d);
  time = sym (ap time_of is);
  way = ((subst (λ p. IsUnderWay s p) is inv.under_way).0, inl refl);
  hand = λ t d lt f e. (inv.live.held t d (s.birth d) lt (inv.fresh.held t d lt f)).0 (sym e);
  law = λ l. quiet (picture s) (picture (turned s (Scanning c i 0))) (record {
    white = λ d e. e;
    hand = λ W u. subst (λ p. W (hand_of p) ≡ false) (sym is) (outside (picture (turned s (Scanning c i 0))) W u h (not_white s.cycle h (s.colour h) (inr marked)));
    read = λ W u y j r. elim r [ inl black ↦ inl (inl black) | inr sc ↦ inl (inr (subst (λ p. IsScanned p y j) (sym is) sc)) ];
    word = λ y j. refl;
    loose = λ y j lo. lo;
    held = λ d g. inl g;
  }) (subst (λ z. AtTime s z) (ap time_of is) l);
}) inv

-- ---- a grey cell was met: its scan begins
pub begins_scan : (done : ℕ) (cycle_of claim_at : ℕ → ℕ) (IsSync : ℕ → Type 0) (s : State) (next : ℕ) (met : Bool) (c : ℕ) → s.part ≡ Passing next met → IsGrey s c → IsInvariant done cycle_of claim_at IsSync s → IsInvariant done cycle_of claim_at IsSync (turned s (Scanning c 0 0))
begins_scan done cycle_of claim_at IsSync s next met c is grey inv = turns done cycle_of claim_at IsSync s (Scanning c 0 0) (record {
  posted = subst (λ p. posted_at p s.cycle s.posted) is inv.stages.posted;
  lag = λ t lt e l. subst (λ p. MayLag p t) is l;
  colour = λ d. subst (λ p. IsColour p s.cycle (s.colour d)) is (inv.colours d);
  time = sym (ap time_of is);
  way = (grey, inl refl);
  hand = λ t d lt f e. (inv.live.held t d (s.birth d) lt (inv.fresh.held t d lt f)).0 (sym e);
  law = λ l. quiet (picture s) (picture (turned s (Scanning c 0 0))) (record {
    white = λ d e. e;
    hand = λ W u. subst (λ p. W (hand_of p) ≡ false) (sym is) u.hand;
    read = λ W u y j r. elim r [ inl black ↦ inl (inl black) | inr sc ↦ absurd (omega (arith, sc.1)) ];
    word = λ y j. refl;
    loose = λ y j lo. lo;
    held = λ d g. inl g;
  }) (subst (λ z. AtTime s z) (ap time_of is) l);
}) inv

-- ---- a step to a part that scans no cell
-- late in a cycle the law holds on where the collector's hand is as it was
pub unscanned : (s : State) (p : Part) → ((y j : ℕ) → IsScanned p y j → ⊥) → hand_of s.part ≡ hand_of p → AtTime s Late → AtTime (turned s p) Late
unscanned s p none same = quiet (picture s) (picture (turned s p)) (record {
  white = λ d e. e;
  hand = λ W u. subst (λ c. W c ≡ false) (sym same) u.hand;
  read = λ W u y j r. elim r [ inl black ↦ inl (inl black) | inr sc ↦ absurd (none y j sc) ];
  word = λ y j. refl;
  loose = λ y j lo. lo;
  held = λ d g. inl g;
})

-- ---- a cell that is not grey was passed
pub passes : (done : ℕ) (cycle_of claim_at : ℕ → ℕ) (IsSync : ℕ → Type 0) (s : State) (next : ℕ) (met : Bool) → s.part ≡ Passing next met → (IsGrey s next → ⊥) → IsInvariant done cycle_of claim_at IsSync s → IsInvariant done cycle_of claim_at IsSync (turned s (Passing (suc next) met))
passes done cycle_of claim_at IsSync s next met is not_grey inv = turns done cycle_of claim_at IsSync s (Passing (suc next) met) (record {
  posted = subst (λ p. posted_at p s.cycle s.posted) is inv.stages.posted;
  lag = λ t lt e l. subst (λ p. MayLag p t) is l;
  colour = λ d. subst (λ p. IsColour p s.cycle (s.colour d)) is (inv.colours d);
  time = sym (ap time_of is);
  way = way met (subst (λ p. IsUnderWay s p) is inv.under_way);
  hand = λ t d lt f e. (inv.live.held t d (s.birth d) lt (inv.fresh.held t d lt f)).0 (sym e);
  law = λ l. unscanned s (Passing (suc next) met) (λ y j sc. sc) (ap hand_of is) (subst (λ z. AtTime s z) (ap time_of is) l);
}) inv
  where
    way : (met : Bool) → IsUnderWay s (Passing next met) → IsUnderWay (turned s (Passing (suc next) met)) (Passing (suc next) met)
    way true w = tt
    way false w = elim w [
      | inl g ↦ elim (cases_eq g.0 next) [
        | inl e ↦ absurd (not_grey (subst (λ z. IsGrey s z) e g.2))
        | inr n ↦ inl (g.0, omega (arith, g.1, n), g.2)
      ]
      | inr never ↦ inr never
    ]
