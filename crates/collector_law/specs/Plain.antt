-- A plain store into a fresh cell preserves the invariant.
use Rattle.std.proofs.Common.{◌≡◌, ◌≢◌, ◌⊎◌, inl, inr, ℕ, suc, ◌+◌, ◌*◌, ◌<◌, refl, sym, ap, ◌∙◌, subst, arith}
use Rattle.std.proofs.lemmas.Bool.{cases_eq}
use Rattle.collector_law.specs.Invariant.{State, Phase, Ready, MarkingOld, MarkingNew, Writing, Answering, Part, Time, Early, Late, Clean, time_of, IsWhite, IsGrey, IsLive, IsLiveAt, IsGood, IsLoose, Differs, picture, IsUnderWay, HasMarked, IsBase, IsNullOrMarked, IsScanned, Stands, AtTime, IsInvariant}
use Rattle.collector_law.specs.Invariant.{Scanning, Resting, Waiting, Rooted, Passing, Sweeping, Clearing}
use Rattle.collector_law.specs.Trace.{store, plain_store}
use Rattle.collector_law.specs.Puts.{put_word, here_or_not, put_word-here, put_word-other}
use Rattle.collector_law.specs.Write.{late_by, live_after, under_way_after}

-- the value is stored, and is fresh no longer
abbrev pub after_plain : State → (t x i v : ℕ) → State
after_plain s t x i v = record s {
  word = put_word s.word x i v;
  tag = put_word s.tag x i (s.birth v);
  IsFresh = λ u c. s.IsFresh u c × (u ≡ t → v ≢ c);
}

-- a thread that is before its store holds the cell
base_of : (cycle_of : ℕ → ℕ) (IsSync : ℕ → Type 0) (s : State) (u x j now : ℕ) (p : Phase) → Differs p x j now → Stands cycle_of IsSync s u p → IsBase s u x
base_of cycle_of IsSync s u x j now Ready d w = absurd d
base_of cycle_of IsSync s u x j now (MarkingOld cell word old) d w = subst (λ z. IsBase s u z) d.0 w.0
base_of cycle_of IsSync s u x j now (MarkingNew cell word old) d w = subst (λ z. IsBase s u z) d.0 w.0
base_of cycle_of IsSync s u x j now (Writing cell word old new) d w = subst (λ z. IsBase s u z) d.0 w.0
base_of cycle_of IsSync s u x j now (Answering stage marked) d w = absurd d

-- a cell that is read in part is grey
scanned_grey : (s : State) (x i : ℕ) (p : Part) → IsUnderWay s p → IsScanned p x i → IsGrey s x
scanned_grey s x i (Scanning cell words hand) way r = subst (λ z. IsGrey s z) (sym r.0) way.0
scanned_grey s x i Resting way r = absurd r
scanned_grey s x i (Waiting sync u) way r = absurd r
scanned_grey s x i Rooted way r = absurd r
scanned_grey s x i (Passing next met) way r = absurd r
scanned_grey s x i (Sweeping next) way r = absurd r
scanned_grey s x i (Clearing cell words) way r = absurd r

-- a store without a barrier into a fresh cell preserves the invariant
pub stored_plainly : (done : ℕ) (cycle_of claim_at : ℕ → ℕ) (IsSync : ℕ → Type 0) (s : State) (t x i v : ℕ) → ((st : ℕ) → st ≡ 3 * s.cycle → claim_at st ≡ suc (2 * s.cycle)) → ((st : ℕ) → st + 1 ≡ 3 * s.cycle → suc (claim_at st) ≡ 2 * s.cycle) → t < s.threads → s.phase t ≡ Ready → s.IsFresh t x → IsBase s t v → IsInvariant done cycle_of claim_at IsSync s → IsInvariant done cycle_of claim_at IsSync (after_plain s t x i v)
stored_plainly done cycle_of claim_at IsSync s t x i v async sync lt ready fresh value inv = record {
  stages = record {
    posted = inv.stages.posted;
    stages = inv.stages.stages;
    answers = inv.stages.answers;
    ended = λ u lu e. let was = inv.stages.ended u lu e in (was.0, was.1, λ c f. was.2 c f.0);
  };
  colours = inv.colours;
  beyond = inv.beyond;
  root = inv.root;
  under_way = under_way_after s t x i v live s.part refl inv.under_way;
  live =
      let good : IsGood s v (s.birth v) = elim value [ inl e ↦ inl e | inr h ↦ inr ((inv.live.held t v (s.birth v) lt h).1, refl) ] in
      let after = live_after s t x i v live good inv.live in
      record { held = after.held; words = after.words; blue = after.blue };
  fresh = record {
    held = λ u c lu f. inv.fresh.held u c lu f.0;
    unnamed = λ u c y j lu f l. elim (here_or_not x i y j) [
      | inl e ↦ λ is. value_not_fresh u c lu f (sym (put_word-here s.word x i v y j e) ∙ is)
      | inr n ↦ λ is. inv.fresh.unnamed u c y j lu f.0 l (sym (put_word-other s.word x i v y j n) ∙ is)
    ];
    alone = λ u z c b lu lz f h. inv.fresh.alone u z c b lu lz f.0 h;
    in_no_hand = λ u c lu f. inv.fresh.in_no_hand u c lu f.0;
    not_old = λ u c lu f. inv.fresh.not_old u c lu f.0;
    colour = λ u c lu f. inv.fresh.colour u c lu f.0;
  };
  stands = inv.stands;
  law = law (time_of s.part) refl inv.law;
}
  where
    held : s.IsHeld t x (s.birth x)
    held = inv.fresh.held t x lt fresh

    live : IsLive s x
    live = (inv.live.held t x (s.birth x) lt held).1

    value_not_fresh : (u c : ℕ) → u < s.threads → s.IsFresh u c × (u ≡ t → v ≢ c) → v ≡ c → ⊥
    value_not_fresh u c lu f is = elim value [
      | inl null ↦ (inv.live.held u c (s.birth c) lu (inv.fresh.held u c lu f.0)).0 (sym is ∙ null)
      | inr h ↦ f.1 (sym (inv.fresh.alone u t c (s.birth v) lu lt f.0 (subst (λ z. s.IsHeld t z (s.birth v)) is h))) is
    ]

    -- nobody is before a store to the cell
    nobody : (u j now : ℕ) → u < s.threads → Differs (s.phase u) x j now → ⊥
    nobody u j now lu d = elim (base_of cycle_of IsSync s u x j now (s.phase u) d (inv.stands u lu)) [
      | inl null ↦ (inv.live.held t x (s.birth x) lt held).0 null
      | inr h ↦ subst (λ p. Differs p x j now) (ap s.phase (inv.fresh.alone t u x (s.birth x) lt lu fresh h) ∙ ready) d
    ]

    not_loose : (y j : ℕ) → IsLoose (after_plain s t x i v) y j → (y ≢ x) × IsLoose s y j
    not_loose y j l = (
      λ e. nobody l.0 j (put_word s.word x i v y j) l.1 (subst (λ z. Differs (s.phase l.0) z j (put_word s.word x i v y j)) e l.2),
      elim (here_or_not x i y j) [
        | inl e ↦ absurd (nobody l.0 j (put_word s.word x i v y j) l.1 (subst (λ z. Differs (s.phase l.0) z j (put_word s.word x i v y j)) e.0 l.2))
        | inr n ↦ (l.0, l.1, subst (λ z. Differs (s.phase l.0) y j z) (put_word-other s.word x i v y j n) l.2)
      ],
    )

    claimed : s.colour x ≡ claim_at (s.stage t)
    claimed = elim (inv.fresh.colour t x lt fresh) [ inl e ↦ e | inr m ↦ absurd (subst (λ p. HasMarked p x) ready m.1) ]

    at : time_of s.part ≡ Late → (s.stage t ≡ 3 * s.cycle) ⊎ (s.stage t + 1 ≡ 3 * s.cycle)
    at late = late_by s.part s.cycle s.posted (s.stage t) t late inv.stages.posted (elim (inv.stages.stages t lt) [
      | inl e ↦ inl e
      | inr m ↦ elim m [ inl d ↦ absurd ((inv.stages.ended t lt d).2 x fresh) | inr l ↦ inr l ]
    ])

    law : (T : Time) → time_of s.part ≡ T → AtTime s T → AtTime (after_plain s t x i v) T
    law Early is l = λ u y j lu two d. elim (here_or_not x i y j) [
      | inl e ↦ absurd (nobody u j (put_word s.word x i v y j) lu (subst (λ z. Differs (s.phase u) z j (put_word s.word x i v y j)) e.0 d))
      | inr n ↦
          let same = put_word-other s.word x i v y j n in
          subst (λ z. IsNullOrMarked s z) (sym same) (l u y j lu two (subst (λ z. Differs (s.phase u) y j z) same d))
    ]
    law Late is l = elim (at is) [
      | inl three ↦ store (picture s) (picture (after_plain s t x i v)) x i v (record {
        white = λ c e. e;
        hand = refl;
        read = λ y j r. r;
        held = λ c h. h;
        there = put_word-here s.word x i v x i (refl, refl);
        elsewhere = λ y j n. (put_word-other s.word x i v y j n, λ lo. (not_loose y j lo).1);
        replaced = λ W u. inl (inl (claimed ∙ async (s.stage t) three));
        stored = elim value [ inl null ↦ inr (λ white. white.0 null) | inr h ↦ inl (t, s.birth v, lt, three, h) ];
      }) l
      | inr two ↦
          let white : IsWhite s x = ap suc claimed ∙ sync (s.stage t) two in
          plain_store (picture s) (picture (after_plain s t x i v)) x (record {
            white = λ d e. e;
            white_here = ((inv.live.held t x (s.birth x) lt held).0, white);
            hand = refl;
            not_in_hand = inv.fresh.in_no_hand t x lt fresh;
            read = λ y j r. r;
            unread = λ j r. elim r [ inl black ↦ omega (arith, black, white) | inr scanned ↦ omega (arith, scanned_grey s x j s.part inv.under_way scanned, white) ];
            elsewhere = λ y j n. put_word-other s.word x i v y j (λ b. n b.0);
            loose = λ y j lo. let m = not_loose y j lo in (m.1, m.0);
            unnamed = λ y j. unnamed is y j;
            held = λ d h. h;
          }) l
    ]
      where
        unnamed : time_of s.part ≡ Late → (y j : ℕ) → s.word y j ≡ x → ⊥
        unnamed late y j e = elim (cases_eq (s.colour y) 0) [
          | inl blue ↦ (inv.live.held t x (s.birth x) lt held).0 (sym e ∙ inv.live.blue y j blue)
          | inr n ↦ inv.fresh.unnamed t x y j lt fresh (subst (λ z. IsLiveAt z s.cycle (s.colour y)) (sym late) n) e
        ]
    law Clean is l = tt
