-- A read of a reference word preserves the invariant.
use Rattle.std.proofs.Common.{◌≡◌, ◌≢◌, ◌⊎◌, inl, inr, ℕ, suc, ◌<◌, List, refl, sym, ap, ◌∙◌, subst}
use Rattle.collector_law.specs.Invariant.{State, Phase, Ready, Answering, Time, Early, Late, Clean, time_of, IsLive, Differs, picture, OldIsNot, HasMarked, IsBase, Stands, AtTime, IsInvariant}
use Rattle.collector_law.specs.Trace.{quiet}
use Rattle.collector_law.specs.Write.{base-live}

-- the thread holds what it read from the word, by the birth in the word
abbrev pub after_read : State → (t x i : ℕ) → (ℕ → Phase) → State
after_read s t x i g = record s {
  phase = g;
  IsHeld = λ u c b. s.IsHeld u c b ⊎ ((u ≡ t) × (c ≢ 0) × (c ≡ s.word x i) × (b ≡ s.tag x i));
}

-- the thread may use the cell, and its next phase says no more than it may
pub record IsReading (done : ℕ) (cycle_of : ℕ → ℕ) (IsSync : ℕ → Type 0) (s : State) (t x i : ℕ) (g : ℕ → Phase) : Type 0 where
  pub base : IsBase s t x
  pub not_ended : s.stage t ≢ done
  pub differs : (u y j : ℕ) → Differs (g u) y j (s.word y j) → Differs (s.phase u) y j (s.word y j)
  pub old : (u c : ℕ) → u < s.threads → s.IsFresh u c → OldIsNot (s.phase u) c → OldIsNot (g u) c
  pub marked : (u c : ℕ) → HasMarked (s.phase u) c → HasMarked (g u) c
  pub answers : (u p : ℕ) (marked : List ℕ) → u < s.threads → g u ≡ Answering p marked → (p ≡ s.posted) × (suc (s.stage u) ≡ s.posted)
  pub ready : (u : ℕ) → u < s.threads → s.stage u ≡ done → g u ≡ Ready
  pub stands : (u : ℕ) → u < s.threads → Stands cycle_of IsSync (after_read s t x i g) u (g u)

-- a read preserves the invariant
pub reads : (done : ℕ) (cycle_of claim_at : ℕ → ℕ) (IsSync : ℕ → Type 0) (s : State) (t x i : ℕ) (g : ℕ → Phase) → t < s.threads → IsReading done cycle_of IsSync s t x i g → IsInvariant done cycle_of claim_at IsSync s → IsInvariant done cycle_of claim_at IsSync (after_read s t x i g)
reads done cycle_of claim_at IsSync s t x i g lt w inv = record {
  stages = record {
    posted = inv.stages.posted;
    stages = inv.stages.stages;
    answers = w.answers;
    ended = λ u lu e.
        let was = inv.stages.ended u lu e in
        (w.ready u lu e, λ c b h. elim h [ inl h ↦ was.1 c b h | inr m ↦ w.not_ended (ap s.stage (sym m.0) ∙ e) ], was.2);
  };
  colours = inv.colours;
  beyond = inv.beyond;
  root = inv.root;
  under_way = inv.under_way;
  live = record {
    held = λ u c b lu h. elim h [
      | inl h ↦ inv.live.held u c b lu h
      | inr m ↦ elim (inv.live.words x i live) [
        | inl null ↦ absurd (m.1 (m.2 ∙ null))
        | inr good ↦ (m.1, subst (λ z. IsLive s z) (sym m.2) good.0, m.3 ∙ good.1 ∙ ap s.birth (sym m.2))
      ]
    ];
    words = inv.live.words;
    blue = inv.live.blue;
  };
  fresh = record {
    held = λ u c lu f. inl (inv.fresh.held u c lu f);
    unnamed = inv.fresh.unnamed;
    alone = λ u z c b lu lz f h. elim h [
      | inl h ↦ inv.fresh.alone u z c b lu lz f h
      | inr m ↦ absurd (inv.fresh.unnamed u c x i lu f live (sym m.2))
    ];
    in_no_hand = inv.fresh.in_no_hand;
    not_old = λ u c lu f. w.old u c lu f (inv.fresh.not_old u c lu f);
    colour = λ u c lu f. elim (inv.fresh.colour u c lu f) [ inl e ↦ inl e | inr m ↦ inr (m.0, w.marked u c m.1) ];
  };
  stands = w.stands;
  law = law (time_of s.part) refl inv.law;
}
  where
    live : IsLive s x
    live = base-live done cycle_of claim_at IsSync s t x lt inv w.base

    law : (T : Time) → time_of s.part ≡ T → AtTime s T → AtTime (after_read s t x i g) T
    law Early is l = λ u y j lu two d. l u y j lu two (w.differs u y j d)
    law Late is l = quiet (picture s) (picture (after_read s t x i g)) (record {
      white = λ d e. e;
      hand = λ W u. u.hand;
      read = λ W u y j r. inl r;
      word = λ y j. refl;
      loose = λ y j lo. (lo.0, lo.1, w.differs lo.0 y j lo.2);
      held = λ d h. elim h.4 [
        | inl was ↦ inl (h.0, h.1, h.2, h.3, was)
        | inr m ↦ inr (inr (
          x,
          i,
          elim w.base [
            | inl null ↦ inr (λ white. white.0 null)
            | inr held ↦ inl (t, s.birth x, lt, ap s.stage (sym m.0) ∙ h.3, held)
          ],
          m.2,
        ))
      ];
    }) l
    law Clean is l = tt
