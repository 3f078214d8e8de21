-- An answer to a safepoint, and the end of a thread, preserve the invariant.
use Rattle.std.proofs.Common.{◌≡◌, ◌≢◌, ◌⊎◌, inl, inr, ℕ, suc, ◌*◌, ◌<◌, List, refl, sym, ap, ◌∙◌, subst, arith}
use Rattle.std.proofs.lemmas.Bool.{cases_eq}
use Rattle.collector_law.specs.Invariant.{State, Phase, Ready, MarkingOld, MarkingNew, Writing, Answering, Time, Early, Late, Clean, time_of, IsMarked, picture, OldIsNot, HasMarked, IsBase, Stands, AtTime, IsInvariant}
use Rattle.collector_law.specs.Trace.{quiet}
use Rattle.collector_law.specs.Puts.{put, put-here, put-other}
use Rattle.collector_law.specs.Write.{moved, phased}

-- the thread has stored the stage that it read, and holds its roots alone
abbrev pub after_answer : State → (t p : ℕ) → (ℕ → Type 0) → State
after_answer s t p IsRoot = record s {
  stage = put s.stage t p;
  phase = put s.phase t Ready;
  IsHeld = λ u c b. s.IsHeld u c b × (u ≡ t → IsRoot c);
  IsFresh = λ u c. s.IsFresh u c × (u ≡ t → ⊥);
}

-- the other threads are as they were
stands-other : (cycle_of : ℕ → ℕ) (IsSync : ℕ → Type 0) (s : State) (t p : ℕ) (IsRoot : ℕ → Type 0) (u : ℕ) → (u ≡ t → ⊥) → (q : Phase) → Stands cycle_of IsSync s u q → Stands cycle_of IsSync (after_answer s t p IsRoot) u q
stands-other cycle_of IsSync s t p IsRoot u n q = go q
  where
    same : put s.stage t p u ≡ s.stage u
    same = put-other s.stage t p u n

    base : (c : ℕ) → IsBase s u c → IsBase (after_answer s t p IsRoot) u c
    base c b = elim b [ inl e ↦ inl e | inr h ↦ inr (h, λ is. absurd (n is)) ]

    go : (q : Phase) → Stands cycle_of IsSync s u q → Stands cycle_of IsSync (after_answer s t p IsRoot) u q
    go Ready w = tt
    go (MarkingOld cell word old) w = (base cell w.0, w.1, base old w.2)
    go (MarkingNew cell word old) w = (base cell w.0, base old w.1, λ now. w.2 (ap cycle_of (sym same) ∙ now))
    go (Writing cell word old new) w = (base cell w.0, base old w.1, λ now. w.2 (ap cycle_of (sym same) ∙ now), subst IsSync (sym same) w.3, w.4, base new w.5, w.6)
    go (Answering stage marked) w = λ c among. let r = w c among in (r.0, base c r.1, r.2, r.3)

-- an answer to the posted stage, or the end of a thread that holds nothing then, preserves the invariant
pub answered : (done : ℕ) (cycle_of claim_at : ℕ → ℕ) (IsSync : ℕ → Type 0) (s : State) (t p : ℕ) (IsRoot : ℕ → Type 0) → t < s.threads
    → ((p ≡ s.posted) × (p ≢ done) × (p ≡ 3 * s.cycle → (c : ℕ) → IsRoot c → IsMarked s c)) ⊎ ((p ≡ done) × (p ≢ 3 * s.cycle) × ((c : ℕ) → IsRoot c → ⊥))
    → IsInvariant done cycle_of claim_at IsSync s → IsInvariant done cycle_of claim_at IsSync (after_answer s t p IsRoot)
answered done cycle_of claim_at IsSync s t p IsRoot lt next inv = record {
  stages = record {
    posted = inv.stages.posted;
    stages = λ u lu. elim (cases_eq u t) [
      | inl is ↦ elim next [ inl now ↦ inl (at u is ∙ now.0) | inr over ↦ inr (inl (at u is ∙ over.0)) ]
      | inr n ↦ elim (inv.stages.stages u lu) [
        | inl e ↦ inl (off u n ∙ e)
        | inr m ↦ elim m [ inl d ↦ inr (inl (off u n ∙ d)) | inr l ↦ inr (inr (ap suc (off u n) ∙ l.0, l.1)) ]
      ]
    ];
    answers = λ u q marked lu e. elim (cases_eq u t) [
      | inl is ↦ absurd (ready_not_answering q marked (sym (put-here s.phase t Ready u is) ∙ e))
      | inr n ↦
          let was = inv.stages.answers u q marked lu (sym (put-other s.phase t Ready u n) ∙ e) in
          (was.0, ap suc (off u n) ∙ was.1)
    ];
    ended = λ u lu e. elim (cases_eq u t) [
      | inl is ↦ elim next [
        | inl now ↦ absurd (now.1 (sym (at u is) ∙ e))
        | inr over ↦ (put-here s.phase t Ready u is, λ c b h. over.2 c (h.1 is), λ c f. f.1 is)
      ]
      | inr n ↦
          let was = inv.stages.ended u lu (sym (off u n) ∙ e) in
          (put-other s.phase t Ready u n ∙ was.0, λ c b h. was.1 c b h.0, λ c f. was.2 c f.0)
    ];
  };
  colours = inv.colours;
  beyond = inv.beyond;
  root = inv.root;
  under_way = inv.under_way;
  live = record {
    held = λ u c b lu h. inv.live.held u c b lu h.0;
    words = inv.live.words;
    blue = inv.live.blue;
  };
  fresh = record {
    held = λ u c lu f. (inv.fresh.held u c lu f.0, λ is. absurd (f.1 is));
    unnamed = λ u c x i lu f. inv.fresh.unnamed u c x i lu f.0;
    alone = λ u z c b lu lz f h. inv.fresh.alone u z c b lu lz f.0 h.0;
    in_no_hand = λ u c lu f. inv.fresh.in_no_hand u c lu f.0;
    not_old = λ u c lu f. phased s t u (λ q. OldIsNot q c) tt (inv.fresh.not_old u c lu f.0);
    colour = λ u c lu f. elim (inv.fresh.colour u c lu f.0) [
      | inl e ↦ inl (e ∙ ap claim_at (sym (off u f.1)))
      | inr m ↦ inr (subst IsSync (sym (off u f.1)) m.0, subst (λ q. HasMarked q c) (sym (put-other s.phase t Ready u f.1)) m.1)
    ];
  };
  stands = λ u lu. elim (cases_eq u t) [
    | inl is ↦ subst (λ q. Stands cycle_of IsSync (after_answer s t p IsRoot) u q) (sym (put-here s.phase t Ready u is)) tt
    | inr n ↦ subst (λ q. Stands cycle_of IsSync (after_answer s t p IsRoot) u q) (sym (put-other s.phase t Ready u n)) (stands-other cycle_of IsSync s t p IsRoot u n (s.phase u) (inv.stands u lu))
  ];
  law = law (time_of s.part) refl inv.law;
}
  where
    at : (u : ℕ) → u ≡ t → put s.stage t p u ≡ p
    at u e = put-here s.stage t p u e

    off : (u : ℕ) → (u ≡ t → ⊥) → put s.stage t p u ≡ s.stage u
    off u n = put-other s.stage t p u n

    ready_not_answering : (q : ℕ) (marked : List ℕ) → Ready ≡ Answering q marked → ⊥
    ready_not_answering q marked e = cc

    law : (T : Time) → time_of s.part ≡ T → AtTime s T → AtTime (after_answer s t p IsRoot) T
    law Early is l = λ u y j lu two d.
        let m = moved s t u y j (s.word y j) d in
        l u y j lu (ap suc (sym (off u m.0)) ∙ two) m.1
    law Late is l = quiet (picture s) (picture (after_answer s t p IsRoot)) (record {
      white = λ d e. e;
      hand = λ W u. u.hand;
      read = λ W u y j r. inl r;
      word = λ y j. refl;
      loose = λ y j lo. (lo.0, lo.1, (moved s t lo.0 y j (s.word y j) lo.2).1);
      held = λ d h. elim (cases_eq h.0 t) [
        | inl e ↦ elim next [
          | inl now ↦ inr (inl (λ white. omega (arith, now.2 (sym (at h.0 e) ∙ h.3) d (h.4.1 e), white.1)))
          | inr over ↦ absurd (over.1 (sym (at h.0 e) ∙ h.3))
        ]
        | inr n ↦ inl (h.0, h.1, h.2, sym (off h.0 n) ∙ h.3, h.4.0)
      ];
    }) l
    law Clean is l = tt
