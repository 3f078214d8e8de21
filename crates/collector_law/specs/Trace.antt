-- Each step of the threads and of the collector preserves the trace's law.
use Rattle.std.proofs.Common.{◌≡◌, ◌≢◌, ◌⊎◌, inl, inr, ℕ, Bool, true, false, refl, sym, ap, ◌∙◌, subst, ◌&&◌, ◌||◌, ◌==◌, not}
use Rattle.std.proofs.lemmas.Bool.{cases_eq, false_from_ne_true, both_ways, or_parts, or_cases, or_from, and_parts, and_cases, and_left, and_right, eqb-true, eq-eqb, ne_eqb}
use Rattle.collector_law.specs.Puts.{here_or_not}
use Rattle.collector_law.specs.Picture.{Picture, IsUnsupported, IsSpared, IsSafe}

-- what is not white lies outside
pub outside : (p : Picture) (W : ℕ → Bool) → IsUnsupported p W → (c : ℕ) → (p.IsWhite c → ⊥) → W c ≡ false
outside p W u c n = false_from_ne_true (W c) (λ e. n (u.white c e))

-- ---- the trace begins: no word is read, nothing is held, and loose words lead to no white cell
pub begins : (p : Picture) → ((x i : ℕ) → p.IsRead x i → ⊥) → ((c : ℕ) → p.IsHeld c → ⊥) → ((x i : ℕ) → p.IsLoose x i → p.IsWhite (p.word x i) → ⊥) → IsSafe p
begins p unread unheld loose W u = record {
  held = λ c h. absurd (unheld c h);
  word = λ x i o. elim (u.edge x i o) [
    | inl r ↦ absurd (unread x i r)
    | inr e ↦ elim e [ inl w ↦ w | inr l ↦ outside p W u (p.word x i) (loose x i l) ]
  ];
  loose = λ x i l. outside p W u (p.word x i) (loose x i l);
}

-- ---- the trace ends: the white cells are unsupported. So no held cell is white, and no word of a cell that is not white points to one
pub ends : (p : Picture) (W : ℕ → Bool) → ((c : ℕ) → W c ≡ true → p.IsWhite c) → W p.hand ≡ false → ((x i : ℕ) → W x ≡ false → p.IsRead x i ⊎ (W (p.word x i) ≡ false)) → IsSafe p → IsSpared p W
ends p W white hand edge safe = safe W (record { white = white; hand = hand; edge = λ x i o. elim (edge x i o) [ inl r ↦ inl r | inr e ↦ inr (inl e) ] })

-- ---- steps that change no word: reads, marks, handshake answers, and the collector's
pub record IsQuiet (p q : Picture) : Type 0 where
  pub white : (c : ℕ) → q.IsWhite c → p.IsWhite c
  pub hand : (W : ℕ → Bool) → IsUnsupported q W → W p.hand ≡ false
  pub read : (W : ℕ → Bool) → IsUnsupported q W → (x i : ℕ) → q.IsRead x i → p.IsRead x i ⊎ (W (p.word x i) ≡ false)
  pub word : (x i : ℕ) → q.word x i ≡ p.word x i
  pub loose : (x i : ℕ) → q.IsLoose x i → p.IsLoose x i
  -- what is newly held is marked, or was read from a cell that is held or marked
  pub held : (c : ℕ) → q.IsHeld c → p.IsHeld c ⊎ ((q.IsWhite c → ⊥) ⊎ ((x : ℕ) × (i : ℕ) × (p.IsHeld x ⊎ (q.IsWhite x → ⊥)) × (c ≡ p.word x i)))

-- a step that changes no word preserves the law
pub quiet : (p q : Picture) → IsQuiet p q → IsSafe p → IsSafe q
quiet p q s safe W u = record {
  held = λ c h. elim (s.held c h) [
    | inl was ↦ spared.held c was
    | inr m ↦ elim m [
      | inl n ↦ outside q W u c n
      | inr r ↦ ap W r.3 ∙ spared.word r.0 r.1 (elim r.2 [ inl was ↦ spared.held r.0 was | inr n ↦ outside q W u r.0 n ])
    ]
  ];
  word = λ x i o. ap W (s.word x i) ∙ spared.word x i o;
  loose = λ x i l. ap W (s.word x i) ∙ spared.loose x i (s.loose x i l);
}
  where
    before : IsUnsupported p W
    before = record {
      white = λ c e. s.white c (u.white c e);
      hand = s.hand W u;
      edge = λ x i o. elim (u.edge x i o) [
        | inl r ↦ elim (s.read W u x i r) [ inl was ↦ inl was | inr e ↦ inr (inl e) ]
        | inr m ↦ elim m [ inl e ↦ inr (inl (sym (ap W (s.word x i)) ∙ e)) | inr l ↦ inr (inr (s.loose x i l)) ]
      ];
    }

    spared : IsSpared p W
    spared = safe W before

-- ---- a barriered store
pub record IsStore (p q : Picture) (x i new : ℕ) : Type 0 where
  pub white : (c : ℕ) → q.IsWhite c → p.IsWhite c
  pub hand : q.hand ≡ p.hand
  pub read : (y j : ℕ) → q.IsRead y j → p.IsRead y j
  pub held : (c : ℕ) → q.IsHeld c → p.IsHeld c
  pub there : q.word x i ≡ new
  pub elsewhere : (y j : ℕ) → ((y ≡ x) × (j ≡ i) → ⊥) → (q.word y j ≡ p.word y j) × (q.IsLoose y j → p.IsLoose y j)
  -- the value replaced was marked, or is another than the old value, or was read already
  pub replaced : (W : ℕ → Bool) → IsUnsupported q W → p.IsRead x i ⊎ ((W (p.word x i) ≡ false) ⊎ p.IsLoose x i)
  pub stored : p.IsHeld new ⊎ (q.IsWhite new → ⊥)

-- a barriered store preserves the law
pub store : (p q : Picture) (x i new : ℕ) → IsStore p q x i new → IsSafe p → IsSafe q
store p q x i new s safe W u = record {
  held = λ c h. spared.held c (s.held c h);
  word = λ y j o. elim (here_or_not x i y j) [
    | inl e ↦ ap W (at y j e) ∙ fresh
    | inr n ↦ ap W ((s.elsewhere y j n).0) ∙ spared.word y j o
  ];
  loose = λ y j l. elim (here_or_not x i y j) [
    | inl e ↦ ap W (at y j e) ∙ fresh
    | inr n ↦ ap W ((s.elsewhere y j n).0) ∙ spared.loose y j ((s.elsewhere y j n).1 l)
  ];
}
  where
    at : (y j : ℕ) → (y ≡ x) × (j ≡ i) → q.word y j ≡ new
    at y j e = ap (λ z. q.word z j) e.0 ∙ ap (λ z. q.word x z) e.1 ∙ s.there

    replaced : p.IsRead x i ⊎ ((W (p.word x i) ≡ false) ⊎ p.IsLoose x i)
    replaced = s.replaced W u

    before : IsUnsupported p W
    before = record {
      white = λ c e. s.white c (u.white c e);
      hand = sym (ap W s.hand) ∙ u.hand;
      edge = λ y j o. elim (here_or_not x i y j) [
        | inl e ↦ subst (λ z. p.IsRead z j ⊎ ((W (p.word z j) ≡ false) ⊎ p.IsLoose z j)) (sym e.0) (subst (λ z. p.IsRead x z ⊎ ((W (p.word x z) ≡ false) ⊎ p.IsLoose x z)) (sym e.1) replaced)
        | inr n ↦ elim (u.edge y j o) [
          | inl r ↦ inl (s.read y j r)
          | inr m ↦ elim m [ inl e ↦ inr (inl (sym (ap W ((s.elsewhere y j n).0)) ∙ e)) | inr l ↦ inr (inr ((s.elsewhere y j n).1 l)) ]
        ]
      ];
    }

    spared : IsSpared p W
    spared = safe W before

    fresh : W new ≡ false
    fresh = elim s.stored [ inl h ↦ spared.held new h | inr n ↦ outside q W u new n ]

-- ---- a claim: a blue cell, named by no word, with words that are null
pub record IsClaim (p q : Picture) (c : ℕ) : Type 0 where
  pub white : (d : ℕ) → d ≢ c → q.IsWhite d → p.IsWhite d
  pub hand : q.hand ≡ p.hand
  pub read : (x i : ℕ) → x ≢ c → q.IsRead x i → p.IsRead x i
  pub word : (x i : ℕ) → q.word x i ≡ p.word x i
  pub loose : (x i : ℕ) → q.IsLoose x i → p.IsLoose x i
  pub unnamed : (x i : ℕ) → p.word x i ≢ c
  pub null : (i : ℕ) → q.IsWhite (p.word c i) → ⊥
  pub held : (d : ℕ) → q.IsHeld d → (p.IsHeld d × (d ≢ c)) ⊎ (q.IsWhite d → ⊥)

-- the set without one cell
without : (ℕ → Bool) → ℕ → ℕ → Bool
without W c d = W d && not (d == c)

-- the set with one cell more
with_one : (ℕ → Bool) → ℕ → ℕ → Bool
with_one W c d = W d || (d == c)

-- what is outside stays outside
without-off : (W : ℕ → Bool) (c d : ℕ) → W d ≡ false → without W c d ≡ false
unfolding without
without-off W c d e = and_left (W d) (not (d == c)) e

-- the cell itself is outside
without-self : (W : ℕ → Bool) (c : ℕ) → without W c c ≡ false
unfolding without
without-self W c = and_right (W c) (not (c == c)) (ap not (eq-eqb c c refl))

-- another cell that is outside was outside
without-other : (W : ℕ → Bool) (c d : ℕ) → d ≢ c → without W c d ≡ false → W d ≡ false
unfolding without
without-other W c d n e = elim (and_cases (W d) (not (d == c)) e) [
  | inl w ↦ w
  | inr m ↦ absurd (both_ways (not (d == c)) m (ap not (ne_eqb d c n)))
]

-- what is left was in the set, and is another cell
without-on : (W : ℕ → Bool) (c d : ℕ) → without W c d ≡ true → (W d ≡ true) × (d ≢ c)
unfolding without
without-on W c d e = (
  (and_parts (W d) (not (d == c)) e).0,
  λ is. both_ways (not (d == c)) (ap not (eq-eqb d c is)) ((and_parts (W d) (not (d == c)) e).1),
)

-- what is outside was outside, and is another cell
with_one-parts : (W : ℕ → Bool) (c d : ℕ) → with_one W c d ≡ false → (W d ≡ false) × (d ≢ c)
unfolding with_one
with_one-parts W c d e = (
  (or_parts (W d) (d == c) e).0,
  λ is. both_ways (d == c) ((or_parts (W d) (d == c) e).1) (eq-eqb d c is),
)

-- another cell that was outside is outside
with_one-off : (W : ℕ → Bool) (c d : ℕ) → W d ≡ false → d ≢ c → with_one W c d ≡ false
unfolding with_one
with_one-off W c d w n = or_from (W d) (d == c) w (ne_eqb d c n)

-- what is in the set was in it, or is the cell
with_one-on : (W : ℕ → Bool) (c d : ℕ) → with_one W c d ≡ true → (W d ≡ true) ⊎ (d ≡ c)
unfolding with_one
with_one-on W c d e = elim (or_cases (W d) (d == c) e) [ inl w ↦ inl w | inr m ↦ inr (eqb-true d c m) ]

-- a claim preserves the law
pub claim : (p q : Picture) (c : ℕ) → IsClaim p q c → IsSafe p → IsSafe q
claim p q c s safe W u = record {
  held = λ d h. elim (s.held d h) [
    | inl was ↦ without-other W c d was.1 (spared.held d was.0)
    | inr n ↦ outside q W u d n
  ];
  word = λ x i o. ap W (s.word x i) ∙ without-other W c (p.word x i) (s.unnamed x i) (spared.word x i (without-off W c x o));
  loose = λ x i l. ap W (s.word x i) ∙ without-other W c (p.word x i) (s.unnamed x i) (spared.loose x i (s.loose x i l));
}
  where
    before : IsUnsupported p (without W c)
    before = record {
      white = λ d e. s.white d ((without-on W c d e).1) (u.white d ((without-on W c d e).0));
      hand = sym (ap (without W c) s.hand) ∙ without-off W c q.hand u.hand;
      edge = λ x i o. elim (cases_eq x c) [
        | inl e ↦ inr (inl (without-off W c (p.word x i) (outside q W u (p.word x i) (subst (λ z. q.IsWhite (p.word z i) → ⊥) (sym e) (s.null i)))))
        | inr n ↦ elim (u.edge x i (without-other W c x n o)) [
          | inl r ↦ inl (s.read x i n r)
          | inr m ↦ elim m [ inl e ↦ inr (inl (without-off W c (p.word x i) (sym (ap W (s.word x i)) ∙ e))) | inr l ↦ inr (inr (s.loose x i l)) ]
        ]
      ];
    }

    spared : IsSpared p (without W c)
    spared = safe (without W c) before

-- ---- a plain store into a white cell that no word names
pub record IsPlainStore (p q : Picture) (c : ℕ) : Type 0 where
  pub white : (d : ℕ) → q.IsWhite d → p.IsWhite d
  pub white_here : p.IsWhite c
  pub hand : q.hand ≡ p.hand
  pub not_in_hand : p.hand ≢ c
  pub read : (x i : ℕ) → q.IsRead x i → p.IsRead x i
  pub unread : (i : ℕ) → q.IsRead c i → ⊥
  pub elsewhere : (x i : ℕ) → x ≢ c → q.word x i ≡ p.word x i
  pub loose : (x i : ℕ) → q.IsLoose x i → p.IsLoose x i × (x ≢ c)
  pub unnamed : (x i : ℕ) → p.word x i ≢ c
  pub held : (d : ℕ) → q.IsHeld d → p.IsHeld d

-- a store into a fresh white cell preserves the law
pub plain_store : (p q : Picture) (c : ℕ) → IsPlainStore p q c → IsSafe p → IsSafe q
plain_store p q c s safe W u = record {
  held = λ d h. (with_one-parts W c d (spared.held d (s.held d h))).0;
  word = λ x i o. elim (cases_eq x c) [
    | inl e ↦ elim (u.edge x i o) [
      | inl r ↦ absurd (s.unread i (subst (λ z. q.IsRead z i) e r))
      | inr m ↦ elim m [ inl f ↦ f | inr l ↦ absurd ((s.loose x i l).1 e) ]
    ]
    | inr n ↦ ap W (s.elsewhere x i n) ∙ (with_one-parts W c (p.word x i) (spared.word x i (with_one-off W c x o n))).0
  ];
  loose = λ x i l. ap W (s.elsewhere x i ((s.loose x i l).1)) ∙ (with_one-parts W c (p.word x i) (spared.loose x i ((s.loose x i l).0))).0;
}
  where
    before : IsUnsupported p (with_one W c)
    before = record {
      white = λ d e. elim (with_one-on W c d e) [ inl w ↦ s.white d (u.white d w) | inr is ↦ subst (λ z. p.IsWhite z) (sym is) s.white_here ];
      hand = with_one-off W c p.hand (sym (ap W s.hand) ∙ u.hand) s.not_in_hand;
      edge = λ x i o. elim (u.edge x i ((with_one-parts W c x o).0)) [
        | inl r ↦ inl (s.read x i r)
        | inr m ↦ elim m [
          | inl e ↦ inr (inl (with_one-off W c (p.word x i) (sym (ap W (s.elsewhere x i ((with_one-parts W c x o).1))) ∙ e) (s.unnamed x i)))
          | inr l ↦ inr (inr ((s.loose x i l).0))
        ]
      ];
    }

    spared : IsSpared p (with_one W c)
    spared = safe (with_one W c) before
