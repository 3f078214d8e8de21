-- In a pass that has no grey cell left: null is black, and so are the held cells and those that black ones refer to.
use Rattle.std.proofs.Common.{◌≡◌, ◌≢◌, inl, inr, ℕ, suc, ◌*◌, ◌<◌, ◌≤◌, Bool, false, sym, ap, ◌∙◌, subst, ◌==◌, arith}
use Rattle.std.proofs.lemmas.Bool.{cases_eq, eqb-true, eq-eqb, ne_eqb, both_ways}
use Rattle.collector_law.specs.Picture.{IsSpared}
use Rattle.collector_law.specs.Invariant.{State, Passing, Late, time_of, IsGrey, IsBlack, IsLive, IsLiveAt, hand_of, picture, MayLag, posted_at, IsColour, RootAt, AtTime, IsInvariant}
use Rattle.collector_law.specs.Trace.{ends}

abbrev white_set : State → ℕ → Bool
white_set s c = suc (s.colour c) == 2 * s.cycle

-- what is live is black
pub record IsTraced (s : State) : Type 0 where
  pub root : IsBlack s 0
  pub held : (t c b : ℕ) → t < s.threads → s.IsHeld t c b → IsBlack s c
  pub words : (c i : ℕ) → IsBlack s c → IsLive s (s.word c i) → IsBlack s (s.word c i)

-- it is, where no cell is grey
pub traced : (done : ℕ) (cycle_of claim_at : ℕ → ℕ) (IsSync : ℕ → Type 0) (s : State) (next : ℕ) (met : Bool) → s.part ≡ Passing next met → ((c : ℕ) → IsGrey s c → ⊥) → IsInvariant done cycle_of claim_at IsSync s → IsTraced s
traced done cycle_of claim_at IsSync s next met is none inv = record {
  root = blacks 0 (λ e. omega (arith, marked.0, marked.1, e)) root_outside;
  held = λ t c b lt h. blacks c (not_blue c (inv.live.held t c b lt h).1) (spared.held c (t, b, lt, at_async t lt c b h, h));
  words = λ c i black live. blacks (s.word c i) (not_blue (s.word c i) live) (spared.word c i (ne_eqb (suc (s.colour c)) (2 * s.cycle) (λ e. omega (arith, black, e))));
}
  where
    late : time_of s.part ≡ Late
    late = ap time_of is

    marked : (0 < s.cycle) × (2 * s.cycle ≤ s.colour 0)
    marked = subst (λ z. RootAt z s.cycle (s.colour 0)) late inv.root

    not_blue : (c : ℕ) → IsLive s c → s.colour c ≢ 0
    not_blue c l = subst (λ z. IsLiveAt z s.cycle (s.colour c)) late l

    root_outside : white_set s 0 ≡ false
    root_outside = ne_eqb (suc (s.colour 0)) (2 * s.cycle) (λ e. omega (arith, marked.1, e))

    blacks : (c : ℕ) → s.colour c ≢ 0 → white_set s c ≡ false → IsBlack s c
    blacks c live out = elim (subst (λ p. IsColour p s.cycle (s.colour c)) is (inv.colours c)) [
      | inl blue ↦ absurd (live blue)
      | inr m ↦ elim m [
        | inl white ↦ absurd (both_ways (white_set s c) out (eq-eqb (suc (s.colour c)) (2 * s.cycle) white))
        | inr n ↦ elim n [ inl grey ↦ absurd (none c grey) | inr black ↦ black ]
      ]
    ]

    at_async : (t : ℕ) → t < s.threads → (c b : ℕ) → s.IsHeld t c b → s.stage t ≡ 3 * s.cycle
    at_async t lt c b h = elim (inv.stages.stages t lt) [
      | inl e ↦ e ∙ subst (λ p. posted_at p s.cycle s.posted) is inv.stages.posted
      | inr m ↦ elim m [
        | inl d ↦ absurd ((inv.stages.ended t lt d).1 c b h)
        | inr l ↦ absurd (subst (λ p. MayLag p t) is l.1)
      ]
    ]

    spared : IsSpared (picture s) (white_set s)
    spared = ends (picture s) (white_set s)
        (λ c e. (λ null. both_ways (white_set s c) (subst (λ z. white_set s z ≡ false) (sym null) root_outside) e, eqb-true (suc (s.colour c)) (2 * s.cycle) e))
        (subst (λ p. white_set s (hand_of p) ≡ false) (sym is) root_outside)
        (λ x i out. elim (cases_eq (s.colour x) 0) [
          | inl blue ↦ inr (subst (λ z. white_set s z ≡ false) (sym (inv.live.blue x i blue)) root_outside)
          | inr n ↦ inl (inl (blacks x n out))
        ])
        (subst (λ z. AtTime s z) late inv.law)
