-- The end of the trace preserves the invariant: from here on the live cells are the black ones.
use Rattle.std.proofs.Common.{◌≡◌, inl, inr, ℕ, suc, ◌*◌, ◌<◌, ◌≤◌, false, sym, ap, subst, arith}
use Rattle.std.proofs.lemmas.Bool.{cases_eq}
use Rattle.collector_law.specs.Invariant.{State, Passing, Sweeping, Late, time_of, IsGrey, IsBlack, IsLive, IsLiveAt, MayLag, posted_at, IsUnderWay, IsColour, RootAt, IsInvariant}
use Rattle.collector_law.specs.Traced.{IsTraced, traced}

-- the trace has ended, and the sweep begins at the first cell
abbrev pub ended_trace : State → State
ended_trace s = record s { part = Sweeping 1 }

-- the last look of a pass that met no grey cell preserves the invariant
pub ends_trace : (done : ℕ) (cycle_of claim_at : ℕ → ℕ) (IsSync : ℕ → Type 0) (s : State) (next : ℕ) → s.part ≡ Passing next false → s.cells ≤ suc next → (IsGrey s next → ⊥) → IsInvariant done cycle_of claim_at IsSync s → IsInvariant done cycle_of claim_at IsSync (ended_trace s)
ends_trace done cycle_of claim_at IsSync s next is last not_grey inv = record {
  stages = record {
    posted = subst (λ p. posted_at p s.cycle s.posted) is inv.stages.posted;
    stages = λ t lt. elim (inv.stages.stages t lt) [
      | inl e ↦ inl e
      | inr m ↦ elim m [ inl d ↦ inr (inl d) | inr l ↦ absurd (subst (λ p. MayLag p t) is l.1) ]
    ];
    answers = inv.stages.answers;
    ended = inv.stages.ended;
  };
  colours = λ c. elim (coloured c) [
    | inl blue ↦ inl blue
    | inr m ↦ elim m [
      | inl white ↦ inr (inl white)
      | inr n ↦ elim n [ inl grey ↦ absurd (none c grey) | inr black ↦ inr (inr black) ]
    ]
  ];
  beyond = inv.beyond;
  root = black.root;
  under_way = λ c above below white. omega (arith, above, below);
  live = record {
    held = λ t c b lt h. let was = inv.live.held t c b lt h in (was.0, black.held t c b lt h, was.2);
    words = λ c i is_black. elim (inv.live.words c i (was_live c is_black)) [ inl null ↦ inl null | inr good ↦ inr (black.words c i is_black good.0, good.1) ];
    blue = inv.live.blue;
  };
  fresh = record {
    held = inv.fresh.held;
    unnamed = λ t c x i lt f black. inv.fresh.unnamed t c x i lt f (was_live x black);
    alone = inv.fresh.alone;
    in_no_hand = λ t c lt f e. (inv.live.held t c (s.birth c) lt (inv.fresh.held t c lt f)).0 (sym e);
    not_old = inv.fresh.not_old;
    colour = inv.fresh.colour;
  };
  stands = inv.stands;
  law = tt;
}
  where
    late : time_of s.part ≡ Late
    late = ap time_of is

    marked : (0 < s.cycle) × (2 * s.cycle ≤ s.colour 0)
    marked = subst (λ z. RootAt z s.cycle (s.colour 0)) late inv.root

    coloured : (c : ℕ) → IsColour (Passing next false) s.cycle (s.colour c)
    coloured c = subst (λ p. IsColour p s.cycle (s.colour c)) is (inv.colours c)

    was_live : (c : ℕ) → IsBlack s c → IsLive s c
    was_live c black = subst (λ z. IsLiveAt z s.cycle (s.colour c)) (sym late) (λ e. omega (arith, black, e))

    none : (c : ℕ) → IsGrey s c → ⊥
    none c grey = elim (subst (λ p. IsUnderWay s p) is inv.under_way) [
      | inl g ↦ elim (cases_eq g.0 next) [
        | inl e ↦ not_grey (subst (λ z. IsGrey s z) e g.2)
        | inr n ↦ omega (arith, inv.beyond g.0 (omega (arith, last, g.1, n)), g.2, marked.0)
      ]
      | inr never ↦ never c grey
    ]

    black : IsTraced s
    black = traced done cycle_of claim_at IsSync s next false is none inv
