-- The invariant holds at the start, and under it what is kept is live.
use Rattle.std.proofs.Common.{◌≡◌, ◌≢◌, ◌⊎◌, inl, inr, ℕ, ◌<◌, List, refl, subst, arith}
use Rattle.std.proofs.lemmas.Bool.{cases_eq}
use Rattle.collector_law.specs.Invariant.{State, Ready, Answering, Resting, Clean, time_of, IsBlack, IsLive, IsLiveAt, IsInvariant}
use Rattle.collector_law.specs.Puts.{put, put-here, put-other}
use Rattle.collector_law.specs.Write.{root-live, live-not_blue}

-- from the globals' cell or a held cell, along words
pub data IsKept (s : State) : ℕ → ℕ → Type 0 where
  Global : IsKept s 0 (s.birth 0)
  Held : (t c b : ℕ) → t < s.threads → s.IsHeld t c b → IsKept s c b
  Named : (c b i : ℕ) → IsKept s c b → s.word c i ≢ 0 → IsKept s (s.word c i) (s.tag c i)

-- what is kept is live, and of the birth on the path
pub kept-live : (done : ℕ) (cycle_of claim_at : ℕ → ℕ) (IsSync : ℕ → Type 0) (s : State) → IsInvariant done cycle_of claim_at IsSync s → (c b : ℕ) → IsKept s c b → IsLive s c × (b ≡ s.birth c)
kept-live done cycle_of claim_at IsSync s inv _ _ Global = (root-live (time_of s.part) s.cycle (s.colour 0) inv.root, refl)
kept-live done cycle_of claim_at IsSync s inv _ _ (Held t c b lt h) = let l = inv.live.held t c b lt h in (l.1, l.2)
kept-live done cycle_of claim_at IsSync s inv _ _ (Named c b i k n) = elim (inv.live.words c i (kept-live done cycle_of claim_at IsSync s inv c b k).0) [
  | inl null ↦ absurd (n null)
  | inr good ↦ (good.0, good.1)
]

-- no kept cell is blue or of another birth
pub kept-safe : (done : ℕ) (cycle_of claim_at : ℕ → ℕ) (IsSync : ℕ → Type 0) (s : State) → IsInvariant done cycle_of claim_at IsSync s → (c b : ℕ) → IsKept s c b → (s.colour c ≢ 0) × (b ≡ s.birth c)
kept-safe done cycle_of claim_at IsSync s inv c b k = let l = kept-live done cycle_of claim_at IsSync s inv c b k in (live-not_blue (time_of s.part) s.cycle (s.colour c) l.0, l.1)

-- from the end of a trace to the next post each kept cell is black
pub kept-black : (done : ℕ) (cycle_of claim_at : ℕ → ℕ) (IsSync : ℕ → Type 0) (s : State) → IsInvariant done cycle_of claim_at IsSync s → time_of s.part ≡ Clean → (c b : ℕ) → IsKept s c b → IsBlack s c
kept-black done cycle_of claim_at IsSync s inv clean c b k = subst (λ z. IsLiveAt z s.cycle (s.colour c)) clean (kept-live done cycle_of claim_at IsSync s inv c b k).0

-- the state at the start, with these stages
abbrev pub start : (threads cells : ℕ) → (ℕ → ℕ) → State
start threads cells stage = record {
  threads = threads;
  cells = cells;
  cycle = 0;
  part = Resting;
  posted = 0;
  stage = stage;
  phase = λ t. Ready;
  colour = put (λ c. 0) 0 1;
  word = λ c i. 0;
  tag = λ c i. 0;
  birth = λ c. 0;
  IsHeld = λ t c b. ⊥;
  IsFresh = λ t c. ⊥;
}

-- the invariant holds at the start
pub starts : (done : ℕ) (cycle_of claim_at : ℕ → ℕ) (IsSync : ℕ → Type 0) (threads cells : ℕ) (stage : ℕ → ℕ) → ((t : ℕ) → (stage t ≡ 0) ⊎ (stage t ≡ done)) → 0 < cells → IsInvariant done cycle_of claim_at IsSync (start threads cells stage)
starts done cycle_of claim_at IsSync threads cells stage at_start some = record {
  stages = record {
    posted = refl;
    stages = λ t lt. elim (at_start t) [ inl e ↦ inl e | inr e ↦ inr (inl e) ];
    answers = λ t p marked lt e. absurd (differ p marked e);
    ended = λ t lt e. (refl, λ c b h. h, λ c f. f);
  };
  colours = λ c. elim (cases_eq c 0) [ inl e ↦ inr (put-here (λ d. 0) 0 1 c e) | inr n ↦ inl (put-other (λ d. 0) 0 1 c n) ];
  beyond = λ c above. put-other (λ d. 0) 0 1 c (λ e. omega (arith, above, some, e));
  root = refl;
  under_way = tt;
  live = record { held = λ t c b lt h. absurd h; words = λ c i l. inl refl; blue = λ c i e. refl };
  fresh = record {
    held = λ t c lt f. absurd f;
    unnamed = λ t c x i lt f l. absurd f;
    alone = λ t u c b lt lu f h. absurd f;
    in_no_hand = λ t c lt f. absurd f;
    not_old = λ t c lt f. absurd f;
    colour = λ t c lt f. absurd f;
  };
  stands = λ t lt. tt;
  law = tt;
}
  where
    differ : (p : ℕ) (marked : List ℕ) → Ready ≡ Answering p marked → ⊥
    differ p marked e = cc
