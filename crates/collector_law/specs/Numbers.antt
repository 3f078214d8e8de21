-- Stages and colours in numbers, part by part.
use Rattle.std.proofs.Common.{◌≡◌, ◌≢◌, ◌⊎◌, inl, inr, ℕ, zero, suc, ◌+◌, ◌-◌, ◌*◌, ◌%◌, ◌<◌, ◌≤◌, max, true, false, ◌∙◌, arith}
use Rattle.std.proofs.lemmas.Bool.{cases_eq}
use Rattle.lemmas.specs.Numbers.{test_true, test_yes, test_false, test_no}
use Rattle.colours.specs.Colours.{cycle_of, is_async, done, grey, black, mark_at, claim_at}
use Rattle.collector_law.specs.Invariant as law
use Rattle.collector_law.specs.Write.{AreStages}
use Rattle.collector_law.specs.Match.{IsSync}

-- which stages are sync stages
pub async_three : (k st : ℕ) → st ≡ 3 * k → is_async st ≡ true
async_three k st e = test_yes (st % 3) 0 (omega arith)

pub sync_one : (k st : ℕ) → st + 1 ≡ 3 * k → is_async st ≡ false
sync_one k st e = test_no (st % 3) 0 (omega arith)

pub sync_two : (k st : ℕ) → st + 2 ≡ 3 * k → is_async st ≡ false
sync_two k st e = test_no (st % 3) 0 (omega arith)

-- a claim at the Async stage of cycle k stores 2k+1
pub claim_black : (k st : ℕ) → st ≡ 3 * k → claim_at st ≡ suc (2 * k)
claim_black k st e = rw (async_three k st e) (omega arith)

-- one at its sync stages, or at the stage before them, 2k-1
pub claim_white : (k st : ℕ) → 3 * k ≤ st + 3 → st < 3 * k → suc (claim_at st) ≡ 2 * k
claim_white k st above below = elim (cases_eq (st + 3) (3 * k)) [
  | inl e ↦ old (k - 1) (omega arith) (omega arith)
  | inr n ↦ elim (cases_eq (st + 2) (3 * k)) [
    | inl e ↦ rw (sync_two k st e) (omega arith)
    | inr o ↦ let e : st + 1 ≡ 3 * k = omega arith in rw (sync_one k st e) (omega arith)
  ]
]
  where
    old : (j : ℕ) → st ≡ 3 * j → k ≡ suc j → suc (claim_at st) ≡ 2 * k
    old j e f = let g : claim_at st ≡ suc (2 * j) = claim_black j st e in omega (arith, g, f)

-- the numbers of the stages are those that the invariant asks for
pub are_stages : (k : ℕ) → 3 * k < done → AreStages done cycle_of IsSync k
are_stages k big = record {
  sync1 = λ st e. sync_two k st e;
  sync2 = λ st e. sync_one k st e;
  cycle2 = λ st e. omega arith;
  cycle3 = λ st e. omega arith;
  beyond = big;
}

-- ---- by the part at which the collector is

-- the thread is at the posted stage, or lags by one and may
abbrev pub AtPosted : law.Part → (posted stage t : ℕ) → Type 0
AtPosted p posted stage t = (stage ≡ posted) ⊎ ((suc stage ≡ posted) × law.MayLag p t)

-- the cycle is that of the posted stage
pub cycle_is : (p : law.Part) (k posted : ℕ) → law.posted_at p k posted → cycle_of posted ≡ k
cycle_is law.Resting k posted e = omega (arith, e)
cycle_is (law.Waiting zero t) k posted e = absurd e
cycle_is (law.Waiting (suc zero) t) k posted e = omega (arith, e)
cycle_is (law.Waiting (suc (suc zero)) t) k posted e = omega (arith, e)
cycle_is (law.Waiting (suc (suc (suc n))) t) k posted e = omega (arith, e)
cycle_is law.Rooted k posted e = omega (arith, e)
cycle_is (law.Passing next met) k posted e = omega (arith, e)
cycle_is (law.Scanning cell words hand) k posted e = omega (arith, e)
cycle_is (law.Sweeping next) k posted e = omega (arith, e)
cycle_is (law.Clearing cell words) k posted e = omega (arith, e)

-- what a mark makes of a live cell's colour
abbrev pub Rises : law.Part → (k colour now : ℕ) → Type 0
Rises p k colour now = (now ≡ colour) ⊎ ((suc colour ≡ 2 * k) × (now ≡ 2 * k) × (law.time_of p ≢ law.Clean))

-- marks before the trace
rise_early : (p : law.Part) (k colour stage : ℕ) → (law.time_of p ≢ law.Clean) → 3 * k ≤ stage + 3 → stage < 3 * k → (colour ≡ 0) ⊎ ((suc colour ≡ 2 * k) ⊎ (colour ≡ 2 * k)) → colour ≢ 0 → Rises p k colour (max colour (mark_at stage))
rise_early p k colour stage n above below c live = elim c [
  | inl e ↦ absurd (live e)
  | inr c ↦ elim c [
    | inl white ↦ elim (cases_eq (stage + 3) (3 * k)) [
      | inl e ↦ inl (omega (arith, white, e))
      | inr o ↦ inr (white, omega (arith, white, o, above, below), n)
    ]
    | inr grey ↦ inl (omega (arith, grey, above, below))
  ]
]

-- marks in the trace
rise_late : (p : law.Part) (k colour stage : ℕ) → (law.time_of p ≢ law.Clean) → 3 * k ≤ stage + 1 → stage ≤ 3 * k → (colour ≡ 0) ⊎ ((suc colour ≡ 2 * k) ⊎ ((colour ≡ 2 * k) ⊎ (colour ≡ suc (2 * k)))) → colour ≢ 0 → Rises p k colour (max colour (mark_at stage))
rise_late p k colour stage n above below c live = elim c [
  | inl e ↦ absurd (live e)
  | inr c ↦ elim c [
    | inl white ↦ inr (white, omega (arith, white, above, below), n)
    | inr c ↦ elim c [
      | inl grey ↦ inl (omega (arith, grey, above, below))
      | inr black ↦ inl (omega (arith, black, above, below))
    ]
  ]
]

-- marks in the sweep and after it
rise_clean : (p : law.Part) (k colour stage : ℕ) → stage ≡ 3 * k → colour ≡ suc (2 * k) → Rises p k colour (max colour (mark_at stage))
rise_clean p k colour stage e black = inl (omega (arith, e, black))

-- stage from posted
lag_bounds : (p : law.Part) (posted stage t : ℕ) → AtPosted p posted stage t → (stage ≤ posted) × (posted ≤ suc stage)
lag_bounds p posted stage t a = elim a [ inl e ↦ (omega (arith, e), omega (arith, e)) | inr l ↦ (omega (arith, l.0), omega (arith, l.0)) ]

-- where none may lag a thread is at the posted stage
pub no_lag : (p : law.Part) (posted stage t : ℕ) → (law.MayLag p t → ⊥) → AtPosted p posted stage t → stage ≡ posted
no_lag p posted stage t n a = elim a [ inl e ↦ e | inr l ↦ absurd (n l.1) ]

-- a mark at the thread's stage raises a live cell's colour as it may
pub rises : (p : law.Part) (k posted stage t colour : ℕ) → law.posted_at p k posted → AtPosted p posted stage t → law.IsColour p k colour → law.IsLiveAt (law.time_of p) k colour → Rises p k colour (max colour (mark_at stage))
rises law.Resting k posted stage t colour at a c live = rise_clean law.Resting k colour stage (no_lag law.Resting posted stage t (λ x. x) a ∙ at) live
rises (law.Waiting zero u) k posted stage t colour at a c live = absurd at
rises (law.Waiting (suc zero) u) k posted stage t colour at a c live = let b = lag_bounds (law.Waiting 1 u) posted stage t a in rise_early (law.Waiting 1 u) k colour stage (λ x. cc) (omega (arith, at, b)) (omega (arith, at, b)) c live
rises (law.Waiting (suc (suc zero)) u) k posted stage t colour at a c live = let b = lag_bounds (law.Waiting 2 u) posted stage t a in rise_early (law.Waiting 2 u) k colour stage (λ x. cc) (omega (arith, at, b)) (omega (arith, at, b)) c live
rises (law.Waiting (suc (suc (suc n))) u) k posted stage t colour at a c live = let b = lag_bounds (law.Waiting (suc (suc (suc n))) u) posted stage t a in rise_late (law.Waiting (suc (suc (suc n))) u) k colour stage (λ x. cc) (omega (arith, at, b)) (omega (arith, at, b)) c live
rises law.Rooted k posted stage t colour at a c live = let e = no_lag law.Rooted posted stage t (λ x. x) a in rise_late law.Rooted k colour stage (λ x. cc) (omega (arith, at, e)) (omega (arith, at, e)) c live
rises (law.Passing next met) k posted stage t colour at a c live = let e = no_lag (law.Passing next met) posted stage t (λ x. x) a in rise_late (law.Passing next met) k colour stage (λ x. cc) (omega (arith, at, e)) (omega (arith, at, e)) c live
rises (law.Scanning cell words hand) k posted stage t colour at a c live = let e = no_lag (law.Scanning cell words hand) posted stage t (λ x. x) a in rise_late (law.Scanning cell words hand) k colour stage (λ x. cc) (omega (arith, at, e)) (omega (arith, at, e)) c live
rises (law.Sweeping next) k posted stage t colour at a c live = rise_clean (law.Sweeping next) k colour stage (no_lag (law.Sweeping next) posted stage t (λ x. x) a ∙ at) live
rises (law.Clearing cell words) k posted stage t colour at a c live = rise_clean (law.Clearing cell words) k colour stage (no_lag (law.Clearing cell words) posted stage t (λ x. x) a ∙ at) live

-- the posted stage is one of the cycle's three
pub posted_near : (p : law.Part) (k posted : ℕ) → law.posted_at p k posted → (posted ≤ 3 * k) × (3 * k ≤ posted + 2)
posted_near law.Resting k posted e = (omega (arith, e), omega (arith, e))
posted_near (law.Waiting zero t) k posted e = absurd e
posted_near (law.Waiting (suc zero) t) k posted e = (omega (arith, e), omega (arith, e))
posted_near (law.Waiting (suc (suc zero)) t) k posted e = (omega (arith, e), omega (arith, e))
posted_near (law.Waiting (suc (suc (suc n))) t) k posted e = (omega (arith, e), omega (arith, e))
posted_near law.Rooted k posted e = (omega (arith, e), omega (arith, e))
posted_near (law.Passing next met) k posted e = (omega (arith, e), omega (arith, e))
posted_near (law.Scanning cell words hand) k posted e = (omega (arith, e), omega (arith, e))
posted_near (law.Sweeping next) k posted e = (omega (arith, e), omega (arith, e))
posted_near (law.Clearing cell words) k posted e = (omega (arith, e), omega (arith, e))

-- ---- what a claim writes

-- the colour of a claim at this stage is one that a live cell may have
abbrev pub Claims : law.Part → (k stage : ℕ) → Type 0
Claims p k stage = law.IsColour p k (claim_at stage) × law.IsLiveAt (law.time_of p) k (claim_at stage) × (claim_at stage ≢ 2 * k)

-- and so it is at each stage of a thread
pub claims : (p : law.Part) (k posted stage t : ℕ) → law.posted_at p k posted → AtPosted p posted stage t → Claims p k stage
claims law.Resting k posted stage t at a = let q = claim_black k stage (no_lag law.Resting posted stage t (λ x. x) a ∙ at) in (inr q, q, omega (arith, q))
claims (law.Waiting zero u) k posted stage t at a = absurd at
claims (law.Waiting (suc zero) u) k posted stage t at a = let b = lag_bounds (law.Waiting 1 u) posted stage t a in let q = claim_white k stage (omega (arith, at, b)) (omega (arith, at, b)) in (inr (inl q), omega (arith, q, at), omega (arith, q))
claims (law.Waiting (suc (suc zero)) u) k posted stage t at a = let b = lag_bounds (law.Waiting 2 u) posted stage t a in let q = claim_white k stage (omega (arith, at, b)) (omega (arith, at, b)) in (inr (inl q), omega (arith, q, at), omega (arith, q))
claims (law.Waiting (suc (suc (suc n))) u) k posted stage t at a = elim (cases_eq stage posted) [
  | inl e ↦ let q = claim_black k stage (e ∙ at) in (inr (inr (inr q)), omega (arith, q), omega (arith, q))
  | inr o ↦ let b = lag_bounds (law.Waiting (suc (suc (suc n))) u) posted stage t a in let q = claim_white k stage (omega (arith, at, b)) (omega (arith, at, b, o)) in (inr (inl q), omega (arith, q), omega (arith, q))
]
claims law.Rooted k posted stage t at a = let e = no_lag law.Rooted posted stage t (λ x. x) a in let q = claim_white k stage (omega (arith, at, e)) (omega (arith, at, e)) in (inr (inl q), omega (arith, q), omega (arith, q))
claims (law.Passing next met) k posted stage t at a = let q = claim_black k stage (no_lag (law.Passing next met) posted stage t (λ x. x) a ∙ at) in (inr (inr (inr q)), omega (arith, q), omega (arith, q))
claims (law.Scanning cell words hand) k posted stage t at a = let q = claim_black k stage (no_lag (law.Scanning cell words hand) posted stage t (λ x. x) a ∙ at) in (inr (inr (inr q)), omega (arith, q), omega (arith, q))
claims (law.Sweeping next) k posted stage t at a = let q = claim_black k stage (no_lag (law.Sweeping next) posted stage t (λ x. x) a ∙ at) in (inr (inr q), q, omega (arith, q))
claims (law.Clearing cell words) k posted stage t at a = let q = claim_black k stage (no_lag (law.Clearing cell words) posted stage t (λ x. x) a ∙ at) in (inr (inr q), q, omega (arith, q))

-- a thread at a Sync stage is in the cycle
pub sync_cycle : (p : law.Part) (k posted stage t : ℕ) → law.posted_at p k posted → AtPosted p posted stage t → is_async stage ≡ false → cycle_of stage ≡ k
sync_cycle p k posted stage t at a sync =
    let near = posted_near p k posted at in
    let b = lag_bounds p posted stage t a in
    let odd : stage % 3 ≢ 0 = test_false (stage % 3) 0 sync in
    omega (arith, near, b, odd)

-- an Async stage that is posted is the cycle's last
pub async_next : (p : law.Part) (k posted next : ℕ) → law.posted_at p k posted → next ≡ posted → is_async next ≡ true → next ≡ 3 * k
async_next p k posted next at e async =
    let near = posted_near p k posted at in
    let even : next % 3 ≡ 0 = test_true (next % 3) 0 async in
    omega (arith, near, e, even)
