-- A cell is claimed once at the start, and once after each free of it.
use Rattle.std.proofs.Common.{◌≡◌, ◌≢◌, ℕ, suc, ◌*◌, ◌-◌, ◌%◌, ◌^◌, ◌<◌, ◌≤◌, ◌==◌, Bool, true, false, List, [], ◌∷◌, if◌then◌else◌, refl, arith, sym}
use Rattle.lemmas.specs.Numbers.{test_true, test_yes}
use Rattle.lemmas.specs.Bools.{and_parts}
use Rattle.pools.specs.Heap.{Setup}
use Rattle.colours.specs.declared.place.Place.TheVariants.{Colour}
use Rattle.colours.specs.declared.turn.Turn.{Turn}
use Rattle.colours.specs.declared.turn.Turn.TheVariants.{PostStage, ReadStage, MarkFound, ReadColour, ScanWord, Blacken, ClearWord, Free}
use Rattle.colours.specs.Colours.{is_async, cycle_of, grey, black, claim_at}
use Rattle.colours.specs.Steps.{Step, ReadWord, ReadOldValue, Mark, StoreAfterBarrier, StorePlain, Claim, ReadPosted, StoreStage, ReadPostedFirst, EnterStage, ReadPostedAgain}
use Rattle.colours.specs.Mutator.{stage_of, wins}
use Rattle.colours.specs.Collector.{Collection, Posting, posted_of, Collects}
use Rattle.colours.specs.Runs.{Event, ByThread, ByCollector, log_of, turns_of, word_after, births_after, IsRun}
use Rattle.colours.specs.Safety.{IsFree}
use Rattle.colours.specs.Frames.{won_blue}
use Rattle.colours.specs.Stages.{handshake, colour_grows}
use Rattle.stepping.proofs.Frees.{frees, freed_below}

-- the claims of a cell are at most one more than its frees, and no more than these while it is blue
record HasFrees (births colour freed : ℕ) : Type 0 where
  pub any : births ≤ suc freed
  pub blue : colour ≡ 0 → births ≤ freed

-- a claim writes no blue
claim_shows : (stage : ℕ) → claim_at stage ≢ 0
claim_shows stage = go (is_async stage) refl
  where
    go : (b : Bool) → is_async stage ≡ b → (if b then black (cycle_of stage) else grey (cycle_of stage) - 1) ≢ 0
    go true e = λ z. omega arith
    go false e = λ z. absurd (cc (e, test_yes (stage % 3) 0 (omega arith)))

-- so a cell that is won is blue no more
won_shows : (s : Setup) (h : List Event) (t : ℕ) (step : Step) (c : ℕ) → word_after s h (Colour c) ≡ 0 → wins step c ≡ true
    → word_after s (ByThread t step ∷ h) (Colour c) ≢ 0
unfolding word_after
won_shows s h t (Claim cell won) c z w =
    let same : c ≡ cell = test_true c cell (and_parts won (c == cell) w).1 in
    rw (test_yes cell c (sym same), test_yes (word_after s h (Colour c)) 0 z) (claim_shows (stage_of (log_of t h)))
won_shows s h t (ReadWord cell word value) c z w = absurd cc
won_shows s h t (ReadOldValue cell word value) c z w = absurd cc
won_shows s h t (Mark cell) c z w = absurd cc
won_shows s h t (StoreAfterBarrier cell word value) c z w = absurd cc
won_shows s h t (StorePlain cell word value) c z w = absurd cc
won_shows s h t (ReadPosted stage) c z w = absurd cc
won_shows s h t (StoreStage stage roots) c z w = absurd cc
won_shows s h t (ReadPostedFirst stage) c z w = absurd cc
won_shows s h t (EnterStage stage) c z w = absurd cc
won_shows s h t (ReadPostedAgain stage) c z w = absurd cc

-- a thread's step
thread_claims : (s : Setup) (h : List Event) (t : ℕ) (step : Step) (c n : ℕ) → IsRun s (ByThread t step ∷ h)
    → HasFrees ((births_after s h).of_cell c) (word_after s h (Colour c)) n
    → HasFrees ((births_after s (ByThread t step ∷ h)).of_cell c) (word_after s (ByThread t step ∷ h) (Colour c)) n
unfolding births_after
thread_claims s h t step c n r before = go (wins step c) refl
  where
    go : (b : Bool) → wins step c ≡ b
        → HasFrees (if b then suc ((births_after s h).of_cell c) else (births_after s h).of_cell c) (word_after s (ByThread t step ∷ h) (Colour c)) n
    go true e =
        let blue : word_after s h (Colour c) ≡ 0 = won_blue s h t step c r.1 e in
        let some : (births_after s h).of_cell c ≤ n = before.blue blue in
        record { any = omega arith; blue = λ z. absurd (won_shows s h t step c blue e z) }
    go false e = record {
      any = before.any;
      blue = λ z. let grows : word_after s h (Colour c) ≤ word_after s (ByThread t step ∷ h) (Colour c) = colour_grows s h (ByThread t step) r (λ x. x) c in before.blue (omega arith);
    }

-- a step of the collector that frees nothing leaves a blue cell blue
same_claims : (s : Setup) (h : List Event) (turn : Turn) (c n : ℕ) → IsRun s (ByCollector turn ∷ h) → ¬ IsFree (ByCollector turn)
    → HasFrees ((births_after s h).of_cell c) (word_after s h (Colour c)) n
    → HasFrees ((births_after s h).of_cell c) (word_after s (ByCollector turn ∷ h) (Colour c)) n
same_claims s h turn c n r not_free before = record {
  any = before.any;
  blue = λ z. let grows : word_after s h (Colour c) ≤ word_after s (ByCollector turn ∷ h) (Colour c) = colour_grows s h (ByCollector turn) r not_free c in before.blue (omega arith);
}

-- a free allows one more claim
freed_claims : (s : Setup) (h : List Event) (cell c n : ℕ) → HasFrees ((births_after s h).of_cell c) (word_after s h (Colour c)) n
    → HasFrees ((births_after s h).of_cell c) (word_after s (ByCollector (Free cell) ∷ h) (Colour c)) (if cell == c then suc n else n)
unfolding word_after
freed_claims s h cell c n before = go (cell == c)
  where
    go : (b : Bool) → HasFrees ((births_after s h).of_cell c) (if b then 0 else word_after s h (Colour c)) (if b then suc n else n)
    go true = record { any = omega (arith, before.any); blue = λ z. before.any }
    go false = before

-- a step of the collector
turn_claims : (s : Setup) (h : List Event) (turn : Turn) (c : ℕ) → IsRun s (ByCollector turn ∷ h)
    → HasFrees ((births_after s h).of_cell c) (word_after s h (Colour c)) (frees c (turns_of h))
    → HasFrees ((births_after s h).of_cell c) (word_after s (ByCollector turn ∷ h) (Colour c)) (frees c (turn ∷ turns_of h))
turn_claims s h (Free cell) c r before = freed_claims s h cell c (frees c (turns_of h)) before
turn_claims s h (PostStage stage) c r before = same_claims s h (PostStage stage) c (frees c (turns_of h)) r (λ x. x) before
turn_claims s h (ReadStage t found) c r before = same_claims s h (ReadStage t found) c (frees c (turns_of h)) r (λ x. x) before
turn_claims s h (MarkFound cell colour) c r before = same_claims s h (MarkFound cell colour) c (frees c (turns_of h)) r (λ x. x) before
turn_claims s h (ReadColour cell colour) c r before = same_claims s h (ReadColour cell colour) c (frees c (turns_of h)) r (λ x. x) before
turn_claims s h (ScanWord cell word value) c r before = same_claims s h (ScanWord cell word value) c (frees c (turns_of h)) r (λ x. x) before
turn_claims s h (Blacken cell) c r before = same_claims s h (Blacken cell) c (frees c (turns_of h)) r (λ x. x) before
turn_claims s h (ClearWord cell word) c r before = same_claims s h (ClearWord cell word) c (frees c (turns_of h)) r (λ x. x) before

-- the same after each run
claims : (s : Setup) (h : List Event) (c : ℕ) → IsRun s h → HasFrees ((births_after s h).of_cell c) (word_after s h (Colour c)) (frees c (turns_of h))
unfolding births_after
claims s [] c r = record { any = omega arith; blue = λ z. omega arith }
claims s (ByThread t step ∷ h) c r = thread_claims s h t step c (frees c (turns_of h)) r (claims s h c r.0)
claims s (ByCollector turn ∷ h) c r = turn_claims s h turn c r (claims s h c r.0)

-- the collector of a run is somewhere
stands_at : (s : Setup) (h : List Event) → IsRun s h → (at : Collection) × Collects s (turns_of h) at
stands_at s [] r = (Posting, refl)
stands_at s (ByThread t step ∷ h) r = stands_at s h r.0
stands_at s (ByCollector turn ∷ h) r = r.1.0

-- no cell is claimed more often than cycles are begun, and once more
pub births_low : (s : Setup) (h : List Event) (c : ℕ) → IsRun s h → (births_after s h).of_cell c < 2 ^ 62
births_low s h c r =
    let at = stands_at s h r in
    let frees_few : 3 * frees c (turns_of h) ≤ posted_of (turns_of h) = freed_below s (turns_of h) at.0 c at.1 in
    let few : (births_after s h).of_cell c ≤ suc (frees c (turns_of h)) = (claims s h c r).any in
    let low : posted_of (turns_of h) < 3 * 2 ^ 60 = (handshake s h r).low in
    omega arith
