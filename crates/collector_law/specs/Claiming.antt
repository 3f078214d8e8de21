-- The tries to claim a cell.
use Rattle.std.proofs.Common.{◌≡◌, inl, inr, ℕ, suc, ◌<◌, ◌==◌, Bool, true, false, List, [], ◌∷◌, refl, sym, ap, ◌∙◌, subst, if◌then◌else◌, arith}
use Rattle.std.proofs.lemmas.Bool.{cases_eq}
use Rattle.lemmas.specs.Numbers.{test_true, test_yes, test_no}
use Rattle.colours.specs.declared.place.Place.TheVariants.{Colour}
use Rattle.pools.specs.Heap.{Setup, cells}
use Rattle.colours.specs.Colours.{done, cycle_of, claim_at}
use Rattle.colours.specs.Steps.{Claim}
use Rattle.colours.specs.Mutator.{Phase, Ready, Trying, stage_of, phase_of, phase_after, MayFollow}
use Rattle.colours.specs.Collector.{Collection}
use Rattle.colours.specs.Runs.{Event, ByThread, log_of, word_after, births_after, MayHappen, IsRun}
use Rattle.collector_law.specs.Invariant as law
use Rattle.collector_law.specs.Puts.{put-here, put-other}
use Rattle.collector_law.specs.Claim.{after_claim, claimed}
use Rattle.collector_law.specs.Match.{IsSync, flat, Shows, Safe}
use Rattle.collector_law.specs.Match.{stage_in}
use Rattle.collector_law.specs.Events.{stage_stays, plain_begun, held_by, fresh_by}
use Rattle.collector_law.specs.Threads.{in_range, not_done, phase_kept, IsIdle, idle}
use Rattle.collector_law.specs.Numbers.{Claims, claims, claim_black}
use Rattle.collector_law.specs.Marking.{at_posted}

-- a thread tries to claim only between two calls or in one call for a cell
claim_ready : (s : Setup) (stage : ℕ) (phase : Phase) (cell : ℕ) (won : Bool) → MayFollow s stage phase (Claim cell won) → flat phase ≡ law.Ready
claim_ready s stage Ready cell won m = refl
claim_ready s stage (Trying tried) cell won m = refl
claim_ready s stage _ cell won m = absurd m

-- what it tries is a cell
pub claim_cell : (s : Setup) (stage : ℕ) (phase : Phase) (cell : ℕ) (won : Bool) → MayFollow s stage phase (Claim cell won) → (0 < cell) × (cell < cells s)
claim_cell s stage Ready cell won m = m
claim_cell s stage (Trying []) cell won m = m
claim_cell s stage (Trying (last ∷ tried)) cell won m = (m.0.0, m.0.1)
claim_cell s stage _ cell won m = absurd m

-- after a lost try too
lost_ready : (s : Setup) (stage : ℕ) (phase : Phase) (cell : ℕ) → MayFollow s stage phase (Claim cell false) → flat (phase_after s stage phase (Claim cell false)) ≡ law.Ready
lost_ready s stage Ready cell m = flat_loss _ _
  where
    flat_loss : (b : Bool) (tried : List ℕ) → flat (if b then Ready else Trying tried) ≡ law.Ready
    flat_loss true tried = refl
    flat_loss false tried = refl
lost_ready s stage (Trying tried) cell m = flat_loss _ _
  where
    flat_loss : (b : Bool) (tried : List ℕ) → flat (if b then Ready else Trying tried) ≡ law.Ready
    flat_loss true tried = refl
    flat_loss false tried = refl
lost_ready s stage _ cell m = absurd m

-- a lost try changes nothing
lost_idle : (s : Setup) (run : List Event) (t cell : ℕ) → MayHappen s run (ByThread t (Claim cell false)) → IsIdle s run t (Claim cell false)
unfolding word_after births_after
lost_idle s run t cell m = record {
  gains = λ c. refl;
  wins = λ c. refl;
  stage = stage_stays s t (Claim cell false) run refl m.1;
  colour = colour;
  word = λ c i r. refl;
  tag = λ c i r. refl;
  birth = λ c. refl;
  phase = claim_ready s (stage_of (log_of t run)) (phase_of s t (log_of t run)) cell false m.1 ∙ sym (lost_ready s (stage_of (log_of t run)) (phase_of s t (log_of t run)) cell m.1);
}
  where
    colour : (c : ℕ) → (if cell == c then (if word_after s run (Colour c) == 0 then claim_at (stage_of (log_of t run)) else word_after s run (Colour c)) else word_after s run (Colour c)) ≡ word_after s run (Colour c)
    colour c = go (cell == c) refl
      where
        go : (b : Bool) → (cell == c) ≡ b → (if b then (if word_after s run (Colour c) == 0 then claim_at (stage_of (log_of t run)) else word_after s run (Colour c)) else word_after s run (Colour c)) ≡ word_after s run (Colour c)
        go false e = refl
        go true e = let off : (word_after s run (Colour c) == 0) ≡ false = subst (λ z. (word_after s run (Colour z) == 0) ≡ false) (test_true cell c e) (sym m.2) in rw off refl

-- the state after a claim that is won shows the run
won_shows : (s : Setup) (run : List Event) (S : law.State) → Shows s run S → (t cell : ℕ) → MayHappen s run (ByThread t (Claim cell true))
    → Shows s (ByThread t (Claim cell true) ∷ run) (after_claim S t cell (claim_at (S.stage t)))
unfolding word_after births_after
won_shows s run S h t cell m = record {
  threads = h.threads;
  cells = h.cells;
  posted = h.posted;
  stage = λ u. h.stage u ∙ sym (stage_stays s t (Claim cell true) run refl m.1 u);
  phase = phase_kept s run S h t (Claim cell true) (claim_ready s (stage_of (log_of t run)) (phase_of s t (log_of t run)) cell true m.1);
  colour = λ c. elim (cases_eq c cell) [
    | inl e ↦ put-here S.colour cell (claim_at (S.stage t)) c e ∙ rw (test_yes cell c (sym e), subst (λ z. (word_after s run (Colour z) == 0) ≡ true) (sym e) (sym m.2), stage_in s run S h t (plain_begun s (stage_of (log_of t run)) (phase_of s t (log_of t run)) (Claim cell true) refl m.1)) refl
    | inr n ↦ put-other S.colour cell (claim_at (S.stage t)) c n ∙ rw (test_no cell c (λ e. n (sym e))) (h.colour c)
  ];
  word = λ c i r. h.word c i r;
  no_word = h.no_word;
  tag = λ c i r n. h.tag c i r n;
  birth = λ c. elim (cases_eq c cell) [
    | inl e ↦ put-here S.birth cell (suc (S.birth cell)) c e ∙ rw (test_yes c cell e) (ap suc (ap S.birth (sym e) ∙ h.birth c))
    | inr n ↦ put-other S.birth cell (suc (S.birth cell)) c n ∙ rw (test_no c cell n) (h.birth c)
  ];
  held = λ u c x. elim (held_by s t (Claim cell true) run u c x) [
    | inl y ↦ let e = test_true c cell y.1 in inr (y.0, e, y.2 ∙ ap suc (sym (h.birth c) ∙ ap S.birth e))
    | inr y ↦ inl (subst (λ (b : ℕ). S.IsHeld u c b) (sym y.0) (h.held u c y.2))
  ];
  fresh = λ u c x. elim (fresh_by s t (Claim cell true) run u c x) [
    | inl y ↦ inr (y.0, test_true c cell y.1)
    | inr y ↦ inl (h.fresh u c y.1)
  ];
}

-- a claim leads to a state that satisfies the invariant
pub claim_safe : (s : Setup) (run : List Event) (c : Collection) (t cell : ℕ) (won : Bool) → IsRun s run → MayHappen s run (ByThread t (Claim cell won)) → Safe s run c → Safe s (ByThread t (Claim cell won) ∷ run) c
claim_safe s run c t cell false r m f = record { state = f.state; inv = f.inv; shows = idle s run f.state t (Claim cell false) (lost_idle s run t cell m) f.shows; at = f.at }
claim_safe s run c t cell true r m f = record {
  state = after_claim S t cell (claim_at (S.stage t));
  inv = claimed done cycle_of claim_at IsSync S t cell (claim_at (S.stage t)) (in_range s run S f.shows t (Claim cell true) m) refl (record {
    blue = f.shows.colour cell ∙ test_true (word_after s run (Colour cell)) 0 (sym m.2);
    cell = (λ e. absurd (omega (arith, e, range.0)), subst (λ n. cell < n) (sym f.shows.cells) range.1);
    ready = (f.shows.phase t ∙ claim_ready s (stage_of (log_of t run)) (phase_of s t (log_of t run)) cell true m.1, not_done s run S f.shows r t (Claim cell true) refl m);
    fits = q.0;
    live = q.1;
    not_grey = q.2;
    black = claim_black S.cycle (S.stage t);
  }) f.inv;
  shows = won_shows s run S f.shows t cell m;
  at = f.at;
}
  where
    S : law.State
    S = f.state

    range : (0 < cell) × (cell < cells s)
    range = claim_cell s (stage_of (log_of t run)) (phase_of s t (log_of t run)) cell true m.1

    q : Claims S.part S.cycle (S.stage t)
    q = claims S.part S.cycle S.posted (S.stage t) t f.inv.stages.posted (at_posted s run S f.inv f.shows r t (Claim cell true) refl m)
