-- What the invariant says of a thread that makes a step, and the steps that change nothing of it.
use Rattle.std.proofs.Common.{◌≡◌, ◌≢◌, inl, inr, ℕ, ◌<◌, Bool, true, false, List, ◌∷◌, refl, sym, ap, ◌∙◌, subst}
use Rattle.std.proofs.lemmas.Bool.{cases_eq}
use Rattle.colours.specs.declared.place.Place.TheVariants.{Colour, Word}
use Rattle.pools.specs.Heap.{Setup, kind_of}
use Rattle.pools.specs.Layouts.{is_reference_kind}
use Rattle.colours.specs.Colours.{done}
use Rattle.colours.specs.Steps.{Step}
use Rattle.colours.specs.Mutator.{Phase, stage_of, phase_of, phase_after, MayFollow, MayUse, Held, Fresh, gains, wins}
use Rattle.colours.specs.Runs.{Event, ByThread, log_of, word_after, births_after, MayHappen, IsRun}
use Rattle.colours.specs.Stages.{no_more, handshake}
use Rattle.collector_law.specs.Invariant as law
use Rattle.collector_law.specs.Puts.{put, put-here, put-other}
use Rattle.collector_law.specs.Match.{IsInvariant, flat, seen, stage_in, Shows}
use Rattle.collector_law.specs.Events.{log_here, log_other, is_plain, plain_begun, held_by, fresh_by}

-- a step is one of the state's threads
pub in_range : (s : Setup) (run : List Event) (S : law.State) → Shows s run S → (t : ℕ) (step : Step) → MayHappen s run (ByThread t step) → t < S.threads
in_range s run S h t step m = subst (λ (n : ℕ). t < n) (sym h.threads) m.0

-- a thread that makes a plain step has not ended
pub not_done : (s : Setup) (run : List Event) (S : law.State) → Shows s run S → IsRun s run → (t : ℕ) (step : Step) → is_plain step ≡ true → MayHappen s run (ByThread t step) → S.stage t ≢ done
not_done s run S h r t step plain m e =
    let begun = plain_begun s (stage_of (log_of t run)) (phase_of s t (log_of t run)) step plain m.1 in
    no_more s (stage_of (log_of t run)) step (subst (λ (p : Phase). MayFollow s (stage_of (log_of t run)) p step) ((handshake s run r).ended t m.0 begun (sym (stage_in s run S h t begun) ∙ e)) m.1)

-- what is held is held by the cell's birth, and it isn't null
pub held_in : (s : Setup) (run : List Event) (S : law.State) → IsInvariant S → Shows s run S → (t c : ℕ) → t < S.threads → Held s (log_of t run) c → (c ≢ 0) × S.IsHeld t c (S.birth c)
held_in s run S inv h t c lt x =
    let y = h.held t c x in
    let l = inv.live.held t c ((births_after s run).with_thread t c) lt y in
    (l.0, subst (λ (b : ℕ). S.IsHeld t c b) l.2 y)

-- what a thread may use is the globals' cell, or held by its birth
pub base_in : (s : Setup) (run : List Event) (S : law.State) → IsInvariant S → Shows s run S → (t c : ℕ) → t < S.threads → MayUse s (log_of t run) c → law.IsBase S t c
base_in s run S inv h t c lt (inl e) = inl e
base_in s run S inv h t c lt (inr x) = inr (held_in s run S inv h t c lt x).1

-- ---- phases

-- the phases after a step, where the thread's changes
pub phase_put : (s : Setup) (run : List Event) (S : law.State) → Shows s run S → (t : ℕ) (step : Step) (q : law.Phase)
    → q ≡ flat (phase_after s (stage_of (log_of t run)) (phase_of s t (log_of t run)) step)
    → (u : ℕ) → put S.phase t q u ≡ flat (phase_of s u (log_of u (ByThread t step ∷ run)))
phase_put s run S h t step q e u = elim (cases_eq u t) [
  | inl is ↦ subst (λ (v : ℕ). put S.phase t q v ≡ flat (phase_of s v (log_of v (ByThread t step ∷ run)))) (sym is) (put-here S.phase t q t refl ∙ e ∙ ap (λ (l : List Step). flat (phase_of s t l)) (sym (log_here t step run t refl)))
  | inr n ↦ put-other S.phase t q u n ∙ h.phase u ∙ ap (λ (l : List Step). flat (phase_of s u l)) (sym (log_other t step run u n))
]

-- and where it stays
pub phase_kept : (s : Setup) (run : List Event) (S : law.State) → Shows s run S → (t : ℕ) (step : Step)
    → flat (phase_of s t (log_of t run)) ≡ flat (phase_after s (stage_of (log_of t run)) (phase_of s t (log_of t run)) step)
    → (u : ℕ) → S.phase u ≡ flat (phase_of s u (log_of u (ByThread t step ∷ run)))
phase_kept s run S h t step e u = elim (cases_eq u t) [
  | inl is ↦ subst (λ (v : ℕ). S.phase v ≡ flat (phase_of s v (log_of v (ByThread t step ∷ run)))) (sym is) (h.phase t ∙ e ∙ ap (λ (l : List Step). flat (phase_of s t l)) (sym (log_here t step run t refl)))
  | inr n ↦ h.phase u ∙ ap (λ (l : List Step). flat (phase_of s u l)) (sym (log_other t step run u n))
]

-- ---- what is held and fresh, where the step gives nothing

-- where a step gives nothing, what is held after it was held before
pub held_kept : (s : Setup) (run : List Event) (S : law.State) (t : ℕ) (step : Step) → ((c : ℕ) → gains s step c ≡ false) → Shows s run S
    → (u c : ℕ) → Held s (log_of u (ByThread t step ∷ run)) c → S.IsHeld u c ((births_after s (ByThread t step ∷ run)).with_thread u c)
held_kept s run S t step none h u c x = elim (held_by s t step run u c x) [
  | inl y ↦ absurd (differ (gains s step c) (none c) y.1)
  | inr y ↦ subst (λ (b : ℕ). S.IsHeld u c b) (sym y.0) (h.held u c y.2)
]
  where
    differ : (b : Bool) → b ≡ false → b ≡ true → ⊥
    differ b e f = cc

-- where a step wins nothing, what is fresh after it was fresh before
pub fresh_kept : (s : Setup) (run : List Event) (S : law.State) (t : ℕ) (step : Step) → ((c : ℕ) → wins step c ≡ false) → Shows s run S
    → (u c : ℕ) → Fresh s (log_of u (ByThread t step ∷ run)) c → S.IsFresh u c
fresh_kept s run S t step none h u c x = elim (fresh_by s t step run u c x) [
  | inl y ↦ absurd (differ (wins step c) (none c) y.1)
  | inr y ↦ h.fresh u c y.1
]
  where
    differ : (b : Bool) → b ≡ false → b ≡ true → ⊥
    differ b e f = cc

-- ---- steps that change nothing that the invariant is about

-- the step changes neither a stage nor a word nor what is held
pub record IsIdle (s : Setup) (run : List Event) (t : ℕ) (step : Step) : Type 0 where
  pub gains : (c : ℕ) → gains s step c ≡ false
  pub wins : (c : ℕ) → wins step c ≡ false
  pub stage : (u : ℕ) → seen (phase_of s u (log_of u (ByThread t step ∷ run))) (stage_of (log_of u (ByThread t step ∷ run))) ≡ seen (phase_of s u (log_of u run)) (stage_of (log_of u run))
  pub colour : (c : ℕ) → word_after s (ByThread t step ∷ run) (Colour c) ≡ word_after s run (Colour c)
  pub word : (c i : ℕ) → is_reference_kind (kind_of s c i) ≡ true → word_after s (ByThread t step ∷ run) (Word c i) ≡ word_after s run (Word c i)
  pub tag : (c i : ℕ) → is_reference_kind (kind_of s c i) ≡ true → (births_after s (ByThread t step ∷ run)).in_word c i ≡ (births_after s run).in_word c i
  pub birth : (c : ℕ) → (births_after s (ByThread t step ∷ run)).of_cell c ≡ (births_after s run).of_cell c
  pub phase : flat (phase_of s t (log_of t run)) ≡ flat (phase_after s (stage_of (log_of t run)) (phase_of s t (log_of t run)) step)

-- the state shows the run with that step too
pub idle : (s : Setup) (run : List Event) (S : law.State) (t : ℕ) (step : Step) → IsIdle s run t step → Shows s run S → Shows s (ByThread t step ∷ run) S
idle s run S t step w h = record {
  threads = h.threads;
  cells = h.cells;
  posted = h.posted;
  stage = λ u. h.stage u ∙ sym (w.stage u);
  phase = phase_kept s run S h t step w.phase;
  colour = λ c. h.colour c ∙ sym (w.colour c);
  word = λ c i r. h.word c i r ∙ sym (w.word c i r);
  no_word = h.no_word;
  tag = λ c i r n. h.tag c i r n ∙ sym (w.tag c i r);
  birth = λ c. h.birth c ∙ sym (w.birth c);
  held = held_kept s run S t step w.gains h;
  fresh = fresh_kept s run S t step w.wins h;
}
