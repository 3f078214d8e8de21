-- A state of the invariant that shows where a run is.
use Rattle.std.proofs.Common.{◌≡◌, ◌≢◌, ◌⊎◌, inl, inr, ℕ, ◌<◌, true, false, List, refl, ◌∙◌}
use Rattle.colours.specs.declared.place.Place.TheVariants.{Colour, Word}
use Rattle.pools.specs.Heap.{Setup, cells, kind_of}
use Rattle.pools.specs.Layouts.{is_reference_kind}
use Rattle.colours.specs.Colours.{cycle_of, claim_at, is_async, done}
use Rattle.colours.specs.Mutator.{Phase, Ready, MarkingOld, MarkingNew, Writing, Trying, Answering, Ended, Absent, Arriving, Entering, Leaving, HasBegun, stage_of, phase_of, Held, Fresh}
use Rattle.colours.specs.Collector.{Collection, Posting, Waiting, ShadingGlobals, Passing, Scanning, Shading, Sweeping, Clearing, posted_of}
use Rattle.colours.specs.Runs.{Event, log_of, turns_of, word_after, births_after}
use Rattle.collector_law.specs.Invariant as law

-- the stage is a sync stage
abbrev pub IsSync : ℕ → Type 0
IsSync stage = is_async stage ≡ false

-- the invariant at the stages and colours of the heap
abbrev pub IsInvariant : law.State → Type 0
IsInvariant S = law.IsInvariant done cycle_of claim_at IsSync S

-- the phases of the invariant do not distinguish a try or an end from rest
abbrev pub flat : Phase → law.Phase
flat Ready = law.Ready
flat (MarkingOld cell word old) = law.MarkingOld cell word old
flat (MarkingNew cell word old) = law.MarkingNew cell word old
flat (Writing cell word old new) = law.Writing cell word old new
flat (Trying tried) = law.Ready
flat (Answering stage marked) = law.Answering stage marked
flat Ended = law.Ready
flat Absent = law.Ready
flat (Arriving stage) = law.Ready
flat Entering = law.Ready
flat Leaving = law.Ready

-- a thread that has not begun counts as ended
abbrev pub seen : Phase → ℕ → ℕ
seen Absent stage = done
seen (Arriving posted) stage = done
seen Entering stage = done
seen Leaving stage = done
seen _ stage = stage

-- a thread that has begun is seen at its own stage
pub seen_begun : (p : Phase) (stage : ℕ) → HasBegun p → seen p stage ≡ stage
seen_begun Absent stage h = absurd h
seen_begun (Arriving posted) stage h = absurd h
seen_begun Entering stage h = absurd h
seen_begun Leaving stage h = absurd h
seen_begun _ stage h = refl

-- a thread has begun, or is seen as ended
pub begun_or_done : (p : Phase) (stage : ℕ) → HasBegun p ⊎ (seen p stage ≡ done)
begun_or_done Absent stage = inr refl
begun_or_done (Arriving posted) stage = inr refl
begun_or_done Entering stage = inr refl
begun_or_done Leaving stage = inr refl
begun_or_done _ stage = inl tt

-- the part of the invariant at which the collector is
abbrev pub IsAt : Setup → Collection → law.Part → Type 0
IsAt s Posting p = (p ≡ law.Resting) ⊎ ((p ≡ law.Waiting 1 s.threads) ⊎ (p ≡ law.Rooted))
IsAt s (Waiting thread) p = (thread < s.threads) × ((p ≡ law.Waiting 1 thread) ⊎ ((p ≡ law.Waiting 2 thread) ⊎ (p ≡ law.Waiting 3 thread)))
IsAt s ShadingGlobals p = p ≡ law.Waiting 2 s.threads
IsAt s (Passing pass) p = (p ≡ law.Passing pass.next pass.met_grey) × (pass.next < cells s)
IsAt s (Scanning cell word pass) p = (p ≡ law.Scanning cell word 0) × (pass.met_grey ≡ true)
IsAt s (Shading value cell word pass) p = (p ≡ law.Scanning cell word value) × (pass.met_grey ≡ true)
IsAt s (Sweeping cell) p = (p ≡ law.Sweeping cell) × (0 < cell)
IsAt s (Clearing cell word) p = p ≡ law.Clearing cell word

-- the state's threads and words are those after the run
pub record Shows (s : Setup) (run : List Event) (S : law.State) : Type 0 where
  pub threads : S.threads ≡ s.threads
  pub cells : S.cells ≡ cells s
  pub posted : S.posted ≡ posted_of (turns_of run)
  pub stage : (t : ℕ) → S.stage t ≡ seen (phase_of s t (log_of t run)) (stage_of (log_of t run))
  pub phase : (t : ℕ) → S.phase t ≡ flat (phase_of s t (log_of t run))
  pub colour : (c : ℕ) → S.colour c ≡ word_after s run (Colour c)
  pub word : (c i : ℕ) → is_reference_kind (kind_of s c i) ≡ true → S.word c i ≡ word_after s run (Word c i)
  pub no_word : (c i : ℕ) → is_reference_kind (kind_of s c i) ≡ false → S.word c i ≡ 0
  pub tag : (c i : ℕ) → is_reference_kind (kind_of s c i) ≡ true → S.word c i ≢ 0 → S.tag c i ≡ (births_after s run).in_word c i
  pub birth : (c : ℕ) → S.birth c ≡ (births_after s run).of_cell c
  pub held : (t c : ℕ) → Held s (log_of t run) c → S.IsHeld t c ((births_after s run).with_thread t c)
  pub fresh : (t c : ℕ) → Fresh s (log_of t run) c → S.IsFresh t c

-- some state satisfies the invariant and shows the run, with the collector at this place
pub record Safe (s : Setup) (run : List Event) (c : Collection) : Type 1 where
  pub state : law.State
  pub inv : IsInvariant state
  pub shows : Shows s run state
  pub at : IsAt s c state.part

-- the state's stage of a thread that has begun is its own
pub stage_in : (s : Setup) (run : List Event) (S : law.State) → Shows s run S → (t : ℕ) → HasBegun (phase_of s t (log_of t run)) → S.stage t ≡ stage_of (log_of t run)
stage_in s run S h t begun = h.stage t ∙ seen_begun (phase_of s t (log_of t run)) (stage_of (log_of t run)) begun
