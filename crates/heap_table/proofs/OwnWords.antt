-- Why a word holds what its only writer stored last.
use Rattle.std.proofs.Common.{◌≡◌, ◌≢◌, ℕ, ◌==◌, Bool, true, false, Some, None, List, [], ◌∷◌, if◌then◌else◌, inl, inr, refl, sym, ap, subst, ◌∙◌}
use Rattle.lemmas.specs.Bools.{yes_or_no}
use Rattle.lemmas.specs.Numbers.{test_true, test_false}
use Rattle.pools.specs.Heap.{Setup}
use Rattle.colours.specs.declared.place.Place.TheVariants.{Word}
use Rattle.colours.specs.declared.turn.Turn.{Turn}
use Rattle.colours.specs.declared.turn.Turn.TheVariants.{PostStage, ReadStage, MarkFound, ReadColour, ScanWord, Blacken, ClearWord, Free}
use Rattle.colours.specs.Colours.{cycle_of}
use Rattle.colours.specs.Collector.{posted_of}
use Rattle.colours.specs.Mutator.{stage_of}
use Rattle.colours.specs.Steps.{Step, ReadWord, ReadOldValue, Mark, StoreAfterBarrier, StorePlain, Claim, ReadPosted, StoreStage, ReadPostedFirst, EnterStage, ReadPostedAgain, ask_of, turn_of, left_by}
use Rattle.colours.specs.Runs.{Event, ByThread, ByCollector, log_of, turns_of, puts, value_put, word_after}
use Rattle.heap_rule.specs.Shares.{own_log, other_log}
use Rattle.heap_table.specs.OwnWords.{last_put, clears, WroteLast}

-- a step that stores in no such word leaves it
left_alone : (thread stage : ℕ) (step : Step) (cell word m : ℕ) → puts step cell word ≡ false → left_by (ask_of thread stage step) (Word cell word) m ≡ m
left_alone thread stage (ReadWord c w v) cell word m e = refl
left_alone thread stage (ReadOldValue c w v) cell word m e = refl
left_alone thread stage (Mark c) cell word m e = refl
left_alone thread stage (StoreAfterBarrier c w v) cell word m e = rw e refl
left_alone thread stage (StorePlain c w v) cell word m e = rw e refl
left_alone thread stage (Claim c won) cell word m e = refl
left_alone thread stage (ReadPosted posted) cell word m e = refl
left_alone thread stage (StoreStage next roots) cell word m e = refl
left_alone thread stage (ReadPostedFirst posted) cell word m e = refl
left_alone thread stage (EnterStage next) cell word m e = refl
left_alone thread stage (ReadPostedAgain posted) cell word m e = refl

-- one that stores there leaves its value
left_put : (thread stage : ℕ) (step : Step) (cell word m : ℕ) → puts step cell word ≡ true → left_by (ask_of thread stage step) (Word cell word) m ≡ value_put step
left_put thread stage (StoreAfterBarrier c w v) cell word m e = rw e refl
left_put thread stage (StorePlain c w v) cell word m e = rw e refl
left_put thread stage _ cell word m e = absurd cc

-- a turn that does not clear the word leaves it
left_by_turn : (cycle : ℕ) (turn : Turn) (cell word m : ℕ) → clears turn cell word ≡ false → left_by (turn_of cycle turn) (Word cell word) m ≡ m
left_by_turn cycle (PostStage stage) cell word m e = refl
left_by_turn cycle (ReadStage t f) cell word m e = refl
left_by_turn cycle (MarkFound c f) cell word m e = refl
left_by_turn cycle (ReadColour c f) cell word m e = refl
left_by_turn cycle (ScanWord c w v) cell word m e = refl
left_by_turn cycle (Blacken c) cell word m e = refl
left_by_turn cycle (ClearWord c w) cell word m e = rw e refl
left_by_turn cycle (Free c) cell word m e = refl

-- a log that stored nothing there had no such step, before its last one either
never : (step : Step) (log : List Step) (cell word : ℕ) (b : Bool) → puts step cell word ≡ b → (if b then Some (value_put step) else last_put log cell word) ≡ None → (puts step cell word ≡ false) × (last_put log cell word ≡ None)
never step log cell word true is e = absurd cc
never step log cell word false is e = (is, e)

module _ (s : Setup) (thread cell word value : ℕ) where
  abbrev Holds : List Event → Type 0
  Holds run = WroteLast run thread cell word value → word_after s run (Word cell word) ≡ value

  -- a step of the thread itself
  by_itself : (step : Step) (run : List Event) → Holds run → Holds (ByThread thread step ∷ run)
  unfolding word_after
  by_itself step run before wrote = elim (yes_or_no (puts step cell word)) [
    | inl put ↦ left_put thread (stage_of (log_of thread run)) step cell word (word_after s run (Word cell word)) put ∙ stored put
    | inr none ↦ left_alone thread (stage_of (log_of thread run)) step cell word (word_after s run (Word cell word)) none ∙ before record {
      own = unstored none;
      others = λ other n. sym (ap (λ (l : List Step). last_put l cell word) (other_log other thread step run (λ e. n (sym e)))) ∙ wrote.others other n;
      uncleared = wrote.uncleared;
    }
  ]
    where
      own : last_put (step ∷ log_of thread run) cell word ≡ Some value
      own = sym (ap (λ (l : List Step). last_put l cell word) (own_log thread step run)) ∙ wrote.own

      stored : puts step cell word ≡ true → value_put step ≡ value
      stored put = let e : Some (value_put step) ≡ Some value = (rw put at own) in cc

      unstored : puts step cell word ≡ false → last_put (log_of thread run) cell word ≡ Some value
      unstored none = rw none at own

  -- a step of another thread
  by_another : (u : ℕ) (step : Step) (run : List Event) → u ≢ thread → Holds run → Holds (ByThread u step ∷ run)
  unfolding word_after
  by_another u step run n before wrote =
      left_alone u (stage_of (log_of u run)) step cell word (word_after s run (Word cell word)) theirs.0 ∙ before record {
        own = sym (ap (λ (l : List Step). last_put l cell word) (other_log thread u step run n)) ∙ wrote.own;
        others = others;
        uncleared = wrote.uncleared;
      }
    where
      theirs : (puts step cell word ≡ false) × (last_put (log_of u run) cell word ≡ None)
      theirs = never step (log_of u run) cell word (puts step cell word) refl (sym (ap (λ (l : List Step). last_put l cell word) (own_log u step run)) ∙ wrote.others u n)

      others : (other : ℕ) → other ≢ thread → last_put (log_of other run) cell word ≡ None
      others other m = elim (yes_or_no (u == other)) [
        | inl same ↦ subst (λ (t : ℕ). last_put (log_of t run) cell word ≡ None) (test_true u other same) theirs.1
        | inr apart ↦ sym (ap (λ (l : List Step). last_put l cell word) (other_log other u step run (test_false u other apart))) ∙ wrote.others other m
      ]

  pub holds_own : (run : List Event) → Holds run
  unfolding word_after
  holds_own [] wrote = absurd (let e : None ≡ Some value = wrote.own in cc)
  holds_own (ByThread u step ∷ run) wrote = elim (yes_or_no (u == thread)) [
    | inl same ↦ subst (λ (t : ℕ). Holds (ByThread t step ∷ run)) (sym (test_true u thread same)) (by_itself step run (holds_own run)) wrote
    | inr apart ↦ by_another u step run (test_false u thread apart) (holds_own run) wrote
  ]
  holds_own (ByCollector turn ∷ run) wrote = left_by_turn (cycle_of (posted_of (turns_of run))) turn cell word (word_after s run (Word cell word)) wrote.uncleared.0
      ∙ holds_own run record { own = wrote.own; others = wrote.others; uncleared = wrote.uncleared.1 }
