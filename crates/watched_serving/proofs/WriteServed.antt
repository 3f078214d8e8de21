-- A barriered store of a watched thread.
use Rattle.std.proofs.Common.{◌≡◌, ◌≢◌, ℕ, zero, suc, Bool, true, false, List, [], ◌∷◌, ◌++◌, if◌then◌else◌, refl, sym, ap, subst, ◌∙◌, arith, true≢false}
use Rattle.std.specs.Prelude.{IsFalse}
use Rattle.colours.specs.Colours.{is_async}
use Rattle.colours.specs.Steps.{Step, ReadOldValue, Mark, StoreAfterBarrier}
use Rattle.colours.specs.Mutator.{Ready, MarkingOld, MarkingNew, Writing, phase_of, stage_of}
use Rattle.colours.specs.Calls.{marks, marks_of_new}
use Rattle.lemmas.specs.Numbers.{test_no}
use Rattle.runs.specs.Machine.{WordValue, Action, Machine, Done}
use Rattle.runs.specs.Machine as machine
use Rattle.runs.specs.Moves.{ReadsOldValue, Marks, StoresAfterBarrier, null}
use Rattle.moves.specs.Kinds.{AnswersByKind}
use Rattle.heap_words.specs.Tokens.{Shared}
use Rattle.heap_table.specs.Holders.{Holder, MayCall, IsNow, with_log}
use Rattle.heap_table.specs.Writes.{Writes}
use Rattle.watched_serving.specs.Serving.{Serves, IsServed}
use Rattle.serving.proofs.UnderWay.{Under, Over, further, last}
use Rattle.watched_serving.proofs.UnderWay.{begins, ends}
use Rattle.serving.proofs.ReadServed.{at_most}

module _ (m : Machine) (start : m.State) (moves : ℕ) (t : Holder) (state : m.State) (v : Serves m start moves t state) (base : WordValue) (word new birth : ℕ)
    (ready : phase_of t.setup t.thread t.log ≡ Ready) (e : m.action state ≡ machine.Write base word (record { cell = new; birth = birth })) where
  abbrev action : Action
  action = machine.Write base word (record { cell = new; birth = birth })

  abbrev read_old : ℕ → List Step
  read_old old = marks old ++ (ReadOldValue base.cell word old ∷ t.log)

  -- the old value is read, and marked
  old_marked : (old : ℕ) → Under t.setup m t.thread start state action moves (read_old old) (MarkingNew base.cell word old) null
  old_marked zero = further t.setup m t.thread start state action moves t.log Ready _ (begins m start moves t state v action ready e)
      (ReadsOldValue base word null) (ReadOldValue base.cell word 0) refl tt (refl, refl) refl (MarkingNew base.cell word 0) refl refl
  old_marked (suc o) = further t.setup m t.thread start state action moves (ReadOldValue base.cell word (suc o) ∷ t.log) (MarkingOld base.cell word (suc o)) (record { cell = suc o; birth = 0 })
      (further t.setup m t.thread start state action moves t.log Ready _ (begins m start moves t state v action ready e)
      (ReadsOldValue base word (record { cell = suc o; birth = 0 })) (ReadOldValue base.cell word (suc o)) refl tt (refl, refl) refl (MarkingOld base.cell word (suc o)) (rw (test_no (suc o) 0 (λ z. omega arith)) refl) refl)
      (Marks (record { cell = suc o; birth = 0 })) (Mark (suc o)) refl refl refl tt (MarkingNew base.cell word (suc o)) refl refl

  stays : (old : ℕ) → stage_of (read_old old) ≡ stage_of t.log
  stays zero = refl
  stays (suc o) = refl

  -- the new value is stored where it needs no mark
  stored : (old : ℕ) → (IsFalse (is_async (stage_of t.log)) → new ≡ 0) → Over t.setup m t.thread start (m.after_answer state Done) (suc moves) (StoreAfterBarrier base.cell word new ∷ read_old old)
  stored old none = last t.setup m t.thread start state action moves (read_old old) (MarkingNew base.cell word old) null (old_marked old)
      (StoresAfterBarrier base word (record { cell = new; birth = birth })) (StoreAfterBarrier base.cell word new) refl
      (refl, refl, subst (λ (stage : ℕ). IsFalse (is_async stage) → new ≡ 0) (sym (stays old)) none) (refl, refl, refl) tt Ready refl refl

  -- and where it is marked first
  stored_marked : (old : ℕ) → IsFalse (is_async (stage_of t.log)) → new ≢ 0 → Over t.setup m t.thread start (m.after_answer state Done) (suc moves) (StoreAfterBarrier base.cell word new ∷ (Mark new ∷ read_old old))
  stored_marked old sync some = last t.setup m t.thread start state action moves (Mark new ∷ read_old old) (Writing base.cell word old new) null
      (further t.setup m t.thread start state action moves (read_old old) (MarkingNew base.cell word old) null (old_marked old)
      (Marks (record { cell = new; birth = birth })) (Mark new) refl (subst (λ (stage : ℕ). IsFalse (is_async stage)) (sym (stays old)) sync, some) refl tt (Writing base.cell word old new) refl refl)
      (StoresAfterBarrier base word (record { cell = new; birth = birth })) (StoreAfterBarrier base.cell word new) refl (refl, refl, refl) (refl, refl, refl) tt Ready refl refl

-- by the stage and the new value
pub written : (m : Machine) (start : m.State) (moves : ℕ) (t : Holder) (state : m.State) (v : Serves m start moves t state) (base : WordValue) (word new birth : ℕ)
    → phase_of t.setup t.thread t.log ≡ Ready → m.action state ≡ machine.Write base word (record { cell = new; birth = birth }) → (old : ℕ)
    → Over t.setup m t.thread start (m.after_answer state Done) (suc moves) (StoreAfterBarrier base.cell word new ∷ (marks_of_new (stage_of t.log) new ++ (marks old ++ (ReadOldValue base.cell word old ∷ t.log))))
written m start moves t state v base word zero birth ready e old = go (is_async (stage_of t.log))
  where
    go : (b : Bool) → Over t.setup m t.thread start (m.after_answer state Done) (suc moves) (StoreAfterBarrier base.cell word 0 ∷ ((if b then [] else []) ++ (marks old ++ (ReadOldValue base.cell word old ∷ t.log))))
    go true = stored m start moves t state v base word 0 birth ready e old (λ f. refl)
    go false = stored m start moves t state v base word 0 birth ready e old (λ f. refl)
written m start moves t state v base word (suc n) birth ready e old = go (is_async (stage_of t.log)) refl
  where
    go : (b : Bool) → is_async (stage_of t.log) ≡ b → Over t.setup m t.thread start (m.after_answer state Done) (suc moves) (StoreAfterBarrier base.cell word (suc n) ∷ ((if b then [] else Mark (suc n) ∷ []) ++ (marks old ++ (ReadOldValue base.cell word old ∷ t.log))))
    go true a = stored m start moves t state v base word (suc n) birth ready e old (λ f. absurd (true≢false (sym a ∙ f)))
    go false a = stored_marked m start moves t state v base word (suc n) birth ready e old a (λ z. omega arith)

-- the log after a write
abbrev write_log : List Step → (cell word new old : ℕ) → List Step
write_log log cell word new old = StoreAfterBarrier cell word new ∷ (marks_of_new (stage_of log) new ++ (marks old ++ (ReadOldValue cell word old ∷ log)))

pub write_served : (m : Machine) (heap : Shared) (t : Holder) (state : m.State) (call : MayCall heap t) (base value : WordValue) (word cell new : ℕ) (after : Holder)
    → cell ≡ base.cell → new ≡ value.cell → m.action state ≡ machine.Write base word value
    → IsNow t after.log after → MayCall heap after → Writes (stage_of t.log) cell word new t.log after.log → IsServed m heap t state after Done
write_served m heap t state call base value word cell new after number same e now ready_then writes = record {
  token = now;
  ready = ready_then;
  goes = λ start moves v. ends m start (suc moves) t after _ (suc moves) (at_most _) (write_log t.log base.cell word value.cell writes.0) is (written m start moves t state v base word value.cell value.birth call.ready e writes.0);
  by_kind = subst (λ (a : Action). AnswersByKind t.setup a Done) (sym e) tt;
}
  where
    is : IsNow t (write_log t.log base.cell word value.cell writes.0) after
    is = now ∙ (ap (with_log t) writes.1 ∙ (ap (λ (c : ℕ). with_log t (write_log t.log c word new writes.0)) number ∙ ap (λ (n : ℕ). with_log t (write_log t.log base.cell word n writes.0)) same))
