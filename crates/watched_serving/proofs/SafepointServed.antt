-- A safepoint of a watched thread: the look, the marks of the roots, and the answer.
use Rattle.std.proofs.Common.{◌≡◌, ◌≢◌, ℕ, zero, suc, Bool, true, false, Option, Some, None, List, [], ◌∷◌, ◌++◌, length, reverse, if◌then◌else◌, refl, sym, ap, subst, ◌∙◌, append_assoc, length-append, arith, true≢false}
use Rattle.std.specs.Prelude.{IsTrue, slice_get}
use Rattle.colours.specs.Colours.{done, is_async}
use Rattle.colours.specs.Steps.{Step, Mark, ReadPosted, StoreStage}
use Rattle.colours.specs.Mutator.{Ready, Answering, non_null, phase_of, stage_of}
use Rattle.lemmas.specs.Numbers.{test_yes, test_no}
use Rattle.runs.specs.Machine.{WordValue, Action, Machine, Answered}
use Rattle.runs.specs.Machine as machine
use Rattle.runs.specs.Moves.{ReadsPosted, Marks, StoresStage, null, cells_of}
use Rattle.moves.specs.Kinds.{AnswersByKind}
use Rattle.moves.specs.Moving.{not_null}
use Rattle.heap_words.specs.Tokens.{Shared}
use Rattle.heap_table.specs.Holders.{Holder, MayCall, IsNow, with_log}
use Rattle.heap_table.specs.Safepoints.{with_marks, before_answer, pushed, turned}
use Rattle.watched_serving.specs.Serving.{Serves, IsServed}
use Rattle.watched.specs.Answers.{Answers}
use Rattle.serving.proofs.UnderWay.{Under, Over, further, last}
use Rattle.watched_serving.proofs.UnderWay.{begins, ends}
use Rattle.serving.proofs.ReadServed.{at_most}

-- what comes after that number
after_front : (front : List WordValue) (r : WordValue) (rest : List WordValue) (n : ℕ) → n ≡ length front → slice_get (front ++ (r ∷ rest)) n ≡ Some r
after_front [] r rest zero e = refl
after_front [] r rest (suc n) e = absurd (omega arith)
after_front (q ∷ front) r rest zero e = absurd (omega arith)
after_front (q ∷ front) r rest (suc n) e = after_front front r rest n (omega arith)

one_more : (front : List WordValue) (r : WordValue) (rest : List WordValue) → front ++ (r ∷ rest) ≡ (front ++ r ∷ []) ++ rest
one_more front r rest = sym (append_assoc front (r ∷ []) rest)

longer : (front : List WordValue) (r : WordValue) → length (front ++ r ∷ []) ≡ suc (length front)
longer front r = omega (arith, length-append front (r ∷ []))

module _ (m : Machine) (start : m.State) (moves : ℕ) (t : Holder) (state : m.State) (posted : ℕ) (async : IsTrue (is_async posted)) where
  -- after the first roots, the marks of the rest lead on
  abbrev Marked : List WordValue → Type 0
  Marked rest = (front : List WordValue) (log : List Step) (made : List ℕ) (old : WordValue) → not_null (m.roots state) ≡ front ++ not_null rest → length made ≡ length front
      → Under t.setup m t.thread start state machine.Safepoint moves log (Answering posted made) old
      → (last_old : WordValue) × Under t.setup m t.thread start state machine.Safepoint moves (with_marks (cells_of rest) log) (Answering posted (pushed (cells_of rest) made)) last_old

  one_root : (cell birth : ℕ) (rest : List WordValue) → Marked rest → Marked (record { cell = cell; birth = birth } ∷ rest)
  one_root zero birth rest next front log made old all same u = next front log made old all same u
  one_root (suc cell) birth rest next front log made old all same u = next (front ++ q ∷ []) (Mark (suc cell) ∷ log) (suc cell ∷ made) null (parts ∙ one_more front q (not_null rest)) (let n = longer front q in omega arith)
      (further t.setup m t.thread start state machine.Safepoint moves log (Answering posted made) old u (Marks q) (Mark (suc cell)) refl (async, λ z. omega arith)
      (ap (λ (l : List WordValue). slice_get l (length made)) parts ∙ after_front front q (not_null rest) (length made) same) tt (Answering posted (suc cell ∷ made)) refl refl)
    where
      q : WordValue
      q = record { cell = suc cell; birth = birth }

      parts : not_null (m.roots state) ≡ front ++ (q ∷ not_null rest)
      parts = all ∙ rw (test_no (suc cell) 0 (λ z. omega arith)) refl

  marked : (rest : List WordValue) → Marked rest
  marked [] front log made old all same u = (old, u)
  marked (r ∷ rest) front log made old all same u = one_root r.cell r.birth rest (marked rest) front log made old all same u

module _ (m : Machine) (start : m.State) (moves : ℕ) (t : Holder) (state : m.State) (v : Serves m start moves t state) (ready : phase_of t.setup t.thread t.log ≡ Ready) (e : m.action state ≡ machine.Safepoint) (posted : ℕ) where
  -- no other stage is posted
  kept : posted ≡ stage_of t.log → Over t.setup m t.thread start (m.after_answer state (Answered None)) (suc moves) (ReadPosted posted ∷ t.log)
  kept same = last t.setup m t.thread start state machine.Safepoint moves t.log Ready _ (begins m start moves t state v machine.Safepoint ready e)
      (ReadsPosted posted) (ReadPosted posted) refl tt tt tt Ready (rw (test_yes posted (stage_of t.log) same) refl) refl

  looked : posted ≢ stage_of t.log → Under t.setup m t.thread start state machine.Safepoint moves (ReadPosted posted ∷ t.log) (Answering posted []) null
  looked other = further t.setup m t.thread start state machine.Safepoint moves t.log Ready _ (begins m start moves t state v machine.Safepoint ready e)
      (ReadsPosted posted) (ReadPosted posted) refl tt tt tt (Answering posted []) (rw (test_no posted (stage_of t.log) other) refl) refl

  stores : (log : List Step) (made : List ℕ) (old : WordValue) → Under t.setup m t.thread start state machine.Safepoint moves log (Answering posted made) old
      → (IsTrue (is_async posted) → reverse made ≡ non_null (cells_of (m.roots state))) → posted ≢ done
      → Over t.setup m t.thread start (m.after_answer state (Answered (Some posted))) (suc moves) (StoreStage posted (cells_of (m.roots state)) ∷ log)
  stores log made old u named running = last t.setup m t.thread start state machine.Safepoint moves log (Answering posted made) old u
      (StoresStage posted (m.roots state)) (StoreStage posted (cells_of (m.roots state))) refl (refl, named) refl tt Ready (rw (test_no posted done running) refl) refl

  -- the roots are marked where the stage is async, and the stage is answered
  answered : posted ≢ stage_of t.log → posted ≢ done
      → Over t.setup m t.thread start (m.after_answer state (Answered (Some posted))) (suc moves) (StoreStage posted (cells_of (m.roots state)) ∷ before_answer posted (cells_of (m.roots state)) (ReadPosted posted ∷ t.log))
  answered other running = go (is_async posted) refl
    where
      go : (b : Bool) → is_async posted ≡ b → Over t.setup m t.thread start (m.after_answer state (Answered (Some posted))) (suc moves)
          (StoreStage posted (cells_of (m.roots state)) ∷ (if b then with_marks (cells_of (m.roots state)) (ReadPosted posted ∷ t.log) else (ReadPosted posted ∷ t.log)))
      go true a = let all = marked m start moves t state posted a (m.roots state) [] (ReadPosted posted ∷ t.log) [] null refl refl (looked other) in
          stores (with_marks (cells_of (m.roots state)) (ReadPosted posted ∷ t.log)) (pushed (cells_of (m.roots state)) []) all.0 all.1 (λ x. turned (cells_of (m.roots state)) []) running
      go false a = stores (ReadPosted posted ∷ t.log) [] null (looked other) (λ x. absurd (true≢false (sym x ∙ a))) running

-- the log after an answer
abbrev answer_log : List Step → (posted : ℕ) → List ℕ → List Step
answer_log log posted roots = StoreStage posted roots ∷ before_answer posted roots (ReadPosted posted ∷ log)

module _ (m : Machine) (heap : Shared) (t : Holder) (state : m.State) (call : MayCall heap t) (e : m.action state ≡ machine.Safepoint) where
  safepoint_kept : (after : Holder) → IsNow t (ReadPosted (stage_of t.log) ∷ t.log) after → MayCall heap after → IsServed m heap t state after (Answered None)
  safepoint_kept after now ready_then = record {
    token = now ∙ ap (with_log t) (sym (ap (λ (x : Holder). x.log) now));
    ready = ready_then;
    goes = λ start moves v. ends m start (suc moves) t after _ (suc moves) (at_most _) (ReadPosted (stage_of t.log) ∷ t.log) now (kept m start moves t state v call.ready e (stage_of t.log) refl);
    by_kind = subst (λ (a : Action). AnswersByKind t.setup a (Answered None)) (sym e) tt;
  }

  safepoint_answered : (after : Holder) (posted : ℕ) → posted ≢ stage_of t.log → IsNow t (answer_log t.log posted (cells_of (m.roots state))) after → MayCall heap after → IsServed m heap t state after (Answered (Some posted))
  safepoint_answered after posted other now ready_then = record {
    token = now ∙ ap (with_log t) (sym (ap (λ (x : Holder). x.log) now));
    ready = ready_then;
    goes = λ start moves v. ends m start (suc moves) t after _ (suc moves) (at_most _) (answer_log t.log posted (cells_of (m.roots state))) now
        (answered m start moves t state v call.ready e posted other (λ d. ready_then.running (ap (λ (x : Holder). stage_of x.log) now ∙ d)));
    by_kind = subst (λ (a : Action). AnswersByKind t.setup a (Answered (Some posted))) (sym e) tt;
  }

  -- by what was answered
  pub safepoint_served : (after : Holder) (roots : List ℕ) (given : Option ℕ) → roots ≡ cells_of (m.roots state) → IsNow t after.log after → Answers (stage_of t.log) roots t.log given after.log → MayCall heap after
      → IsServed m heap t state after (Answered given)
  safepoint_served after roots None are now a ready_then = safepoint_kept after (now ∙ ap (with_log t) a) ready_then
  safepoint_served after roots (Some posted) are now a ready_then =
      safepoint_answered after posted a.0 (now ∙ (ap (with_log t) a.1 ∙ ap (λ (r : List ℕ). with_log t (answer_log t.log posted r)) are)) ready_then
