-- An allocation of a watched thread: each try is a move, and so is the answer null of a layout with no cell.
use Rattle.std.proofs.Common.{◌≡◌, ◌≢◌, ℕ, zero, suc, ◌<◌, inl, inr, ◌⊎◌, Bool, true, false, List, [], ◌∷◌, ◌++◌, length, slice_index, refl, sym, ap, subst, ◌∙◌, arith}
use Rattle.pools.specs.Heap.{Setup, IsOfLayout}
use Rattle.colours.specs.Steps.{Step, Claim}
use Rattle.colours.specs.Mutator.{Phase, Ready, Trying, phase_of, phase_after, stage_of, after_loss, MayFollow}
use Rattle.lemmas.specs.Numbers.{test_yes, test_no}
use Rattle.runs.specs.Machine.{WordValue, Action, Machine, Got}
use Rattle.runs.specs.Machine as machine
use Rattle.runs.specs.Moves.{Claims, null, AsksFor}
use Rattle.moves.specs.Kinds.{AnswersByKind}
use Rattle.heap_words.specs.Tokens.{Shared}
use Rattle.heap_table.specs.Holders.{Holder, MayCall, IsNow, with_log}
use Rattle.heap_table.specs.Allocs.{AreOfPool, Allocates, lost}
use Rattle.watched_serving.specs.Serving.{Serves, IsServed}
use Rattle.serving.proofs.UnderWay.{Under, Over, further, last, works}
use Rattle.watched_serving.proofs.UnderWay.{begins, ends}
use Rattle.serving.proofs.ReadServed.{at_most}
use Rattle.serving.proofs.AllocServed.{no_cell}
use Rattle.serving.proofs.PoolSizes.{no_more}

-- where a thread stands after tries of these cells that were lost, if a cell is left
abbrev call_phase : List ℕ → Phase
call_phase [] = Ready
call_phase (cell ∷ cells) = Trying (cell ∷ cells)

module _ (s : Setup) (layout : ℕ) where
  follows : (cells : List ℕ) (stage cell : ℕ) (won : Bool) → AreOfPool s layout (cell ∷ cells) → MayFollow s stage (call_phase cells) (Claim cell won)
  follows [] stage cell won are = (are.0.0, are.0.1)
  follows (c ∷ cells) stage cell won are = (subst (λ (l : ℕ). IsOfLayout s l cell) (sym are.2.0.2) are.0, are.1)

  asks : (roots : List WordValue) (old : WordValue) (cells : List ℕ) (cell : ℕ) (won : Bool) → IsOfLayout s layout cell
      → AsksFor s roots old (machine.Alloc layout) (call_phase cells) (Claims (record { cell = cell; birth = 0 }) won)
  asks roots old [] cell won o = o
  asks roots old (c ∷ cells) cell won o = o

  lost_then : (cells : List ℕ) (stage cell : ℕ) → phase_after s stage (call_phase cells) (Claim cell false) ≡ after_loss s cells cell
  lost_then [] stage cell = refl
  lost_then (c ∷ cells) stage cell = refl

  won_then : (cells : List ℕ) (stage cell : ℕ) → phase_after s stage (call_phase cells) (Claim cell true) ≡ Ready
  won_then [] stage cell = refl
  won_then (c ∷ cells) stage cell = refl

  one_left : (cells : List ℕ) (cell : ℕ) → IsOfLayout s layout cell → suc (length cells) ≢ slice_index s.pools layout → after_loss s cells cell ≡ Trying (cell ∷ cells)
  one_left cells cell o n = rw (o.2, test_no (suc (length cells)) (slice_index s.pools layout) n) refl

  none_left : (cells : List ℕ) (cell : ℕ) → IsOfLayout s layout cell → suc (length cells) ≡ slice_index s.pools layout → after_loss s cells cell ≡ Ready
  none_left cells cell o e = rw (o.2, test_yes (suc (length cells)) (slice_index s.pools layout) e) refl

module _ (m : Machine) (start : m.State) (moves : ℕ) (t : Holder) (state : m.State) (v : Serves m start moves t state) (layout : ℕ) (ready : phase_of t.setup t.thread t.log ≡ Ready) (e : m.action state ≡ machine.Alloc layout) where
  -- after lost tries, while a cell is left
  all_lost : (cells : List ℕ) → AreOfPool t.setup layout cells → length cells < slice_index t.setup.pools layout
      → (old : WordValue) × Under t.setup m t.thread start state (machine.Alloc layout) moves (lost cells ++ t.log) (call_phase cells) old
  all_lost [] are few = (_, begins m start moves t state v (machine.Alloc layout) ready e)
  all_lost (cell ∷ cells) are few = let before = all_lost cells are.2 (omega arith) in (
    null,
    further t.setup m t.thread start state (machine.Alloc layout) moves (lost cells ++ t.log) (call_phase cells) before.0 before.1
        (Claims (record { cell = cell; birth = 0 }) false) (Claim cell false) refl
        (follows t.setup layout cells (stage_of (lost cells ++ t.log)) cell false are)
        (asks t.setup layout (m.roots state) before.0 cells cell false are.0) refl (Trying (cell ∷ cells))
        (lost_then t.setup layout cells (stage_of (lost cells ++ t.log)) cell ∙ one_left t.setup layout cells cell are.0 (λ z. omega arith)) refl,
  )

  -- each cell was tried
  none_won : (cells : List ℕ) → AreOfPool t.setup layout cells → length cells ≡ slice_index t.setup.pools layout
      → Over t.setup m t.thread start (m.after_answer state (Got null)) (suc moves) (lost cells ++ t.log)
  none_won [] are all = works t.setup m t.thread start state (machine.Alloc layout) moves t.log _ (begins m start moves t state v (machine.Alloc layout) ready e) (sym all)
  none_won (cell ∷ cells) are all = let before = all_lost cells are.2 (omega arith) in
      last t.setup m t.thread start state (machine.Alloc layout) moves (lost cells ++ t.log) (call_phase cells) before.0 before.1
      (Claims (record { cell = cell; birth = 0 }) false) (Claim cell false) refl
      (follows t.setup layout cells (stage_of (lost cells ++ t.log)) cell false are)
      (asks t.setup layout (m.roots state) before.0 cells cell false are.0) refl Ready
      (lost_then t.setup layout cells (stage_of (lost cells ++ t.log)) cell ∙ none_left t.setup layout cells cell are.0 all) refl

  -- the last try won
  one_won : (cell : ℕ) (cells : List ℕ) → AreOfPool t.setup layout (cell ∷ cells)
      → Over t.setup m t.thread start (m.after_answer state (Got (record { cell = cell; birth = 0 }))) (suc moves) (Claim cell true ∷ (lost cells ++ t.log))
  one_won cell cells are = let few = no_more t.setup layout (cell ∷ cells) are in let before = all_lost cells are.2 (omega (arith, few)) in
      last t.setup m t.thread start state (machine.Alloc layout) moves (lost cells ++ t.log) (call_phase cells) before.0 before.1
      (Claims (record { cell = cell; birth = 0 }) true) (Claim cell true) refl
      (follows t.setup layout cells (stage_of (lost cells ++ t.log)) cell true are)
      (asks t.setup layout (m.roots state) before.0 cells cell true are.0) refl Ready
      (won_then t.setup layout cells (stage_of (lost cells ++ t.log)) cell) refl

  -- by the result
  allocated : (result : ℕ) (after : Holder) → IsNow t after.log after → Allocates t.setup layout t.log result after.log
      → Serves m start (suc moves) after (m.after_answer state (Got (record { cell = result; birth = 0 })))
  allocated zero after now a = ends m start (suc moves) t after _ (suc moves) (at_most _) (lost a.0 ++ t.log) (now ∙ ap (with_log t) a.3) (none_won a.0 a.1 a.2)
  allocated (suc cell) after now a = ends m start (suc moves) t after _ (suc moves) (at_most _) (Claim (suc cell) true ∷ (lost a.0 ++ t.log)) (now ∙ ap (with_log t) a.2) (one_won (suc cell) a.0 a.1)

-- null, or a cell of the layout
of_layout : (s : Setup) (layout : ℕ) (log after : List Step) (result : ℕ) → Allocates s layout log result after → (result ≡ 0) ⊎ IsOfLayout s layout result
of_layout s layout log after zero a = inl refl
of_layout s layout log after (suc cell) a = inr a.1.0

alloc_served : (m : Machine) (heap : Shared) (t : Holder) (state : m.State) (call : MayCall heap t) (layout result told : ℕ) (after : Holder) → m.action state ≡ machine.Alloc layout
    → told ≡ result → IsNow t after.log after → MayCall heap after → Allocates t.setup layout t.log result after.log → IsServed m heap t state after (Got (record { cell = told; birth = 0 }))
alloc_served m heap t state call layout result told after e same now ready_then a = subst (λ (n : ℕ). IsServed m heap t state after (Got (record { cell = n; birth = 0 }))) (sym same) record {
  token = now;
  ready = ready_then;
  goes = λ start moves v. allocated m start moves t state v layout call.ready e result after now a;
  by_kind = subst (λ (x : Action). AnswersByKind t.setup x (Got (record { cell = result; birth = 0 }))) (sym e) (of_layout t.setup layout t.log after.log result a);
}

-- also where the layout has no cell
pub alloc_answered : (m : Machine) (heap : Shared) (t : Holder) (state : m.State) (call : MayCall heap t) (layout result told : ℕ) (after : Holder) → m.action state ≡ machine.Alloc layout → told ≡ result → MayCall heap after
    → (slice_index t.setup.pools layout ≡ 0 → (result ≡ 0) × (after ≡ t)) → (slice_index t.setup.pools layout ≢ 0 → IsNow t after.log after × Allocates t.setup layout t.log result after.log)
    → IsServed m heap t state after (Got (record { cell = told; birth = 0 }))
alloc_answered m heap t state call layout result told after e same ready_then none some = go (slice_index t.setup.pools layout) refl
  where
    go : (count : ℕ) → slice_index t.setup.pools layout ≡ count → IsServed m heap t state after (Got (record { cell = told; birth = 0 }))
    go zero empty =
        let nothing = none empty in
        subst (λ (x : Holder). IsServed m heap t state x (Got (record { cell = told; birth = 0 }))) (sym nothing.1)
        (alloc_served m heap t state call layout 0 told t e (same ∙ nothing.0) refl call (no_cell t.setup layout t.log empty))
    go (suc count) filled = let is = some (λ z. omega (arith, z, filled)) in alloc_served m heap t state call layout result told after e same is.0 ready_then is.1
