-- A step that comes next leads the code to where it leads the order.
use Rattle.std.proofs.Common.{◌≡◌, ◌≢◌, ◌⊎◌, inl, inr, ℕ, zero, suc, ◌+◌, ◌-◌, ◌<◌, ◌≤◌, ◌==◌, nat_lt, Bool, true, false, List, [], ◌∷◌, ◌++◌, length, get_or, refl, sym, ap, ◌∙◌, subst, if◌then◌else◌, arith, IsTrue, sum}
use Rattle.std.specs.Prelude.{◌↔◌, reverse, replicate, slice_set, slice_index, slice_index_or}
use Rattle.std.proofs.lemmas.List.{reverse-append}
use Rattle.std.proofs.Math.ListN.{length-set}
use Rattle.std.proofs.lemmas.List.{get_or-set_same, get_or-set_other}
use Rattle.lemmas.specs.Numbers.{test_true, test_false, test_yes, test_no, lt_true, lt_false, lt_yes, lt_no}
use Rattle.lemmas.specs.Bools.{yes_or_no}
use Rattle.lemmas.specs.Lists.{IsIn, sum_cons, length_replicate}
use Rattle.pools.specs.Heap.{Setup, cells, layout_of, layout_at, is_late}
use Rattle.colours.specs.Colours.{done}
use Rattle.colours.specs.Steps.{Step, ReadWord, ReadOldValue, Mark, StoreAfterBarrier, StorePlain, Claim, ReadPosted, StoreStage, ReadPostedFirst, EnterStage, ReadPostedAgain}
use Rattle.colours.specs.Mutator as order
use Rattle.colours.specs.Mutator.{MayFollow, MayTry, stage_of, phase_of, phase_after, after_loss}
use Rattle.watch.specs.CellSets.{has}
use Rattle.thread_order.specs.declared.at.At.{At}
use Rattle.thread_order.specs.declared.at.At.TheVariants.{Ready, MarkingOld, MarkingNew, Writing, Trying, Answering, Ended, Absent, Arriving, Entering, Leaving}
use Rattle.thread_order.specs.Standings.{Standing, phase_at, HasTried, IsInPhase}
use Rattle.thread_order.specs.Follows.{with_at, is_trying, with_request, tried_too, after_try, after_mark, after_store, after_claim, stands_from, stands_after, MayLose}
use Rattle.thread_order.specs.Orders.{Stands}

-- ---- the tries

-- the pool of a cell has one
some_cells : (pools : List ℕ) (place : ℕ) → place < sum pools → 0 < slice_index pools (layout_at pools place)
some_cells [] place lt = absurd (omega arith)
some_cells (count ∷ pools) place lt = let k = sum_cons count pools in elim (yes_or_no (nat_lt place count)) [
  | inl e ↦ let x = lt_true _ _ e in rw e (omega (arith, x))
  | inr e ↦ let x = lt_false _ _ e in rw e (some_cells pools (place - count) (omega (arith, k, x)))
]

pub has_pool : (s : Setup) (cell : ℕ) → 0 < cell → cell < cells s → 0 < slice_index s.pools (layout_of s cell)
unfolding layout_of
has_pool s cell first lt = some_cells s.pools (cell - 1) (omega arith)

-- the set with one cell more
more_set : (set : List Bool) (cell : ℕ) (tried : List ℕ) → cell < length set → ((c : ℕ) → IsTrue (has set c) ↔ IsIn c tried) → (c : ℕ) → IsTrue (has (slice_set set cell true) c) ↔ IsIn c (cell ∷ tried)
more_set set cell tried lt h c = elim (yes_or_no (c == cell)) [
  | inl e ↦ let same : c ≡ cell = test_true c cell e in (λ t. inl same, λ x. rw same (get_or-set_same set cell true false lt))
  | inr e ↦ let ne = test_false c cell e in let other : has (slice_set set cell true) c ≡ has set c = get_or-set_other set cell c true false ne in (
    λ t. inr ((h c).0 (sym other ∙ t)),
    λ x. elim x [ inl same ↦ absurd (ne same) | inr later ↦ other ∙ (h c).1 later ],
  )
]

no_cell : (n c : ℕ) → has (replicate n false) c ≡ false
no_cell zero c = refl
no_cell (suc n) zero = refl
no_cell (suc n) (suc c) = no_cell n c

empty_set : (n : ℕ) (c : ℕ) → IsTrue (has (replicate n false) c) ↔ IsIn c []
empty_set n c = (λ t. absurd (let e = no_cell n c in cc), λ x. absurd x)

-- a lost try: of this list, or of the first cell
tries : (v : Standing) (tried : List ℕ) (cell : ℕ) → length v.is_tried ≡ cells v.heap → (0 < cell) × (cell < cells v.heap) → ((c : ℕ) → IsTrue (has v.is_tried c) ↔ IsIn c tried)
    → layout_of v.heap cell ≡ v.pool → ((c : ℕ) → IsIn c tried → layout_of v.heap c ≡ v.pool) → length tried + v.left ≡ slice_index v.heap.pools v.pool → 0 < v.left
    → (w : Standing) → w ≡ record v { left = v.left - 1; is_tried = slice_set v.is_tried cell true } → IsInPhase (after_try w) (after_try w).at (after_loss v.heap tried cell)
tries v tried cell long is set here pool left more w e = rw e (elim (yes_or_no (v.left - 1 == 0)) [
  | inl z ↦ let k = test_true _ _ z in let all : (length (cell ∷ tried) == slice_index v.heap.pools (layout_of v.heap cell)) ≡ true = rw here (test_yes _ _ (omega (arith, left, k, more))) in rw (z, all) refl
  | inr z ↦ let k = test_false _ _ z in let not_all : (length (cell ∷ tried) == slice_index v.heap.pools (layout_of v.heap cell)) ≡ false = rw here (test_no _ _ (λ (x : suc (length tried) ≡ slice_index v.heap.pools v.pool). omega (arith, left, k, more))) in
      rw (z, not_all) (
        cell ∷ tried,
        refl,
        record {
          left = omega (arith, left, more);
          more = omega (arith, k);
          some = λ x. absurd cc;
          pool = λ c x. elim x [ inl same ↦ rw same here | inr later ↦ pool c later ];
          set = more_set v.is_tried cell tried (omega (arith, long, is.1)) set;
        },
      )
])

loses : (v : Standing) (at : At) (phase : order.Phase) (cell : ℕ) → length v.is_tried ≡ cells v.heap → IsInPhase v at phase → MayFollow v.heap v.stage phase (Claim cell false)
    → IsInPhase (after_try (tried_too v (is_trying at) cell)) (after_try (tried_too v (is_trying at) cell)).at (phase_after v.heap v.stage phase (Claim cell false))
loses v Ready phase cell long e m =
    let k : (0 < cell) × (cell < cells v.heap) = rw e at m in
    rw e (tries (record v { pool = layout_of v.heap cell; left = slice_index v.heap.pools (layout_of v.heap cell); is_tried = replicate (length v.is_tried) false }) [] cell (length_replicate (length v.is_tried) false ∙ long) k
    (empty_set (length v.is_tried)) refl (λ c x. absurd x) (omega arith) (has_pool v.heap cell k.0 k.1) (tried_too v false cell) refl)
loses v Trying phase cell long e m = rw (e.1) (go e.0 e.2 (rw (e.1) at m))
  where
    go : (tried : List ℕ) → HasTried v tried → MayTry v.heap tried cell → IsInPhase (after_try (tried_too v true cell)) (after_try (tried_too v true cell)).at (after_loss v.heap tried cell)
    go [] h k = absurd (h.some refl)
    go (last ∷ rest) h k = tries v (last ∷ rest) cell long (k.0.0, k.0.1) h.set (k.0.2 ∙ h.pool last (inl refl)) h.pool h.left h.more (tried_too v true cell) refl
loses v (MarkingOld c w o) phase cell long e m = absurd (rw e at m)
loses v (MarkingNew c w o) phase cell long e m = absurd (rw e at m)
loses v (Writing c w o n) phase cell long e m = absurd (rw e at m)
loses v (Answering stage) phase cell long e m = absurd (rw e at m)
loses v Ended phase cell long e m = absurd (rw e at m)
loses v Absent phase cell long e m = absurd (rw e at m)
loses v (Arriving stage) phase cell long e m = absurd (rw e at m)
loses v Entering phase cell long e m = absurd (rw e at m)
loses v Leaving phase cell long e m = absurd (rw e at m)

-- ---- the other steps

abbrev Leads : Standing → At → order.Phase → Step → Type 0
Leads v at phase step = IsInPhase (stands_from v at step) (stands_from v at step).at (phase_after v.heap v.stage phase step)

marks : (v : Standing) (at : At) (phase : order.Phase) (c : ℕ) → IsInPhase v at phase → Leads v at phase (Mark c)
marks v Ready phase c e = rw e refl
marks v (MarkingOld cell word old) phase c e = rw e refl
marks v (MarkingNew cell word old) phase c e = rw e refl
marks v (Writing cell word old new) phase c e = rw e refl
marks v Trying phase c e = rw (e.1) refl
marks v (Answering stage) phase c e = rw e (ap (order.Answering stage) (sym (reverse-append v.marked (c ∷ []))))
marks v Ended phase c e = rw e refl
marks v Absent phase c e = rw e refl
marks v (Arriving stage) phase c e = rw e refl
marks v Entering phase c e = rw e refl
marks v Leaving phase c e = rw e refl

-- after the store of a stage by a thread that does not leave
stored : (v : Standing) (next : ℕ) → IsInPhase v (if next == done then Ended else Ready) (if next == done then order.Ended else order.Ready)
stored v next = elim (yes_or_no (next == done)) [ inl z ↦ rw z refl | inr z ↦ rw z refl ]

stores : (v : Standing) (at : At) (phase : order.Phase) (next : ℕ) (roots : List ℕ) → IsInPhase v at phase → Leads v at phase (StoreStage next roots)
stores v Ready phase next roots e = rw e (stored (stands_from v Ready (StoreStage next roots)) next)
stores v (MarkingOld cell word old) phase next roots e = rw e (stored (stands_from v Ready (StoreStage next roots)) next)
stores v (MarkingNew cell word old) phase next roots e = rw e (stored (stands_from v Ready (StoreStage next roots)) next)
stores v (Writing cell word old new) phase next roots e = rw e (stored (stands_from v Ready (StoreStage next roots)) next)
stores v Trying phase next roots e = rw (e.1) (stored (stands_from v Ready (StoreStage next roots)) next)
stores v (Answering stage) phase next roots e = rw e (stored (stands_from v Ready (StoreStage next roots)) next)
stores v Ended phase next roots e = rw e (stored (stands_from v Ready (StoreStage next roots)) next)
stores v Absent phase next roots e = rw e (stored (stands_from v Ready (StoreStage next roots)) next)
stores v (Arriving stage) phase next roots e = rw e (stored (stands_from v Ready (StoreStage next roots)) next)
stores v Entering phase next roots e = rw e (stored (stands_from v Ready (StoreStage next roots)) next)
stores v Leaving phase next roots e = rw e refl

leads : (v : Standing) (at : At) (phase : order.Phase) (step : Step) → length v.is_tried ≡ cells v.heap → IsInPhase v at phase → MayFollow v.heap v.stage phase step → Leads v at phase step
leads v at phase (ReadWord cell word value) long e m = refl
leads v at phase (ReadOldValue cell word value) long e m = elim (yes_or_no (value == 0)) [ inl z ↦ rw z refl | inr z ↦ rw z refl ]
leads v at phase (Mark c) long e m = marks v at phase c e
leads v at phase (StoreAfterBarrier cell word value) long e m = refl
leads v at phase (StorePlain cell word value) long e m = refl
leads v at phase (Claim cell true) long e m = refl
leads v at phase (Claim cell false) long e m = loses v at phase cell long e m
leads v at phase (ReadPosted posted) long e m = elim (yes_or_no (posted == v.stage)) [ inl z ↦ rw z refl | inr z ↦ rw z refl ]
leads v at phase (StoreStage next roots) long e m = stores v at phase next roots e
leads v at phase (ReadPostedFirst posted) long e m = refl
leads v at phase (EnterStage next) long e m = refl
leads v at phase (ReadPostedAgain posted) long e m = elim (yes_or_no (posted == v.stage)) [ inl z ↦ rw z refl | inr z ↦ rw z refl ]

-- the numbers after a step
heap_kept : (v : Standing) (at : At) (step : Step) → (stands_from v at step).heap ≡ v.heap
heap_kept v at (Mark c) = marked at
  where
    marked : (at : At) → (after_mark v at c).heap ≡ v.heap
    marked (MarkingOld cell word old) = refl
    marked (MarkingNew cell word old) = refl
    marked (Answering stage) = refl
    marked _ = refl
heap_kept v at (Claim cell true) = refl
heap_kept v at (Claim cell false) = tried (is_trying at)
  where
    tried : (b : Bool) → (tried_too v b cell).heap ≡ v.heap
    tried true = refl
    tried false = refl
heap_kept v at (ReadPosted posted) = elim (yes_or_no (posted == v.stage)) [ inl z ↦ rw z refl | inr z ↦ rw z refl ]
heap_kept v at _ = refl

set_kept : (v : Standing) (at : At) (step : Step) → length (stands_from v at step).is_tried ≡ length v.is_tried
set_kept v at (Mark c) = marked at
  where
    marked : (at : At) → length (after_mark v at c).is_tried ≡ length v.is_tried
    marked (MarkingOld cell word old) = refl
    marked (MarkingNew cell word old) = refl
    marked (Answering stage) = refl
    marked _ = refl
set_kept v at (Claim cell true) = refl
set_kept v at (Claim cell false) = tried (is_trying at)
  where
    tried : (b : Bool) → length (tried_too v b cell).is_tried ≡ length v.is_tried
    tried true = length-set v.is_tried cell true
    tried false = length-set (replicate (length v.is_tried) false) cell true ∙ length_replicate (length v.is_tried) false
set_kept v at (ReadPosted posted) = elim (yes_or_no (posted == v.stage)) [ inl z ↦ rw z refl | inr z ↦ rw z refl ]
set_kept v at _ = refl

stage_after : (v : Standing) (at : At) (step : Step) (log : List Step) → v.stage ≡ stage_of log → (stands_from v at step).stage ≡ stage_of (step ∷ log)
stage_after v at (Mark c) log e = marked at
  where
    marked : (at : At) → (after_mark v at c).stage ≡ stage_of log
    marked (MarkingOld cell word old) = e
    marked (MarkingNew cell word old) = e
    marked (Answering stage) = e
    marked _ = e
stage_after v at (Claim cell true) log e = e
stage_after v at (Claim cell false) log e = tried (is_trying at)
  where
    tried : (b : Bool) → (tried_too v b cell).stage ≡ stage_of log
    tried true = e
    tried false = e
stage_after v at (ReadPosted posted) log e = elim (yes_or_no (posted == v.stage)) [ inl z ↦ rw z e | inr z ↦ rw z e ]
stage_after v at (StoreStage next roots) log e = refl
stage_after v at (EnterStage next) log e = refl
stage_after v at _ log e = e

-- a step that comes next leads from each log that led here
pub goes_on : (v new : Standing) (step : Step) (s : Setup) (thread : ℕ) (log : List Step) → new ≡ stands_after v step → Stands s thread log v
    → MayFollow s (stage_of log) (phase_of s thread log) step → Stands s thread (step ∷ log) new
goes_on v new step s thread log is st m = subst (Stands s thread (step ∷ log)) (sym is) (record {
  heap = heap_kept v v.at step ∙ st.heap;
  stage = stage_after v v.at step log st.stage;
  phase = subst (λ x. IsInPhase (stands_after v step) (stands_after v step).at (phase_after x (stage_of log) (phase_of s thread log) step)) st.heap
      (subst (λ x. IsInPhase (stands_after v step) (stands_after v step).at (phase_after v.heap x (phase_of s thread log) step)) st.stage
      (leads v v.at (phase_of s thread log) step (st.set_of ∙ sym (ap cells st.heap)) st.phase may));
  set_of = set_kept v v.at step ∙ st.set_of;
})
  where
    may : MayFollow v.heap v.stage (phase_of s thread log) step
    may = subst (λ x. MayFollow x v.stage (phase_of s thread log) step) (sym st.heap) (subst (λ x. MayFollow s x (phase_of s thread log) step) (sym st.stage) m)

-- a claim that comes next may be lost
lose : (v : Standing) (at : At) (phase : order.Phase) (cell : ℕ) (won : Bool) → v.at ≡ at → IsInPhase v at phase → MayFollow v.heap v.stage phase (Claim cell won) → MayLose v cell
lose v Ready phase cell won same e m = let k : (0 < cell) × (cell < cells v.heap) = rw e at m in record { first = k.0; within = k.1; more = λ t. absurd (let x : is_trying v.at ≡ false = ap is_trying same in cc); some = has_pool v.heap cell k.0 k.1 }
lose v Trying phase cell won same e m = go e.0 e.2 (rw (e.1) at m)
  where
    go : (tried : List ℕ) → HasTried v tried → MayTry v.heap tried cell → MayLose v cell
    go [] h k = absurd (h.some refl)
    go (last ∷ rest) h k = record { first = k.0.0; within = k.0.1; more = λ t. h.more; some = has_pool v.heap cell k.0.0 k.0.1 }
lose v (MarkingOld c w o) phase cell won same e m = absurd (rw e at m)
lose v (MarkingNew c w o) phase cell won same e m = absurd (rw e at m)
lose v (Writing c w o n) phase cell won same e m = absurd (rw e at m)
lose v (Answering stage) phase cell won same e m = absurd (rw e at m)
lose v Ended phase cell won same e m = absurd (rw e at m)
lose v Absent phase cell won same e m = absurd (rw e at m)
lose v (Arriving stage) phase cell won same e m = absurd (rw e at m)
lose v Entering phase cell won same e m = absurd (rw e at m)
lose v Leaving phase cell won same e m = absurd (rw e at m)

pub may_lose : (v : Standing) (s : Setup) (thread : ℕ) (log : List Step) (cell : ℕ) (won : Bool) → Stands s thread log v → MayFollow s (stage_of log) (phase_of s thread log) (Claim cell won) → MayLose v cell
may_lose v s thread log cell won st m = lose v v.at (phase_of s thread log) cell won refl st.phase
    (subst (λ x. MayFollow x v.stage (phase_of s thread log) (Claim cell won)) (sym st.heap) (subst (λ x. MayFollow s x (phase_of s thread log) (Claim cell won)) (sym st.stage) m))

-- before the first step
pub starts : (s : Setup) (thread : ℕ) (v : Standing) → v.heap ≡ s → v.stage ≡ 0 → v.at ≡ (if is_late s thread then Absent else Ready) → length v.is_tried ≡ cells s → Stands s thread [] v
starts s thread v heap stage at long = record { heap = heap; stage = stage; phase = subst (λ x. IsInPhase v x (phase_of s thread [])) (sym at) (go (is_late s thread)); set_of = long }
  where
    go : (b : Bool) → IsInPhase v (if b then Absent else Ready) (if b then order.Absent else order.Ready)
    go true = refl
    go false = refl
