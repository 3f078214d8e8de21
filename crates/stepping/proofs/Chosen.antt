-- What the next move of a thread is, by what its action asks for and where it is in the call.
use Rattle.std.proofs.Common.{◌≡◌, ◌<◌, ◌⊎◌, inl, inr, ℕ, suc, ◌==◌, ◌||◌, not, Bool, true, false, Option, Some, None, List, [], ◌∷◌, length, filter, slice_index, if◌then◌else◌, refl, sym, ap, ◌∙◌, subst, IsTrue, MatchOption, arith}
use Rattle.lemmas.specs.Numbers.{test_false}
use Rattle.lemmas.specs.Lists.{IsIn}
use Rattle.pools.specs.Heap.{Setup, cells, kind_of, IsOfLayout}
use Rattle.pools.specs.declared.word_kind.WordKind.{WordKind}
use Rattle.pools.specs.declared.word_kind.WordKind.TheVariants as kind
use Rattle.pools.specs.Layouts.{is_reference_kind}
use Rattle.colours.specs.Colours.{is_async}
use Rattle.colours.specs.Mutator.{HasBegun}
use Rattle.colours.specs.Steps.{Step}
use Rattle.runs.specs.Machine.{WordValue, Action, Read, StorePlain, Write, Alloc, Safepoint}
use Rattle.runs.specs.Moves.{Move, Works, ReadsWord, ReadsOldValue, Marks, StoresAfterBarrier, StoresPlain, Claims, StoresStage, next_root}
use Rattle.runs.specs.NextMoves.{next_move, try_of, mark_or_answer}
use Rattle.runs.specs.TryLemmas.{StandsSo, of_order}
use Rattle.runs.specs.Calls.{get_in}
use Rattle.moves.specs.declared.call.Call.TheVariants as call
use Rattle.moves.specs.declared.shared.Shared.{Shared}
use Rattle.moves.specs.declared.thread_state.CallPhase.{CallPhase}
use Rattle.moves.specs.declared.thread_state.CallPhase.TheVariants as call_phase
use Rattle.moves.specs.Kinds.{MayHold, AsksByKind}
use Rattle.moves.specs.Moving.{TriesNext, MarksNext}
use Rattle.moves.specs.Rows.{word_at}
use Rattle.moves.specs.Stands.{cells_by, cells_to_try, tried_of, marked_of, phase_at, sight_in}
use Rattle.moves.specs.Marked.{next_root-marked}
use Rattle.moves.specs.Nexts.{tried_of-length}

-- the move reads, marks, stores or claims what the action asks for there
abbrev pub IsChosen : Setup → Shared → (hints : List ℕ) → (roots : List WordValue) → Action → CallPhase → Move → Type 0
IsChosen s h hints roots action at (ReadsWord base word value) = (action ≡ Read base word) × (value ≡ word_at h.words base.cell word)
IsChosen s h hints roots action at (ReadsOldValue base word value) = (next : WordValue) × (action ≡ Write base word next) × (value ≡ word_at h.words base.cell word)
IsChosen s h hints roots action at (Marks r) = (r.cell < cells s) × MarksNext roots at r.cell × HasBegun (phase_at (cells_to_try s hints action) roots at)
IsChosen s h hints roots action at (StoresAfterBarrier base word value) = action ≡ Write base word value
IsChosen s h hints roots action at (StoresPlain base word value) = action ≡ StorePlain base word value
IsChosen s h hints roots action at (Claims r won) =
    (layout : ℕ) × (action ≡ Alloc layout) × IsOfLayout s layout r.cell × (won ≡ (slice_index h.colours r.cell == 0)) × (r.birth ≡ suc (slice_index h.births r.cell)) × TriesNext s hints (call.Alloc layout) at r.cell × HasBegun (phase_at (cells_to_try s hints action) roots at)
IsChosen s h hints roots action at move = Unit {0}

-- ---- references

-- what a reference word may hold is a cell
pub cell-held : (s : Setup) (k : Option WordKind) (value : WordValue) → IsTrue (is_reference_kind k) → MayHold s k value → value.cell < cells s
cell-held s None value is may = absurd may
cell-held s (Some (kind.Integer bits)) value is may = absurd cc
cell-held s (Some (kind.Reference layout)) value is (inl z) = omega (arith, z)
cell-held s (Some (kind.Reference layout)) value is (inr o) = o.1

-- what a filter leaves was there
in-filter : (p : WordValue → Bool) (roots : List WordValue) (r : WordValue) → IsIn r (filter p roots) → IsIn r roots
in-filter p [] r x = x
in-filter p (root ∷ roots) r x = go (p root) (in-filter p roots r) x
  where
    go : (b : Bool) → (IsIn r (filter p roots) → IsIn r roots) → IsIn r (if b then root ∷ filter p roots else filter p roots) → (r ≡ root) ⊎ IsIn r roots
    go true rest (inl e) = inl e
    go true rest (inr y) = inr (rest y)
    go false rest y = inr (rest y)

-- ---- the next move

-- of each action, at each place of its call
chosen : (s : Setup) (h : Shared) (hints : List ℕ) (log : List Step) (stage : ℕ) (roots : List WordValue) (old : WordValue) (action : Action) (at : CallPhase) → AsksByKind s action → ((r : WordValue) → IsIn r roots → r.cell < cells s)
    → old.cell < cells s → StandsSo s log action (phase_at (cells_to_try s hints action) roots at)
    → MatchOption (next_move s (sight_in s h hints) stage roots old action (phase_at (cells_to_try s hints action) roots at)) (Unit {0}) (IsChosen s h hints roots action at)
chosen s h hints log stage roots old action call_phase.Ended a r o f = tt
chosen s h hints log stage roots old action call_phase.Absent a r o f = tt
chosen s h hints log stage roots old action (call_phase.Arriving posted) a r o f = tt
chosen s h hints log stage roots old action call_phase.Entering a r o f = tt
chosen s h hints log stage roots old action call_phase.Leaving a r o f = tt
chosen s h hints log stage roots old (Read base word) call_phase.Ready a r o f = (refl, refl)
chosen s h hints log stage roots old (StorePlain base word value) call_phase.Ready a r o f = refl
chosen s h hints log stage roots old (Write base word value) call_phase.Ready a r o f = (value, refl, refl)
chosen s h hints log stage roots old (Write base word value) (call_phase.MarkingOld c i x) a r o f = (o, tt, tt)
chosen s h hints log stage roots old (Write base word value) (call_phase.MarkingNew c i x) a r o f = go (is_async stage || (value.cell == 0))
  where
    go : (b : Bool) → IsChosen s h hints roots (Write base word value) (call_phase.MarkingNew c i x) (if b then StoresAfterBarrier base word value else Marks value)
    go true = refl
    go false = (cell-held s (kind_of s base.cell word) value a.1 a.2, tt, tt)
chosen s h hints log stage roots old (Write base word value) (call_phase.Writing c i x n) a r o f = refl
chosen s h hints log stage roots old (Alloc layout) call_phase.Ready a r o f = go (slice_index s.pools layout == 0) refl
  where
    go : (b : Bool) → (slice_index s.pools layout == 0) ≡ b → IsChosen s h hints roots (Alloc layout) call_phase.Ready (if b then Works else try_of (sight_in s h hints) ((sight_in s h hints).claim layout []))
    go true e = tt
    go false e =
        let some = test_false (slice_index s.pools layout) 0 e in
        let left : 0 < slice_index s.pools layout = omega (arith, some) in
        let here = of_order s layout (slice_index hints layout) 0 left in
        (layout, refl, here, refl, refl, record { is_next = refl; of_layout = here; left = left }, tt)
chosen s h hints log stage roots old (Alloc layout) (call_phase.Trying tried) a r o f =
    let count = tried_of-length (cells_by s hints layout) tried in
    let here = of_order s layout (slice_index hints layout) (length (tried_of (cells_by s hints layout) tried)) f.few in
    (layout, refl, here, refl, refl, record { is_next = ap (slice_index (cells_by s hints layout)) count; of_layout = here; left = omega (arith, f.few, count) }, tt)
chosen s h hints log stage roots old Safepoint (call_phase.Answering next marked) a r o f = go (is_async next)
  where
    go : (b : Bool) → IsChosen s h hints roots Safepoint (call_phase.Answering next marked) (if b then mark_or_answer next roots (next_root roots (marked_of roots marked)) else StoresStage next roots)
    go false = tt
    go true = of-root (next_root roots (marked_of roots marked)) refl
      where
        of-root : (q : Option WordValue) → next_root roots (marked_of roots marked) ≡ q → IsChosen s h hints roots Safepoint (call_phase.Answering next marked) (mark_or_answer next roots q)
        of-root None e = tt
        of-root (Some q) e =
            let p : WordValue → Bool = λ x. not (x.cell == 0) in
            (r q (in-filter p roots q (get_in (filter p roots) (length (marked_of roots marked)) q e)), (q, sym (next_root-marked roots marked) ∙ e, refl), tt)
chosen s h hints log stage roots old action at a r o f = tt

-- the same for the move that is made
pub is-chosen : (s : Setup) (h : Shared) (hints : List ℕ) (log : List Step) (stage : ℕ) (roots : List WordValue) (old : WordValue) (action : Action) (at : CallPhase) (move : Move) → AsksByKind s action → ((r : WordValue) → IsIn r roots → r.cell < cells s)
    → old.cell < cells s → StandsSo s log action (phase_at (cells_to_try s hints action) roots at) → next_move s (sight_in s h hints) stage roots old action (phase_at (cells_to_try s hints action) roots at) ≡ Some move → IsChosen s h hints roots action at move
is-chosen s h hints log stage roots old action at move a r o f e =
    subst (λ (m : Option Move). MatchOption m (Unit {0}) (IsChosen s h hints roots action at)) e (chosen s h hints log stage roots old action at a r o f)
