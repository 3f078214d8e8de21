-- A next move of a thread of a run leaves the words and births after the longer run.
use Rattle.std.proofs.Common.{◌≡◌, ◌≢◌, ◌≤◌, ◌<◌, ◌^◌, ℕ, Some, List, length, slice_index, sym, ◌∙◌, subst, arith}
use Rattle.pools.specs.Heap.{Setup, cells}
use Rattle.pools.specs.Ends.{pool_ends}
use Rattle.colours.specs.Steps.{Step}
use Rattle.colours.specs.Mutator.{Phase, Ended, HasBegun, phase_of}
use Rattle.runs.specs.Machine.{WordValue, Action, Alloc, Machine}
use Rattle.runs.specs.Moves as moves
use Rattle.runs.specs.Moves.{steps_of}
use Rattle.runs.specs.ModuleRuns.{Happening, share_of}
use Rattle.runs.specs.NextMoves.{Sight, next_move}
use Rattle.runs.specs.Ends.{next_move_of}
use Rattle.runs.specs.Shares.{is_share}
use Rattle.runs.specs.TryLemmas.{StandsSo, stands_so, within}
use Rattle.stepping.specs.Bounds.{IsBounded}
use Rattle.moves.specs.declared.moves.Move.{Move}
use Rattle.moves.specs.declared.shared.Shared.{Shared}
use Rattle.moves.specs.declared.thread_state.CallPhase.{CallPhase}
use Rattle.moves.specs.declared.thread_state.CallPhase.TheVariants as call_phase
use Rattle.moves.specs.declared.thread_state.ThreadState.{ThreadState}
use Rattle.moves.specs.Calls.{move_in}
use Rattle.moves.specs.Kinds.{KeepsKinds}
use Rattle.moves.specs.Shared.{CanTake}
use Rattle.moves.specs.Stands.{HasTryLeft, cells_to_try, phase_at, standing, sight_in}
use Rattle.moves.specs.Nexts.{tried_of-length}
use Rattle.stepping.specs.Growth.{ThreadIsAfter, MoveGrows, ThreadGrows}
use Rattle.stepping.proofs.Words.{words-grow}
use Rattle.stepping.proofs.Chosen.{IsChosen, is-chosen}
use Rattle.stepping.proofs.Hints.{has-hint}
use Rattle.stepping.proofs.Moves.{puts, sees, takes, may-make, answers, moved-fits, replaced-cell}

-- ---- a thread that tries cells

-- a pool has fewer cells than 2^32
few-tried : (s : Setup) (layout tried : ℕ) → cells s ≤ 2 ^ 32 → layout < length s.pools → tried < slice_index s.pools layout → tried < 2 ^ 32
few-tried s layout tried few is_layout left = let ends = pool_ends s.pools layout is_layout in omega (arith, few, left, ends)

-- there is a pool, a cell of it was not tried, and fewer than 2^32 were
try-left : (s : Setup) (log : List Step) (action : Action) (order : List ℕ) (roots : List WordValue) (at : CallPhase) → cells s ≤ 2 ^ 32 → StandsSo s log action (phase_at order roots at) → HasTryLeft s.pools action at
try-left s log action order roots call_phase.Ready few f = tt
try-left s log action order roots (call_phase.MarkingOld c i o) few f = tt
try-left s log action order roots (call_phase.MarkingNew c i o) few f = tt
try-left s log action order roots (call_phase.Writing c i o n) few f = tt
try-left s log action order roots (call_phase.Answering next marked) few f = tt
try-left s log action order roots call_phase.Ended few f = tt
try-left s log action order roots call_phase.Absent few f = tt
try-left s log action order roots (call_phase.Arriving posted) few f = tt
try-left s log action order roots call_phase.Entering few f = tt
try-left s log action order roots call_phase.Leaving few f = tt
try-left s log (Alloc layout) order roots (call_phase.Trying tried) few f =
    let some = f.few in
    let count = tried_of-length order tried in
    let left : tried < slice_index s.pools layout = omega (arith, some, count) in
    let is_layout = within s.pools layout (λ z. omega (arith, left, z)) in
    (is_layout, left, few-tried s layout tried few is_layout left)
try-left s log action order roots (call_phase.Trying tried) few f = absurd f

-- ---- each next move

-- a thread that has a next move has not ended
not-ended : (s : Setup) (h : Sight) (stage : ℕ) (roots : List WordValue) (old : WordValue) (action : Action) (phase : Phase) (move : moves.Move) → next_move s h stage roots old action phase ≡ Some move → phase ≢ Ended
not-ended s h stage roots old action phase move e is =
    let none = subst (λ (p : Phase). next_move s h stage roots old action p ≡ Some move) is e in
    absurd cc

-- of a thread of a run
pub thread-grows : (s : Setup) (m : Machine) (Fits : m.State → Type 0) → ((state : m.State) → Fits state → KeepsKinds s m.action m.after_answer m.roots Fits state)
    → (starts : ℕ → m.State) (run : List Happening) (t : ℕ) (thread_state : ThreadState m.State) (h : Shared) → IsBounded s run → ThreadIsAfter s m Fits starts run t thread_state h → ThreadGrows s m Fits run t thread_state h
thread-grows s m Fits keeps_kinds starts run t thread_state h bounded b = record {
  births = λ cell. subst (λ n. n < 2 ^ 62) (sym (b.words.afterwards.births cell)) (bounded.births cell);
  try_left = try-left s log action to_try roots thread_state.call_phase b.few_cells tries;
  move = grows;
}
  where
    roots : List WordValue
    roots = m.roots thread_state.state

    action : Action
    action = m.action thread_state.state

    keeps : KeepsKinds s m.action m.after_answer m.roots Fits thread_state.state
    keeps = keeps_kinds thread_state.state b.fits

    log : List Step
    log = steps_of (share_of t run)

    to_try : List ℕ
    to_try = cells_to_try s thread_state.hints action

    tries : StandsSo s log action (phase_at to_try roots thread_state.call_phase)
    tries =
        subst (λ (p : Phase). StandsSo s log (m.action thread_state.state) p) (sym b.stands.phase)
        (subst (λ (q : m.State). StandsSo s log (m.action q) (phase_of s t log)) (sym b.stands.state)
        (stands_so s m t (starts t) (share_of t run) (is_share s m starts run t b.is_run) b.tries))

    grows : (made : Move) → next_move_of s m (sight_in s h thread_state.hints) (standing s m thread_state) ≡ Some (move_in roots made) → MoveGrows s m Fits run t thread_state h made
    grows made e = record {
      may_make = λ call asks. may-make s h thread_state.hints roots action thread_state.call_phase made call asks is;
      hint = has-hint s h thread_state.hints roots action thread_state.call_phase made b.few_cells b.stands.hints.one_each is;
      can_take = can;
      words = words-grow s run t thread_state.stage roots h made b.stands.stage b.words can
          (sees s h thread_state.hints roots action thread_state.call_phase made is)
          (puts s h thread_state.hints roots action thread_state.call_phase made keeps.asks is);
      answers = answers s h thread_state.hints roots action thread_state.call_phase made b.words.shape keeps.asks is;
      fits = moved-fits s m Fits h thread_state made b.words.shape keeps b.fits is;
      replaced = replaced-cell s h thread_state.hints roots action thread_state.call_phase made b.words.shape keeps.asks is;
    }
      where
        is : IsChosen s h thread_state.hints roots action thread_state.call_phase (move_in roots made)
        is = is-chosen s h thread_state.hints log thread_state.stage roots thread_state.replaced action thread_state.call_phase (move_in roots made) keeps.asks keeps.roots_fit b.replaced tries e

        goes : phase_of s t (steps_of (share_of t run)) ≢ Ended
        goes = λ ended. not-ended s (sight_in s h thread_state.hints) thread_state.stage roots thread_state.replaced action (phase_at to_try roots thread_state.call_phase) (move_in roots made) e (b.stands.phase ∙ ended)

        few : HasBegun (phase_at to_try roots thread_state.call_phase) → thread_state.stage < 2 ^ 62
        few begun = subst (λ n. n < 2 ^ 62) (sym b.stands.stage) (bounded.stages t b.is_thread (subst (λ (p : Phase). HasBegun p) b.stands.phase begun) goes)

        can : CanTake h t thread_state.stage made
        can = takes s h thread_state.hints roots action thread_state.call_phase t thread_state.stage made b.words.shape keeps.asks b.is_thread few is
