-- After a lost try, the next cell of the pool is left or none is.
use Rattle.std.proofs.Common.{◌≡◌, ◌≢◌, ◌<◌, ◌≤◌, ℕ, suc, ◌==◌, Bool, true, false, List, slice_index, nat_lt, refl, ◌∙◌, if◌then◌else◌, arith, unwrap_or, slice_get}
use Rattle.std.proofs.lemmas.Bool.Decides.{nat_tests}
use Rattle.pools.specs.Heap.{Setup}
use Rattle.colours.specs.Mutator as order
use Rattle.colours.specs.Mutator.{after_loss, phase_after}
use Rattle.colours.specs.Steps.{Claim}
use Rattle.moves.specs.Moving.{IsNextTry, TriesNext, tried_in, phase_left}
use Rattle.moves.specs.Stands.{cells_by, cells_to_try, tried_of, phase_at}
use Rattle.moves.specs.Nexts.{tried_of-length}
use Rattle.runs.specs.Machine.{WordValue, Alloc}
use Rattle.moves.specs.declared.call.Call.{Call}
use Rattle.moves.specs.declared.call.Call.TheVariants as call
use Rattle.moves.specs.declared.thread_state.CallPhase.{CallPhase}
use Rattle.moves.specs.declared.thread_state.CallPhase.TheVariants as call_phase
use Rattle.moves.specs.Calls.{action_of}
use Rattle.std.proofs.lemmas.Option.{unwrap_or-slice_get}

-- whether a cell is left after one more try
left-afterwards : (count tried : ℕ) (trying : order.Phase) → tried < count → (if nat_lt (suc tried) count then trying else order.Ready) ≡ (if suc tried == count then order.Ready else trying)
left-afterwards count tried trying lt = go (nat_lt (suc tried) count) (suc tried == count) refl refl
  where
    go : (b d : Bool) → nat_lt (suc tried) count ≡ b → (suc tried == count) ≡ d → (if b then trying else order.Ready) ≡ (if d then order.Ready else trying)
    go true false e f = refl
    go false true e f = refl
    go true true e f = absurd (clash (grind (arith, nat_tests)) (grind (arith, nat_tests)))
      where
        clash : suc tried < count → suc tried ≡ count → ⊥
        clash below same = omega arith
    go false false e f = absurd (none (grind (arith, nat_tests)) (grind (arith, nat_tests)))
      where
        none : count < suc (suc tried) → suc tried ≢ count → ⊥
        none few other = omega arith

-- after the loss of the next cell of a pool
loses-next : (s : Setup) (layout : ℕ) (cells : List ℕ) (tried cell : ℕ) → IsNextTry s layout cells tried cell
    → phase_left s.pools (Alloc layout) cells (suc tried) ≡ after_loss s (tried_of cells tried) cell
loses-next s layout cells tried cell h =
    left-afterwards (slice_index s.pools layout) tried (order.Trying (tried_of cells (suc tried))) h.left
    ∙ rw (← h.is_next, ← h.of_layout.2, tried_of-length cells tried) refl

-- a lost try is one more than those of the call so far
one-more : (s : Setup) (stage : ℕ) (cells : List ℕ) (roots : List WordValue) (at : CallPhase) (cell : ℕ) → after_loss s (tried_of cells (tried_in at)) cell ≡ phase_after s stage (phase_at cells roots at) (Claim cell false)
one-more s stage cells roots (call_phase.Trying tried) cell = refl
one-more s stage cells roots call_phase.Ready cell = refl
one-more s stage cells roots (call_phase.MarkingOld c w o) cell = refl
one-more s stage cells roots (call_phase.MarkingNew c w o) cell = refl
one-more s stage cells roots (call_phase.Writing c w o n) cell = refl
one-more s stage cells roots (call_phase.Answering p m) cell = refl
one-more s stage cells roots call_phase.Ended cell = refl
one-more s stage cells roots call_phase.Absent cell = refl
one-more s stage cells roots (call_phase.Arriving p) cell = refl
one-more s stage cells roots call_phase.Entering cell = refl
one-more s stage cells roots call_phase.Leaving cell = refl

-- after a loss
pub after-loss : (s : Setup) (pools : List ℕ) (c : Call) (hints : List ℕ) (roots : List WordValue) (stage : ℕ) (at : CallPhase) (tried cell : ℕ) → s.pools ≡ pools → tried ≡ suc (tried_in at) → TriesNext s hints c at cell
    → phase_left pools (action_of c) (cells_to_try s hints (action_of c)) tried ≡ phase_after s stage (phase_at (cells_to_try s hints (action_of c)) roots at) (Claim cell false)
after-loss s pools (call.Alloc layout) hints roots stage at tried cell e is h =
    rw (← e, is) (loses-next s layout (cells_by s hints layout) (tried_in at) cell h ∙ one-more s stage (cells_by s hints layout) roots at cell)
after-loss s pools call.Local hints roots stage at tried cell e is h = absurd h
after-loss s pools (call.Read base word) hints roots stage at tried cell e is h = absurd h
after-loss s pools (call.StorePlain base word value) hints roots stage at tried cell e is h = absurd h
after-loss s pools (call.Write base word value) hints roots stage at tried cell e is h = absurd h
after-loss s pools call.Safepoint hints roots stage at tried cell e is h = absurd h
after-loss s pools call.End hints roots stage at tried cell e is h = absurd h
after-loss s pools call.Wrong hints roots stage at tried cell e is h = absurd h

-- a thread that is not trying has tried no cell
pub none-tried : (at : CallPhase) → ((tried : ℕ) → at ≡ call_phase.Trying tried → ⊥) → tried_in at ≡ 0
none-tried (call_phase.Trying tried) not = absurd (not tried refl)
none-tried call_phase.Ready not = refl
none-tried (call_phase.MarkingOld c w o) not = refl
none-tried (call_phase.MarkingNew c w o) not = refl
none-tried (call_phase.Writing c w o n) not = refl
none-tried (call_phase.Answering p m) not = refl
none-tried call_phase.Ended not = refl
none-tried call_phase.Absent not = refl
none-tried (call_phase.Arriving p) not = refl
none-tried call_phase.Entering not = refl
none-tried call_phase.Leaving not = refl

-- no cell is left
pub none-left : (pools : List ℕ) (layout : ℕ) (cells : List ℕ) (tried count : ℕ) → count ≡ unwrap_or (slice_get pools layout) 0 → count ≤ tried → order.Ready ≡ phase_left pools (Alloc layout) cells tried
none-left pools layout cells tried count e few =
    let is : count ≡ slice_index pools layout = e ∙ unwrap_or-slice_get pools layout 0 in
    let no : nat_lt tried (slice_index pools layout) ≡ false = rw (← is) (grind (arith, nat_tests)) in
    rw no refl
