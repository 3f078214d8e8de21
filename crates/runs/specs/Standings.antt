-- Where a thread is after a run, and how it goes on from there.
use Rattle.std.proofs.Common.{◌≡◌, ◌≢◌, ◌<◌, ◌-◌, ◌==◌, ℕ, zero, suc, Bool, true, false, Option, Some, None, List, [], ◌∷◌, length, replicate, slice_index, slice_set, if◌then◌else◌, refl, sym, ◌∙◌, subst, arith}
use Rattle.std.proofs.Math.Path.{ap}
use Rattle.std.proofs.lemmas.List.{length-set, length-replicate, get_or-set_same, get_or-set_other}
use Rattle.lemmas.specs.Numbers.{test_true, test_false, test_yes, test_no}
use Rattle.pools.specs.Heap.{Setup, layout_of}
use Rattle.pools.specs.Pools.{first_cell}
use Rattle.colours.specs.Steps.{Step, Claim}
use Rattle.colours.specs.Steps as step
use Rattle.colours.specs.Mutator.{Phase, stage_of, phase_of}
use Rattle.runs.specs.Machine.{WordValue, Machine}
use Rattle.runs.specs.Moves.{Move, Works, GoesWrong, ReadsWord, ReadsOldValue, Marks, StoresAfterBarrier, StoresPlain, Claims, ReadsPosted, StoresStage, ReadsPostedFirst, EntersStage, ReadsPostedAgain, step_of, steps_of, logged, phase_afterwards, ends_call, answer_of, state_after, old_of}
use Rattle.runs.specs.ModuleRuns.{Happening, OfThread, OfCollector, share_of}
use Rattle.runs.specs.NextMoves.{Sight, next_move, next_move_in}
use Rattle.runs.specs.Ends.{Standing, StandsAfter, begun, stage_afterwards, old_by, moved, next_move_of, GoesOn}
use Rattle.runs.specs.Tries.{hint_in, AreHints, hints_by}
use Rattle.runs.specs.Calls.{phase_with}

-- ---- hints

no-number : (count k : ℕ) → slice_index (replicate count 0) k ≡ 0
no-number zero k = refl
no-number (suc count) zero = refl
no-number (suc count) (suc k) = no-number count k

-- at first each is the pool's first place
no-hints : (s : Setup) → AreHints s [] (replicate (length s.pools) 0)
no-hints s = record { one_each = length-replicate (length s.pools) 0; each = λ layout lt. no-number (length s.pools) layout }

-- a won try sets that of the layout
won-hint : (s : Setup) (log : List Step) (hints : List ℕ) (cell : ℕ) → AreHints s log hints → AreHints s (Claim cell true ∷ log) (hints_by s hints (Some (Claim cell true)))
won-hint s log hints cell h = record { one_each = length-set hints own place ∙ h.one_each; each = λ layout lt. go layout lt (layout_of s cell == layout) refl }
  where
    own : ℕ
    own = layout_of s cell

    place : ℕ
    place = suc cell - first_cell s.pools own

    go : (layout : ℕ) → layout < length s.pools → (b : Bool) → (own == layout) ≡ b
        → slice_index (slice_set hints own place) layout ≡ (if b then suc cell - first_cell s.pools layout else hint_in s layout log)
    go layout lt true e =
        let same : own ≡ layout = test_true own layout e in
        let count = h.one_each in
        let within : own < length hints = omega (arith, lt, count, same) in
        subst (λ l. slice_index (slice_set hints own place) l ≡ suc cell - first_cell s.pools l) same (get_or-set_same hints own place 0 within)
    go layout lt false e = get_or-set_other hints own layout place 0 (λ x. test_false own layout e (sym x)) ∙ h.each layout lt

-- and every other step leaves them
hints-with : (s : Setup) (log : List Step) (hints : List ℕ) (step : Option Step) → AreHints s log hints → AreHints s (logged step log) (hints_by s hints step)
hints-with s log hints None h = h
hints-with s log hints (Some (Claim cell true)) h = won-hint s log hints cell h
hints-with s log hints (Some (Claim cell false)) h = record { one_each = h.one_each; each = h.each }
hints-with s log hints (Some (step.ReadWord cell word value)) h = record { one_each = h.one_each; each = h.each }
hints-with s log hints (Some (step.ReadOldValue cell word value)) h = record { one_each = h.one_each; each = h.each }
hints-with s log hints (Some (step.Mark cell)) h = record { one_each = h.one_each; each = h.each }
hints-with s log hints (Some (step.StoreAfterBarrier cell word value)) h = record { one_each = h.one_each; each = h.each }
hints-with s log hints (Some (step.StorePlain cell word value)) h = record { one_each = h.one_each; each = h.each }
hints-with s log hints (Some (step.ReadPosted stage)) h = record { one_each = h.one_each; each = h.each }
hints-with s log hints (Some (step.StoreStage stage roots)) h = record { one_each = h.one_each; each = h.each }
hints-with s log hints (Some (step.ReadPostedFirst stage)) h = record { one_each = h.one_each; each = h.each }
hints-with s log hints (Some (step.EnterStage stage)) h = record { one_each = h.one_each; each = h.each }
hints-with s log hints (Some (step.ReadPostedAgain stage)) h = record { one_each = h.one_each; each = h.each }

-- ---- the start

-- a thread before its first move
pub begins : (s : Setup) (m : Machine) (starts : ℕ → m.State) (t : ℕ) → StandsAfter s m starts [] t (begun s m starts t)
begins s m starts t = record { state = refl; stage = refl; phase = refl; old = refl; hints = no-hints s }

-- a thread has this state after this share
record IsAt (s : Setup) (m : Machine) (t : ℕ) (start : m.State) (share : List Move) (thread_state : Standing m.State) : Type 0 where
  state : thread_state.state ≡ state_after s m t start share
  stage : thread_state.stage ≡ stage_of (steps_of share)
  phase : thread_state.phase ≡ phase_of s t (steps_of share)
  old : thread_state.old ≡ old_of share
  hints : AreHints s (steps_of share) thread_state.hints

at_share : (s : Setup) (m : Machine) (starts : ℕ → m.State) (run : List Happening) (t : ℕ) (thread_state : Standing m.State) → StandsAfter s m starts run t thread_state → IsAt s m t (starts t) (share_of t run) thread_state
at_share s m starts run t thread_state x = record { state = x.state; stage = x.stage; phase = x.phase; old = x.old; hints = x.hints }

after_run : (s : Setup) (m : Machine) (starts : ℕ → m.State) (run : List Happening) (t : ℕ) (share : List Move) (thread_state : Standing m.State) → share_of t run ≡ share → IsAt s m t (starts t) share thread_state
    → StandsAfter s m starts run t thread_state
after_run s m starts run t share thread_state e x =
    let y : IsAt s m t (starts t) (share_of t run) thread_state = subst (λ (q : List Move). IsAt s m t (starts t) q thread_state) (sym e) x in
    record { state = y.state; stage = y.stage; phase = y.phase; old = y.old; hints = y.hints }

-- ---- its own move

stage_with : (log : List Step) (move : Move) (share : List Move) → log ≡ steps_of share → stage_afterwards (stage_of log) move ≡ stage_of (steps_of (move ∷ share))
stage_with log Works share e = ap stage_of e
stage_with log GoesWrong share e = ap stage_of e
stage_with log (ReadsWord base word value) share e = ap stage_of e
stage_with log (ReadsOldValue base word value) share e = ap stage_of e
stage_with log (Marks r) share e = ap stage_of e
stage_with log (StoresAfterBarrier base word value) share e = ap stage_of e
stage_with log (StoresPlain base word value) share e = ap stage_of e
stage_with log (Claims r won) share e = ap stage_of e
stage_with log (ReadsPosted stage) share e = ap stage_of e
stage_with log (StoresStage stage roots) share e = refl
stage_with log (ReadsPostedFirst stage) share e = ap stage_of e
stage_with log (EntersStage stage) share e = refl
stage_with log (ReadsPostedAgain stage) share e = ap stage_of e

old_with : (move : Move) (share : List Move) → old_by move ≡ old_of (move ∷ share)
old_with (ReadsOldValue base word value) share = refl
old_with move share = refl

own_move : (s : Setup) (m : Machine) (t : ℕ) (start : m.State) (share : List Move) (thread_state : Standing m.State) → IsAt s m t start share thread_state → (move : Move) → IsAt s m t start (move ∷ share) (moved s m thread_state move)
own_move s m t start share thread_state x move = record {
  state = ap (λ (q : m.State). after q (phase_afterwards s thread_state.stage thread_state.phase (step_of move))) x.state ∙ ap (λ (q : Phase). after (state_after s m t start share) q) same_phase;
  stage = ap (λ (n : ℕ). stage_afterwards n move) x.stage ∙ stage_with (steps_of share) move share refl;
  phase = same_phase;
  old = old_with move share;
  hints = hints-with s (steps_of share) thread_state.hints (step_of move) x.hints;
}
  where
    after : m.State → Phase → m.State
    after state phase = if ends_call move phase then m.after_answer state (answer_of (m.action state) move) else state

    same_phase : phase_afterwards s thread_state.stage thread_state.phase (step_of move) ≡ phase_of s t (steps_of (move ∷ share))
    same_phase =
        ap (λ (n : ℕ). phase_afterwards s n thread_state.phase (step_of move)) x.stage
        ∙ ap (λ (q : Phase). phase_afterwards s (stage_of (steps_of share)) q (step_of move)) x.phase
        ∙ phase_with s t (steps_of share) (step_of move)

-- ---- every happening

-- the thread goes on from where it is
pub goes_on : (s : Setup) (m : Machine) (starts : ℕ → m.State) (run : List Happening) (t : ℕ) (thread_state : Standing m.State) → StandsAfter s m starts run t thread_state → GoesOn s m starts run t thread_state
goes_on s m starts run t thread_state x = record {
  next = same_next;
  own = λ move. after_run s m starts (OfThread t move ∷ run) t (move ∷ share_of t run) (moved s m thread_state move) (here move) (own_move s m t (starts t) (share_of t run) thread_state at move);
  other = λ u move n. after_run s m starts (OfThread u move ∷ run) t (share_of t run) thread_state (elsewhere u move n) at;
  collector = λ turn. after_run s m starts (OfCollector turn ∷ run) t (share_of t run) thread_state refl at;
}
  where
    at : IsAt s m t (starts t) (share_of t run) thread_state
    at = at_share s m starts run t thread_state x

    here : (move : Move) → share_of t (OfThread t move ∷ run) ≡ move ∷ share_of t run
    here move = rw (test_yes t t refl) refl

    elsewhere : (u : ℕ) (move : Move) → u ≢ t → share_of t (OfThread u move ∷ run) ≡ share_of t run
    elsewhere u move n = rw (test_no u t n) refl

    same_next : (h : Sight) → next_move_of s m h thread_state ≡ next_move_in s m starts run h t
    same_next h =
        ap (λ (q : m.State). next_move s h thread_state.stage (m.roots q) thread_state.old (m.action q) thread_state.phase) x.state
        ∙ ap (λ (n : ℕ). next_move s h n (m.roots state) thread_state.old (m.action state) thread_state.phase) x.stage
        ∙ ap (λ (r : WordValue). next_move s h (stage_of (steps_of share)) (m.roots state) r (m.action state) thread_state.phase) x.old
        ∙ ap (λ (q : Phase). next_move s h (stage_of (steps_of share)) (m.roots state) (old_of share) (m.action state) q) x.phase
      where
        share : List Move
        share = share_of t run

        state : m.State
        state = state_after s m t (starts t) share
