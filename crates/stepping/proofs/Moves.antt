-- The next move of a thread may be made on the words as they are, and leaves a state that fits.
use Rattle.std.proofs.Common.{◌≡◌, ◌≢◌, ◌<◌, ◌^◌, inl, inr, ℕ, Bool, true, false, Option, Some, None, List, length, if◌then◌else◌, refl, sym, ◌∙◌, subst, IsTrue, arith}
use Rattle.std.proofs.lemmas.Option.{slice_get_within}
use Rattle.pools.specs.Heap.{Setup, cells, kind_of, words_of_cell}
use Rattle.pools.specs.declared.word_kind.WordKind.{WordKind}
use Rattle.pools.specs.Layouts.{is_reference_kind}
use Rattle.colours.specs.declared.place.Place.TheVariants.{Word}
use Rattle.colours.specs.Mutator.{HasBegun}
use Rattle.runs.specs.Machine.{WordValue, Action, Local, Read, StorePlain, Write, Alloc, Safepoint, End, Wrong, Got, Machine}
use Rattle.runs.specs.Moves.{answer_of}
use Rattle.runs.specs.Ends.{moved, old_by}
use Rattle.moves.specs.declared.call.Call.{Call}
use Rattle.moves.specs.declared.call.Call.TheVariants as call
use Rattle.moves.specs.declared.moves.Move.{Move}
use Rattle.moves.specs.declared.moves.Move.TheVariants as made
use Rattle.moves.specs.declared.shared.Shared.{Shared}
use Rattle.moves.specs.declared.thread_state.CallPhase.{CallPhase}
use Rattle.moves.specs.declared.thread_state.ThreadState.{ThreadState}
use Rattle.moves.specs.Calls.{action_of, move_in}
use Rattle.moves.specs.Kinds.{MayHold, AsksByKind, AnswersByKind, KeepsKinds}
use Rattle.moves.specs.Moving.{MayMake, TriesNext}
use Rattle.moves.specs.Rows.{word_at}
use Rattle.moves.specs.Shared.{HasShape, CanHold, CanTake}
use Rattle.moves.specs.Stands.{cells_to_try, standing, phase_at}
use Rattle.moves.specs.GoesOn.{same-call}
use Rattle.stepping.proofs.Places.{SeesCell}
use Rattle.stepping.proofs.Shapes.{PutsByKind}
use Rattle.stepping.proofs.Chosen.{IsChosen, cell-held}

-- ---- words that are there

-- a word that holds something is one of its cell
word-within : (s : Setup) (cell word : ℕ) (kind : WordKind) → kind_of s cell word ≡ Some kind → word < length (words_of_cell s cell)
unfolding kind_of
word-within s cell word kind e = slice_get_within (words_of_cell s cell) word kind e

-- so there is a place for it
pub word-there : (s : Setup) (h : Shared) (cell word : ℕ) → HasShape s h → cell < cells s → word < length (words_of_cell s cell) → CanHold h (Word cell word)
word-there s h cell word shape is_cell is_word =
    let rows = shape.rows in
    let row = shape.row cell is_cell in
    (omega (arith, rows, is_cell), omega (arith, row, is_word))

-- a word that is there holds what fits its kind
pub word-fits : (s : Setup) (h : Shared) (cell word : ℕ) → HasShape s h → cell < cells s → kind_of s cell word ≢ None → MayHold s (kind_of s cell word) (word_at h.words cell word)
word-fits s h cell word shape is_cell is_word = go (kind_of s cell word) refl
  where
    go : (k : Option WordKind) → kind_of s cell word ≡ k → MayHold s k (word_at h.words cell word)
    go None e = absurd (is_word e)
    go (Some kind) e = shape.kinds cell word kind is_cell e

-- a reference word is there
pub reference-there : (k : Option WordKind) → IsTrue (is_reference_kind k) → k ≢ None
reference-there None is = absurd cc
reference-there (Some kind) is = λ e. absurd cc

-- and so is one that may hold a value
holds-there : (s : Setup) (h : Shared) (cell word : ℕ) (value : WordValue) → HasShape s h → cell < cells s → MayHold s (kind_of s cell word) value → CanHold h (Word cell word)
holds-there s h cell word value shape is_cell may = go (kind_of s cell word) refl may
  where
    go : (k : Option WordKind) → kind_of s cell word ≡ k → MayHold s k value → CanHold h (Word cell word)
    go None e x = absurd x
    go (Some kind) e x = word-there s h cell word shape is_cell (word-within s cell word kind e)

-- ---- the move may be made

-- what it puts fits
pub puts : (s : Setup) (h : Shared) (hints : List ℕ) (roots : List WordValue) (action : Action) (at : CallPhase) (move : Move) → AsksByKind s action → IsChosen s h hints roots action at (move_in roots move) → PutsByKind s move
puts s h hints roots action at (made.StoresAfterBarrier base word value) a c = let asks : AsksByKind s (Write base word value) = subst (λ (x : Action). AsksByKind s x) c a in asks.2
puts s h hints roots action at (made.StoresPlain base word value) a c = let asks : AsksByKind s (StorePlain base word value) = subst (λ (x : Action). AsksByKind s x) c a in asks.1
puts s h hints roots action at made.Works a c = tt
puts s h hints roots action at made.GoesWrong a c = tt
puts s h hints roots action at (made.ReadsWord base word value) a c = tt
puts s h hints roots action at (made.ReadsOldValue base word value) a c = tt
puts s h hints roots action at (made.Marks r) a c = tt
puts s h hints roots action at (made.Claims r won) a c = tt
puts s h hints roots action at (made.ReadsPosted stage) a c = tt
puts s h hints roots action at (made.Answers stage) a c = tt
puts s h hints roots action at made.Ends a c = tt
puts s h hints roots action at (made.ReadsPostedFirst posted) a c = tt
puts s h hints roots action at (made.EntersStage next) a c = tt
puts s h hints roots action at (made.ReadsPostedAgain posted) a c = tt

-- a claim agrees with the state of its cell
pub sees : (s : Setup) (h : Shared) (hints : List ℕ) (roots : List WordValue) (action : Action) (at : CallPhase) (move : Move) → IsChosen s h hints roots action at (move_in roots move) → SeesCell h move
sees s h hints roots action at (made.Claims r won) c = (c.3, c.4)
sees s h hints roots action at made.Works c = tt
sees s h hints roots action at made.GoesWrong c = tt
sees s h hints roots action at (made.ReadsWord base word value) c = tt
sees s h hints roots action at (made.ReadsOldValue base word value) c = tt
sees s h hints roots action at (made.Marks r) c = tt
sees s h hints roots action at (made.StoresAfterBarrier base word value) c = tt
sees s h hints roots action at (made.StoresPlain base word value) c = tt
sees s h hints roots action at (made.ReadsPosted stage) c = tt
sees s h hints roots action at (made.Answers stage) c = tt
sees s h hints roots action at made.Ends c = tt
sees s h hints roots action at (made.ReadsPostedFirst posted) c = tt
sees s h hints roots action at (made.EntersStage next) c = tt
sees s h hints roots action at (made.ReadsPostedAgain posted) c = tt

-- its places are there
pub takes : (s : Setup) (h : Shared) (hints : List ℕ) (roots : List WordValue) (action : Action) (at : CallPhase) (t stage : ℕ) (move : Move) → HasShape s h → AsksByKind s action → t < s.threads → (HasBegun (phase_at (cells_to_try s hints action) roots at) → stage < 2 ^ 62)
    → IsChosen s h hints roots action at (move_in roots move) → CanTake h t stage move
takes s h hints roots action at t stage (made.StoresAfterBarrier base word value) shape a lt few c =
    let asks : AsksByKind s (Write base word value) = subst (λ (x : Action). AsksByKind s x) c a in
    holds-there s h base.cell word value shape asks.0 asks.2
takes s h hints roots action at t stage (made.StoresPlain base word value) shape a lt few c =
    let asks : AsksByKind s (StorePlain base word value) = subst (λ (x : Action). AsksByKind s x) c a in
    holds-there s h base.cell word value shape asks.0 asks.1
takes s h hints roots action at t stage (made.Marks r) shape a lt few c = let is_cell = c.0 in let count = shape.colours in (omega (arith, is_cell, count), few c.2)
takes s h hints roots action at t stage (made.Claims r won) shape a lt few c =
    let is_cell : r.cell < cells s = c.2.1 in
    let colours = shape.colours in
    let births = shape.births in
    (omega (arith, is_cell, colours), omega (arith, is_cell, births), few c.6)
takes s h hints roots action at t stage (made.Answers next) shape a lt few c = let count = shape.stages in omega (arith, lt, count)
takes s h hints roots action at t stage made.Ends shape a lt few c = let count = shape.stages in omega (arith, lt, count)
takes s h hints roots action at t stage (made.ReadsPostedFirst posted) shape a lt few c = tt
takes s h hints roots action at t stage (made.EntersStage next) shape a lt few c = let count = shape.stages in omega (arith, lt, count)
takes s h hints roots action at t stage (made.ReadsPostedAgain posted) shape a lt few c = tt
takes s h hints roots action at t stage made.Works shape a lt few c = tt
takes s h hints roots action at t stage made.GoesWrong shape a lt few c = tt
takes s h hints roots action at t stage (made.ReadsWord base word value) shape a lt few c = tt
takes s h hints roots action at t stage (made.ReadsOldValue base word value) shape a lt few c = tt
takes s h hints roots action at t stage (made.ReadsPosted posted) shape a lt few c = tt

-- it is the next one of its call
pub may-make : (s : Setup) (h : Shared) (hints : List ℕ) (roots : List WordValue) (action : Action) (at : CallPhase) (move : Move) (asked : Call) → action_of asked ≡ action → IsChosen s h hints roots action at (move_in roots move)
    → MayMake s hints roots asked at move
may-make s h hints roots action at (made.Marks r) asked e c = c.1
may-make s h hints roots action at (made.Claims r won) asked e c =
    subst (λ (x : Call). TriesNext s hints x at r.cell) (sym (same-call asked (call.Alloc c.0) (e ∙ c.1))) c.5
may-make s h hints roots action at made.Works asked e c = tt
may-make s h hints roots action at made.GoesWrong asked e c = tt
may-make s h hints roots action at (made.ReadsWord base word value) asked e c = tt
may-make s h hints roots action at (made.ReadsOldValue base word value) asked e c = tt
may-make s h hints roots action at (made.StoresAfterBarrier base word value) asked e c = tt
may-make s h hints roots action at (made.StoresPlain base word value) asked e c = tt
may-make s h hints roots action at (made.ReadsPosted stage) asked e c = tt
may-make s h hints roots action at (made.Answers stage) asked e c = tt
may-make s h hints roots action at made.Ends asked e c = tt
may-make s h hints roots action at (made.ReadsPostedFirst posted) asked e c = tt
may-make s h hints roots action at (made.EntersStage next) asked e c = tt
may-make s h hints roots action at (made.ReadsPostedAgain posted) asked e c = tt

-- ---- the thread after it

-- the move brings no reference
abbrev BringsNothing : Move → Type 0
BringsNothing (made.ReadsWord base word value) = ⊥
BringsNothing (made.Claims r won) = ⊥
BringsNothing move = Unit {0}

-- such a move returns nothing but null
nothing-fits : (s : Setup) (roots : List WordValue) (action : Action) (move : Move) → BringsNothing move → AnswersByKind s action (answer_of action (move_in roots move))
nothing-fits s roots Local move q = tt
nothing-fits s roots (StorePlain base word value) move q = tt
nothing-fits s roots (Write base word value) move q = tt
nothing-fits s roots Safepoint move q = tt
nothing-fits s roots End move q = tt
nothing-fits s roots Wrong move q = tt
nothing-fits s roots action (made.ReadsWord b w v) q = absurd q
nothing-fits s roots action (made.Claims r won) q = absurd q
nothing-fits s roots (Read base word) made.Works q = tt
nothing-fits s roots (Read base word) made.GoesWrong q = tt
nothing-fits s roots (Read base word) (made.ReadsOldValue b w v) q = tt
nothing-fits s roots (Read base word) (made.Marks r) q = tt
nothing-fits s roots (Read base word) (made.StoresAfterBarrier b w v) q = tt
nothing-fits s roots (Read base word) (made.StoresPlain b w v) q = tt
nothing-fits s roots (Read base word) (made.ReadsPosted stage) q = tt
nothing-fits s roots (Read base word) (made.Answers stage) q = tt
nothing-fits s roots (Read base word) made.Ends q = tt
nothing-fits s roots (Read base word) (made.ReadsPostedFirst posted) q = tt
nothing-fits s roots (Read base word) (made.EntersStage next) q = tt
nothing-fits s roots (Read base word) (made.ReadsPostedAgain posted) q = tt
nothing-fits s roots (Alloc layout) made.Works q = inl refl
nothing-fits s roots (Alloc layout) made.GoesWrong q = tt
nothing-fits s roots (Alloc layout) (made.ReadsOldValue b w v) q = tt
nothing-fits s roots (Alloc layout) (made.Marks r) q = tt
nothing-fits s roots (Alloc layout) (made.StoresAfterBarrier b w v) q = tt
nothing-fits s roots (Alloc layout) (made.StoresPlain b w v) q = tt
nothing-fits s roots (Alloc layout) (made.ReadsPosted stage) q = tt
nothing-fits s roots (Alloc layout) (made.Answers stage) q = tt
nothing-fits s roots (Alloc layout) made.Ends q = tt
nothing-fits s roots (Alloc layout) (made.ReadsPostedFirst posted) q = tt
nothing-fits s roots (Alloc layout) (made.EntersStage next) q = tt
nothing-fits s roots (Alloc layout) (made.ReadsPostedAgain posted) q = tt

-- the answer fits what was asked for
pub answers : (s : Setup) (h : Shared) (hints : List ℕ) (roots : List WordValue) (action : Action) (at : CallPhase) (move : Move) → HasShape s h → AsksByKind s action → IsChosen s h hints roots action at (move_in roots move)
    → AnswersByKind s action (answer_of action (move_in roots move))
answers s h hints roots action at (made.ReadsWord base word value) shape a c =
    let asks : AsksByKind s (Read base word) = subst (λ (x : Action). AsksByKind s x) c.0 a in
    let fits : MayHold s (kind_of s base.cell word) value = subst (λ (x : WordValue). MayHold s (kind_of s base.cell word) x) (sym c.1) (word-fits s h base.cell word shape asks.0 asks.1) in
    subst (λ (x : Action). AnswersByKind s x (answer_of x (move_in roots (made.ReadsWord base word value)))) (sym c.0) fits
answers s h hints roots action at (made.Claims r true) shape a c =
    let fits : AnswersByKind s (Alloc c.0) (Got r) = inr c.2 in
    subst (λ (x : Action). AnswersByKind s x (answer_of x (move_in roots (made.Claims r true)))) (sym c.1) fits
answers s h hints roots action at (made.Claims r false) shape a c =
    subst (λ (x : Action). AnswersByKind s x (answer_of x (move_in roots (made.Claims r false)))) (sym c.1) (inl refl)
answers s h hints roots action at made.Works shape a c = nothing-fits s roots action made.Works tt
answers s h hints roots action at made.GoesWrong shape a c = nothing-fits s roots action made.GoesWrong tt
answers s h hints roots action at (made.ReadsOldValue base word value) shape a c = nothing-fits s roots action (made.ReadsOldValue base word value) tt
answers s h hints roots action at (made.Marks r) shape a c = nothing-fits s roots action (made.Marks r) tt
answers s h hints roots action at (made.StoresAfterBarrier base word value) shape a c = nothing-fits s roots action (made.StoresAfterBarrier base word value) tt
answers s h hints roots action at (made.StoresPlain base word value) shape a c = nothing-fits s roots action (made.StoresPlain base word value) tt
answers s h hints roots action at (made.ReadsPosted stage) shape a c = nothing-fits s roots action (made.ReadsPosted stage) tt
answers s h hints roots action at (made.Answers stage) shape a c = nothing-fits s roots action (made.Answers stage) tt
answers s h hints roots action at made.Ends shape a c = nothing-fits s roots action made.Ends tt
answers s h hints roots action at (made.ReadsPostedFirst posted) shape a c = nothing-fits s roots action (made.ReadsPostedFirst posted) tt
answers s h hints roots action at (made.EntersStage next) shape a c = nothing-fits s roots action (made.EntersStage next) tt
answers s h hints roots action at (made.ReadsPostedAgain posted) shape a c = nothing-fits s roots action (made.ReadsPostedAgain posted) tt

-- one of two states that fit
either-fits : {State : Type 0} (Fits : State → Type 0) (b : Bool) (x y : State) → Fits x → Fits y → Fits (if b then x else y)
either-fits Fits true x y f g = f
either-fits Fits false x y f g = g

-- so the state after the move fits
pub moved-fits : (s : Setup) (m : Machine) (Fits : m.State → Type 0) (h : Shared) (thread_state : ThreadState m.State) (move : Move) → HasShape s h → KeepsKinds s m.action m.after_answer m.roots Fits thread_state.state → Fits thread_state.state
    → IsChosen s h thread_state.hints (m.roots thread_state.state) (m.action thread_state.state) thread_state.call_phase (move_in (m.roots thread_state.state) move)
    → Fits (moved s m (standing s m thread_state) (move_in (m.roots thread_state.state) move)).state
moved-fits s m Fits h thread_state move shape keeps fits c =
    either-fits Fits _ _ _
    (keeps.goes_on (answer_of (m.action thread_state.state) (move_in (m.roots thread_state.state) move)) (answers s h thread_state.hints (m.roots thread_state.state) (m.action thread_state.state) thread_state.call_phase move shape keeps.asks c))
    fits

-- and what a write under way has read is a cell
pub replaced-cell : (s : Setup) (h : Shared) (hints : List ℕ) (roots : List WordValue) (action : Action) (at : CallPhase) (move : Move) → HasShape s h → AsksByKind s action → IsChosen s h hints roots action at (move_in roots move)
    → (old_by (move_in roots move)).cell < cells s
replaced-cell s h hints roots action at (made.ReadsOldValue base word value) shape a c =
    let asks : AsksByKind s (Write base word c.0) = subst (λ (x : Action). AsksByKind s x) c.1 a in
    let fits = word-fits s h base.cell word shape asks.0 (reference-there (kind_of s base.cell word) asks.1) in
    subst (λ (x : WordValue). x.cell < cells s) (sym c.2) (cell-held s (kind_of s base.cell word) (word_at h.words base.cell word) asks.1 fits)
replaced-cell s h hints roots action at made.Works shape a c = omega arith
replaced-cell s h hints roots action at made.GoesWrong shape a c = omega arith
replaced-cell s h hints roots action at (made.ReadsWord base word value) shape a c = omega arith
replaced-cell s h hints roots action at (made.Marks r) shape a c = omega arith
replaced-cell s h hints roots action at (made.StoresAfterBarrier base word value) shape a c = omega arith
replaced-cell s h hints roots action at (made.StoresPlain base word value) shape a c = omega arith
replaced-cell s h hints roots action at (made.Claims r won) shape a c = omega arith
replaced-cell s h hints roots action at (made.ReadsPosted stage) shape a c = omega arith
replaced-cell s h hints roots action at (made.Answers stage) shape a c = omega arith
replaced-cell s h hints roots action at made.Ends shape a c = omega arith
replaced-cell s h hints roots action at (made.ReadsPostedFirst posted) shape a c = omega arith
replaced-cell s h hints roots action at (made.EntersStage next) shape a c = omega arith
replaced-cell s h hints roots action at (made.ReadsPostedAgain posted) shape a c = omega arith
