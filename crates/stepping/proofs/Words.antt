-- The words and births after a thread's move are those of the longer run.
use Rattle.std.proofs.Common.{◌≡◌, ℕ, suc, ◌==◌, ◌&&◌, Bool, true, false, Option, Some, None, List, ◌∷◌, slice_index, slice_set, if◌then◌else◌, refl, sym, ap, ◌∙◌}
use Rattle.lemmas.specs.Numbers.{test_true, test_yes, test_false, test_no}
use Rattle.pools.specs.Heap.{Setup}
use Rattle.colours.specs.declared.place.Place.{Place}
use Rattle.colours.specs.Steps.{Step, ask_of, left_by}
use Rattle.colours.specs.Mutator.{stage_of, wins}
use Rattle.colours.specs.Runs.{Event, log_of, word_after, births_after}
use Rattle.runs.specs.Machine.{WordValue}
use Rattle.runs.specs.Moves.{step_of, steps_of}
use Rattle.runs.specs.ModuleRuns.{Happening, OfThread, share_of, with_step, heap_of, birth_in, left_birth}
use Rattle.runs.specs.Shares.{log_is}
use Rattle.moves.specs.declared.moves.Move.{Move}
use Rattle.moves.specs.declared.moves.Move.TheVariants as made
use Rattle.moves.specs.declared.shared.Shared.{Shared}
use Rattle.moves.specs.Calls.{move_in}
use Rattle.moves.specs.Rows.{word_at, with_word}
use Rattle.moves.specs.Shared.{ThreadStateAfter, CanTake, with_move}
use Rattle.stepping.proofs.Rows.{entry-set, word-set}
use Rattle.stepping.proofs.Places.{SeesCell, left_in, held-left}
use Rattle.stepping.proofs.Shapes.{PutsByKind, shape-move}

-- ---- words

-- what a step, if it is one, leaves in a place
left-afterwards : (s : Setup) (t stage : ℕ) (o : Option Step) (h : List Event) (p : Place) → stage ≡ stage_of (log_of t h)
    → left_in t stage o p (word_after s h p) ≡ word_after s (with_step t o h) p
unfolding word_after
left-afterwards s t stage None h p e = refl
left-afterwards s t stage (Some step) h p e = ap (λ n. left_by (ask_of t n step) p (word_after s h p)) e

-- ---- births in words

-- a part of a reference that a test chooses
birth-of : (b : Bool) (r q : WordValue) → (if b then r else q).birth ≡ (if b then r.birth else q.birth)
birth-of true r q = refl
birth-of false r q = refl

-- what a store leaves
pub birth-stored : (rows : List (List WordValue)) (c i : ℕ) (r : WordValue) (d j n : ℕ) → word_at (with_word rows c i r) d j ≡ (if (c == d) && (i == j) then r else word_at rows d j) → (word_at rows d j).birth ≡ n
    → (word_at (with_word rows c i r) d j).birth ≡ (if (c == d) && (i == j) then r.birth else n)
birth-stored rows c i r d j n e same =
    ap (λ (x : WordValue). x.birth) e
    ∙ birth-of ((c == d) && (i == j)) r (word_at rows d j)
    ∙ ap (λ m. if (c == d) && (i == j) then r.birth else m) same

-- the same for each move
birth-left : (h : Shared) (t stage : ℕ) (roots : List WordValue) (move : Move) (d j n : ℕ) → CanTake h t stage move → (word_at h.words d j).birth ≡ n
    → (word_at (with_move h t stage move).words d j).birth ≡ left_birth (move_in roots move) d j n
birth-left h t stage roots made.Works d j n can same = same
birth-left h t stage roots made.GoesWrong d j n can same = same
birth-left h t stage roots (made.ReadsWord base word value) d j n can same = same
birth-left h t stage roots (made.ReadsOldValue base word value) d j n can same = same
birth-left h t stage roots (made.Marks r) d j n can same = same
birth-left h t stage roots (made.ReadsPosted posted) d j n can same = same
birth-left h t stage roots (made.Answers next) d j n can same = same
birth-left h t stage roots made.Ends d j n can same = same
birth-left h t stage roots (made.ReadsPostedFirst posted) d j n can same = same
birth-left h t stage roots (made.EntersStage next) d j n can same = same
birth-left h t stage roots (made.ReadsPostedAgain posted) d j n can same = same
birth-left h t stage roots (made.Claims r true) d j n can same = same
birth-left h t stage roots (made.Claims r false) d j n can same = same
birth-left h t stage roots (made.StoresAfterBarrier base word value) d j n can same =
    birth-stored h.words base.cell word value d j n (word-set h.words base.cell word value d j can.0 can.1) same
birth-left h t stage roots (made.StoresPlain base word value) d j n can same =
    birth-stored h.words base.cell word value d j n (word-set h.words base.cell word value d j can.0 can.1) same

-- ---- births of cells

-- with the cell that a step, if it is one, wins
abbrev won_by : Option Step → (cell birth : ℕ) → ℕ
won_by None cell birth = birth
won_by (Some step) cell birth = if wins step cell then suc birth else birth

-- what it leaves in the run
born-afterwards : (s : Setup) (t : ℕ) (o : Option Step) (h : List Event) (cell : ℕ) → won_by o cell ((births_after s h).of_cell cell) ≡ (births_after s (with_step t o h)).of_cell cell
unfolding births_after
born-afterwards s t None h cell = refl
born-afterwards s t (Some step) h cell = refl

-- what a claim leaves
born-won : (births : List ℕ) (c birth d : ℕ) → birth ≡ suc (slice_index births c) → slice_index (slice_set births c birth) d ≡ (if c == d then birth else slice_index births d)
    → slice_index (slice_set births c birth) d ≡ (if d == c then suc (slice_index births d) else slice_index births d)
born-won births c birth d next e = e ∙ go (c == d) refl
  where
    go : (b : Bool) → (c == d) ≡ b → (if b then birth else slice_index births d) ≡ (if d == c then suc (slice_index births d) else slice_index births d)
    go true is = rw (test_yes d c (sym (test_true c d is))) (next ∙ ap (λ n. suc (slice_index births n)) (test_true c d is))
    go false is = rw (test_no d c (λ x. test_false c d is (sym x))) refl

-- the same for each move
born-left : (h : Shared) (t stage : ℕ) (roots : List WordValue) (move : Move) (d : ℕ) → CanTake h t stage move → SeesCell h move
    → slice_index (with_move h t stage move).births d ≡ won_by (step_of (move_in roots move)) d (slice_index h.births d)
born-left h t stage roots made.Works d can sees = refl
born-left h t stage roots made.GoesWrong d can sees = refl
born-left h t stage roots (made.ReadsWord base word value) d can sees = refl
born-left h t stage roots (made.ReadsOldValue base word value) d can sees = refl
born-left h t stage roots (made.Marks r) d can sees = refl
born-left h t stage roots (made.ReadsPosted posted) d can sees = refl
born-left h t stage roots (made.Answers next) d can sees = refl
born-left h t stage roots made.Ends d can sees = refl
born-left h t stage roots (made.ReadsPostedFirst posted) d can sees = refl
born-left h t stage roots (made.EntersStage next) d can sees = refl
born-left h t stage roots (made.ReadsPostedAgain posted) d can sees = refl
born-left h t stage roots (made.Claims r false) d can sees = refl
born-left h t stage roots (made.StoresAfterBarrier base word value) d can sees = refl
born-left h t stage roots (made.StoresPlain base word value) d can sees = refl
born-left h t stage roots (made.Claims r true) d can sees = born-won h.births r.cell r.birth d sees.1 (entry-set h.births r.cell d r.birth 0 can.1)

-- ---- all of them

-- after a thread's move
pub words-grow : (s : Setup) (run : List Happening) (t stage : ℕ) (roots : List WordValue) (h : Shared) (move : Move) → stage ≡ stage_of (steps_of (share_of t run))
    → ThreadStateAfter s run h → CanTake h t stage move → SeesCell h move → PutsByKind s move
    → ThreadStateAfter s (OfThread t (move_in roots move) ∷ run) (with_move h t stage move)
words-grow s run t stage roots h move is_stage thread_state can sees puts = record {
  shape = shape-move s h t stage move thread_state.shape can puts;
  afterwards = record {
    words = λ p.
        held-left h t stage roots move p can sees
        ∙ ap (left_in t stage (step_of (move_in roots move)) p) (thread_state.afterwards.words p)
        ∙ left-afterwards s t stage (step_of (move_in roots move)) (heap_of run) p (is_stage ∙ ap stage_of (sym (log_is t run)));
    word_births = λ d j. birth-left h t stage roots move d j (birth_in run d j) can (thread_state.afterwards.word_births d j);
    births = λ d.
        born-left h t stage roots move d can sees
        ∙ ap (won_by (step_of (move_in roots move)) d) (thread_state.afterwards.births d)
        ∙ born-afterwards s t (step_of (move_in roots move)) (heap_of run) d;
  };
}
