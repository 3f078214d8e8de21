-- What a place holds where another number was put.
use Rattle.std.proofs.Common.{◌≡◌, ℕ, suc, ◌==◌, ◌&&◌, max, Bool, true, false, Option, Some, None, List, slice_index, slice_set, if◌then◌else◌, refl, ap, ◌∙◌}
use Rattle.lemmas.specs.Numbers.{test_true}
use Rattle.lemmas.specs.Bools.{and_parts}
use Rattle.colours.specs.declared.place.Place.{Place}
use Rattle.colours.specs.declared.place.Place.TheVariants.{Posted, Stage, Colour, Word}
use Rattle.colours.specs.Colours.{mark_at, claim_at, done}
use Rattle.colours.specs.Steps.{Step, ask_of, same_place, left_by}
use Rattle.runs.specs.Machine.{WordValue}
use Rattle.runs.specs.Moves.{step_of}
use Rattle.moves.specs.declared.moves.Move.{Move}
use Rattle.moves.specs.declared.moves.Move.TheVariants as made
use Rattle.moves.specs.declared.shared.Shared.{Shared}
use Rattle.moves.specs.Calls.{move_in}
use Rattle.moves.specs.Rows.{word_at, with_word}
use Rattle.moves.specs.Shared.{held_at, CanHold, CanTake, with_number, with_move}
use Rattle.stepping.proofs.Rows.{entry-set, word-set}

-- a part of a reference that a test chooses
cell-of : (b : Bool) (r q : WordValue) → (if b then r else q).cell ≡ (if b then r.cell else q.cell)
cell-of true r q = refl
cell-of false r q = refl

-- another reference in a word
pub held-word : (h : Shared) (c i : ℕ) (r : WordValue) (p : Place) → CanHold h (Word c i)
    → held_at (record h { words = with_word h.words c i r }) p ≡ (if same_place (Word c i) p then r.cell else held_at h p)
held-word h c i r Posted can = refl
held-word h c i r (Stage thread) can = refl
held-word h c i r (Colour cell) can = refl
held-word h c i r (Word d j) can = ap (λ (x : WordValue). x.cell) (word-set h.words c i r d j can.0 can.1) ∙ cell-of ((c == d) && (i == j)) r (word_at h.words d j)

-- another number in a place
pub held-number : (h : Shared) (q : Place) (n : ℕ) (p : Place) → CanHold h q → held_at (with_number h q n) p ≡ (if same_place q p then n else held_at h p)
held-number h Posted n Posted can = refl
held-number h Posted n (Stage thread) can = refl
held-number h Posted n (Colour cell) can = refl
held-number h Posted n (Word cell word) can = refl
held-number h (Stage t) n Posted can = refl
held-number h (Stage t) n (Stage u) can = entry-set h.stages t u n 0 can
held-number h (Stage t) n (Colour cell) can = refl
held-number h (Stage t) n (Word cell word) can = refl
held-number h (Colour c) n Posted can = refl
held-number h (Colour c) n (Stage thread) can = refl
held-number h (Colour c) n (Colour d) can = entry-set h.colours c d n 0 can
held-number h (Colour c) n (Word cell word) can = refl
held-number h (Word c i) n p can = held-word h c i (record { cell = n; birth = 0 }) p can

-- no place holds a birth
held-births : (h : Shared) (births : List ℕ) (p : Place) → held_at (record h { births = births }) p ≡ held_at h p
held-births h births Posted = refl
held-births h births (Stage thread) = refl
held-births h births (Colour cell) = refl
held-births h births (Word cell word) = refl

-- one place holds one number
held-same : (h : Shared) (q p : Place) → same_place q p ≡ true → held_at h q ≡ held_at h p
held-same h Posted Posted e = refl
held-same h (Stage t) (Stage u) e = ap (λ n. slice_index h.stages n) (test_true t u e)
held-same h (Colour c) (Colour d) e = ap (λ n. slice_index h.colours n) (test_true c d e)
held-same h (Word c i) (Word d j) e =
    let parts = and_parts (c == d) (i == j) e in
    ap (λ n. (word_at h.words n i).cell) (test_true c d parts.0) ∙ ap (λ n. (word_at h.words d n).cell) (test_true i j parts.1)
held-same h _ _ e = absurd cc

-- a number that was made of the one in its place
held-made : (h : Shared) (q : Place) (f : ℕ → ℕ) (p : Place) → (if same_place q p then f (held_at h q) else held_at h p) ≡ (if same_place q p then f (held_at h p) else held_at h p)
held-made h q f p = go (same_place q p) refl
  where
    go : (b : Bool) → same_place q p ≡ b → (if b then f (held_at h q) else held_at h p) ≡ (if b then f (held_at h p) else held_at h p)
    go true e = ap f (held-same h q p e)
    go false e = refl

-- a claim is won where its cell is free, and gives the next birth
abbrev pub SeesCell : Shared → Move → Type 0
SeesCell h (made.Claims r won) = (won ≡ (slice_index h.colours r.cell == 0)) × (r.birth ≡ suc (slice_index h.births r.cell))
SeesCell h move = Unit {0}

-- what a thread's move leaves in a place that held this number
abbrev pub left_in : (thread stage : ℕ) → Option Step → Place → ℕ → ℕ
left_in thread stage None p m = m
left_in thread stage (Some step) p m = left_by (ask_of thread stage step) p m

-- the same for each move
pub held-left : (h : Shared) (t stage : ℕ) (roots : List WordValue) (move : Move) (p : Place) → CanTake h t stage move → SeesCell h move
    → held_at (with_move h t stage move) p ≡ left_in t stage (step_of (move_in roots move)) p (held_at h p)
held-left h t stage roots made.Works p can sees = refl
held-left h t stage roots made.GoesWrong p can sees = refl
held-left h t stage roots (made.ReadsWord base word value) p can sees = refl
held-left h t stage roots (made.ReadsOldValue base word value) p can sees = refl
held-left h t stage roots (made.ReadsPosted posted) p can sees = refl
held-left h t stage roots (made.StoresAfterBarrier base word value) p can sees = held-word h base.cell word value p can
held-left h t stage roots (made.StoresPlain base word value) p can sees = held-word h base.cell word value p can
held-left h t stage roots (made.Marks r) p can sees =
    held-number h (Colour r.cell) (max (slice_index h.colours r.cell) (mark_at stage)) p can.0 ∙ held-made h (Colour r.cell) (λ m. max m (mark_at stage)) p
held-left h t stage roots (made.Answers next) p can sees = held-number h (Stage t) next p can
held-left h t stage roots made.Ends p can sees = held-number h (Stage t) done p can
held-left h t stage roots (made.ReadsPostedFirst posted) p can sees = refl
held-left h t stage roots (made.EntersStage next) p can sees = held-number h (Stage t) next p can
held-left h t stage roots (made.ReadsPostedAgain posted) p can sees = refl
held-left h t stage roots (made.Claims r true) p can sees =
    held-births (record h { colours = slice_set h.colours r.cell (claim_at stage) }) (slice_set h.births r.cell r.birth) p
    ∙ held-number h (Colour r.cell) (claim_at stage) p can.0
    ∙ ap (λ b. if same_place (Colour r.cell) p then (if b then claim_at stage else slice_index h.colours r.cell) else held_at h p) sees.0
    ∙ held-made h (Colour r.cell) (λ m. if m == 0 then claim_at stage else m) p
held-left h t stage roots (made.Claims r false) p can sees = go (same_place (Colour r.cell) p) refl
  where
    go : (b : Bool) → same_place (Colour r.cell) p ≡ b → held_at h p ≡ (if b then (if held_at h p == 0 then claim_at stage else held_at h p) else held_at h p)
    go false e = refl
    go true e =
        let here = held-same h (Colour r.cell) p e in
        ap (λ b. if b then claim_at stage else held_at h p) (sees.0 ∙ ap (λ n. n == 0) here)
