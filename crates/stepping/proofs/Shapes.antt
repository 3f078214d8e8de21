-- The words keep their shape where a place takes what fits it.
use Rattle.std.proofs.Common.{◌≡◌, ◌<◌, ℕ, ◌==◌, ◌&&◌, Bool, true, false, Some, [], slice_index_or, slice_set, if◌then◌else◌, refl, sym, ap, ◌∙◌, subst}
use Rattle.std.proofs.lemmas.List.{length-set}
use Rattle.lemmas.specs.Numbers.{test_true}
use Rattle.lemmas.specs.Bools.{and_parts}
use Rattle.pools.specs.Heap.{Setup, cells, kind_of}
use Rattle.pools.specs.declared.word_kind.WordKind.{WordKind}
use Rattle.colours.specs.declared.place.Place.TheVariants.{Word}
use Rattle.runs.specs.Machine.{WordValue}
use Rattle.moves.specs.declared.moves.Move.{Move}
use Rattle.moves.specs.declared.moves.Move.TheVariants as made
use Rattle.moves.specs.declared.shared.Shared.{Shared}
use Rattle.moves.specs.Kinds.{MayHold}
use Rattle.moves.specs.Rows.{word_at, with_word}
use Rattle.moves.specs.Shared.{HasShape, CanHold, CanTake, with_move}
use Rattle.stepping.proofs.Rows.{word-set, row-set}

-- another stage of a thread
pub shape-stages : (s : Setup) (h : Shared) (t n : ℕ) → HasShape s h → HasShape s (record h { stages = slice_set h.stages t n })
shape-stages s h t n shape = record {
  stages = length-set h.stages t n ∙ shape.stages;
  colours = shape.colours;
  births = shape.births;
  rows = shape.rows;
  row = shape.row;
  kinds = shape.kinds;
}

-- another colour of a cell
pub shape-colours : (s : Setup) (h : Shared) (c n : ℕ) → HasShape s h → HasShape s (record h { colours = slice_set h.colours c n })
shape-colours s h c n shape = record {
  stages = shape.stages;
  colours = length-set h.colours c n ∙ shape.colours;
  births = shape.births;
  rows = shape.rows;
  row = shape.row;
  kinds = shape.kinds;
}

-- another birth of a cell
shape-births : (s : Setup) (h : Shared) (c n : ℕ) → HasShape s h → HasShape s (record h { births = slice_set h.births c n })
shape-births s h c n shape = record {
  stages = shape.stages;
  colours = shape.colours;
  births = length-set h.births c n ∙ shape.births;
  rows = shape.rows;
  row = shape.row;
  kinds = shape.kinds;
}

-- another posted stage
pub shape-posted : (s : Setup) (h : Shared) (n : ℕ) → HasShape s h → HasShape s (record h { posted = n })
shape-posted s h n shape = record {
  stages = shape.stages;
  colours = shape.colours;
  births = shape.births;
  rows = shape.rows;
  row = shape.row;
  kinds = shape.kinds;
}

-- another reference in a word, that fits its kind
pub shape-word : (s : Setup) (h : Shared) (c i : ℕ) (r : WordValue) → HasShape s h → CanHold h (Word c i) → MayHold s (kind_of s c i) r → HasShape s (record h { words = with_word h.words c i r })
shape-word s h c i r shape can may = record {
  stages = shape.stages;
  colours = shape.colours;
  births = shape.births;
  rows = length-set h.words c (slice_set (slice_index_or h.words c []) i r) ∙ shape.rows;
  row = λ d lt. row-set h.words c i r d can.0 ∙ shape.row d lt;
  kinds = λ d j kind lt is. subst (λ (x : WordValue). MayHold s (Some kind) x) (sym (word-set h.words c i r d j can.0 can.1)) (go d j kind lt is ((c == d) && (i == j)) refl);
}
  where
    go : (d j : ℕ) (kind : WordKind) → d < cells s → kind_of s d j ≡ Some kind → (b : Bool) → ((c == d) && (i == j)) ≡ b → MayHold s (Some kind) (if b then r else word_at h.words d j)
    go d j kind lt is true e =
        let parts = and_parts (c == d) (i == j) e in
        subst (λ k. MayHold s k r) (ap (λ n. kind_of s n i) (test_true c d parts.0) ∙ ap (λ n. kind_of s d n) (test_true i j parts.1) ∙ is) may
    go d j kind lt is false e = shape.kinds d j kind lt is

-- a move puts what fits the kind of its word
abbrev pub PutsByKind : Setup → Move → Type 0
PutsByKind s (made.StoresAfterBarrier base word value) = MayHold s (kind_of s base.cell word) value
PutsByKind s (made.StoresPlain base word value) = MayHold s (kind_of s base.cell word) value
PutsByKind s move = Unit {0}

-- the same after a thread's move
pub shape-move : (s : Setup) (h : Shared) (t stage : ℕ) (move : Move) → HasShape s h → CanTake h t stage move → PutsByKind s move → HasShape s (with_move h t stage move)
shape-move s h t stage made.Works shape can puts = shape
shape-move s h t stage made.GoesWrong shape can puts = shape
shape-move s h t stage (made.ReadsWord base word value) shape can puts = shape
shape-move s h t stage (made.ReadsOldValue base word value) shape can puts = shape
shape-move s h t stage (made.ReadsPosted posted) shape can puts = shape
shape-move s h t stage (made.StoresAfterBarrier base word value) shape can puts = shape-word s h base.cell word value shape can puts
shape-move s h t stage (made.StoresPlain base word value) shape can puts = shape-word s h base.cell word value shape can puts
shape-move s h t stage (made.Marks r) shape can puts = shape-colours s h r.cell _ shape
shape-move s h t stage (made.Answers next) shape can puts = shape-stages s h t next shape
shape-move s h t stage made.Ends shape can puts = shape-stages s h t _ shape
shape-move s h t stage (made.ReadsPostedFirst posted) shape can puts = shape
shape-move s h t stage (made.EntersStage next) shape can puts = shape-stages s h t next shape
shape-move s h t stage (made.ReadsPostedAgain posted) shape can puts = shape
shape-move s h t stage (made.Claims r true) shape can puts = shape-births s (record h { colours = slice_set h.colours r.cell _ }) r.cell r.birth (shape-colours s h r.cell _ shape)
shape-move s h t stage (made.Claims r false) shape can puts = shape
