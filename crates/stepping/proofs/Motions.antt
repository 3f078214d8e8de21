-- A next step of the collector leaves the words and births after the longer run.
use Rattle.std.proofs.Common.{◌≡◌, ◌<◌, ℕ, inl, Bool, true, false, Option, Some, None, List, ◌∷◌, length, slice_get, slice_index, unwrap_or, if◌then◌else◌, refl, sym, ap, ◌∙◌, subst, arith}
use Rattle.std.proofs.lemmas.Option.{slice_get-get_or}
use Rattle.pools.specs.Heap.{Setup, cells, kind_of, words_of_cell}
use Rattle.pools.specs.declared.word_kind.WordKind.{WordKind}
use Rattle.pools.specs.declared.word_kind.WordKind.TheVariants as kind
use Rattle.colours.specs.declared.place.Place.{Place}
use Rattle.colours.specs.declared.place.Place.TheVariants.{Posted, Stage, Colour, Word}
use Rattle.colours.specs.declared.turn.Turn.{Turn}
use Rattle.colours.specs.declared.turn.Turn.TheVariants.{PostStage, ReadStage, MarkFound, ReadColour, ScanWord, Blacken, ClearWord, Free}
use Rattle.colours.specs.Colours.{cycle_of}
use Rattle.colours.specs.Steps.{turn_of, place_of, same_place}
use Rattle.colours.specs.Runs.{Event, ByCollector, turns_of, births_after}
use Rattle.trace_sweep.specs.declared.motion.Motion.{Motion}
use Rattle.trace_sweep.specs.Turns.{turn_in, afterwards}
use Rattle.trace_sweep.specs.Collecting as machine
use Rattle.trace_sweep.specs.Collecting.{Collecting, plan_of, in_order, moved, NamesCells, stored_by}
use Rattle.trace_sweep.specs.Stands.{StandsAfter, IsStepOn, ExtendsLogs, ExtendsRun}
use Rattle.trace_sweep.specs.Order.{moved-stands}
use Rattle.trace_sweep.specs.Extends.{next-extends}
use Rattle.runs.specs.ModuleRuns.{Happening, heap_of, birth_in, cleared_birth}
use Rattle.moves.specs.declared.shared.Shared.{Shared}
use Rattle.moves.specs.Kinds.{MayHold}
use Rattle.moves.specs.Rows.{word_at}
use Rattle.moves.specs.Shared.{held_at, HasShape, CanHold, with_number}
use Rattle.stepping.specs.Growth.{IsPlaceInHeap, IsInHeap, with_stored, CollectorIsAfter, MotionGrows}
use Rattle.stepping.proofs.Rows.{word-set}
use Rattle.stepping.proofs.Places.{held-number}
use Rattle.stepping.proofs.Shapes.{shape-colours, shape-posted, shape-word}
use Rattle.stepping.proofs.Words.{birth-stored}
use Rattle.stepping.proofs.Turns.{names-cells, place-there, in-heap-afterwards, listed-below}

-- ---- what a step stores

-- the words with what is stored in a place, if something is
abbrev with_at : Shared → Place → Option ℕ → Shared
with_at h p None = h
with_at h p (Some n) = with_number h p n

-- the same after a motion
stored-at : (h : Shared) (motion : Motion) (o : Option ℕ) → with_at h motion.place o ≡ with_stored h motion o
stored-at h motion None = refl
stored-at h motion (Some n) = refl

-- what a place holds then
held-stored : (h : Shared) (motion : Motion) (o : Option ℕ) (p : Place) → CanHold h motion.place
    → held_at (with_stored h motion o) p ≡ (if same_place motion.place p then unwrap_or o (held_at h p) else held_at h p)
held-stored h motion None p can = go (same_place motion.place p)
  where
    go : (b : Bool) → held_at h p ≡ (if b then held_at h p else held_at h p)
    go true = refl
    go false = refl
held-stored h motion (Some n) p can = held-number h motion.place n p can

-- no birth of a cell changes
born-stored : (h : Shared) (motion : Motion) (o : Option ℕ) (cell : ℕ) → slice_index (with_stored h motion o).births cell ≡ slice_index h.births cell
born-stored h motion None cell = refl
born-stored h motion (Some n) cell = go motion.place
  where
    go : (p : Place) → slice_index (with_number h p n).births cell ≡ slice_index h.births cell
    go Posted = refl
    go (Stage thread) = refl
    go (Colour c) = refl
    go (Word c word) = refl

-- in the run
born-afterwards : (s : Setup) (turn : Turn) (h : List Event) (cell : ℕ) → (births_after s h).of_cell cell ≡ (births_after s (ByCollector turn ∷ h)).of_cell cell
unfolding births_after
born-afterwards s turn h cell = refl

-- ---- by the step

-- null, or 0, fits each word that is there
null-fits : (s : Setup) (cell word : ℕ) → word < length (words_of_cell s cell) → MayHold s (kind_of s cell word) (record { cell = 0; birth = 0 })
unfolding kind_of
null-fits s cell word is_word = go (slice_get (words_of_cell s cell) word) refl
  where
    go : (k : Option WordKind) → slice_get (words_of_cell s cell) word ≡ k → MayHold s k (record { cell = 0; birth = 0 })
    go None e = let some = slice_get-get_or (words_of_cell s cell) word (kind.Integer 0) is_word in absurd cc
    go (Some (kind.Integer bits)) e = omega arith
    go (Some (kind.Reference layout)) e = inl refl

-- the words keep their shape
shape-turn : (s : Setup) (h : Shared) (cycle found : ℕ) (turn : Turn) → HasShape s h → CanHold h (place_of (turn_of cycle turn))
    → HasShape s (with_at h (place_of (turn_of cycle turn)) (stored_by (turn_of cycle turn) found))
shape-turn s h cycle found (PostStage stage) shape can = shape-posted s h stage shape
shape-turn s h cycle found (ReadStage thread stage) shape can = shape
shape-turn s h cycle found (MarkFound cell colour) shape can = shape-colours s h cell _ shape
shape-turn s h cycle found (ReadColour cell colour) shape can = shape
shape-turn s h cycle found (ScanWord cell word value) shape can = shape
shape-turn s h cycle found (Blacken cell) shape can = shape-colours s h cell _ shape
shape-turn s h cycle found (ClearWord cell word) shape can =
    let is_row = can.0 in
    let is_word = can.1 in
    let rows = shape.rows in
    let is_cell : cell < cells s = omega (arith, is_row, rows) in
    let row = shape.row cell is_cell in
    shape-word s h cell word (record { cell = 0; birth = 0 }) shape can (null-fits s cell word (omega (arith, is_word, row)))
shape-turn s h cycle found (Free cell) shape can = shape-colours s h cell _ shape

-- a word that is cleared has birth 0
birth-turn : (h : Shared) (cycle found : ℕ) (turn : Turn) (d j n : ℕ) → CanHold h (place_of (turn_of cycle turn)) → (word_at h.words d j).birth ≡ n
    → (word_at (with_at h (place_of (turn_of cycle turn)) (stored_by (turn_of cycle turn) found)).words d j).birth ≡ cleared_birth turn d j n
birth-turn h cycle found (PostStage stage) d j n can same = same
birth-turn h cycle found (ReadStage thread stage) d j n can same = same
birth-turn h cycle found (MarkFound cell colour) d j n can same = same
birth-turn h cycle found (ReadColour cell colour) d j n can same = same
birth-turn h cycle found (ScanWord cell word value) d j n can same = same
birth-turn h cycle found (Blacken cell) d j n can same = same
birth-turn h cycle found (ClearWord cell word) d j n can same =
    birth-stored h.words cell word (record { cell = 0; birth = 0 }) d j n (word-set h.words cell word (record { cell = 0; birth = 0 }) d j can.0 can.1) same
birth-turn h cycle found (Free cell) d j n can same = same

-- ---- each next step

-- of the collector of a run
motion-grows : (s : Setup) (run : List Happening) (c : Collecting) (h : Shared) → CollectorIsAfter s run c h
    → (motion : Motion) (next : Collecting) → IsStepOn (held_at h) c motion next → MotionGrows s run h motion next
motion-grows s run c h b motion next step = record {
  can_hold = can;
  stands = goes s (turns_of (heap_of run)) b.stands;
  in_heap = subst (λ (d : Collecting). IsInHeap s d) (sym step.moves) (
    subst (λ (plan : Setup). IsPlaceInHeap s (in_order (afterwards plan c.posted c.listed c.at found))) (sym b.stands.heap)
        (in-heap-afterwards s h c.posted c.listed c.at found b.words.shape b.in_heap.0 b.in_heap.1 (ap (held_at h) place)),
    listed-below s c.posted c.listed c.at (in_order (afterwards c.heap c.posted c.listed c.at found)) found b.in_heap.0 b.in_heap.1,
  );
  words = record {
    shape = subst (λ (k : Shared). HasShape s k) left (shape-turn s h (cycle_of c.posted) found motion.turn b.words.shape there);
    afterwards = record {
      words = λ p. held-stored h motion motion.stored p can ∙ sym (extends.words p);
      word_births = λ d j.
          ap (λ (k : Shared). (word_at k.words d j).birth) (sym left)
          ∙ birth-turn h (cycle_of c.posted) found motion.turn d j (birth_in run d j) there (b.words.afterwards.word_births d j);
      births = λ d. born-stored h motion motion.stored d ∙ b.words.afterwards.births d ∙ born-afterwards s motion.turn (heap_of run) d;
    };
  };
}
  where
    found : ℕ
    found = held_at h motion.place

    turn : motion.turn ≡ turn_in (plan_of s) c.posted c.listed c.at found
    turn = step.turn ∙ ap (λ (plan : Setup). turn_in plan c.posted c.listed c.at found) b.stands.heap

    place : motion.place ≡ place_of (turn_of (cycle_of c.posted) (turn_in (plan_of s) c.posted c.listed c.at found))
    place = step.place ∙ ap (λ (t : Turn). place_of (turn_of (cycle_of c.posted) t)) turn

    can : CanHold h motion.place
    can = subst (λ (p : Place). CanHold h p) (sym place) (place-there s h c.posted c.listed c.at found b.words.shape b.in_heap.0 b.in_heap.1)

    there : CanHold h (place_of (turn_of (cycle_of c.posted) motion.turn))
    there = subst (λ (p : Place). CanHold h p) step.place can

    left : with_at h (place_of (turn_of (cycle_of c.posted) motion.turn)) (stored_by (turn_of (cycle_of c.posted) motion.turn) found) ≡ with_stored h motion motion.stored
    left =
        ap (λ (p : Place). with_at h p (stored_by (turn_of (cycle_of c.posted) motion.turn) found)) (sym step.place)
        ∙ ap (with_at h motion.place) (sym step.stored)
        ∙ stored-at h motion motion.stored

    goes : ExtendsLogs c motion.turn next
    goes r log stands =
        subst (λ (t : Turn). StandsAfter r (t ∷ log) next) (sym step.turn)
        (subst (λ (d : Collecting). StandsAfter r (machine.turn_of c found ∷ log) d) (sym step.moves) (moved-stands r log c found stands step.further))

    extends : ExtendsRun s (heap_of run) (held_at h) motion
    extends = next-extends c (held_at h) motion next step goes s (heap_of run) b.stands b.words.afterwards.words

-- the same after each run
pub collector-grows : (s : Setup) (run : List Happening) (c : Collecting) (h : Shared) → CollectorIsAfter s run c h
    → NamesCells c.heap (held_at h) × ((motion : Motion) (next : Collecting) → IsStepOn (held_at h) c motion next → MotionGrows s run h motion next)
collector-grows s run c h b =
    (subst (λ (plan : Setup). NamesCells plan (held_at h)) (sym b.stands.heap) (names-cells s h b.words.shape), motion-grows s run c h b)
