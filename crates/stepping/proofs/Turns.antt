-- The collector's next step is at a place that is there, and leaves it at a thread or a cell of the heap.
use Rattle.std.proofs.Common.{◌≡◌, ◌≤◌, ◌<◌, ◌+◌, ◌-◌, ℕ, zero, suc, ◌==◌, ◌%◌, nat_lt, Bool, true, false, List, [], ◌∷◌, ◌&&◌, length, slice_index_or, if◌then◌else◌, refl, sym, ap, subst, IsTrue, arith}
use Rattle.std.proofs.lemmas.Bool.Decides.{nat_tests}
use Rattle.std.proofs.lemmas.List.{get_or_past}
use Rattle.lemmas.specs.Numbers.{lt_true}
use Rattle.pools.specs.Heap.{Setup, cells, kind_of, layout_of, words_of_cell}
use Rattle.pools.specs.Layouts.{is_reference_kind}
use Rattle.colours.specs.declared.turn.Turn.TheVariants.{ScanWord, Blacken, ClearWord, Free}
use Rattle.colours.specs.Colours.{cycle_of, grey}
use Rattle.colours.specs.Steps.{turn_of, place_of}
use Rattle.colours.specs.Collector.{Collection, Posting, Waiting, ShadingGlobals, Passing, Scanning, Shading, Sweeping, Clearing, Pass, first_pass, after_wait, wait_from, sweep_from, pass_from, has_answered, with_grey, is_white, skip_integers, reference_from}
use Rattle.trace_sweep.specs.Turns.{turn_in, afterwards, next_cell, pass_after_look, list_after, list_after_look, kept_list, list_limit}
use Rattle.trace_sweep.specs.Below.{AreBelow, add-below}
use Rattle.trace_sweep.specs.Collecting.{plan_of, in_order, NamesCells}
use Rattle.runs.specs.Machine.{WordValue}
use Rattle.runs.specs.Moves.{null}
use Rattle.moves.specs.declared.shared.Shared.{Shared}
use Rattle.moves.specs.Rows.{word_at}
use Rattle.moves.specs.Shared.{held_at, HasShape, CanHold}
use Rattle.stepping.specs.Growth.{IsPlaceInHeap}
use Rattle.stepping.proofs.Chosen.{cell-held}
use Rattle.stepping.proofs.Moves.{word-there, word-fits, reference-there}

-- a word at which the search for a reference ends is one
reference-at : (s : Setup) (cell word left : ℕ) → skip_integers s cell word left < word + left → is_reference_kind (kind_of s cell (skip_integers s cell word left)) ≡ true
reference-at s cell word zero lt = absurd (omega (arith, lt))
reference-at s cell word (suc left) lt = go (reference-at s cell (suc word) left) (is_reference_kind (kind_of s cell word)) refl lt
  where
    go : (skip_integers s cell (suc word) left < suc word + left → is_reference_kind (kind_of s cell (skip_integers s cell (suc word) left)) ≡ true) → (b : Bool)
        → is_reference_kind (kind_of s cell word) ≡ b → (if b then word else skip_integers s cell (suc word) left) < word + suc left
        → is_reference_kind (kind_of s cell (if b then word else skip_integers s cell (suc word) left)) ≡ true
    go rest true e lt = e
    go rest false e lt = rest (omega (arith, lt))

-- ---- the plan of a heap

-- has its words
same-words : (s : Setup) (cell : ℕ) → words_of_cell (plan_of s) cell ≡ words_of_cell s cell
unfolding layout_of
same-words s zero = refl
same-words s (suc cell) = refl

-- of the same kinds
same-kind : (s : Setup) (cell word : ℕ) → kind_of (plan_of s) cell word ≡ kind_of s cell word
unfolding kind_of layout_of
same-kind s zero word = refl
same-kind s (suc cell) word = refl

-- ---- references in words

-- what a reference word of a cell holds
cell-found : (s : Setup) (h : Shared) (cell word : ℕ) → HasShape s h → cell < cells s → IsTrue (is_reference_kind (kind_of s cell word)) → (word_at h.words cell word).cell < cells s
cell-found s h cell word shape is_cell is =
    cell-held s (kind_of s cell word) (word_at h.words cell word) is (word-fits s h cell word shape is_cell (reference-there (kind_of s cell word) is))

-- outside the cells there is null
null-outside : (rows : List (List WordValue)) (cell word : ℕ) → length rows ≤ cell → word_at rows cell word ≡ null
null-outside rows cell word past = ap (λ (row : List WordValue). slice_index_or row word null) (get_or_past rows cell [] past)

-- so each names a cell
pub names-cells : (s : Setup) (h : Shared) → HasShape s h → NamesCells (plan_of s) (held_at h)
names-cells s h shape cell word is = go (nat_lt cell (cells s)) refl
  where
    go : (b : Bool) → nat_lt cell (cells s) ≡ b → (word_at h.words cell word).cell < cells s
    go true e =
        cell-found s h cell word shape (lt_true cell (cells s) e) (subst (λ k. IsTrue (is_reference_kind k)) (same-kind s cell word) is)
    go false e =
        let rows = shape.rows in
        let past : length h.words ≤ cell = grind (arith, nat_tests) in
        let none = ap (λ (r : WordValue). r.cell) (null-outside h.words cell word past) in
        omega (arith, none)

-- ---- where it is after a look

-- the wait for a thread
wait-in : (s : Setup) (stage thread : ℕ) → IsPlaceInHeap s (in_order (wait_from (plan_of s) stage thread))
wait-in s stage thread = go (nat_lt thread s.threads) refl
  where
    afterwards-last : (a b : Bool) → IsPlaceInHeap s (in_order (if a then Posting else (if b then ShadingGlobals else Passing first_pass)))
    afterwards-last true b = tt
    afterwards-last false true = tt
    afterwards-last false false = omega arith

    go : (b : Bool) → nat_lt thread s.threads ≡ b → IsPlaceInHeap s (in_order (if b then Waiting thread else after_wait stage))
    go true e = lt_true thread s.threads e
    go false e = afterwards-last (stage % 3 == 1) (stage % 3 == 2)

-- the sweep from a cell on
sweep-in : (s : Setup) (cell : ℕ) → IsPlaceInHeap s (in_order (sweep_from (plan_of s) cell))
sweep-in s cell = go (nat_lt cell (cells s)) refl
  where
    go : (b : Bool) → nat_lt cell (cells s) ≡ b → IsPlaceInHeap s (in_order (if b then Sweeping cell else Posting))
    go true e = lt_true cell (cells s) e
    go false e = tt

-- a pass
pass-in : (s : Setup) (p : Pass) → IsPlaceInHeap s (in_order (pass_from (plan_of s) p))
pass-in s p = go (nat_lt p.next (cells s)) refl p.met_grey
  where
    go : (b : Bool) → nat_lt p.next (cells s) ≡ b → (grey : Bool)
        → IsPlaceInHeap s (in_order (if b then Passing p else (if grey then Passing (record { next = 0; met_grey = false; shaded = p.shaded }) else sweep_from (plan_of s) 1)))
    go true e grey = lt_true p.next (cells s) e
    go false e true = omega arith
    go false e false = sweep-in s 1

-- ---- the list

-- the cell that a pass looks at is one of the heap
next-below : (count next : ℕ) (listed : List ℕ) → next < count → AreBelow count listed → next_cell next listed < count
next-below count zero listed lt are = lt
next-below count (suc next) [] lt are = lt
next-below count (suc next) (cell ∷ listed) lt are = are.0

-- those that it leaves
left-below : (count next : ℕ) (listed : List ℕ) → AreBelow count listed → AreBelow count (list_after_look next listed)
left-below count zero listed are = are
left-below count (suc next) [] are = tt
left-below count (suc next) (cell ∷ listed) are = are.1

-- and those that are kept
kept-below : (count : ℕ) (c : Collection) (listed : List ℕ) → AreBelow count listed → AreBelow count (kept_list c listed)
kept-below count Posting listed are = tt
kept-below count (Waiting thread) listed are = tt
kept-below count ShadingGlobals listed are = tt
kept-below count (Passing p) listed are = are
kept-below count (Scanning cell word p) listed are = are
kept-below count (Shading value cell word p) listed are = are
kept-below count (Sweeping cell) listed are = tt
kept-below count (Clearing cell word) listed are = tt

-- after a step
list-below : (s : Setup) (stage : ℕ) (listed : List ℕ) (at : Collection) (found : ℕ) → IsPlaceInHeap s at → AreBelow (cells s) listed → AreBelow (cells s) (list_after stage listed at found)
list-below s stage listed Posting found is are = are
list-below s stage listed (Waiting thread) found is are = are
list-below s stage listed ShadingGlobals found is are = are
list-below s stage listed (Passing p) found is are = left-below (cells s) p.next listed are
list-below s stage listed (Scanning cell word p) found is are = are
list-below s stage listed (Shading value cell word p) found is are = add-below (cells s) listed value (nat_lt found (grey (cycle_of stage)) && nat_lt (length listed) list_limit) is.0 are
list-below s stage listed (Sweeping cell) found is are = are
list-below s stage listed (Clearing cell word) found is are = are

-- wherever that leads
pub listed-below : (s : Setup) (stage : ℕ) (listed : List ℕ) (at afterwards : Collection) (found : ℕ) → IsPlaceInHeap s at → AreBelow (cells s) listed
    → AreBelow (cells s) (kept_list afterwards (list_after stage listed at found))
listed-below s stage listed at afterwards found is are = kept-below (cells s) afterwards (list_after stage listed at found) (list-below s stage listed at found is are)

-- ---- the step

-- its place is there
pub place-there : (s : Setup) (h : Shared) (stage : ℕ) (listed : List ℕ) (at : Collection) (found : ℕ) → HasShape s h → IsPlaceInHeap s at → AreBelow (cells s) listed
    → CanHold h (place_of (turn_of (cycle_of stage) (turn_in (plan_of s) stage listed at found)))
place-there s h stage listed Posting found shape is are = tt
place-there s h stage listed (Waiting thread) found shape is are = let count = shape.stages in omega (arith, count, is)
place-there s h stage listed ShadingGlobals found shape is are = let count = shape.colours in omega (arith, count)
place-there s h stage listed (Passing p) found shape is are = let count = shape.colours in let look = next-below (cells s) p.next listed is are in omega (arith, count, look)
place-there s h stage listed (Scanning cell word p) found shape is are = go (nat_lt at (length (words_of_cell (plan_of s) cell))) refl
  where
    at : ℕ
    at = reference_from (plan_of s) cell word

    go : (b : Bool) → nat_lt at (length (words_of_cell (plan_of s) cell)) ≡ b → CanHold h (place_of (turn_of (cycle_of stage) (if b then ScanWord cell at found else Blacken cell)))
    go true e =
        let count = ap length (same-words s cell) in
        let within = lt_true at (length (words_of_cell (plan_of s) cell)) e in
        word-there s h cell at shape is (omega (arith, count, within))
    go false e = let count = shape.colours in omega (arith, count, is)
place-there s h stage listed (Shading value cell word p) found shape is are = let count = shape.colours in let value_is = is.0 in omega (arith, count, value_is)
place-there s h stage listed (Sweeping cell) found shape is are = let count = shape.colours in omega (arith, count, is)
place-there s h stage listed (Clearing cell word) found shape is are = go (nat_lt word (length (words_of_cell (plan_of s) cell))) refl
  where
    go : (b : Bool) → nat_lt word (length (words_of_cell (plan_of s) cell)) ≡ b → CanHold h (place_of (turn_of (cycle_of stage) (if b then ClearWord cell word else Free cell)))
    go true e =
        let count = ap length (same-words s cell) in
        let within = lt_true word (length (words_of_cell (plan_of s) cell)) e in
        word-there s h cell word shape is (omega (arith, count, within))
    go false e = let count = shape.colours in omega (arith, count, is)

-- and where it is then
pub in-heap-afterwards : (s : Setup) (h : Shared) (stage : ℕ) (listed : List ℕ) (at : Collection) (found : ℕ) → HasShape s h → IsPlaceInHeap s at → AreBelow (cells s) listed
    → found ≡ held_at h (place_of (turn_of (cycle_of stage) (turn_in (plan_of s) stage listed at found))) → IsPlaceInHeap s (in_order (afterwards (plan_of s) stage listed at found))
in-heap-afterwards s h stage listed Posting found shape is are e = wait-in s (stage + 1) 0
in-heap-afterwards s h stage listed (Waiting thread) found shape is are e = go (has_answered stage found)
  where
    go : (b : Bool) → IsPlaceInHeap s (in_order (if b then wait_from (plan_of s) stage (thread + 1) else Waiting thread))
    go true = wait-in s stage (thread + 1)
    go false = is
in-heap-afterwards s h stage listed ShadingGlobals found shape is are e = tt
in-heap-afterwards s h stage listed (Passing p) found shape is are e = go (found == grey (cycle_of stage))
  where
    go : (b : Bool) → IsPlaceInHeap s (in_order (if b then Scanning (next_cell p.next listed) 0 (with_grey (pass_after_look p p.next listed)) else pass_from (plan_of s) (pass_after_look p p.next listed)))
    go true = next-below (cells s) p.next listed is are
    go false = pass-in s (pass_after_look p p.next listed)
in-heap-afterwards s h stage listed (Scanning cell word p) found shape is are e = go (nat_lt at (length (words_of_cell (plan_of s) cell))) refl e (found == 0)
  where
    at : ℕ
    at = reference_from (plan_of s) cell word

    go : (b : Bool) → nat_lt at (length (words_of_cell (plan_of s) cell)) ≡ b → found ≡ held_at h (place_of (turn_of (cycle_of stage) (if b then ScanWord cell at found else Blacken cell)))
        → (z : Bool) → IsPlaceInHeap s (in_order (if b then (if z then Scanning cell (at + 1) p else Shading found cell (at + 1) p) else pass_from (plan_of s) p))
    go true x same true = is
    go true x same false =
        let within = lt_true at (length (words_of_cell (plan_of s) cell)) x in
        let ref : is_reference_kind (kind_of (plan_of s) cell at) ≡ true = reference-at (plan_of s) cell word (length (words_of_cell (plan_of s) cell) - word) (omega (arith, within)) in
        let value = cell-found s h cell at shape is (subst (λ k. IsTrue (is_reference_kind k)) (same-kind s cell at) ref) in
        (subst (λ n. n < cells s) (sym same) value, is)
    go false x same z = pass-in s p
in-heap-afterwards s h stage listed (Shading value cell word p) found shape is are e = is.1
in-heap-afterwards s h stage listed (Sweeping cell) found shape is are e = go (is_white stage found)
  where
    go : (b : Bool) → IsPlaceInHeap s (in_order (if b then Clearing cell 0 else sweep_from (plan_of s) (cell + 1)))
    go true = is
    go false = sweep-in s (cell + 1)
in-heap-afterwards s h stage listed (Clearing cell word) found shape is are e = go (nat_lt word (length (words_of_cell (plan_of s) cell)))
  where
    go : (b : Bool) → IsPlaceInHeap s (in_order (if b then Clearing cell (word + 1) else sweep_from (plan_of s) (cell + 1)))
    go true = is
    go false = sweep-in s (cell + 1)
