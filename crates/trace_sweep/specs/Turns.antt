-- The collector's next step, and where it is after that step. It keeps a list of cells that the trace under way made grey, the
-- newest first. It looks at these cells out of turn.
use Rattle.std.specs.Prelude.{ℕ, zero, suc, ◌+◌, ◌^◌, ◌≡◌, ◌⊎◌, ◌==◌, ◌&&◌, not, Bool, false, Option, Some, None, List, [], ◌∷◌, length, if◌then◌else◌, nat_lt}
use Rattle.pools.specs.Heap.{Setup, words_of_cell}
use Rattle.colours.specs.declared.ask.Ask.{Ask}
use Rattle.colours.specs.declared.turn.Turn.{Turn}
use Rattle.colours.specs.declared.turn.Turn.TheVariants.{PostStage, ReadStage, MarkFound, ReadColour, ScanWord, Blacken, ClearWord, Free}
use Rattle.colours.specs.Colours.{cycle_of, grey}
use Rattle.colours.specs.Steps.{turn_of}
use Rattle.colours.specs.Collector.{Collection, Posting, Waiting, ShadingGlobals, Passing, Scanning, Shading, Sweeping, Clearing, Pass, Turns, wait_from, sweep_from, pass_from, has_answered, in_turn, out_of_turn, looked, shaded_too, is_white, reference_from}

-- no further stage may be posted
abbrev pub is_at_limit : (stage : ℕ) → Collection → Bool
is_at_limit stage Posting = not (nat_lt (cycle_of (stage + 1)) (2 ^ 60))
is_at_limit stage _ = false

-- ---- the list of grey cells

-- how many cells it holds at most. This is a limit of speed, not of safety: a grey cell that is not listed is looked at in its turn
abbrev pub list_limit : ℕ
list_limit = 64

-- the cell that a pass looks at: its first cell in turn; after that the newest of the list, or where there is none the next in turn
abbrev pub next_cell : (next : ℕ) → (listed : List ℕ) → ℕ
next_cell zero listed = zero
next_cell (suc next) [] = suc next
next_cell (suc next) (cell ∷ listed) = cell

-- the pass after that look
abbrev pub pass_after_look : Pass → (next : ℕ) → (listed : List ℕ) → Pass
pass_after_look p zero listed = in_turn p
pass_after_look p (suc next) [] = in_turn p
pass_after_look p (suc next) (cell ∷ listed) = out_of_turn p cell

-- the list after that look
abbrev pub list_after_look : (next : ℕ) → (listed : List ℕ) → List ℕ
list_after_look zero listed = listed
list_after_look (suc next) [] = []
list_after_look (suc next) (cell ∷ listed) = listed

-- a mark that made the cell grey puts it on the list, where there is room
abbrev pub listed_too : (stage : ℕ) → List ℕ → (cell colour : ℕ) → List ℕ
listed_too stage listed cell colour = if nat_lt colour (grey (cycle_of stage)) && nat_lt (length listed) list_limit then cell ∷ listed else listed

-- the list after a step whose word holds this number
abbrev pub list_after : (stage : ℕ) → List ℕ → Collection → (found : ℕ) → List ℕ
list_after stage listed (Passing p) found = list_after_look p.next listed
list_after stage listed (Shading value cell word p) found = listed_too stage listed value found
list_after stage listed c found = listed

-- the list is kept only within a trace
abbrev pub kept_list : Collection → List ℕ → List ℕ
kept_list (Passing p) listed = listed
kept_list (Scanning cell word p) listed = listed
kept_list (Shading value cell word p) listed = listed
kept_list c listed = []

-- ---- the steps

-- the place of the next reference word of a cell, from this word on
abbrev pub next_reference : Setup → (cell word : ℕ) → Option ℕ
next_reference s cell word = if nat_lt (reference_from s cell word) (length (words_of_cell s cell)) then Some (reference_from s cell word) else None

-- the next step, where its word holds this number
abbrev pub turn_in : Setup → (stage : ℕ) → (listed : List ℕ) → Collection → (found : ℕ) → Turn
turn_in s stage listed Posting found = PostStage (stage + 1)
turn_in s stage listed (Waiting thread) found = ReadStage thread found
turn_in s stage listed ShadingGlobals found = MarkFound 0 found
turn_in s stage listed (Passing p) found = ReadColour (next_cell p.next listed) found
turn_in s stage listed (Scanning cell word p) found =
    if nat_lt (reference_from s cell word) (length (words_of_cell s cell)) then ScanWord cell (reference_from s cell word) found else Blacken cell
turn_in s stage listed (Shading value cell word p) found = MarkFound value found
turn_in s stage listed (Sweeping cell) found = ReadColour cell found
turn_in s stage listed (Clearing cell word) found = if nat_lt word (length (words_of_cell s cell)) then ClearWord cell word else Free cell

-- where the collector is after that step
abbrev pub afterwards : Setup → (stage : ℕ) → (listed : List ℕ) → Collection → (found : ℕ) → Collection
afterwards s stage listed Posting found = wait_from s (stage + 1) 0
afterwards s stage listed (Waiting thread) found = if has_answered stage found then wait_from s stage (thread + 1) else Waiting thread
afterwards s stage listed ShadingGlobals found = Posting
afterwards s stage listed (Passing p) found = looked s stage (pass_after_look p p.next listed) (next_cell p.next listed) found
afterwards s stage listed (Scanning cell word p) found =
    if nat_lt (reference_from s cell word) (length (words_of_cell s cell))
    then (if found == 0 then Scanning cell (reference_from s cell word + 1) p else Shading found cell (reference_from s cell word + 1) p)
    else pass_from s p
afterwards s stage listed (Shading value cell word p) found = Scanning cell word (shaded_too stage p value found)
afterwards s stage listed (Sweeping cell) found = if is_white stage found then Clearing cell 0 else sweep_from s (cell + 1)
afterwards s stage listed (Clearing cell word) found = if nat_lt word (length (words_of_cell s cell)) then Clearing cell (word + 1) else sweep_from s (cell + 1)

-- the operation of the next step; it does not depend on what the word holds
abbrev pub asked : Setup → (stage : ℕ) → (listed : List ℕ) → Collection → Option Ask
asked s stage listed c = if is_at_limit stage c then None else Some (turn_of (cycle_of stage) (turn_in s stage listed c 0))

-- the order of the steps, with only those looks out of turn that the list asks for
abbrev pub TurnsInOrder : Setup → (stage : ℕ) → (listed : List ℕ) → Collection → Turn → Collection → Type 0
TurnsInOrder s stage listed (Passing p) (ReadColour cell colour) c = (cell ≡ next_cell p.next listed) × (c ≡ looked s stage (pass_after_look p p.next listed) cell colour)
TurnsInOrder s stage listed (Passing p) turn c = ⊥
TurnsInOrder s stage listed b turn c = Turns s stage b turn c

-- ---- what the order lets be looked at

-- the first list is the second with some entries left out
abbrev pub IsPartOf : List ℕ → List ℕ → Type 0
IsPartOf [] ds = Unit {0}
IsPartOf (c ∷ cs) [] = ⊥
IsPartOf (c ∷ cs) (d ∷ ds) = ((c ≡ d) × IsPartOf cs ds) ⊎ IsPartOf (c ∷ cs) ds

-- the cells that a place of the order lets be looked at out of turn: this trace made them grey, and has not looked at them out of turn since
abbrev pub shaded_at : Collection → List ℕ
shaded_at (Passing p) = p.shaded
shaded_at (Scanning cell word p) = p.shaded
shaded_at (Shading value cell word p) = p.shaded
shaded_at c = []
