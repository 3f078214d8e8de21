-- The steps of one call of a thread: what it has still to do, what the result of its next operation makes of that,
-- and which lists of steps are such a call by the order of a thread's steps.
use Rattle.std.specs.Prelude.{ℕ, zero, suc, ◌+◌, ◌-◌, ◌<◌, ◌^◌, ◌≡◌, ◌≢◌, ◌==◌, IsTrue, IsFalse, Bool, true, false, Option, Some, None, List, [], ◌∷◌, ◌++◌, length, slice_index, if◌then◌else◌}
use Rattle.lemmas.specs.Lists.{IsIn}
use Rattle.colours.specs.declared.place.Place.TheVariants.{Posted, Stage, Colour, Word}
use Rattle.colours.specs.declared.ask.Ask.{Ask}
use Rattle.colours.specs.declared.ask.Ask.TheVariants.{Load, Store, CompareExchange}
use Rattle.colours.specs.Colours.{is_async, claim_at, done}
use Rattle.pools.specs.Heap.{Setup, IsOfLayout}
use Rattle.colours.specs.Steps.{Step, ReadWord, ReadOldValue, Mark, StoreAfterBarrier, StorePlain, Claim, ReadPosted, StoreStage, ReadPostedFirst, EnterStage, ReadPostedAgain, ask_of, Found}
use Rattle.colours.specs.Mutator.{Phase, Ready, Absent, is_between, MayFollow, phase_after}

-- ---- what is to be done

-- null is not marked
abbrev pub marks : ℕ → List Step
marks zero = []
marks (suc cell) = Mark (suc cell) ∷ []

-- the marks of these, in their order
abbrev pub marks_of_all : List ℕ → List Step
marks_of_all [] = []
marks_of_all (root ∷ roots) = marks root ++ marks_of_all roots

-- the new value of a barriered store is marked at the sync stages
abbrev pub marks_of_new : (stage : ℕ) → ℕ → List Step
marks_of_new stage new = if is_async stage then [] else marks new

-- what comes after the read of the old value
abbrev pub barrier : (stage cell word old new : ℕ) → List Step
barrier stage cell word old new = marks old ++ (marks_of_new stage new ++ StoreAfterBarrier cell word new ∷ [])

-- at an async stage the roots are marked before it is answered
abbrev pub marks_of_roots : (posted : ℕ) → List ℕ → List Step
marks_of_roots posted roots = if is_async posted then marks_of_all roots else []

-- what comes after the read of the posted stage
abbrev pub answer_to : (stage posted : ℕ) → List ℕ → List Step
answer_to stage posted roots = if posted == stage then [] else (marks_of_roots posted roots ++ StoreStage posted roots ∷ [])

-- what a call has still to do
pub data Todo : Type 0 where
  Reading : (cell word : ℕ) → Todo
  Replacing : (cell word new : ℕ) → Todo  -- read the old value, and then what it asks for
  Trying : (cell : ℕ) (cells : List ℕ) → Todo  -- try this cell; while a try is lost, try the next one of these
  Polling : (roots : List ℕ) → Todo  -- read the posted stage, and answer it if it is another
  Beginning : Todo  -- of a late thread: read the posted stage, and enter it
  Arriving : (stage : ℕ) → Todo  -- store this stage, and read the posted one again
  Checking : (stage : ℕ) → Todo  -- read the posted stage, and leave if it is another
  Steps : List Step → Todo  -- these steps

-- ---- the operations and what they return

-- what a thread at this stage asks for next
abbrev pub asked : (thread stage : ℕ) → Todo → Option Ask
asked thread stage (Reading cell word) = Some (Load (Word cell word))
asked thread stage (Replacing cell word new) = Some (Load (Word cell word))
asked thread stage (Trying cell cells) = Some (CompareExchange (Colour cell) 0 (claim_at stage))
asked thread stage (Polling roots) = Some (Load Posted)
asked thread stage Beginning = Some (Load Posted)
asked thread stage (Arriving entered) = Some (Store (Stage thread) entered)
asked thread stage (Checking entered) = Some (Load Posted)
asked thread stage (Steps []) = None
asked thread stage (Steps (step ∷ steps)) = Some (ask_of thread stage step)

-- the step that is made when the word was this one before
abbrev pub made : Todo → (found : ℕ) → Step
made (Reading cell word) found = ReadWord cell word found
made (Replacing cell word new) found = ReadOldValue cell word found
made (Trying cell cells) found = Claim cell (found == 0)
made (Polling roots) found = ReadPosted found
made Beginning found = ReadPostedFirst found
made (Arriving entered) found = EnterStage entered
made (Checking entered) found = ReadPostedAgain found
made (Steps []) found = ReadPosted found
made (Steps (step ∷ steps)) found = step

-- tries of these cells, in their order
abbrev pub tries_of : (cells : List ℕ) → Todo
tries_of [] = Steps []
tries_of (cell ∷ cells) = Trying cell cells

-- after the second look of a late thread: it leaves where another stage is posted
abbrev pub leaving : (entered found : ℕ) → List Step
leaving entered found = if found == entered then [] else StoreStage done [] ∷ []

-- and what is to be done then
abbrev pub left : (stage : ℕ) → Todo → (found : ℕ) → Todo
left stage (Reading cell word) found = Steps []
left stage (Replacing cell word new) found = Steps (barrier stage cell word found new)
left stage (Trying cell cells) found = if found == 0 then Steps [] else tries_of cells
left stage (Polling roots) found = Steps (answer_to stage found roots)
left stage Beginning found = Arriving found
left stage (Arriving entered) found = Checking entered
left stage (Checking entered) found = Steps (leaving entered found)
left stage (Steps []) found = Steps []
left stage (Steps (step ∷ steps)) found = Steps steps

-- a call under way, of a thread at its stage
pub record Call : Type 0 where
  pub thread : ℕ
  pub stage : ℕ
  pub todo : Todo

-- the call after an operation that found this word
abbrev pub after : Call → (found : ℕ) → Call
after call found = record { thread = call.thread; stage = call.stage; todo = left call.stage call.todo found }

-- the word read for a barriered store holds a reference
abbrev pub IsAnswer : Todo → (found : ℕ) → Type 0
IsAnswer (Replacing cell word new) found = found < 2 ^ 32
IsAnswer _ found = Unit {0}

-- the steps that a call makes to its end, when it finds these words
abbrev pub Makes : (thread stage : ℕ) → Todo → (found : List ℕ) → List Step → Type 0
Makes thread stage todo [] [] = asked thread stage todo ≡ None
Makes thread stage todo [] (step ∷ steps) = ⊥
Makes thread stage todo (word ∷ found) [] = ⊥
Makes thread stage todo (word ∷ found) (step ∷ steps) =
    (asked thread stage todo ≢ None) × (step ≡ made todo word) × Makes thread stage (left stage todo word) found steps

-- each step is that of the operation asked for, and its entry says what was found
abbrev pub AreEntries : (thread stage : ℕ) → Todo → (found : List ℕ) → List Step → Type 0
AreEntries thread stage todo [] steps = Unit {0}
AreEntries thread stage todo (word ∷ found) [] = Unit {0}
AreEntries thread stage todo (word ∷ found) (step ∷ steps) =
    (asked thread stage todo ≡ Some (ask_of thread stage step)) × Found step word × AreEntries thread stage (left stage todo word) found steps

-- whatever it finds, a call makes the lists of steps that are allowed, and each of them
pub record MakesExactly (thread stage : ℕ) (todo : Todo) (IsAllowed : List Step → Type 0) : Type 0 where
  pub only : (found : List ℕ) (steps : List Step) → Makes thread stage todo found steps → IsAllowed steps
  pub entries : (found : List ℕ) (steps : List Step) → Makes thread stage todo found steps → AreEntries thread stage todo found steps
  pub each : (steps : List Step) → IsAllowed steps → (found : List ℕ) × Makes thread stage todo found steps

-- ---- calls, by the order of a thread's steps

-- the list leads from this place of a call to its end, and no earlier
abbrev pub Ends : Setup → (stage : ℕ) → Phase → List Step → Type 0
Ends s stage phase [] = IsTrue (is_between phase)
Ends s stage phase (step ∷ steps) = IsFalse (is_between phase) × MayFollow s stage phase step × Ends s stage (phase_after s stage phase step) steps

-- a whole call whose first step is this one
abbrev pub IsCall : Setup → (stage : ℕ) → Step → List Step → Type 0
IsCall s stage first steps = MayFollow s stage Ready first × Ends s stage (phase_after s stage Ready first) steps

-- the list begins with a step of this kind and is a whole call
abbrev pub IsCallFrom : Setup → (stage : ℕ) → (Step → Type 0) → List Step → Type 0
IsCallFrom s stage P [] = ⊥
IsCallFrom s stage P (step ∷ steps) = P step × IsCall s stage step steps

-- the step reads this word
abbrev pub IsReadOf : (cell word : ℕ) → Step → Type 0
IsReadOf cell word step = (value : ℕ) × (step ≡ ReadWord cell word value)

-- the step reads what will be replaced in this word
abbrev pub IsReadOfOld : (cell word : ℕ) → Step → Type 0
IsReadOfOld cell word step = (old : ℕ) × (step ≡ ReadOldValue cell word old)

-- the step reads the posted stage
abbrev pub IsReadOfPosted : Step → Type 0
IsReadOfPosted step = (posted : ℕ) × (step ≡ ReadPosted posted)

-- the step stores a stage
abbrev pub IsStoreOfStage : Step → Type 0
IsStoreOfStage step = (stage : ℕ) × (roots : List ℕ) × (step ≡ StoreStage stage roots)

-- the value that the list stores
abbrev pub Puts : ℕ → List Step → Type 0
Puts new [] = ⊥
Puts new (StoreAfterBarrier cell word value ∷ steps) = value ≡ new
Puts new (_ ∷ steps) = Puts new steps

-- the roots that the list names
abbrev pub Names : List ℕ → List Step → Type 0
Names roots [] = Unit {0}
Names roots (StoreStage posted named ∷ steps) = named ≡ roots
Names roots (_ ∷ steps) = Names roots steps

-- the list tries the first of these cells, in their order
abbrev pub TriesFrom : List ℕ → List Step → Type 0
TriesFrom cells [] = Unit {0}
TriesFrom (cell ∷ cells) (Claim tried won ∷ steps) = (tried ≡ cell) × TriesFrom cells steps
TriesFrom cells (_ ∷ steps) = ⊥

-- no cell is in the list twice
abbrev pub AreApart : List ℕ → Type 0
AreApart [] = Unit {0}
AreApart (cell ∷ cells) = (IsIn cell cells → ⊥) × AreApart cells

-- the list has each cell of a layout's pool once
pub record IsPoolInOrder (s : Setup) (layout : ℕ) (cells : List ℕ) : Type 0 where
  pub all : length cells ≡ slice_index s.pools layout
  pub of_layout : (cell : ℕ) → IsIn cell cells → IsOfLayout s layout cell
  pub apart : AreApart cells

-- `count` cells from this one up
abbrev pub cells_up : (first count : ℕ) → List ℕ
cells_up first zero = []
cells_up first (suc count) = first ∷ cells_up (suc first) count

-- the cells of a pool from a hint up, and then from its first cell up to the hint
abbrev pub cells_from : (first count hint : ℕ) → List ℕ
cells_from first count hint = cells_up (first + hint) (count - hint) ++ cells_up first hint

-- a read of this word
abbrev pub IsRead : Setup → (stage cell word : ℕ) → List Step → Type 0
IsRead s stage cell word steps = IsCallFrom s stage (IsReadOf cell word) steps

-- a store of this value without the barrier
abbrev pub IsPlainStore : Setup → (stage cell word value : ℕ) → List Step → Type 0
IsPlainStore s stage cell word value steps = IsCallFrom s stage (λ step. step ≡ StorePlain cell word value) steps

-- a barriered store of this value
abbrev pub IsReplacement : Setup → (stage cell word new : ℕ) → List Step → Type 0
IsReplacement s stage cell word new steps = IsCallFrom s stage (IsReadOfOld cell word) steps × Puts new steps

-- tries of these cells, in their order
abbrev pub IsAllocation : Setup → (stage cell : ℕ) → List ℕ → List Step → Type 0
IsAllocation s stage cell cells steps = IsCallFrom s stage (λ step. (won : Bool) × (step ≡ Claim cell won)) steps × TriesFrom (cell ∷ cells) steps

-- a safepoint with these roots
abbrev pub IsSafepoint : Setup → (stage : ℕ) → (roots : List ℕ) → List Step → Type 0
IsSafepoint s stage roots steps = IsCallFrom s stage IsReadOfPosted steps × Names roots steps

-- the last call of a thread
abbrev pub IsFinish : Setup → (stage : ℕ) → List Step → Type 0
IsFinish s stage steps = IsCallFrom s stage IsStoreOfStage steps

-- ---- the tries of a late thread

-- the stage after a step
abbrev pub stage_after : (stage : ℕ) → Step → ℕ
stage_after stage (StoreStage next roots) = next
stage_after stage (EnterStage next) = next
stage_after stage _ = stage

-- a try is over: the thread has begun, or has left
abbrev pub is_over : Phase → Bool
is_over Ready = true
is_over Absent = true
is_over _ = false

-- the list leads from this place of a try to its end, and no earlier
abbrev pub EndsTry : Setup → (stage : ℕ) → Phase → List Step → Type 0
EndsTry s stage phase [] = IsTrue (is_over phase)
EndsTry s stage phase (step ∷ steps) = IsFalse (is_over phase) × MayFollow s stage phase step × EndsTry s (stage_after stage step) (phase_after s stage phase step) steps

-- a whole try of a thread that has not begun
abbrev pub IsTryToBegin : Setup → (stage : ℕ) → List Step → Type 0
IsTryToBegin s stage [] = ⊥
IsTryToBegin s stage (step ∷ steps) = MayFollow s stage Absent step × EndsTry s (stage_after stage step) (phase_after s stage Absent step) steps
