-- What a call under way has still to do.
use Rattle.std.specs.Prelude.{ℕ, ◌+◌, ◌^◌, ◌<◌, List, [], ◌∷◌, ◌++◌}
use Rattle.colours.specs.declared.op.CellsLeft.{CellsLeft}
use Rattle.colours.specs.declared.op.Next.{Next}
use Rattle.colours.specs.declared.op.Next.TheVariants.{Read, StorePlain as PutPlain, ReadOld, MarkOld, MarkNew, StoreNew, Try, ReadPosted, Enter, Check, StoreDone, Nothing}
use Rattle.colours.specs.declared.op.Op.TheInside.{Inside}
use Rattle.colours.specs.Colours.{done}
use Rattle.colours.specs.Steps.{Mark, StoreAfterBarrier, StorePlain, StoreStage}
use Rattle.colours.specs.Calls.{Todo, Reading, Replacing, Trying, Beginning, Arriving, Checking, Steps, Call, marks_of_new, cells_up}

-- the cells that are left to try, in their order
abbrev pub cells_left : CellsLeft → List ℕ
cells_left cells = cells_up cells.next cells.more ++ cells_up cells.first cells.below

-- what is to be done before the next operation
abbrev pub todo_at : Next → (stage : ℕ) → Todo
todo_at (Read cell word) stage = Reading cell word
todo_at (PutPlain cell word value) stage = Steps (StorePlain cell word value ∷ [])
todo_at (ReadOld to) stage = Replacing to.cell to.word to.new
todo_at (MarkOld old to) stage = Steps (Mark old ∷ (marks_of_new stage to.new ++ StoreAfterBarrier to.cell to.word to.new ∷ []))
todo_at (MarkNew to) stage = Steps (Mark to.new ∷ StoreAfterBarrier to.cell to.word to.new ∷ [])
todo_at (StoreNew to) stage = Steps (StoreAfterBarrier to.cell to.word to.new ∷ [])
todo_at (Try cell cells) stage = Trying cell (cells_left cells)
todo_at ReadPosted stage = Beginning
todo_at (Enter entered) stage = Arriving entered
todo_at (Check entered) stage = Checking entered
todo_at StoreDone stage = Steps (StoreStage done [] ∷ [])
todo_at Nothing stage = Steps []

-- the cells that are left have numbers
abbrev pub HaveNumbers : CellsLeft → Type 0
HaveNumbers cells = (cells.next + cells.more < 2 ^ 32) × (cells.first + cells.below < 2 ^ 32)

-- the same for those that may be tried after the next operation
abbrev pub HasRoom : Next → Type 0
HasRoom (Try cell cells) = HaveNumbers cells
HasRoom _ = Unit {0}

-- the call as contracts see it
abbrev pub view_of : Inside → Call
view_of op = record { thread = op.thread; stage = op.stage; todo = todo_at op.next op.stage }
