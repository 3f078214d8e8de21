-- The code's calls, answers and moves, as those of a machine and its runs.
use Rattle.std.specs.Prelude.{Option, Some, None, List, []}
use Rattle.colours.specs.Colours.{done}
use Rattle.runs.specs.Machine as machine
use Rattle.runs.specs.Machine.{WordValue}
use Rattle.runs.specs.Moves as moves
use Rattle.runs.specs.Moves.{cells_of}
use Rattle.moves.specs.declared.call.Call.{Call}
use Rattle.moves.specs.declared.call.Call.TheVariants.{Local, Read, StorePlain, Write, Alloc, Safepoint, End, Wrong}
use Rattle.moves.specs.declared.call.Answer.{Answer}
use Rattle.moves.specs.declared.call.Answer.TheVariants.{Done, Got, Answered}
use Rattle.moves.specs.declared.moves.Move.{Move}
use Rattle.moves.specs.declared.moves.Move.TheVariants.{Works, GoesWrong, ReadsWord, ReadsOldValue, Marks, StoresAfterBarrier, StoresPlain, Claims, ReadsPosted, Answers, Ends, ReadsPostedFirst, EntersStage, ReadsPostedAgain}

-- a call as a machine's action
abbrev pub action_of : Call → machine.Action
action_of Local = machine.Local
action_of (Read base word) = machine.Read base word
action_of (StorePlain base word value) = machine.StorePlain base word value
action_of (Write base word value) = machine.Write base word value
action_of (Alloc layout) = machine.Alloc layout
action_of Safepoint = machine.Safepoint
action_of End = machine.End
action_of Wrong = machine.Wrong

-- an answer as that of a machine
abbrev pub answer_in : Answer → machine.Answer
answer_in Done = machine.Done
answer_in (Got r) = machine.Got r
answer_in (Answered stage) = machine.Answered stage

-- a move as one of a share, by a thread with these roots
abbrev pub move_in : (roots : List WordValue) → Move → moves.Move
move_in roots Works = moves.Works
move_in roots GoesWrong = moves.GoesWrong
move_in roots (ReadsWord base word value) = moves.ReadsWord base word value
move_in roots (ReadsOldValue base word value) = moves.ReadsOldValue base word value
move_in roots (Marks r) = moves.Marks r
move_in roots (StoresAfterBarrier base word value) = moves.StoresAfterBarrier base word value
move_in roots (StoresPlain base word value) = moves.StoresPlain base word value
move_in roots (Claims r won) = moves.Claims r won
move_in roots (ReadsPosted stage) = moves.ReadsPosted stage
move_in roots (Answers stage) = moves.StoresStage stage roots
move_in roots Ends = moves.StoresStage done []
move_in roots (ReadsPostedFirst stage) = moves.ReadsPostedFirst stage
move_in roots (EntersStage stage) = moves.EntersStage stage
move_in roots (ReadsPostedAgain stage) = moves.ReadsPostedAgain stage

-- if there is one
abbrev pub made_by : (roots : List WordValue) → Option Move → Option moves.Move
made_by roots None = None
made_by roots (Some move) = Some (move_in roots move)
