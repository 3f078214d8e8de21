-- Which cells a thread may win.
use Rattle.std.proofs.Common.{ℕ, true, false, List}
use Rattle.pools.specs.Heap.{Setup}
use Rattle.runs.specs.Machine.{WordValue}
use Rattle.moves.specs.declared.call.Call.{Call}
use Rattle.moves.specs.declared.call.Call.TheVariants as call
use Rattle.moves.specs.declared.moves.Move.{Move}
use Rattle.moves.specs.declared.moves.Move.TheVariants as made
use Rattle.moves.specs.declared.thread_state.CallPhase.{CallPhase}
use Rattle.moves.specs.Moving.{MayMake, WinsOfLayout}

-- a move that may be made wins no cell of another layout
pub wins-of-layout : (s : Setup) (hints : List ℕ) (roots : List WordValue) (c : Call) (at : CallPhase) (move : Move) → MayMake s hints roots c at move → WinsOfLayout s move c
wins-of-layout s hints roots (call.Alloc layout) at (made.Claims r true) may = may.of_layout.2
wins-of-layout s hints roots call.Local at (made.Claims r true) may = absurd may
wins-of-layout s hints roots (call.Read base word) at (made.Claims r true) may = absurd may
wins-of-layout s hints roots (call.StorePlain base word value) at (made.Claims r true) may = absurd may
wins-of-layout s hints roots (call.Write base word value) at (made.Claims r true) may = absurd may
wins-of-layout s hints roots call.Safepoint at (made.Claims r true) may = absurd may
wins-of-layout s hints roots call.End at (made.Claims r true) may = absurd may
wins-of-layout s hints roots call.Wrong at (made.Claims r true) may = absurd may
wins-of-layout s hints roots c at (made.Claims r false) may = tt
wins-of-layout s hints roots c at made.Works may = tt
wins-of-layout s hints roots c at made.GoesWrong may = tt
wins-of-layout s hints roots c at (made.ReadsWord base word value) may = tt
wins-of-layout s hints roots c at (made.ReadsOldValue base word value) may = tt
wins-of-layout s hints roots c at (made.Marks r) may = tt
wins-of-layout s hints roots c at (made.StoresAfterBarrier base word value) may = tt
wins-of-layout s hints roots c at (made.StoresPlain base word value) may = tt
wins-of-layout s hints roots c at (made.ReadsPosted stage) may = tt
wins-of-layout s hints roots c at (made.Answers stage) may = tt
wins-of-layout s hints roots c at made.Ends may = tt
wins-of-layout s hints roots c at (made.ReadsPostedFirst stage) may = tt
wins-of-layout s hints roots c at (made.EntersStage stage) may = tt
wins-of-layout s hints roots c at (made.ReadsPostedAgain stage) may = tt
