use Rattle.std.proofs.Common.{take}
use Rattle.program_runner.proofs.FrameNames.{IsRest}
use Rattle.program_runner.proofs.newest.has_newest.Given as goal

abbrev pub invariant-loop-frame : goal.invariant-loop-frame
invariant-loop-frame l = IsRest l.thread.program.of_module (take l.count l.thread.state.frames) l.fn.roots l.frame l.rest
