use Rattle.std.proofs.Common.{◌≡◌, ◌++◌, take, drop}
use Rattle.program_runner.specs.Newest.{names_of}
use Rattle.program_runner.proofs.newest.add_newest.Given as goal

abbrev pub invariant-loop-frame : goal.invariant-loop-frame
invariant-loop-frame l = l.names.items ≡ l.fn.names.items ++ names_of l.thread.program.of_module (drop l.frame (take l.count l.thread.state.frames))
