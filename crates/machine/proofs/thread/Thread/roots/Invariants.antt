use Rattle.std.proofs.Common.{◌≡◌, reverse, take}
use Rattle.machine.specs.Machine.{roots_of}
use Rattle.machine.proofs.thread.Thread.roots.Given as goal

abbrev pub invariant-loop-frame : goal.invariant-loop-frame
invariant-loop-frame l = l.all.items ≡ roots_of l.self.program.of_module (reverse (take l.frame-index l.frame-items))
