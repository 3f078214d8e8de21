-- what was written so far is the lines of the refusals that the loop went over
use Rattle.std.proofs.Common.{take}
use Rattle.std.specs.Io.KnownBytes.{Appends}
use Rattle.check_commands.specs.Checks.{lines_of}
use Rattle.check_commands.proofs.refusing.write_refusals.Given as goal

abbrev pub invariant-loop-refusal : goal.invariant-loop-refusal
invariant-loop-refusal g l = Appends (g.W.Write.contents l.fn.lines) (g.W.Write.contents l.lines) (lines_of l.of_module l.certs.sections (take l.refusal-index l.refusals))
