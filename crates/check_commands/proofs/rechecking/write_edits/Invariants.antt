-- the session is the one after the edits that the loop went over, and what was written so far is their lines
use Rattle.std.proofs.Common.{ℕ, List, take}
use Rattle.std.specs.Io.KnownBytes.{Appends}
use Rattle.check_commands.specs.Rechecks.{OfEdits}
use Rattle.check_commands.proofs.rechecking.write_edits.Given as goal

abbrev pub invariant-loop-place : goal.invariant-loop-place
invariant-loop-place g l = (told : List ℕ) × OfEdits 1 l.fn.session (take l.place l.edits) l.session told × Appends (g.W.Write.contents l.fn.lines) (g.W.Write.contents l.lines) told
