-- The roots so far are named.
use Rattle.std.proofs.Common.{List, take}
use Rattle.colours.specs.Runs.{Event}
use Rattle.runs.specs.Moves.{cells_of}
use Rattle.step_records.specs.Recorded.{IsRecordOf, HasNamed}
use Rattle.step_records.proofs.writing.put_roots.Given as goal

abbrev pub invariant-loop-root : goal.invariant-loop-root
invariant-loop-root l = (run : List Event) → IsRecordOf run l.fn.bytes.items → HasNamed run l.thread (cells_of (take l.root-index l.roots)) l.bytes.items
