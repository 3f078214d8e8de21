-- the starts so far come after those that were there
use Rattle.std.proofs.Common.{◌≡◌, ◌++◌, take}
use Rattle.replay.proofs.copies.add_starts.Given as goal

abbrev pub invariant-loop-start : goal.invariant-loop-start
invariant-loop-start l = l.list ≡ l.fn.list ++ take l.start-index l.starts
