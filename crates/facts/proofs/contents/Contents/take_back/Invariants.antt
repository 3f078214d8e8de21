use Rattle.std.proofs.Common.{drop}
use Rattle.facts.specs.Contents.{set_of}
use Rattle.facts.specs.TakenBack.{DifferBy}
use Rattle.facts.proofs.contents.Contents.take_back.Given as goal

abbrev pub invariant-loop-entry : goal.invariant-loop-entry
invariant-loop-entry l = DifferBy (drop l.entry-index l.fn.entries) (set_of l.before) (set_of l.self)
