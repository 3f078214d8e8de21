use Rattle.std.proofs.Common.{◌≡◌, drop}
use Rattle.facts.specs.Contents.{set_of}
use Rattle.facts.specs.Facts.{drop_fresh_all}
use Rattle.facts.proofs.contents.Contents.drop_fresh_all.Given as goal

abbrev pub invariant-loop-entry : goal.invariant-loop-entry
invariant-loop-entry l = drop_fresh_all l.fn.entries (set_of l.initial.self) ≡ drop_fresh_all (drop l.entry-index l.fn.entries) (set_of l.self)
