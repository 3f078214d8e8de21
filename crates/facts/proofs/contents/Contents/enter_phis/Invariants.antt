use Rattle.std.proofs.Common.{◌≡◌, drop, true}
use Rattle.facts.specs.Contents.{set_of}
use Rattle.facts.specs.Facts.{FactSet, enter_phis}
use Rattle.facts.specs.TakenBack.{DifferBy}
use Rattle.facts.proofs.contents.Contents.enter_phis.Given as goal

abbrev pub invariant-loop-entry : goal.invariant-loop-entry
invariant-loop-entry l = record {
  rest : enter_phis l.fn.entries (set_of l.initial.self) ≡ enter_phis (drop l.entry-index l.fn.entries) (set_of l.self);
  back : l.back ≡ true → (before : FactSet) → DifferBy l.fn.entries before (set_of l.initial.self) → DifferBy l.fn.entries before (set_of l.self);
}
