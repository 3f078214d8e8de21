use Rattle.std.proofs.Common.{◌≡◌, drop, map}
use Rattle.block_rules.specs.Edges.{open_edge, unmet_on}
use Rattle.block_check.specs.Refills.{CanRefill}
use Rattle.block_check.specs.Implied.{AreImplied}
use Rattle.block_check.specs.FunctionUnderCheck.{seen}
use Rattle.block_check.proofs.edges.EdgeScratch.unmet_on_cases.Given as goal

abbrev pub invariant-loop-case : goal.invariant-loop-case
invariant-loop-case l =
    (unmet_on (seen l.under_check) l.exit.block l.exit.facts.now (map (λ case. open_edge case.target) l.fn.cases) ≡ unmet_on (seen l.under_check) l.exit.block l.exit.facts.now (map (λ case. open_edge case.target) (drop l.case-index l.cases)))
    × AreImplied (seen l.under_check) l.exit.block l.exit.facts.now l.implied
    × CanRefill l.exit.facts.now l.self
