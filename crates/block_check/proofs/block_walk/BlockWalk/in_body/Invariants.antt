use Rattle.std.proofs.Common.{take}
use Rattle.block_rules.specs.Edges.{entry_facts_at}
use Rattle.block_rules.specs.Certified.{phi_count, Follows}
use Rattle.block_check.specs.FunctionUnderCheck.{seen}
use Rattle.block_check.proofs.block_walk.BlockWalk.in_body.Given as goal

abbrev pub invariant-loop-index : goal.invariant-loop-index
invariant-loop-index l =
    let s = seen l.self.under_check.now in
    let b = l.self.block in
    Follows s b (phi_count s b) (entry_facts_at s b) (take l.index l.body) l.facts
