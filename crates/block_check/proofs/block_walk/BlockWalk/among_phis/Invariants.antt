use Rattle.std.proofs.Common.{take}
use Rattle.block_rules.specs.Certified.{PhisPass}
use Rattle.block_check.specs.FunctionUnderCheck.{seen}
use Rattle.block_check.proofs.block_walk.BlockWalk.among_phis.Given as goal

abbrev pub invariant-loop-place : goal.invariant-loop-place
invariant-loop-place l = PhisPass (seen l.self.under_check.now) l.self.block 0 (take l.place l.phis)
