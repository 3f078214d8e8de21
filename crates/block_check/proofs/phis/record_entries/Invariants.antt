use Rattle.std.proofs.Common.{◌≡◌, take}
use Rattle.block_rules.specs.Edges.{comes_in}
use Rattle.block_check.proofs.phis.record_entries.Given as goal

abbrev pub invariant-loop-place : goal.invariant-loop-place
invariant-loop-place l = l.entries ≡ comes_in l.under_check.context.program.now.of_module l.under_check.context.function.now l.from l.facts (take l.place l.phis)
