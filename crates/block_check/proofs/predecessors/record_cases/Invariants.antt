use Rattle.std.proofs.Common.{take, map}
use Rattle.std.specs.List.{list_any}
use Rattle.types.specs.ValueTypes.{target_of}
use Rattle.block_rules.specs.Edges.{is_number, open_edge}
use Rattle.block_check.specs.Predecessors.{Adds}
use Rattle.block_check.proofs.predecessors.record_cases.Given as goal

abbrev pub invariant-loop-case : goal.invariant-loop-case
invariant-loop-case l = Adds l.fn.lists l.lists l.fn.from (λ to. list_any (λ edge. is_number to (target_of l.fn.function edge.target)) (map (λ case. open_edge case.target) (take l.case-index l.fn.cases)))
