use Rattle.std.proofs.Common.{◌≡◌, Some, drop}
use Rattle.block_rules.specs.Elements.{part_reached}
use Rattle.block_rules.proofs.elements.part_reached.Given as goal

abbrev pub invariant-loop-index : goal.invariant-loop-index
invariant-loop-index l =
    part_reached l.program l.facts (Some l.fn.source) l.indices
    ≡ part_reached l.program l.facts (Some l.part) (drop l.index-index l.indices)
