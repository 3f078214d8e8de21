use Rattle.std.proofs.Common.{◌≡◌, Some, drop}
use Rattle.block_rules.specs.Elements.{words_after}
use Rattle.block_rules.proofs.elements.words_after.Given as goal

abbrev pub invariant-loop-index : goal.invariant-loop-index
invariant-loop-index l =
    words_after l.program l.facts (Some l.fn.source) l.indices (Some l.start)
    ≡ words_after l.program l.facts (Some l.part) (drop l.index-index l.indices) (Some l.words)
