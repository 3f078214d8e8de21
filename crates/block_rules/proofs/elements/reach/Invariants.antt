use Rattle.std.proofs.Common.{◌≡◌, ◌+◌, ◌-◌, ◌*◌}
use Rattle.std.specs.Prelude.{map}
use Rattle.std.specs.List.{range_with_len}
use Rattle.block_rules.specs.Elements.{gathered, reached}
use Rattle.block_rules.proofs.elements.reach.Given as goal

abbrev pub invariant-loop-number : goal.invariant-loop-number
invariant-loop-number l =
    gathered (reached l.stride l.word) l.set ≡ gathered (map (λ n. l.word + n * l.stride.size) (range_with_len (l.stride.first + l.number) (l.stride.count - l.number))) l.words
