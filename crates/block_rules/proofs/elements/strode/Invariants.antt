use Rattle.std.proofs.Common.{◌≡◌, ◌-◌, Some}
use Rattle.block_rules.specs.Elements.{gathered, strode}
use Rattle.block_rules.proofs.Strides.{left_from}
use Rattle.block_rules.proofs.elements.strode.Given as goal

abbrev pub invariant-loop-word : goal.invariant-loop-word
invariant-loop-word l = strode (Some l.stride) l.from ≡ gathered (left_from l.stride l.from l.next) l.words

abbrev pub decreases-loop-word : goal.decreases-loop-word
decreases-loop-word l = 64 - l.next
