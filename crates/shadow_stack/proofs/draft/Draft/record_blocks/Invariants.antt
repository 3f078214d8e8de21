use Rattle.std.proofs.Common.{◌≡◌, drop}
use Rattle.shadow_stack.specs.Slots.{recorded_blocks}
use Rattle.shadow_stack.proofs.draft.Draft.record_blocks.Given as goal

abbrev pub invariant-loop-block : goal.invariant-loop-block
invariant-loop-block l = recorded_blocks l.fn.blocks l.initial.self ≡ recorded_blocks (drop l.block-index l.fn.blocks) l.self
