use Rattle.std.proofs.Common.{◌≡◌, drop}
use Rattle.certs.specs.Roots.{source_after_blocks, nowhere}
use Rattle.certs.proofs.roots.source_after_blocks.Given as goal

abbrev pub invariant-loop-block : goal.invariant-loop-block
invariant-loop-block l = source_after_blocks l.value l.fn.blocks nowhere ≡ source_after_blocks l.value (drop l.block-index l.fn.blocks) l.source
