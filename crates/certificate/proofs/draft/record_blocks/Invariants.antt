use Rattle.std.proofs.Common.{◌≡◌, drop}
use Rattle.certs.specs.RootNames.{roots_of_blocks}
use Rattle.certificate.proofs.draft.record_blocks.Given as goal

abbrev pub invariant-loop-block : goal.invariant-loop-block
invariant-loop-block l = roots_of_blocks l.slots l.fn.blocks l.fn.roots ≡ roots_of_blocks l.slots (drop l.block-index l.fn.blocks) l.roots
