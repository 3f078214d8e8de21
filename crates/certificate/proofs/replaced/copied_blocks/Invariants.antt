use Rattle.std.proofs.Common.{◌≡◌, take}
use Rattle.certificate.proofs.replaced.copied_blocks.Given as goal

abbrev pub invariant-loop-lines : goal.invariant-loop-lines
invariant-loop-lines l = l.copies ≡ take l.lines-index l.fn.blocks
