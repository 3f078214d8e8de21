use Rattle.std.proofs.Common.{◌≡◌, ◌++◌}
use Rattle.std.specs.Iterator.Adapters.{zip_first, zip_second}
use Rattle.std.specs.Slice.Iter.{iter_rest}
use Rattle.certificate.specs.Print.{blocks_text}
use Rattle.certificate.proofs.print_sections.put_blocks.Given as goal

abbrev pub invariant-loop-block : goal.invariant-loop-block
invariant-loop-block l = l.fn.out.items ++ blocks_text l.«module» l.function l.fn.blocks l.fn.lists ≡ l.out.items ++ blocks_text l.«module» l.function (iter_rest (zip_first l.block-iterator)) (iter_rest (zip_second l.block-iterator))
