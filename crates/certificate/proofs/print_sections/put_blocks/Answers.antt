use Rattle.std.proofs.Common.{◌∙◌, sym}
use Rattle.std.proofs.lemmas.Slice.Zip.{either_empty_from_Zip}
use Rattle.certificate.specs.Print.{block_text}
use Rattle.certificate.proofs.Zipped.{nothing_left}
use Rattle.certificate.proofs.print_sections.put_blocks.Goals as goal

pub returns : goal.returns
returns c =
    let spent = either_empty_from_Zip c.loop-block.block-iterator c.next.new.self _ c.in-None.is c.next.ensures.steps in
    sym (c.loop-block.invariant ∙ nothing_left (λ p. block_text c.args.module.now c.args.function.now p.0 p.1) _ _ c.loop-block.out.items spent)
