use Rattle.std.proofs.Common.{◌∙◌, sym}
use Rattle.std.proofs.lemmas.Slice.Zip.{either_empty_from_Zip}
use Rattle.certificate.specs.Print.{section_text}
use Rattle.certificate.proofs.Zipped.{nothing_left}
use Rattle.certificate.proofs.print_sections.put_sections.Goals as goal

pub returns : goal.returns
returns c =
    let spent = either_empty_from_Zip c.loop-function.function-iterator c.next.new.self _ c.in-None.is c.next.ensures.steps in
    sym (c.loop-function.invariant ∙ nothing_left (λ p. section_text c.args.module.now p.0 p.1) _ _ c.loop-function.out.items spent)
