use Rattle.std.proofs.Common.{◌∙◌, sym}
use Rattle.std.proofs.lemmas.Slice.Zip.{either_empty_from_Zip}
use Rattle.certificate.specs.Print.{parameter_text}
use Rattle.certificate.proofs.Zipped.{nothing_left}
use Rattle.certificate.proofs.print_sections.put_parameters.Goals as goal

pub returns : goal.returns
returns c =
    let spent = either_empty_from_Zip c.loop-parameter.parameter-iterator c.next.new.self _ c.in-None.is c.next.ensures.steps in
    sym (c.loop-parameter.invariant ∙ nothing_left (λ p. parameter_text c.args.module.now c.args.function.now p.0 p.1) _ _ c.loop-parameter.out.items spent)
