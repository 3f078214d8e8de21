-- What is read of the code outside, and what that leaves as it was.
use Rattle.std.proofs.Common.{◌≡◌, true, [], ap, sym, ◌∙◌}
use Rattle.lemmas.specs.Bools.{and_true}
use Rattle.ir_ast.specs.declared.module.Module.{Module}
use Rattle.ir_ast.specs.declared.outside.Outside.{Outside}
use Rattle.certs.specs.ForeignFit.{foreign_fits, functions_fit}
use Rattle.certs.specs.NumbersFit.{numbers_fit}
use Rattle.certificate.specs.Input.{Input}
use Rattle.certificate.specs.Text.{outside_lines}
use Rattle.certificate.proofs.ReadForeign.{names_are}
use Rattle.certificate.proofs.ReadNumbers.{numbers_are}

-- what is read, where nothing was read before, fits the module, and all else is as it was
pub outside_are : (m : Module) (i : Input) (outside : Outside) (o : Input) → (outside_lines m).says i outside o → i.read.numbers ≡ [] → i.read.foreign ≡ []
    → (foreign_fits m outside ≡ true) × (i.read.sections ≡ o.read.sections) × (i.read.shapes ≡ o.read.shapes)
unfolding outside_lines
outside_are m i outside o h none unnamed =
    let a = h.3 in
    let numbers = numbers_are m i h.0 h.1 h.2 none in
    let names = names_are m h.1 a.0 a.1 a.2 (sym numbers.1.2 ∙ unnamed) in
    let fit = and_true (functions_fit m a.0) (numbers_fit m h.0) names.0 numbers.0 in (
      sym (ap (foreign_fits m) a.3.0) ∙ fit,
      numbers.1.0 ∙ names.1 ∙ ap (λ (x : Input). x.read.sections) a.3.1,
      numbers.1.1 ∙ names.2 ∙ ap (λ (x : Input). x.read.shapes) a.3.1,
    )
