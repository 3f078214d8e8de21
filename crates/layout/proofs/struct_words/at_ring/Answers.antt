use Rattle.std.proofs.Common.{◌≡◌, Some, subst, sym, ap, ◌∙◌}
use Rattle.layout.specs.Layouts.{IsLayoutFault}
use Rattle.layout.specs.Survey.{first_fault}
use Rattle.layout.specs.declared.fault.LayoutFault.TheVariants.{HoldsItself}
use Rattle.layout.proofs.Faults.{is_fault, only_fault, is_other_fault, only_other_fault}
use Rattle.layout.proofs.struct_words.at_ring.Goals as goal

pub returns-in_ok-ring-in-HoldsItself-clause-fault : goal.returns-in_ok-ring-in-HoldsItself-clause-fault
returns-in_ok-ring-in-HoldsItself-clause-fault c =
    let e : first_fault c.args.«module».now c.args.survey.now.marks c.args.survey.now.fields.items ≡ Some (HoldsItself c.in-HoldsItself.number) = cc (c.requires.first, c.in-HoldsItself.is) in
    subst (λ s. IsLayoutFault c.args.«module».now (HoldsItself s)) (sym c.unwrap_or.ensures)
    (is_fault _ _ _ c.requires.settled _ (HoldsItself c.in-HoldsItself.number) (λ _ _. c.in_ok-ring-in-HoldsItself.ensures) e)

pub returns-in_ok-ring-in-HoldsItself-clause-only_fault : goal.returns-in_ok-ring-in-HoldsItself-clause-only_fault
returns-in_ok-ring-in-HoldsItself-clause-only_fault c =
    let e : first_fault c.args.«module».now c.args.survey.now.marks c.args.survey.now.fields.items ≡ Some (HoldsItself c.in-HoldsItself.number) = cc (c.requires.first, c.in-HoldsItself.is) in
    λ other h. ap HoldsItself c.unwrap_or.ensures
    ∙ only_fault _ _ _ c.requires.settled _ (HoldsItself c.in-HoldsItself.number) other (λ _ _. c.in_ok-ring-in-HoldsItself.ensures) e h

pub returns-in_default : goal.returns-in_default
returns-in_default c = record {
  fault = is_other_fault _ _ _ c.requires.settled _ c.in_default.not-HoldsItself c.requires.first;
  only_fault = λ other h. only_other_fault _ _ _ c.requires.settled _ other c.in_default.not-HoldsItself c.requires.first h;
}
