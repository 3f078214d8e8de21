use Rattle.std.proofs.Common.{inl, inr, sym, ◌∙◌}
use Rattle.machine.proofs.Arguments.{no_parameter, no_argument}
use Rattle.machine.proofs.entry.registers_of.Goals as goal

pub returns : goal.returns
returns c =
    let parameters = c.loop-parameter.parameter-iterator.a.rest.now in
    let arguments = c.loop-parameter.parameter-iterator.b.rest.now in
    elim c.in-None.ensures.steps [
      | inl x ↦ sym (no_parameter parameters arguments c.loop-parameter.registers x.1.0) ∙ c.loop-parameter.invariant
      | inr y ↦ sym (no_argument parameters arguments c.loop-parameter.registers y.1.0) ∙ c.loop-parameter.invariant
    ]
