use Rattle.std.proofs.Common.{inl, inr, sym, ◌∙◌}
use Rattle.machine.proofs.Phis.{no_phi, no_value}
use Rattle.machine.proofs.frame.put_values.Goals as goal

pub returns : goal.returns
returns c =
    let phis = c.loop-phi.phi-iterator.a.rest.now in
    let values = c.loop-phi.phi-iterator.b.rest.now in
    elim c.in-None.ensures.steps [
      | inl x ↦ sym (no_phi phis values c.loop-phi.registers x.1.0) ∙ c.loop-phi.invariant
      | inr y ↦ sym (no_value phis values c.loop-phi.registers y.1.0) ∙ c.loop-phi.invariant
    ]
