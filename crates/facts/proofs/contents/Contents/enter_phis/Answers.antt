use Rattle.std.proofs.Common.{◌∙◌, sym, subst}
use Rattle.facts.specs.Contents.{set_of}
use Rattle.facts.specs.Facts.{enter_phis}
use Rattle.facts.specs.TakenBack.{DifferBy}
use Rattle.facts.proofs.Parts.{enter_rest}
use Rattle.facts.proofs.TakenBack.{entered, phi_there}
use Rattle.facts.proofs.contents.Contents.enter_phis.Goals as goal
use Rattle.facts.proofs.contents.Contents.enter_phis.Goals.{then-back, else-back}

pub loop-entry-preserved : goal.loop-entry-preserved
loop-entry-preserved c = record {
  rest = enter_rest c.args.entries.now c.loop-entry.entry-index c.loop-entry-test.true c.entry-item.result c.entry-item.is (set_of c.loop-entry.self) (set_of c.enter_phi.new.self) c.in_ok-enter_phi.ensures (enter_phis c.args.entries.now (set_of c.args.self.now)) c.loop-entry.invariant.rest;
  back = λ e. elim c.if-back.branch [
    | then-back w ↦ λ before d. subst (DifferBy c.args.entries.now before) (sym c.in_ok-enter_phi.ensures)
        (entered c.args.entries.now before c.entry-item.result.phi (phi_there c.args.entries.now c.loop-entry.entry-index c.loop-entry-test.true c.entry-item.result c.entry-item.is) (set_of c.loop-entry.self)
        (w.ends_alone-back.ensures (sym w.back-is ∙ e)) (c.loop-entry.invariant.back w.if-back.true before d) c.entry-item.result.known)
    | else-back w ↦ let bad = sym w.if-back.false ∙ sym w.back-is ∙ e in absurd cc
  ];
}
