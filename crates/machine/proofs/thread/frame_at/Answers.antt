use Rattle.std.proofs.Common.{◌-◌, length, sym, subst, ap, arith}
use Rattle.machine.specs.declared.frame.Frame.{Frame}
use Rattle.machine.specs.Entered.{WasEntered}
use Rattle.machine.proofs.Kept.{were_at}
use Rattle.machine.proofs.thread.frame_at.Goals as goal

pub returns-clause-entered : goal.returns-clause-entered
returns-clause-entered c tables were =
    let below = c.args.below.now in
    let was = subst (λ (frame : Frame). WasEntered tables frame.function) (sym c.index-below-below.is)
    (were_at tables below (length below - c.args.frame) c.index-below-below.result (omega (arith, c.requires, c.if-frame-eq0.false)) were.1) in
    subst (WasEntered tables) (ap (λ (frame : Frame). frame.function) c.frame.ensures) was
