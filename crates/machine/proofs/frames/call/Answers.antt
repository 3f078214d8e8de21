use Rattle.std.proofs.Common.{◌∷◌, sym, subst}
use Rattle.machine.specs.Machine.{go_on}
use Rattle.machine.specs.Entered.{WasEntered, WereEntered}
use Rattle.machine.proofs.Kept.{were_stay, were_more}
use Rattle.machine.proofs.frames.call.Goals as goal

pub returns-in_err-enter-clause-entered : goal.returns-in_err-enter-clause-entered
returns-in_err-enter-clause-entered c =
    were_stay c.args.entered.now.tables c.enter.new.self.tables c.enter.ensures.stay (c.args.running.now ∷ c.args.below.now.items) c.requires.entered

pub returns-in_err-frame-clause-entered : goal.returns-in_err-frame-clause-entered
returns-in_err-frame-clause-entered c =
    were_stay c.args.entered.now.tables c.enter.new.self.tables c.enter.ensures.stay (c.args.running.now ∷ c.args.below.now.items) c.requires.entered

pub returns-in_err-push_frame-clause-entered : goal.returns-in_err-push_frame-clause-entered
returns-in_err-push_frame-clause-entered c =
    let tables = c.enter.new.self.tables in
    let were = were_stay c.args.entered.now.tables tables c.enter.ensures.stay (c.args.running.now ∷ c.args.below.now.items) c.requires.entered in (
      subst (λ frame. WasEntered tables frame.function) (sym c.in_err-push_frame.ensures.running) were.0,
      subst (WereEntered tables) (sym c.in_err-push_frame.ensures.below) were.1,
    )

pub returns-clause-entered : goal.returns-clause-entered
returns-clause-entered c =
    let tables = c.enter.new.self.tables in
    let were = were_stay c.args.entered.now.tables tables c.enter.ensures.stay (c.args.running.now ∷ c.args.below.now.items) c.requires.entered in
    let called = subst (λ frame. WasEntered tables frame.function) (sym c.in_ok-frame.ensures) c.in_ok-enter.ensures.entered in (
      subst (λ frame. WasEntered tables frame.function) (sym c.in_ok-push_frame.ensures.running) called,
      subst (WereEntered tables) (sym c.in_ok-push_frame.ensures.below) (were_more tables c.args.below.now.items (go_on c.args.running.now) were.1 were.0),
    )
