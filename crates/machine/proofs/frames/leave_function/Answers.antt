use Rattle.std.proofs.Common.{◌≡◌, ◌++◌, [], ◌∷◌, sym, ap, ◌∙◌, subst}
use Rattle.std.specs.Option.{option_to_list}
use Rattle.machine.specs.declared.frame.Frame.{Frame}
use Rattle.machine.specs.Entered.{WasEntered, WereEntered}
use Rattle.machine.proofs.Kept.{were_less}
use Rattle.machine.proofs.frames.leave_function.Goals as goal

pub returns-in-Ok-clause-entered : goal.returns-in-Ok-clause-entered
returns-in-Ok-clause-entered c tables were =
    let rest = c.pop.new.self.items in
    let split : c.args.below.now.items ≡ rest ++ c.in-Some.caller ∷ [] = c.pop.ensures.items ∙ ap (λ q. rest ++ option_to_list q) c.in-Some.is in
    let less = were_less tables rest c.in-Some.caller (subst (WereEntered tables) split were.1) in
    let runs = subst (λ (frame : Frame). WasEntered tables frame.function) (sym c.in-Ok.ensures.ok) less.0 in
    (subst (λ frame. WasEntered tables frame.function) (sym c.set_register.ensures) runs, less.1)
