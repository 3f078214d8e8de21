-- The world made one step more, and tells it.
use Rattle.std.proofs.Common.{◌∷◌, subst}
use Rattle.std.specs.Prelude.{IfOk}
use Rattle.replay.specs.Worlds.{IsAfter, IsStepAfter}
use Rattle.replay.proofs.Watching.{counts_are_small, over_after, stepped}
use Rattle.replay.proofs.watch.Watch.step.Goals as goal

pub told-requires : goal.told-requires
told-requires c = record { room = counts_are_small 1 c.args.self.now c.requires.room; cover = over_after 1 c.args.self.now c.step-made.new.self c.requires.room c.step-made.ensures.same }

pub returns-in-Ok : goal.returns-in-Ok
returns-in-Ok c p setup before is =
    let w = c.args.self.now in
    let both = subst (λ r. IfOk r (λ made. IsStepAfter w.world before c.args.actor made × IsAfter c.step-made.new.self (c.args.actor ∷ before))) c.in-Ok.is (c.step-made.ensures.ok before is.afterwards) in
    c.told.ensures p setup before (stepped p setup before c.args.actor c.in-Ok.made w c.step-made.new.self is c.step-made.ensures.same both)
