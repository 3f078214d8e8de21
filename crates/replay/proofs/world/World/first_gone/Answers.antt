use Rattle.std.proofs.Common.{◌∷◌}
use Rattle.program_runner.specs.Heaps.{heap_of}
use Rattle.program_runner.specs.Setups.{starts_of}
use Rattle.replay.proofs.WorldSteps.{are_after, over_in}
use Rattle.replay.proofs.world.World.first_gone.Goals as goal

pub first_gone-requires : goal.first_gone-requires
first_gone-requires c = over_in c.self.inside c.args.self.now c.self.view_is c.self.invariant c.args.cover.now c.requires

pub returns-clause-gone : goal.returns-clause-gone
returns-clause-gone c = λ before actor b is known.
    let w = c.args.self.now in
    c.first_gone.ensures.gone (heap_of w.program w.setup) (starts_of w.program w.setup) before actor (are_after c.self.inside w (actor ∷ before) c.self.view_is c.self.invariant b) is known

pub returns-clause-cover : goal.returns-clause-cover
returns-clause-cover c = λ before actor b is known.
    let w = c.args.self.now in
    c.first_gone.ensures.cover (heap_of w.program w.setup) (starts_of w.program w.setup) before actor (are_after c.self.inside w (actor ∷ before) c.self.view_is c.self.invariant b) is known
