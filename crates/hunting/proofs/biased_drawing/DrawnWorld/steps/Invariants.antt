-- the world has the setup that it began with
use Rattle.std.proofs.Common.{◌≡◌}
use Rattle.hunting.proofs.biased_drawing.DrawnWorld.steps.Given as goal

abbrev pub invariant-loop-count : goal.invariant-loop-count
invariant-loop-count l = l.self.world.setup ≡ l.fn.self.world.setup
