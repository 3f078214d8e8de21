use Rattle.std.proofs.Common.{rules}
use Rattle.rand.specs.Draw.{Gives}
use Rattle.rand_core.specs.Stream.{next_u32}
use Rattle.replay.proofs.DrawLemmas.{drawn_is}
use Rattle.replay.proofs.seeds.draw.Goals as goal

pub returns-clause-drawn : goal.returns-clause-drawn
returns-clause-drawn g c = drawn_is {std = Gives next_u32} c.args.last _ _ _ (search rules) (search rules)
