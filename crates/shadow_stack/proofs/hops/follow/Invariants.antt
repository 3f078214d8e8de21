use Rattle.std.proofs.Common.{◌+◌, ◌-◌, ◌<◌, length}
use Rattle.shadow_stack.specs.Slots.{AreBack}
use Rattle.shadow_stack.proofs.hops.follow.Given as goal

-- the row shows what is at least `reach` - 1 bitcasts back
abbrev pub invariant-loop-origins : goal.invariant-loop-origins
invariant-loop-origins l = record { positive : 0 < l.reach; back : AreBack l.initial.origins (l.reach - 1) l.origins }

abbrev pub decreases-loop-origins : goal.decreases-loop-origins
decreases-loop-origins l = length l.initial.origins + 1 - l.reach
