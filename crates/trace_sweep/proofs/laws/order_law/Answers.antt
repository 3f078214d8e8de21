-- The law of the machine, clause by clause.
use Rattle.trace_sweep.specs.Order.{turns-turn_in, found-turn_in, part-after, turn_in-only}
use Rattle.trace_sweep.proofs.laws.order_law.Goals as goal

pub returns-clause-made : goal.returns-clause-made
returns-clause-made c = λ s stage listed at found further part.
    (turns-turn_in s stage listed at found further part, found-turn_in s stage listed at found, part-after s stage listed at found part)

pub returns-clause-only : goal.returns-clause-only
returns-clause-only c = λ s stage listed at found turn d. turn_in-only s stage listed at turn d found
