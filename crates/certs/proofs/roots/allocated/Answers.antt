use Rattle.std.proofs.Common.{◌∙◌, sym}
use Rattle.certs.specs.Roots.{allocated_within}
use Rattle.certs.proofs.SlotRoots.{allocated_on}
use Rattle.grammar.specs.Turns.{one_more}
use Rattle.certs.proofs.roots.allocated.Goals as goal

pub loop-turn-preserved : goal.loop-turn-preserved
loop-turn-preserved c =
    let f = c.args.function.now in
    one_more (λ n. allocated_within f n c.loop-turn.name) _ c.loop-turn._turn c.loop-turn-test.true c.loop-turn.invariant
    ∙ allocated_on f _ c.loop-turn.name c.in-Same.other (sym c.source_of-source.ensures ∙ c.in-Same.is)
