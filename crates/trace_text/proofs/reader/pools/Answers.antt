use Rattle.std.proofs.Common.{◌∙◌, sym, rules, arith}
use Rattle.std.proofs.lemmas.Grind.{common_steps}
use Rattle.trace_text.specs.Text.{pool, past_pools, pools}
use Rattle.grammar.specs.Turns.{loop_ends, loop_goes, loop_breaks, loop_done}
use Rattle.trace_text.proofs.reader.pools.Goals as goal

pub returns-then-past_pools : goal.returns-then-past_pools
unfolding pools
returns-then-past_pools c = loop_ends past_pools (pool c.args.module.now).read c.loop-turn-test.true c.loop-turn.invariant (sym c.past_pools.ensures ∙ c.if-past_pools.true)

pub returns-in_err-pool : goal.returns-in_err-pool
unfolding pools
returns-in_err-pool c =
    let breaks = loop_breaks past_pools (pool c.args.module.now).read c.loop-turn-test.true c.loop-turn.invariant (sym c.past_pools.ensures ∙ c.if-past_pools.false) in
    first_of (search rules, grind (arith, common_steps))

pub loop-turn-preserved : goal.loop-turn-preserved
loop-turn-preserved c = loop_goes past_pools (pool c.args.module.now).read c.loop-turn-test.true c.loop-turn.invariant (sym c.past_pools.ensures ∙ c.if-past_pools.false) tt c.pool.new.input c.in_ok-pool.ensures

pub returns : goal.returns
unfolding pools
returns c = loop_done past_pools (pool c.args.module.now).read c.loop-turn-test.false c.loop-turn.invariant
