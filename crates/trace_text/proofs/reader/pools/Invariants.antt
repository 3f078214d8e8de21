use Rattle.std.proofs.Common.{◌≡◌, ◌-◌, suc}
use Rattle.name_text.specs.Reader.{left}
use Rattle.trace_text.specs.Text.{pool, past_pools}
use Rattle.grammar.specs.Turns.{turns}
use Rattle.trace_text.proofs.reader.pools.Given as goal

abbrev pub invariant-loop-turn : goal.invariant-loop-turn
invariant-loop-turn l = turns past_pools (pool l.module).read (suc (left l.fn.input)) l.fn.input ≡ turns past_pools (pool l.module).read (l._turn-end - l._turn) l.input
