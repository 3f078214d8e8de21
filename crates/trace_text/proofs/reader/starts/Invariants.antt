use Rattle.std.proofs.Common.{◌≡◌, ◌-◌, suc}
use Rattle.name_text.specs.Reader.{left}
use Rattle.trace_text.specs.Arrivals.{past_starts}
use Rattle.trace_text.specs.Text.{start}
use Rattle.grammar.specs.Turns.{turns}
use Rattle.trace_text.proofs.reader.starts.Given as goal

abbrev pub invariant-loop-turn : goal.invariant-loop-turn
invariant-loop-turn l = turns (past_starts l.version) (start l.module l.version).read (suc (left l.fn.input)) l.fn.input ≡ turns (past_starts l.version) (start l.module l.version).read (l._turn-end - l._turn) l.input
