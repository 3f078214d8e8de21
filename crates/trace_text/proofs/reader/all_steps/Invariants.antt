use Rattle.std.proofs.Common.{◌≡◌, ◌-◌, suc}
use Rattle.name_text.specs.Reader.{left}
use Rattle.trace_text.specs.Text.{steps_line, past_steps}
use Rattle.grammar.specs.Turns.{turns}
use Rattle.trace_text.proofs.reader.all_steps.Given as goal

abbrev pub invariant-loop-turn : goal.invariant-loop-turn
invariant-loop-turn l = turns past_steps steps_line.read (suc (left l.fn.input)) l.fn.input ≡ turns past_steps steps_line.read (l._turn-end - l._turn) l.input
