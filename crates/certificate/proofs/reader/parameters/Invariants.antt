use Rattle.std.proofs.Common.{◌≡◌, ◌-◌, suc}
use Rattle.name_text.specs.Reader.{left}
use Rattle.certificate.specs.Text.{past_parameters, parameter}
use Rattle.grammar.specs.Turns.{turns}
use Rattle.certificate.proofs.reader.parameters.Given as goal

abbrev pub invariant-loop-turn : goal.invariant-loop-turn
invariant-loop-turn l = turns past_parameters (parameter l.module l.function).read (suc (left l.fn.input)) l.fn.input ≡ turns past_parameters (parameter l.module l.function).read (l._turn-end - l._turn) l.input
