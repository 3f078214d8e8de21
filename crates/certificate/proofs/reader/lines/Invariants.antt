use Rattle.std.proofs.Common.{◌≡◌, ◌-◌, suc}
use Rattle.name_text.specs.Reader.{left}
use Rattle.certificate.specs.Text.{past_lines}
use Rattle.certificate.specs.Lines.{line}
use Rattle.grammar.specs.Turns.{turns}
use Rattle.certificate.proofs.reader.lines.Given as goal

abbrev pub invariant-loop-turn : goal.invariant-loop-turn
invariant-loop-turn l = turns past_lines (line l.module l.function l.block).read (suc (left l.fn.input)) l.fn.input ≡ turns past_lines (line l.module l.function l.block).read (l._turn-end - l._turn) l.input
