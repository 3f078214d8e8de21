use Rattle.std.proofs.Common.{◌≡◌, ◌-◌, suc}
use Rattle.grammar.specs.Turns.{turns}
use Rattle.recheck.specs.Lines.{is_dot}
use Rattle.recheck.specs.Forms.{left, line}
use Rattle.recheck.proofs.reader.lines.Given as goal

abbrev pub invariant-loop-turn : goal.invariant-loop-turn
invariant-loop-turn l = turns is_dot line.read (suc (left l.fn.input)) l.fn.input ≡ turns is_dot line.read (l._turn-end - l._turn) l.input
