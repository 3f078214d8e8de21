use Rattle.std.proofs.Common.{◌≡◌, ◌-◌, suc}
use Rattle.name_text.specs.Reader.{left, ended}
use Rattle.certificate.specs.Text.{section}
use Rattle.grammar.specs.Turns.{turns}
use Rattle.certificate.proofs.reader.sections.Given as goal

abbrev pub invariant-loop-turn : goal.invariant-loop-turn
invariant-loop-turn l = turns ended (section l.module).read (suc (left l.fn.input)) l.fn.input ≡ turns ended (section l.module).read (l._turn-end - l._turn) l.input
