use Rattle.std.proofs.Common.{◌≡◌, ◌-◌, suc}
use Rattle.name_text.specs.Reader.{left}
use Rattle.certificate.specs.NumberForms.{past_numbers, number_line}
use Rattle.grammar.specs.Turns.{turns}
use Rattle.certificate.proofs.number_forms.number_lines.Given as goal

abbrev pub invariant-loop-turn : goal.invariant-loop-turn
invariant-loop-turn l = turns past_numbers (number_line l.module).read (suc (left l.fn.input)) l.fn.input ≡ turns past_numbers (number_line l.module).read (l._turn-end - l._turn) l.input
