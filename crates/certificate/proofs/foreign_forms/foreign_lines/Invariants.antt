use Rattle.std.proofs.Common.{◌≡◌, ◌-◌, suc}
use Rattle.name_text.specs.Reader.{left}
use Rattle.certificate.specs.ForeignForms.{past_foreign, foreign_line}
use Rattle.grammar.specs.Turns.{turns}
use Rattle.certificate.proofs.foreign_forms.foreign_lines.Given as goal

abbrev pub invariant-loop-turn : goal.invariant-loop-turn
invariant-loop-turn l = turns past_foreign (foreign_line l.module).read (suc (left l.fn.input)) l.fn.input ≡ turns past_foreign (foreign_line l.module).read (l._turn-end - l._turn) l.input
