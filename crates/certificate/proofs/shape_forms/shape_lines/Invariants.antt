use Rattle.std.proofs.Common.{◌≡◌, ◌-◌, suc}
use Rattle.name_text.specs.Reader.{left}
use Rattle.certificate.specs.ShapeForms.{past_shapes, shape_line}
use Rattle.grammar.specs.Turns.{turns}
use Rattle.certificate.proofs.shape_forms.shape_lines.Given as goal

abbrev pub invariant-loop-turn : goal.invariant-loop-turn
invariant-loop-turn l = turns past_shapes (shape_line l.module).read (suc (left l.fn.input)) l.fn.input ≡ turns past_shapes (shape_line l.module).read (l._turn-end - l._turn) l.input
