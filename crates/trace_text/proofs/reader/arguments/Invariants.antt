use Rattle.std.proofs.Common.{◌≡◌, ◌-◌, suc, []}
use Rattle.grammar.specs.Many.{many_from}
use Rattle.name_text.specs.Reader.{left, line_ends}
use Rattle.trace_text.specs.Forms.{argument}
use Rattle.trace_text.proofs.reader.arguments.Given as goal

abbrev pub invariant-loop-turn : goal.invariant-loop-turn
invariant-loop-turn l = many_from line_ends argument.read (suc (left l.fn.input)) [] l.fn.input ≡ many_from line_ends argument.read (l._turn-end - l._turn) l.arguments l.input
