use Rattle.std.proofs.Common.{◌≡◌, ◌-◌, suc, []}
use Rattle.grammar.specs.Many.{many_from}
use Rattle.name_text.specs.Numbers.{is_nil}
use Rattle.recheck.specs.Forms.{left}
use Rattle.recheck.specs.Text.{edit}
use Rattle.recheck.proofs.reader.edits.Given as goal

abbrev pub invariant-loop-turn : goal.invariant-loop-turn
invariant-loop-turn l = many_from is_nil edit.read (suc (left l.fn.input)) [] l.fn.input ≡ many_from is_nil edit.read (l._turn-end - l._turn) l.edits l.input
