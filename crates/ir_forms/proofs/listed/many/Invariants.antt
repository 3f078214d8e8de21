use Rattle.std.proofs.Common.{◌≡◌, ◌-◌, [], suc}
use Rattle.grammar.specs.Many.{many_from}
use Rattle.ir_forms.specs.Input.{left}
use Rattle.ir_forms.proofs.listed.many.Given as goal

abbrev pub invariant-loop-turn : goal.invariant-loop-turn
invariant-loop-turn g l = many_from g.F.Listed.ends g.F.Listed.form (suc (left l.fn.input)) [] l.fn.input ≡ many_from g.F.Listed.ends g.F.Listed.form (l._turn-end - l._turn) l.found l.input
