use Rattle.std.proofs.Common.{◌≡◌, ◌+◌, ◌*◌, ◌-◌, [], suc}
use Rattle.grammar.specs.Many.{many_from}
use Rattle.ir_forms.specs.Input.{left}
use Rattle.ir_forms.specs.Written.{at_brace, field, firm}
use Rattle.ir_forms.proofs.input.Input.+types.Given as goal

abbrev pub decreases-part : goal.decreases-part
decreases-part l = 5 * l.levels

abbrev pub decreases-base : goal.decreases-base
decreases-base l = 5 * l.room + 4

abbrev pub decreases-array : goal.decreases-array
decreases-array l = 5 * l.levels + 1

abbrev pub decreases-braced : goal.decreases-braced
decreases-braced l = 5 * l.levels + 3

abbrev pub decreases-fields : goal.decreases-fields
decreases-fields l = 5 * l.levels + 2

abbrev pub decreases-field : goal.decreases-field
decreases-field l = 5 * l.levels + 1

abbrev pub invariant-fields-loop-turn : goal.invariant-fields-loop-turn
invariant-fields-loop-turn l = many_from at_brace (field (firm l.levels)).read (suc (left l.fn.self)) [] l.fn.self ≡ many_from at_brace (field (firm l.levels)).read (l._turn-end - l._turn) l.found l.self
