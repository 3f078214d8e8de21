use Rattle.std.proofs.Common.{◌≡◌, ◌+◌, ◌*◌, ◌-◌, suc}
use Rattle.ir_forms.specs.Input.{left}
use Rattle.ir_forms.specs.Written.{fields_again, again_within}
use Rattle.ir_forms.proofs.input.Input.+mentions.Given as goal

abbrev pub decreases-again_within : goal.decreases-again_within
decreases-again_within l = 4 * l.levels

abbrev pub decreases-again_by : goal.decreases-again_by
decreases-again_by l = 4 * l.levels + 2

abbrev pub decreases-array_again : goal.decreases-array_again
decreases-array_again l = 4 * l.levels + 1

abbrev pub decreases-fields_again : goal.decreases-fields_again
decreases-fields_again l = 4 * l.levels + 1

abbrev pub invariant-fields_again-loop-turn : goal.invariant-fields_again-loop-turn
invariant-fields_again-loop-turn l = (fields_again (again_within l.levels) (suc (left l.fn.self)) l.fn.rest).read l.fn.self ≡ (fields_again (again_within l.levels) (l._turn-end - l._turn) l.rest).read l.self
