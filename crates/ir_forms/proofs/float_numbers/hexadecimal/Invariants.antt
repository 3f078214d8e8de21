use Rattle.std.proofs.Common.{◌≡◌, length}
use Rattle.ir_forms.specs.FloatNumbers.{hexadecimal_after}
use Rattle.ir_forms.proofs.float_numbers.hexadecimal.Given as goal

abbrev pub invariant-loop-rest : goal.invariant-loop-rest
invariant-loop-rest l = hexadecimal_after 0 l.digits ≡ hexadecimal_after l.number l.rest

abbrev pub decreases-loop-rest : goal.decreases-loop-rest
decreases-loop-rest l = length l.rest
