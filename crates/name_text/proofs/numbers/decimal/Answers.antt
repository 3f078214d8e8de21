use Rattle.std.proofs.Common.{arith}
use Rattle.name_text.specs.Numbers.{decimal}
use Rattle.name_text.proofs.Decimals.{finished, next_too_large}
use Rattle.name_text.proofs.numbers.decimal.Goals as goal

pub returns-then-number-value : goal.returns-then-number-value
unfolding decimal
returns-then-number-value c = next_too_large _ _ _ _ c.loop-digit.invariant c.loop-digit-test.true (omega arith)

pub returns : goal.returns
unfolding decimal
returns c = finished _ _ _ _ c.loop-digit.invariant c.loop-digit-test.false (omega (arith, c.loop-digit.auto.number-fits))
