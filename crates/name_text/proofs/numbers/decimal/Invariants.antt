use Rattle.std.proofs.Common.{◌≡◌, drop}
use Rattle.name_text.specs.Numbers.{decimal_after}
use Rattle.name_text.proofs.numbers.decimal.Given as goal

abbrev pub invariant-loop-digit : goal.invariant-loop-digit
invariant-loop-digit l = decimal_after 0 l.digits ≡ decimal_after l.number (drop l.digit-index l.digits)
