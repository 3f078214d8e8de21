use Rattle.std.proofs.Common.{◌/◌, ◌^◌, rules}
use Rattle.lemmas.specs.Numbers.{test_true, test_yes}
use Rattle.conform.proofs.Bits.{fits_wide, shifted, unshifted}
use Rattle.conform.proofs.discipline.fits.Goals as goal

pub returns-then-bits-ge-BITS : goal.returns-then-bits-ge-BITS
returns-then-bits-ge-BITS c = (λ _. fits_wide c.args.number c.args.bits c.ranges.number.fits c.if-bits-ge-BITS.true, λ _. search rules)

pub returns-else-bits-ge-BITS : goal.returns-else-bits-ge-BITS
returns-else-bits-ge-BITS c = (λ yes. shifted c.args.number c.args.bits (test_true (c.args.number / 2 ^ c.args.bits) 0 yes), λ small. test_yes (c.args.number / 2 ^ c.args.bits) 0 (unshifted c.args.number c.args.bits small))
