use Rattle.std.proofs.Common.{◌^◌, arith}
use Rattle.std.proofs.lemmas.Nat.{mul-lt}
use Rattle.parallel_check.proofs.Joined.{within}
use Rattle.parallel_check.proofs.ranges.range_from.Goals as goal

pub overflow_mul-product : goal.overflow_mul-product
overflow_mul-product c = omega (arith, mul-lt c.args.worker c.args.count (2 ^ 32) (2 ^ 32) (omega arith) (omega arith))

pub overflow_cast-result : goal.overflow_cast-result
overflow_cast-result c = omega (arith, within c.args.workers c.args.count c.args.worker c.requires.worker)
