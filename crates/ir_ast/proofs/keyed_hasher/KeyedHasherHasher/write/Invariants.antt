use Rattle.std.proofs.Common.{◌≡◌, ◌<◌, length}
use Rattle.ir_ast.specs.KeyedHash as spec
use Rattle.ir_ast.proofs.keyed_hasher.KeyedHasherHasher.write.Given as goal

abbrev pub invariant-loop-rest : goal.invariant-loop-rest
invariant-loop-rest l = spec.write l.fn.self l.fn.bytes ≡ spec.write l.self l.rest

abbrev pub decreases-loop-rest : goal.decreases-loop-rest
decreases-loop-rest l = length l.rest

abbrev pub invariant-loop-rest-2 : goal.invariant-loop-rest-2
invariant-loop-rest-2 l = (spec.write l.fn.self l.fn.bytes ≡ spec.write l.self l.rest) × (length l.rest < 4)

abbrev pub decreases-loop-rest-2 : goal.decreases-loop-rest-2
decreases-loop-rest-2 l = length l.rest
