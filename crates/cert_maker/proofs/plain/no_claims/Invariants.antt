use Rattle.std.proofs.Common.{◌≡◌, [], take, map}
use Rattle.cert_maker.proofs.plain.no_claims.Given as goal

abbrev pub invariant-loop-block : goal.invariant-loop-block
invariant-loop-block l = l.claims ≡ map (λ _. []) (take l._block-index l.blocks)
