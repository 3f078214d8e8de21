use Rattle.std.proofs.Common.{◌≡◌, take, map}
use Rattle.cert_maker.proofs.plain.one_for_each.Given as goal

abbrev pub invariant-loop-parameter : goal.invariant-loop-parameter
invariant-loop-parameter g l = l.elements ≡ map (λ _. l.fn.element) (take l._parameter-index l.parameters)
