use Rattle.std.specs.Prelude.{IfSome}
use Rattle.cert_maker.specs.Made.{AreTried}
use Rattle.cert_maker.proofs.maker.certs_for.Given as goal

abbrev pub invariant-loop-boldness : goal.invariant-loop-boldness
invariant-loop-boldness l = IfSome l.boldest (AreTried l.fn.program)
