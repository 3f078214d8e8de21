use Rattle.std.proofs.Common.{◌≡◌, drop}
use Rattle.facts.specs.Claims.{receive_all}
use Rattle.block_rules.specs.Edges.{parameters_given}
use Rattle.diagnosis.proofs.before.receive_parameters.Given as goal

abbrev pub invariant-loop-parameter : goal.invariant-loop-parameter
invariant-loop-parameter l =
    receive_all (parameters_given l.module l.fn.parameters l.fn.promises) l.initial.facts ≡ receive_all (parameters_given l.module (drop l.parameter-index l.parameters) l.rest) l.facts
