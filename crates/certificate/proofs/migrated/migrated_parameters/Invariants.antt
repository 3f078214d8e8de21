use Rattle.std.proofs.Common.{◌≡◌, ◌++◌, drop, length}
use Rattle.certificate.specs.Migrated.{parameters_from}
use Rattle.certificate.proofs.migrated.migrated_parameters.Given as goal

abbrev pub invariant-loop-promise : goal.invariant-loop-promise
invariant-loop-promise l = l.migrated ++ parameters_from l.«module» l.parameters (length l.migrated) (drop l.promise-index l.promises) ≡ parameters_from l.«module» l.parameters 0 l.promises
