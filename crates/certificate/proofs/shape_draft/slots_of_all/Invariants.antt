use Rattle.std.proofs.Common.{◌≡◌, map, take}
use Rattle.certs.specs.RootNames.{root_names}
use Rattle.certificate.proofs.shape_draft.slots_of_all.Given as goal

abbrev pub invariant-loop-function : goal.invariant-loop-function
invariant-loop-function l = l.slots ≡ map (root_names l.«module») (take l.function-index l.functions)
