use Rattle.std.proofs.Common.{◌≡◌, ◌++◌, take}
use Rattle.std.specs.List.{flat_map}
use Rattle.ir_print.specs.Choices.{phi_line}
use Rattle.ir_print.proofs.choices.put_phis.Given as goal

abbrev pub invariant-loop-phi : goal.invariant-loop-phi
invariant-loop-phi l = l.out.items ≡ l.fn.out.items ++ flat_map (phi_line l.«module» l.locals) (take l.phi-index l.phis)
