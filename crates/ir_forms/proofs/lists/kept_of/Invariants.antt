use Rattle.std.proofs.Common.{◌≡◌, take}
use Rattle.std.specs.Prelude.{filter_map}
use Rattle.ir_forms.proofs.lists.kept_of.Given as goal

abbrev pub invariant-loop-given : goal.invariant-loop-given
invariant-loop-given l = l.kept ≡ filter_map (λ x. x) (take l.given-index l.fn.found)
