use Rattle.std.proofs.Common.{arith}
use Rattle.std.proofs.lemmas.Grind.{common_steps}
use Rattle.std.proofs.lemmas.List.Elements.{filter_map-append}
use Rattle.ir_forms.proofs.lists.kept_of.Goals.{in-Some+in_ok-push, in_default}
use Rattle.ir_forms.proofs.lists.kept_of.Goals as goal

pub loop-given-preserved : goal.loop-given-preserved
loop-given-preserved c =
    elim c.match-given.branch [
      | in-Some+in_ok-push w ↦ grind (arith, common_steps, filter_map-append)
      | in_default w ↦ grind (arith, common_steps, filter_map-append)
    ]
