use Rattle.std.proofs.Common.{refl}
use Rattle.std.proofs.lemmas.Result.{IfOk-weaker}
use Rattle.reports.specs.Said.{OnError}
use Rattle.search_commands.specs.Searches.{no_program, of_program}
use Rattle.search_commands.proofs.hunts.hunt_shaped.Goals as goal

pub returns-in-Ok-clause-said : goal.returns-in-Ok-clause-said
returns-in-Ok-clause-said g c =
    IfOk-weaker c.hunt_program-status.result _ _
    (λ status told. (told.0, of_program c.in-Ok.program told.0 c.in-Ok.ensures.ok told.1, told.2))
    c.hunt_program-status.ensures.said

pub returns-in-Err-clause-said : goal.returns-in-Err-clause-said
returns-in-Err-clause-said g c =
    IfOk-weaker c.unread.result _ _ (λ status told. (OnError _, no_program c.in-Err.fault c.in-Err.ensures.err refl, (refl, told))) c.unread.ensures
