use Rattle.std.proofs.Common.{refl}
use Rattle.std.proofs.lemmas.Result.{IfOk-weaker}
use Rattle.reports.specs.Said.{OnOutput, OnError}
use Rattle.search_commands.specs.Searches.{broke, not_hunted}
use Rattle.search_commands.proofs.hunts.tell_shorter.Goals as goal

pub returns-in-Ok-clause-said : goal.returns-in-Ok-clause-said
returns-in-Ok-clause-said g c =
    IfOk-weaker c.broken.result _ _ (λ status told. (OnOutput _, broke c.in-Ok.shorter.broken c.args.found.seed c.in-Ok.shorter.tries c.requires.0 c.requires.1 c.in-Ok.ensures.shorter, (told, refl))) c.broken.ensures

pub returns-in-Err-clause-said : goal.returns-in-Err-clause-said
returns-in-Err-clause-said g c =
    IfOk-weaker c.memory.result _ _ (λ status told. (OnError _, not_hunted c.in-Err.ensures.err, (refl, told))) c.memory.ensures
