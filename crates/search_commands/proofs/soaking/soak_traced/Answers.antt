use Rattle.std.proofs.Common.{refl}
use Rattle.std.proofs.lemmas.Result.{IfOk-weaker}
use Rattle.reports.specs.Said.{OnError}
use Rattle.search_commands.specs.Searches.{not_started}
use Rattle.search_commands.proofs.soaking.soak_traced.Goals as goal

pub returns-in-Err-clause-said : goal.returns-in-Err-clause-said
returns-in-Err-clause-said g c =
    IfOk-weaker c.no_threads.result _ _ (λ status told. (OnError _, not_started c.in-Err.fault c.in-Err.ensures.fault refl, (refl, told))) c.no_threads.ensures
