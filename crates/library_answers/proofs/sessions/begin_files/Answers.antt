use Rattle.std.proofs.lemmas.Result.{IfOk-weaker}
use Rattle.library_answers.proofs.sessions.begin_files.Goals as goal

pub returns-in-Ok-clause-begun : goal.returns-in-Ok-clause-begun
returns-in-Ok-clause-begun c =
    let certified = c.in-Ok.certified in
    IfOk-weaker c.begin_certified.result _ _ (λ s is. (certified.of_module, certified.certs, c.in-Ok.ensures.of_module, c.in-Ok.ensures.certs, is)) c.begin_certified.ensures.begun
