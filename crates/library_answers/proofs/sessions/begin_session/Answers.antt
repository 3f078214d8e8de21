use Rattle.std.proofs.lemmas.Result.{IfOk-weaker}
use Rattle.library_answers.proofs.Accepted.{texts_accepted}
use Rattle.library_answers.proofs.sessions.begin_session.Goals as goal

pub returns-clause-begun : goal.returns-clause-begun
returns-clause-begun c = IfOk-weaker c.begin_files.result _ _ (λ s is. (c.texts_of_check-files.result, c.texts_of_check-files.ensures, is)) c.begin_files.ensures.begun

pub returns-clause-accepted : goal.returns-clause-accepted
returns-clause-accepted c =
    IfOk-weaker c.begin_files.result _ _ (λ s is. texts_accepted c.args.wide c.args.of_module.now c.args.cert.now s (c.texts_of_check-files.result, c.texts_of_check-files.ensures, is)) c.begin_files.ensures.begun
