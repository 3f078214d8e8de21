use Rattle.std.proofs.Common.{refl}
use Rattle.std.proofs.lemmas.Result.{IfOk-weaker}
use Rattle.commands.proofs.command.answer.Goals as goal

pub returns-in-Check-clause-said : goal.returns-in-Check-clause-said
returns-in-Check-clause-said g c = rw c.in-Check.is (IfOk-weaker c.check_files.result _ _ (λ status says. (_, says, refl, refl)) c.check_files.ensures)

pub returns-in-Make-clause-said : goal.returns-in-Make-clause-said
returns-in-Make-clause-said g c = rw c.in-Make.is (IfOk-weaker c.make_file.result _ _ (λ status says. (_, says, refl, refl)) c.make_file.ensures)

pub returns-in-Fix-clause-said : goal.returns-in-Fix-clause-said
returns-in-Fix-clause-said g c = rw c.in-Fix.is (IfOk-weaker c.fix_files.result _ _ (λ status says. (_, says, refl, refl)) c.fix_files.ensures.said)

pub returns-in-Recheck-clause-said : goal.returns-in-Recheck-clause-said
returns-in-Recheck-clause-said g c = rw c.in-Recheck.is (IfOk-weaker c.recheck_files.result _ _ (λ status says. (_, says, refl, refl)) c.recheck_files.ensures)

pub returns-in-Soak-clause-said : goal.returns-in-Soak-clause-said
returns-in-Soak-clause-said g c = rw c.in-Soak.is (IfOk-weaker c.soak_files.result _ _ (λ status says. (_, says, refl, refl)) c.soak_files.ensures.said)

pub returns-in-Hunt-clause-said : goal.returns-in-Hunt-clause-said
returns-in-Hunt-clause-said g c = rw c.in-Hunt.is (IfOk-weaker c.hunt_files.result _ _ (λ status says. (_, says, refl, refl)) c.hunt_files.ensures.said)

pub returns-in-Run-clause-said : goal.returns-in-Run-clause-said
returns-in-Run-clause-said g c = rw c.in-Run.is (IfOk-weaker c.run_files.result _ _ (λ status says. (_, says, refl, refl)) c.run_files.ensures)

pub returns-in-Watch-clause-said : goal.returns-in-Watch-clause-said
returns-in-Watch-clause-said g c = rw c.in-Watch.is (IfOk-weaker c.watch_files.result _ _ (λ status says. (_, says, refl, refl)) c.watch_files.ensures)

pub returns-in-Explain-clause-said : goal.returns-in-Explain-clause-said
returns-in-Explain-clause-said g c = rw c.in-Explain.is (IfOk-weaker c.explain_code.result _ _ (λ status says. (_, says, refl, refl)) c.explain_code.ensures)

pub returns-in-Migrate-clause-said : goal.returns-in-Migrate-clause-said
returns-in-Migrate-clause-said g c = rw c.in-Migrate.is (IfOk-weaker c.migrate_files.result _ _ (λ status says. (_, says, refl, refl)) c.migrate_files.ensures)

pub returns-in-Replay-clause-said : goal.returns-in-Replay-clause-said
returns-in-Replay-clause-said g c = rw c.in-Replay.is c.replay_files.ensures.said

pub returns-in-Conform-clause-said : goal.returns-in-Conform-clause-said
returns-in-Conform-clause-said g c = rw c.in-Conform.is (IfOk-weaker c.conform_files.result _ _ (λ status says. (_, says, refl, refl)) c.conform_files.ensures)

pub returns-in-Lower-clause-said : goal.returns-in-Lower-clause-said
returns-in-Lower-clause-said g c = rw c.in-Lower.is (IfOk-weaker c.lower_files.result _ _ (λ status says. (_, says, refl, refl)) c.lower_files.ensures)
