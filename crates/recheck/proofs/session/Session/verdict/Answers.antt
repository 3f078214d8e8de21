use Rattle.std.proofs.Common.{MatchOption, subst}
use Rattle.module_check.specs.Accepted.{IsAccepted, IsFirstRefusal}
use Rattle.recheck.proofs.Verdicts.{answered_verdict}
use Rattle.recheck.proofs.session.Session.verdict.Goals as goal

pub returns : goal.returns
returns c =
    subst (λ session. MatchOption c.first_refusal.result (IsAccepted session.program.of_module session.certs.sections) (IsFirstRefusal session.program.of_module session.certs.sections)) c.self.view_is
    (answered_verdict c.self.inside.program c.self.inside.certs.sections c.self.inside.kept.functions.answers c.first_refusal.result c.self.invariant.answered cc)
