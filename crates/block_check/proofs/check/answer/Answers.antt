use Rattle.std.proofs.Common.{MatchOption, subst}
use Rattle.block_rules.specs.Certified.{IsCertified, BreaksAt}
use Rattle.block_check.specs.FunctionUnderCheck.{seen}
use Rattle.block_check.proofs.Refused.{found_of, refused_at}
use Rattle.block_check.proofs.check.answer.Goals as goal

pub returns-in-Some : goal.returns-in-Some
returns-in-Some c =
    let w = c.over-walk.result in
    let breaks = subst (λ found. MatchOption found (IsCertified (seen w.under_check.now) w.block) (λ broken. BreaksAt (seen w.under_check.now) w.block broken.0 broken.1)) c.in-Some.is c.in_ok-first_breach.ensures in
    refused_at c.args.under_check.now c.args.block c.in-Some.instr c.in-Some.broken c.requires (found_of w.under_check.now c.args.under_check.now w.block c.args.block c.in-Some.instr c.in-Some.broken c.over-walk.ensures.under_check c.over-walk.ensures.block breaks)
