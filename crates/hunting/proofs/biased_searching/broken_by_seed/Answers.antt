-- The trace that is replayed begins as the given one.
use Rattle.std.proofs.Common.{sym, subst}
use Rattle.program_runner.specs.Setups.{IsCertifiedSetup}
use Rattle.trace_text.specs.declared.trace.Setup.{Setup}
use Rattle.hunting.proofs.biased_searching.broken_by_seed.Goals as goal

pub returns-clause-safe : goal.returns-clause-safe
returns-clause-safe c certs is =
    c.in_ok-found.ensures.safe certs (subst (λ (s : Setup). IsCertifiedSetup c.args.program.now s certs) (sym c.in_ok-trace.ensures.setup) is)
