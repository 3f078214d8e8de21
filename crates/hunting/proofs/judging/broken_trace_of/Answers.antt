-- Where the program is certified its replay is sound.
use Rattle.std.proofs.Common.{subst}
use Rattle.replay.specs.Outcomes.{IsSound}
use Rattle.hunting.proofs.judging.broken_trace_of.Goals as goal

pub returns-in-Ok-Broken-clause-safe : goal.returns-in-Ok-Broken-clause-safe
returns-in-Ok-Broken-clause-safe c certs is = absurd (subst IsSound c.in-Ok-Broken.field-0-is (c.in-Ok-Broken.ensures.safe certs is))
