-- What the world tells, with the counts.
use Rattle.replay.proofs.Watching.{reports}
use Rattle.replay.proofs.watch.Watch.report.Goals as goal

pub returns : goal.returns
returns c p setup before is = reports p setup before c.args.self.now c.in_ok-ends.field-0 c.posted.result is (c.in_ok-ends.ensures before is.afterwards) c.posted.ensures
