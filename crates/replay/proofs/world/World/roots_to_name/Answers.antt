-- The roots of a thread are those with which its step tells what it does, and the collector has none.
use Rattle.std.proofs.Common.{subst}
use Rattle.std.specs.Prelude.{slice_get}
use Rattle.std.proofs.lemmas.Result.{IfOk-weaker}
use Rattle.replay.specs.Worlds.{World}
use Rattle.replay.specs.Named.{AreNamedBy}
use Rattle.replay.proofs.NamedLemmas.{told_by_thread, told_by_collector}
use Rattle.replay.proofs.world.World.roots_to_name.Goals as goal

pub returns-in-Thread : goal.returns-in-Thread
returns-in-Thread c before made after step =
    let t = c.in-Thread.thread in
    IfOk-weaker c.roots_named.result _ _
    (λ roots named. told_by_thread c.args.self.now before after roots.items c.args.actor made t c.in-Thread.is c.requires (subst (λ (v : World). AreNamedBy (slice_get v.threads t) roots.items) c.self.view_is named) step)
    c.roots_named.ensures

pub returns-in-Collector : goal.returns-in-Collector
returns-in-Collector c before made after step = told_by_collector c.args.self.now before after c.new.result.items c.args.actor made c.in-Collector.is c.requires c.new.ensures.items step
