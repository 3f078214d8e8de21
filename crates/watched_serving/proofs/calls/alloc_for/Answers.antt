use Rattle.std.proofs.Common.{subst, sym}
use Rattle.runs.specs.Machine.{machine_of, Answer}
use Rattle.watched_serving.specs.Serving.{IsServed}
use Rattle.watched_serving.proofs.AllocServed.{alloc_answered}
use Rattle.watched_serving.proofs.calls.alloc_for.Goals as goal

pub returns : goal.returns
returns g c = subst (λ (a : Answer). IsServed (machine_of g.R.Machine.action g.R.Machine.after_answer g.R.Machine.roots) c.args.heap.now c.args.me.now c.args.machine.now c.alloc-cell.new.self a) (sym c.got.ensures.got) (alloc_answered (machine_of g.R.Machine.action g.R.Machine.after_answer g.R.Machine.roots) _ _ _ c.requires.may.ready _ _ _ _ c.requires.asked c.from.ensures c.alloc-cell.ensures.token c.alloc-cell.ensures.none c.alloc-cell.ensures.log)
