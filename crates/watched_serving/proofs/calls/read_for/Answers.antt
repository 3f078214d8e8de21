use Rattle.std.proofs.Common.{subst, sym}
use Rattle.colours.specs.Mutator.{IsPossibleLog}
use Rattle.heap_table.specs.Holders.{Holder}
use Rattle.runs.specs.Machine.{machine_of, Answer}
use Rattle.watched_serving.specs.Serving.{IsServed}
use Rattle.watched_serving.proofs.ReadServed.{read_served}
use Rattle.watched_serving.proofs.calls.read_for.Goals as goal

pub returns-clause-ok : goal.returns-clause-ok
returns-clause-ok g c = subst (λ (a : Answer). IsServed (machine_of g.R.Machine.action g.R.Machine.after_answer g.R.Machine.roots) c.args.heap.now c.args.me.now c.args.machine.now c.read.new.self a) (sym c.got.ensures.got) (read_served (machine_of g.R.Machine.action g.R.Machine.after_answer g.R.Machine.roots) _ _ _ c.requires.may.ready _ _ _ c.cell_of-cell.ensures _ c.in_ok-value.value c.requires.asked c.in_ok-value.ensures.keeps.1
    (subst (λ (x : Holder). IsPossibleLog x.setup x.log) c.in_ok-value.ensures.read c.is_of_run_law.ensures.possible).1 c.got.ensures.small c.in_ok-value.ensures.read)
