use Rattle.std.proofs.Common.{ℕ, sym, subst}
use Rattle.pools.specs.Heap.{kind_of}
use Rattle.colours.specs.Mutator.{MayStore}
use Rattle.runs.specs.Machine.{machine_of}
use Rattle.runs.specs.Shares.{same_cell}
use Rattle.serving.proofs.Conditions.{may_store_plain}
use Rattle.serving.proofs.ReadServed.{plain_served}
use Rattle.serving.proofs.calls.store_plain_for.Goals as goal

pub store_plain-requires-clause-cell : goal.store_plain-requires-clause-cell
store_plain-requires-clause-cell g c = (may_store_plain _ _ _ _ _ c.requires.may.served.2 c.requires.may.ready.ready c.is_of_run_law.ensures.possible _ _ _ _ c.cell_of-cell.ensures c.requires.asked).0

pub store_plain-requires-clause-fresh : goal.store_plain-requires-clause-fresh
store_plain-requires-clause-fresh g c = (may_store_plain _ _ _ _ _ c.requires.may.served.2 c.requires.may.ready.ready c.is_of_run_law.ensures.possible _ _ _ _ c.cell_of-cell.ensures c.requires.asked).1

pub store_plain-requires-clause-value : goal.store_plain-requires-clause-value
store_plain-requires-clause-value g c = subst (λ (n : ℕ). MayStore c.args.me.now.setup c.args.me.now.log (kind_of c.args.me.now.setup c.cell_of-cell.result c.args.word) n) (sym (same_cell c.value.view_is))
    (may_store_plain _ _ _ _ _ c.requires.may.served.2 c.requires.may.ready.ready c.is_of_run_law.ensures.possible _ _ _ _ c.cell_of-cell.ensures c.requires.asked).2

pub returns : goal.returns
returns g c = plain_served (machine_of g.R.Machine.action g.R.Machine.after_answer g.R.Machine.roots) _ _ _ c.requires.may.ready _ _ _ c.cell_of-cell.ensures _ _ _ c.requires.asked (same_cell c.value.view_is) c.store_plain.ensures.log
