use Rattle.std.proofs.lemmas.Result.{IfOk-weaker}
use Rattle.fact_tables.proofs.slot_sweeps.shorter.Goals as goal

pub returns-else-listed-count : goal.returns-else-listed-count
returns-else-listed-count c = IfOk-weaker c.all_below.result _ _ (λ names all s lt one. all s lt) c.all_below.ensures
