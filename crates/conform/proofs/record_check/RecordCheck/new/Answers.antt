use Rattle.std.proofs.Common.{refl, sym, ap}
use Rattle.conform.proofs.Records.{read_none}
use Rattle.pools.specs.Heap.{Setup}
use Rattle.conform.proofs.record_check.RecordCheck.new.Goals as goal

pub returns : goal.returns
returns c = read_none c.args.plan.now _ c.in_ok-run.ensures (c.in_ok-roots.ensures c.args.plan.now (ap (λ (s : Setup). s.threads) (sym c.plan.view_is))) refl
