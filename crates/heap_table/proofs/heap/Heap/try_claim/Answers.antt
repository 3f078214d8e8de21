use Rattle.heap_table.proofs.Allocs.{token_tries}
use Rattle.heap_table.proofs.heap.Heap.try_claim.Goals as goal

pub step-requires-clause-next : goal.step-requires-clause-next
step-requires-clause-next c = token_tries _ _ _ _ c.me.invariant c.me.view_is c.requires.running c.claim_at.ensures c.requires.may
