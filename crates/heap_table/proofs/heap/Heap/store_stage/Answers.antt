use Rattle.std.proofs.Common.{sym, ap, ◌∙◌}
use Rattle.heap_words.specs.Tokens.{Shared}
use Rattle.heap_table.proofs.Steps.{token_stores}
use Rattle.heap_table.proofs.heap.Heap.store_stage.Goals as goal

pub invariant_of-me : goal.invariant_of-me
invariant_of-me g c = token_stores _ _ _ _ _ _ c.me.invariant c.me.view_is (c.requires.token.setup ∙ sym (ap (λ (x : Shared). x.setup) c.self.view_is)) c.perform.ensures.token c.perform.ensures.happens _ c.requires.next.stores c.requires.low
