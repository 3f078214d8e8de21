use Rattle.std.proofs.Common.{arith, ◌≤◌, ◌^◌, sym, ap, subst, ◌∙◌}
use Rattle.pools.specs.Heap.{Setup, cells}
use Rattle.heap_words.specs.Tokens.{Shared}
use Rattle.heap_table.proofs.Allocs.{pool_known, pool_fits}
use Rattle.heap_table.proofs.heap.Heap.tries.Goals as goal

pub overflow_add-result : goal.overflow_add-result
overflow_add-result c =
    let pool = pool_known _ _ _ _ _ _ _ c.first_cell-first.result c.requires.token c.requires.layout c.self.view_is c.self.invariant.pools c.first_cell-first.ensures c.count-count.ensures (omega arith) (omega arith) in
    let few = pool_fits _ _ _ _ _ pool (subst (λ (s : Setup). cells s ≤ 2 ^ 20) (ap (λ (x : Shared). x.setup) c.self.view_is ∙ sym c.requires.token.setup) c.self.invariant.few) in omega (arith, few, c.min.ensures)

pub overflow_add-result-2 : goal.overflow_add-result-2
overflow_add-result-2 c =
    let pool = pool_known _ _ _ _ _ _ _ c.first_cell-first.result c.requires.token c.requires.layout c.self.view_is c.self.invariant.pools c.first_cell-first.ensures c.count-count.ensures (omega arith) (omega arith) in
    let few = pool_fits _ _ _ _ _ pool (subst (λ (s : Setup). cells s ≤ 2 ^ 20) (ap (λ (x : Shared). x.setup) c.self.view_is ∙ sym c.requires.token.setup) c.self.invariant.few) in omega (arith, few)

pub returns-clause-pool : goal.returns-clause-pool
returns-clause-pool c = pool_known _ _ _ _ _ _ _ _ c.requires.token c.requires.layout c.self.view_is c.self.invariant.pools c.first_cell-first.ensures c.count-count.ensures (omega arith) (omega (arith, c.min.ensures))

pub returns-clause-few : goal.returns-clause-few
returns-clause-few c =
    let pool = pool_known _ _ _ _ _ _ _ c.first_cell-first.result c.requires.token c.requires.layout c.self.view_is c.self.invariant.pools c.first_cell-first.ensures c.count-count.ensures (omega arith) (omega arith) in
    pool_fits _ _ _ _ _ pool (subst (λ (s : Setup). cells s ≤ 2 ^ 20) (ap (λ (x : Shared). x.setup) c.self.view_is ∙ sym c.requires.token.setup) c.self.invariant.few)
