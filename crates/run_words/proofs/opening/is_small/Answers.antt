use Rattle.std.proofs.Common.{◌≤◌, ◌^◌, subst}
use Rattle.pools.specs.Heap.{Setup, cells}
use Rattle.run_words.proofs.Beginning.{is_small}
use Rattle.run_words.proofs.opening.is_small.Goals as goal

pub returns : goal.returns
returns c = is_small c.args.plan.now c.requires.threads c.requires.globals c.requires.words (subst (λ (s : Setup). cells s ≤ 2 ^ 20) c.plan.view_is c.cells-cells.ensures.limit)
