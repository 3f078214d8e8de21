use Rattle.std.proofs.Common.{[], ◌∷◌}
use Rattle.pools.specs.declared.word_kind.WordKind.TheVariants.{Reference}
use Rattle.heap_tests.proofs.HeapTokens.{first_global, second_global}
use Rattle.heap_tests.proofs.tests.shared_by_two.Goals as goal

pub global-before-requires-clause-word : goal.global-before-requires-clause-word
global-before-requires-clause-word g c = second_global c.args.heap.now.setup (Reference 0) [] c.requires.globals

pub take_shares-shares-requires-clause-word : goal.take_shares-shares-requires-clause-word
take_shares-shares-requires-clause-word g c = first_global c.args.heap.now.setup (Reference 0 ∷ []) c.requires.globals

pub take_shares-shares-requires-clause-other_word : goal.take_shares-shares-requires-clause-other_word
take_shares-shares-requires-clause-other_word g c = second_global c.args.heap.now.setup (Reference 0) [] c.requires.globals

pub global-after-requires-clause-word : goal.global-after-requires-clause-word
global-after-requires-clause-word g c = second_global c.args.heap.now.setup (Reference 0) [] c.requires.globals
