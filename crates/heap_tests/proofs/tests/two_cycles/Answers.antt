use Rattle.std.proofs.Common.{[]}
use Rattle.heap_tests.proofs.HeapTokens.{first_global}
use Rattle.heap_tests.proofs.tests.two_cycles.Goals as goal

pub take_all-requires-clause-word : goal.take_all-requires-clause-word
take_all-requires-clause-word c = first_global c.args.heap.now.setup [] c.requires.globals

pub second_cycle-requires-clause-word : goal.second_cycle-requires-clause-word
second_cycle-requires-clause-word c = first_global c.args.heap.now.setup [] c.requires.globals
