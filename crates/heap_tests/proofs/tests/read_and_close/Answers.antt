use Rattle.std.proofs.Common.{[]}
use Rattle.heap_tests.proofs.HeapTokens.{first_global}
use Rattle.heap_tests.proofs.tests.read_and_close.Goals as goal

pub read_late-read-requires-clause-word : goal.read_late-read-requires-clause-word
read_late-read-requires-clause-word g c = first_global _ [] c.requires.globals
