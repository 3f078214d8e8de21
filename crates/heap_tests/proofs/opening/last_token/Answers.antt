use Rattle.std.proofs.Common.{subst}
use Rattle.heap_table.specs.Opening.{AreNew}
use Rattle.heap_tests.proofs.HeapTokens.{last_new, may_call}
use Rattle.heap_tests.proofs.opening.last_token.Goals as goal

pub returns-clause-tokens : goal.returns-clause-tokens
returns-clause-tokens c = (last_new c.args.heap.now 0 c.pop.new.self.items c.in_ok-token.token (subst (AreNew c.args.heap.now 0) c.in_ok-token.ensures.items c.requires.tokens)).0

pub returns-clause-token : goal.returns-clause-token
returns-clause-token c = may_call c.args.heap.now _ c.in_ok-token.token c.requires.present (last_new c.args.heap.now 0 c.pop.new.self.items c.in_ok-token.token (subst (AreNew c.args.heap.now 0) c.in_ok-token.ensures.items c.requires.tokens)).1

pub returns-clause-log : goal.returns-clause-log
returns-clause-log c = (last_new c.args.heap.now 0 c.pop.new.self.items c.in_ok-token.token (subst (AreNew c.args.heap.now 0) c.in_ok-token.ensures.items c.requires.tokens)).1.log
