use Rattle.std.proofs.Common.{arith, ◌≡◌, length, sym, ap, subst, ◌∙◌}
use Rattle.pools.specs.Heap.{Setup, IsSetup}
use Rattle.heap_table.proofs.Ends.{last_fresh, last_below, new_more}
use Rattle.heap_table.proofs.heap.Heap.new.Goals as goal

pub of_token-mutator-requires-clause-setup : goal.of_token-mutator-requires-clause-setup
of_token-mutator-requires-clause-setup c = let n : c.len.result ≡ length c.pop.new.self.items = omega (arith, c.len.ensures, c.pop.new.self.ok.0) in
    let f = last_fresh c.in_ok-words.words c.loop-token.tokens.items c.pop.new.self.items c.in-Some.token c.len.result c.in-Some.ensures.items n c.loop-token.invariant.fresh in
    subst IsSetup (sym (f.1.0.setup ∙ c.in_ok-words.ensures.words)) c.requires.setup

pub of_token-mutator-requires-clause-share : goal.of_token-mutator-requires-clause-share
of_token-mutator-requires-clause-share c = let n : c.len.result ≡ length c.pop.new.self.items = omega (arith, c.len.ensures, c.pop.new.self.ok.0) in
    (last_fresh c.in_ok-words.words c.loop-token.tokens.items c.pop.new.self.items c.in-Some.token c.len.result c.in-Some.ensures.items n c.loop-token.invariant.fresh).1.1

pub of_token-mutator-requires-clause-number : goal.of_token-mutator-requires-clause-number
of_token-mutator-requires-clause-number c = let n : c.len.result ≡ length c.pop.new.self.items = omega (arith, c.len.ensures, c.pop.new.self.ok.0) in
    last_below c.in_ok-words.words c.loop-token.tokens.items c.pop.new.self.items c.in-Some.token c.len.result c.in-Some.ensures.items n c.loop-token.invariant.fresh _ c.loop-token.mutators.items _ c.in_ok-words.ensures.words (sym (ap (λ (s : Setup). s.threads) c.plan.view_is)) c.loop-token.invariant.count

pub loop-token-preserved : goal.loop-token-preserved
loop-token-preserved c = let n : c.len.result ≡ length c.pop.new.self.items = omega (arith, c.len.ensures, c.pop.new.self.ok.0) in
    let f = last_fresh c.in_ok-words.words c.loop-token.tokens.items c.pop.new.self.items c.in-Some.token c.len.result c.in-Some.ensures.items n c.loop-token.invariant.fresh in
    let k = new_more c.in_ok-words.words c.loop-token.tokens.items c.pop.new.self.items c.in-Some.token c.len.result c.in-Some.ensures.items n c.loop-token.invariant.fresh c.loop-token.mutators.items c.insert.new.self.items c.of_token-mutator.result _ c.loop-token.invariant.count c.loop-token.invariant.new c.of_token-mutator.ensures c.in_ok-insert.ensures.items in
    record { fresh = f.0; new = k.0; count = k.1 }
