use Rattle.std.proofs.Common.{arith, ◌≡◌, ◌+◌, ℕ, [], ◌∷◌, length, length-append, sym, ap, subst, ◌∙◌}
use Rattle.pools.specs.Heap.{Setup}
use Rattle.heap_rule.specs.Rule.{dealing}
use Rattle.heap_words.specs.Tokens.{Shared, IsFresh, AreFresh}
use Rattle.heap_words.specs.WordsView.{shared_in}
use Rattle.heap_words.proofs.Dealing.{fresh_more}
use Rattle.heap_words.proofs.words.SharedWords.new.Goals as goal

pub loop-thread-preserved : goal.loop-thread-preserved
loop-thread-preserved c = let inv = c.loop-thread.invariant in let d = c.deal-token.ensures in let w = shared_in c.words.inside in
    let items = c.in_ok-push.ensures.items in let n : 0 + length c.loop-thread.tokens.items ≡ c.loop-thread.thread = omega (arith, inv.count) in
    record {
      same = d.seat.0 ∙ inv.same;
      seat = subst (λ (x : Setup). c.deal-token.new.seat.me ≡ (dealing x (c.loop-thread.thread + 1), [])) (sym (ap (λ (x : Shared). x.setup) c.words.view_is)) d.seat.1;
      fresh = subst (AreFresh w 0) (sym items) (fresh_more w 0 c.loop-thread.tokens.items c.deal-token.result inv.fresh
          (subst (λ (n : ℕ). IsFresh w n c.deal-token.result) (sym n) (subst (λ (x : Shared). IsFresh x c.loop-thread.thread c.deal-token.result) (sym c.words.view_is) d.token)));
      count = ap length items ∙ (length-append c.loop-thread.tokens.items (c.deal-token.result ∷ []) ∙ omega (arith, inv.count));
    }
