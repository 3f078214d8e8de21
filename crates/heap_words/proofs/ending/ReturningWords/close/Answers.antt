use Rattle.std.proofs.Common.{◌≡◌, sym, ap, subst, ◌∙◌}
use Rattle.std.specs.Slots.{slots_items}
use Rattle.pools.specs.Heap.{Setup}
use Rattle.heap_words.specs.Tokens.{Shared}
use Rattle.heap_words.specs.Endings.{Gathered, Closing, Ends}
use Rattle.heap_words.proofs.Closing.{ending}
use Rattle.heap_words.proofs.ending.ReturningWords.close.Goals as goal

pub returns-clause-run : goal.returns-clause-run
returns-clause-run c = let f = c.close_with-closed.ensures.values.2 in let key = c.words.inside.table.shared.key in
    let closing : Closing = record { setup = c.words.inside.plan; words = slots_items c.close_with-closed.result.words } in
    let same : key ≡ c.args.self.setup = ap (λ (x : Shared). x.setup) c.words.view_is ∙ ap (λ (x : Gathered). x.setup) c.self.view_is in
    subst (λ (s : Setup). Ends s c.args.self.shares closing) same
    (ending key f.0 c.self.inside.seat.id c.self.inside.seat.me.0 c.args.self.shares closing f.1.0 f.1.1 (ap (λ (x : Gathered). x.shares) c.self.view_is) (sym c.words.invariant.planned) f.2)
