use Rattle.std.proofs.Common.{◌≡◌, ◌∙◌, Bool, ℕ, List, sym, subst, ap, refl}
use Rattle.pools.specs.Heap.{Setup}
use Rattle.colours.specs.Steps.{Step}
use Rattle.heap_table.specs.Allocs.{Allocates}
use Rattle.heap_table.specs.Begins.{Begins}
use Rattle.heap_table.specs.Holders.{Holder}
use Rattle.watch.specs.Knows.{Knows}
use Rattle.watched.proofs.Steps.{none_known, won_known, begun_known, left_known}
use Rattle.watched.proofs.watched.Watched.finish.Goals as goal

pub invariant_of-self : goal.invariant_of-self
invariant_of-self c =
    let s = c.self.inside.me.setup in
    let log = c.self.inside.me.log in (
      subst (λ (h : Holder). Knows h.setup h.log c.answered.new.self) (sym c.finish.ensures.log) (c.answered.ensures s log _ (λ root is. absurd is) c.self.invariant.0),
      c.self.invariant.1 ∙ sym (ap (λ (h : Holder). h.setup) c.finish.ensures.log),
    )
