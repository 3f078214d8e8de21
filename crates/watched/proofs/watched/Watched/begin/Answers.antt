use Rattle.std.proofs.Common.{◌≡◌, ◌∙◌, Bool, ℕ, List, sym, subst, ap, refl}
use Rattle.pools.specs.Heap.{Setup}
use Rattle.colours.specs.Steps.{Step}
use Rattle.heap_table.specs.Allocs.{Allocates}
use Rattle.heap_table.specs.Begins.{Begins}
use Rattle.heap_table.specs.Holders.{Holder}
use Rattle.watch.specs.Knows.{Knows}
use Rattle.watched.proofs.Steps.{none_known, won_known, begun_known, left_known}
use Rattle.watched.proofs.watched.Watched.begin.Goals as goal

pub invariant_of-self : goal.invariant_of-self
invariant_of-self c =
    let s = c.self.inside.me.setup in
    let x = c.self.inside.known in
    let log = c.self.inside.me.log in (
      subst (λ (h : Holder). Knows h.setup c.begin-begun.new.me.log c.answered.new.self) (sym c.begin-begun.ensures.token)
          (left_known s x c.answered.new.self log c.begin-begun.new.me.log (subst (λ (b : Bool). Begins log b c.begin-begun.new.me.log) c.if-not-begun.true c.begin-begun.ensures.log)
          (λ l stage k. c.others_law.ensures.first s l x stage k) (λ l stage k. c.others_law.ensures.enter s l x stage k) (λ l stage k. c.others_law.ensures.again s l x stage k)
          (λ l k. c.answered.ensures s l _ (λ root is. absurd is) k) c.self.invariant.0),
      c.self.invariant.1 ∙ sym (ap (λ (h : Holder). h.setup) c.begin-begun.ensures.token),
    )
