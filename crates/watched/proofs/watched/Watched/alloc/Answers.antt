use Rattle.std.proofs.Common.{◌≡◌, ◌∙◌, Bool, ℕ, List, sym, subst, ap, refl}
use Rattle.pools.specs.Heap.{Setup}
use Rattle.colours.specs.Steps.{Step}
use Rattle.heap_table.specs.Allocs.{Allocates}
use Rattle.heap_table.specs.Begins.{Begins}
use Rattle.heap_table.specs.Holders.{Holder}
use Rattle.watch.specs.Knows.{Knows}
use Rattle.watched.proofs.Steps.{none_known, won_known, begun_known, left_known}
use Rattle.watched.proofs.watched.Watched.alloc.Goals as goal

pub invariant_of-self : goal.invariant_of-self
invariant_of-self c =
    let s = c.self.inside.me.setup in
    let x = c.self.inside.known in
    let log = c.self.inside.me.log in (
      subst (λ (h : Holder). Knows h.setup c.alloc-cell.new.me.log c.won.new.self) (sym c.alloc-cell.ensures.token.0)
          (won_known s x c.won.new.self c.args.layout c.alloc-cell.result log c.alloc-cell.new.me.log c.alloc-cell.ensures.log c.if-cell-ne0.true
          (λ l cell k. c.others_law.ensures.lost s l x cell k) (λ l some cell k. c.won.ensures s l some cell k) c.self.invariant.0),
      c.self.invariant.1 ∙ sym (ap (λ (h : Holder). h.setup) c.alloc-cell.ensures.token.0),
    )

pub invariant_of-self-else-cell-ne0 : goal.invariant_of-self-else-cell-ne0
invariant_of-self-else-cell-ne0 c =
    let s = c.self.inside.me.setup in
    let x = c.self.inside.known in
    let log = c.self.inside.me.log in (
      subst (λ (h : Holder). Knows h.setup c.alloc-cell.new.me.log x) (sym c.alloc-cell.ensures.token.0)
          (none_known s x c.args.layout c.alloc-cell.result log c.alloc-cell.new.me.log c.alloc-cell.ensures.log c.if-cell-ne0.false
          (λ l cell k. c.others_law.ensures.lost s l x cell k) c.self.invariant.0),
      c.self.invariant.1 ∙ sym (ap (λ (h : Holder). h.setup) c.alloc-cell.ensures.token.0),
    )
