use Rattle.std.proofs.Common.{◌≡◌, ◌∙◌, Some, sym, subst, ap, rules, true}
use Rattle.pools.specs.Heap.{kind_of}
use Rattle.pools.specs.Layouts.{is_reference_kind}
use Rattle.heap_table.specs.Holders.{Holder}
use Rattle.watch.specs.Knows.{Knows}
use Rattle.watched.proofs.Steps.{of_references, found_low}
use Rattle.watched.proofs.watched.Watched.read.Goals as goal

pub invariant_of-self : goal.invariant_of-self
invariant_of-self c =
    let s = c.self.inside.me.setup in
    let log = c.self.inside.me.log in
    let kind = subst (λ (h : Holder). kind_of h.setup c.args.cell c.args.word ≡ Some c.in_ok-kind.kind) (sym c.self.view_is) c.in_ok-kind.ensures.ok.1 in
    let reference : is_reference_kind (kind_of s c.args.cell c.args.word) ≡ true = of_references _ _ c.in-Reference.field-0 kind c.in-Reference.is in (
      subst (λ (h : Holder). Knows h.setup h.log c.found.new.self) (sym c.read-value.ensures.log)
          (c.found.ensures.read s log c.args.cell c.args.word reference (found_low s log c.args.cell c.args.word c.read-value.result reference c.read-value.ensures.possible) c.self.invariant.0),
      c.self.invariant.1 ∙ sym (ap (λ (h : Holder). h.setup) c.read-value.ensures.log),
    )
