use Rattle.std.proofs.Common.{◌≡◌, ◌<◌, ◌∙◌, Some, sym, subst, ap, rules, true, arith}
use Rattle.pools.specs.Heap.{Setup, cells, kind_of}
use Rattle.pools.specs.Layouts.{is_reference_kind}
use Rattle.heap_table.specs.Holders.{Holder}
use Rattle.watch.specs.Knows.{Knows}
use Rattle.watched.proofs.Steps.{of_references, stored_low}
use Rattle.watched.proofs.watched.Watched.store_plain.Goals as goal

pub overflow_cast-value : goal.overflow_cast-value
overflow_cast-value c =
    let low : c.args.value < cells c.args.self.now.setup = stored_low _ _ c.in_ok-kind.kind c.in-Reference.field-0 c.args.value c.in-Reference.is c.in_default.ensures.none in
    omega (arith, low, c.few_cells_law.ensures, ap cells c.requires.token.of.setup)

pub invariant_of-self : goal.invariant_of-self
invariant_of-self c =
    let s = c.self.inside.me.setup in
    let kind = subst (λ (h : Holder). kind_of h.setup c.args.cell c.args.word ≡ Some c.in_ok-kind.kind) (sym c.self.view_is) c.in_ok-kind.ensures.ok.1 in
    let reference : is_reference_kind (kind_of s c.args.cell c.args.word) ≡ true = of_references _ _ c.in-Reference.field-0 kind c.in-Reference.is in (
      subst (λ (h : Holder). Knows h.setup h.log c.stored.new.self) (sym c.store_plain.ensures.log) (c.stored.ensures.plain s c.self.inside.me.log c.args.cell c.args.word reference c.self.invariant.0),
      c.self.invariant.1 ∙ sym (ap (λ (h : Holder). h.setup) c.store_plain.ensures.log),
    )
