use Rattle.std.proofs.Common.{Bool, false, if◌then◌else◌, length, ap, refl, ◌∙◌}
use Rattle.lemmas.specs.Lists.{length_replicate}
use Rattle.pools.specs.Heap.{Setup, cells}
use Rattle.thread_order.specs.declared.at.At.{At}
use Rattle.thread_order.specs.declared.at.At.TheVariants.{Absent, Ready}
use Rattle.thread_order.proofs.Steps.{starts}
use Rattle.thread_order.proofs.order.ThreadOrder.new.Goals as goal

pub returns : goal.returns
returns c = starts c.args.plan.now c.args.thread _ refl refl (c.first_place-at.ensures ∙ ap (λ (b : Bool). if b then Absent else Ready) c.is_late.ensures)
    (ap length c.in_ok-is_tried.ensures ∙ (length_replicate c.cells.result false ∙ (c.cells.ensures.cells ∙ ap (λ (s : Setup). cells s) c.plan.view_is)))
