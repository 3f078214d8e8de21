use Rattle.std.proofs.Common.{◌≡◌, ◌++◌, Some, slice_get, sym, ap, ◌∙◌}
use Rattle.std.proofs.lemmas.List.{take_all}
use Rattle.std.specs.Prelude.{map}
use Rattle.machine.specs.Machine.{slot_value, frame_roots}
use Rattle.machine.proofs.entered.Entered.add_roots.Goals as goal

pub returns : goal.returns
returns c =
    let m = c.args.self.now.program.of_module in
    let frame = c.args.frame.now in
    let values = slot_value frame.slots in
    let items = c.root_slots-slot-items.result.now in
    let kept = c.self.invariant.1 frame.function c.requires.0 (ap (λ k. slice_get k.tables frame.function) c.self.view_is ∙ c.requires.1) in
    let is : slice_get m.functions frame.function ≡ Some kept.f = ap (λ k. slice_get k.program.of_module.functions frame.function) (sym c.self.view_is) ∙ kept.is in
    c.loop-slot.invariant
    ∙ ap (λ l. c.args.roots.now.items ++ map values l) (take_all c.loop-slot.slot-index items c.loop-slot-test.false ∙ c.root_slots-slot-items.ensures ∙ ap (λ t. t.roots) (c.slots.ensures kept.f is))
    ∙ ap (λ q. c.args.roots.now.items ++ frame_roots m frame q) (sym is)
