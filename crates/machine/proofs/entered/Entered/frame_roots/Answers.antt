use Rattle.std.proofs.Common.{◌≡◌, Some, slice_get, sym, ap, ◌∙◌}
use Rattle.std.specs.Prelude.{map}
use Rattle.machine.specs.Machine.{slot_value, frame_roots}
use Rattle.machine.proofs.entered.Entered.frame_roots.Goals as goal

pub returns : goal.returns
returns c =
    let m = c.args.self.now.program.of_module in
    let frame = c.args.frame.now in
    let kept = c.self.invariant.1 frame.function c.requires.0 (ap (λ k. slice_get k.tables frame.function) c.self.view_is ∙ c.requires.1) in
    let is : slice_get m.functions frame.function ≡ Some kept.f = ap (λ k. slice_get k.program.of_module.functions frame.function) (sym c.self.view_is) ∙ kept.is in
    c.new.ensures
    ∙ ap (λ values. map (slot_value values) c.root_slots-roots.result.now) c.as_slice.ensures
    ∙ ap (λ l. map (slot_value frame.slots) l) (c.root_slots-roots.ensures ∙ ap (λ t. t.roots) (c.slots.ensures kept.f is))
    ∙ ap (λ q. frame_roots m frame q) (sym is)
