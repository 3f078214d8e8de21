use Rattle.std.proofs.Common.{◌≡◌, Some, slice_get, sym, ap, ◌∙◌}
use Rattle.std.specs.Option.{option_copied}
use Rattle.shadow_stack.specs.Slots.{slots_of}
use Rattle.machine.proofs.entered.Entered.slots.Goals as goal

pub returns : goal.returns
returns c f there =
    let number = c.args.number in
    let slots = c.in-Some-Some.slots in
    let e : slice_get c.self.inside.tables number ≡ Some (Some slots) =
    sym (ap (slice_get c.self.inside.tables) c.number.ensures) ∙ sym c.get.ensures.value ∙ ap option_copied c.in-Some-Some.is ∙ ap (λ q. Some q) c.in-Some-Some.field-0-is in
    let kept = c.self.invariant.1 number slots e in
    let program : c.self.inside.program.now ≡ c.args.self.now.program = ap (λ k. k.program) c.self.view_is in
    let both : Some kept.f ≡ Some f = sym kept.is ∙ ap (λ p. slice_get p.of_module.functions number) program ∙ there in
    let same : kept.f ≡ f = cc in
    kept.slots ∙ ap (λ p. slots_of p.of_module kept.f) program ∙ ap (slots_of c.args.self.now.program.of_module) same
