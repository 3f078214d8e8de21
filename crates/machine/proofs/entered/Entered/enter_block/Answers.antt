use Rattle.std.proofs.Common.{◌≡◌, ◌≤◌, Some, length, slice_get, sym, ap, ◌∙◌, subst, arith}
use Rattle.machine.specs.Jumps.{phis_of}
use Rattle.machine.proofs.Kept.{kept_with_room}
use Rattle.machine.proofs.entered.Entered.enter_block.Goals as goal

pub enter-requires : goal.enter-requires
enter-requires c =
    let number = c.args.frame.now.function in
    let f = c.args.function.now in
    let kept = c.self.invariant.1 number c.requires.entered.0 (ap (λ k. slice_get k.tables number) c.self.view_is ∙ c.requires.entered.1) in
    let both : Some kept.f ≡ Some f = sym kept.is ∙ ap (λ k. slice_get k.program.of_module.functions number) c.self.view_is ∙ c.requires.function in
    let same : kept.f ≡ f = cc in
    subst (λ g. length (phis_of (slice_get g.blocks c.args.block)) ≤ length c.self.inside.phi_values) same (kept.room c.args.block)

pub invariant_of-self : goal.invariant_of-self
invariant_of-self c =
    let room = c.enter.ensures.room in (
      c.self.invariant.0,
      kept_with_room c.self.inside.program.now.of_module c.self.inside.phi_values c.enter.new.phi_values c.self.inside.tables (omega (arith, room)) c.self.invariant.1,
    )
