use Rattle.std.proofs.Common.{◌≡◌, ◌<◌, Some, length, slice_get, slice_set, sym, ap, ◌∙◌, subst, arith}
use Rattle.std.proofs.lemmas.List.{length-set}
use Rattle.shadow_stack.specs.Slots.{slots_of}
use Rattle.machine.specs.Entered.{WasEntered, AreKept}
use Rattle.machine.specs.Jumps.{HasRoom}
use Rattle.machine.proofs.Kept.{kept_with, kept_with_room, was_set, was_before}
use Rattle.machine.proofs.entered.Entered.enter.Goals as goal

pub invariant_of-self : goal.invariant_of-self
invariant_of-self c =
    (c.self.invariant.0, kept_with_room c.self.inside.program.now.of_module c.self.inside.phi_values c.make_room.new.values c.self.inside.tables c.make_room.ensures.grows c.self.invariant.1)

pub invariant_of-self-in_err-slots : goal.invariant_of-self-in_err-slots
invariant_of-self-in_err-slots c =
    (c.self.invariant.0, kept_with_room c.self.inside.program.now.of_module c.self.inside.phi_values c.make_room.new.values c.self.inside.tables c.make_room.ensures.grows c.self.invariant.1)

set_so : (c : goal.After-set) → c.set.new.self ≡ slice_set c.self.inside.tables c.args.number (Some c.in_ok-slots.slots)
set_so c = c.set.ensures ∙ ap (λ n. slice_set c.self.inside.tables n (Some c.in_ok-slots.slots)) c.number.ensures

pub invariant_of-self-2 : goal.invariant_of-self-2
invariant_of-self-2 c =
    let m = c.self.inside.program.now.of_module in
    let f = c.function_of-function.result.now in
    let values = c.make_room.new.values in
    let is : slice_get m.functions c.args.number ≡ Some f = ap (λ k. slice_get k.functions c.args.number) (sym c.module-of_module.ensures.of_module) ∙ c.function_of-function.ensures in
    let slots : c.in_ok-slots.slots ≡ slots_of m f = c.in_ok-slots.ensures.slots ∙ ap (λ k. slots_of k f) c.module-of_module.ensures.of_module in
    let room : HasRoom f values = λ block. let most = c.most_phis.ensures block in let all = c.in_ok-make_room.ensures.room in omega (arith, most, all) in
    let kept = kept_with m values c.self.inside.tables c.args.number f (kept_with_room m c.self.inside.phi_values values c.self.inside.tables c.make_room.ensures.grows c.self.invariant.1) is room in (
      ap length c.set.ensures ∙ length-set c.self.inside.tables c.number.result (Some c.in_ok-slots.slots) ∙ c.self.invariant.0,
      subst (AreKept m values) (sym (set_so c ∙ ap (λ table. slice_set c.self.inside.tables c.args.number (Some table)) slots)) kept,
    )

pub returns-clause-entered : goal.returns-clause-entered
returns-clause-entered c =
    let within : c.args.number < length c.self.inside.tables =
    subst (λ n. c.args.number < n) (sym (c.self.invariant.0 ∙ ap (λ k. length k.program.of_module.functions) c.self.view_is)) c.requires in
    subst (λ tables. WasEntered tables c.args.number) (sym (set_so c)) (was_set c.self.inside.tables c.args.number c.in_ok-slots.slots within)

pub returns-clause-stay : goal.returns-clause-stay
returns-clause-stay c function was =
    subst (λ tables. WasEntered tables function) (sym (set_so c))
    (was_before c.self.inside.tables c.args.number c.in_ok-slots.slots function (subst (λ k. WasEntered k.tables function) (sym c.self.view_is) was))
