use Rattle.std.proofs.Common.{◌≡◌, length, take, ap, ◌∙◌}
use Rattle.std.specs.Prelude.{map}
use Rattle.machine.specs.Jumps.{phi_value, put_each, put_phis}
use Rattle.machine.specs.Machine.{enter}
use Rattle.machine.proofs.Phis.{all_put}
use Rattle.machine.proofs.frame.Frame.enter.Goals as goal

pub returns-clause-frame : goal.returns-clause-frame
returns-clause-frame c =
    let m = c.args.of_module.now in
    let f = c.args.function.now in
    let frame = c.args.self.now in
    let phis = c.phis_of-phis.result.now in
    let taken : take (length phis) c.take_values.new.values ≡ map (phi_value m f frame.registers frame.block) phis =
    c.take_values.ensures.values ∙ ap (λ r. map (phi_value m f r frame.block) phis) c.as_slice.ensures in
    let put : c.put_values.new.registers ≡ put_phis m f frame.registers frame.block phis frame.registers =
    c.put_values.ensures ∙ ap (λ v. put_each phis v frame.registers) c.as_slice-2.ensures
    ∙ all_put m f frame.registers frame.block phis c.take_values.new.values frame.registers taken in
    ap (λ n. record frame { block = n; place = 0; registers = c.put_values.new.registers }) c.number.ensures
    ∙ ap (λ r. record frame { block = c.args.block; place = 0; registers = r }) put
    ∙ ap (λ l. enter m f frame.block c.args.block l frame) c.phis_of-phis.ensures
