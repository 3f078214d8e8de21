use Rattle.std.proofs.Common.{◌≡◌, ◌∙◌, ℕ, List, Ok, Err, ap, subst, sym}
use Rattle.ir_ast.specs.declared.module.Module.{Module}
use Rattle.cert_maker.specs.Made.{IsMade}
use Rattle.cert_maker.specs.Trusting.{trusting, with_trusted, IsMadeTrusting}
use Rattle.cert_maker.specs.declared.made.NotMade.{NotMade}
use Rattle.cert_maker.proofs.GivenBack.{made_ok, made_err, made_none}
use Rattle.cert_maker.proofs.trusting.make_seen.Goals as goal

pub returns-in-Err : goal.returns-in-Err
returns-in-Err g c = made_none (trusting c.args.of_module) c.args.of_module

pub returns-in-Ok-make_seen : goal.returns-in-Ok-make_seen
returns-in-Ok-make_seen g c =
    let m = c.args.of_module in
    let accepted = c.in-Ok-make_seen.accepted in
    let same : c.with_trusted-anew.result.0 ≡ trusting m = c.with_trusted-anew.ensures.of_module ∙ ap (with_trusted m) c.in-Ok.ensures in
    made_ok (trusting m) (trusting m) m accepted (subst (λ (x : Module). IsMade x (Ok accepted)) same c.in-Ok-make_seen.ensures)

pub returns-in-Err-make_seen : goal.returns-in-Err-make_seen
returns-in-Err-make_seen g c =
    let m = c.args.of_module in
    let unmade = c.in-Err-make_seen.unmade in
    let own = c.with_trusted-anew.result.1 in
    let same : c.with_trusted-anew.result.0 ≡ trusting m = c.with_trusted-anew.ensures.of_module ∙ ap (with_trusted m) c.in-Ok.ensures in
    let h = subst (λ (x : Module). IsMade x (Err unmade)) same c.in-Err-make_seen.ensures in
    let back : with_trusted unmade.of_module own ≡ m = ap (λ (x : Module). with_trusted x own) h.given_back ∙ ap (λ (t : List ℕ). with_trusted m t) c.with_trusted-anew.ensures.own in
    let given : record unmade { of_module = m } ≡ c.given_back.result = sym (c.given_back.ensures ∙ ap (λ (x : Module). record unmade { of_module = x }) back) in
    subst (λ (x : NotMade). IsMadeTrusting m (Err x)) given (made_err (trusting m) (trusting m) m unmade h)
