use Rattle.std.proofs.Common.{◌≡◌, ◌∙◌, ap, sym, Some, None, arith}
use Rattle.block_rules.specs.Certified.{stands, phi_breach}
use Rattle.block_check.specs.FunctionUnderCheck.{seen}
use Rattle.block_check.specs.Follows.{phi_here, breaks_at_phi}
use Rattle.block_check.proofs.block_walk.BlockWalk.among_phis.Goals as goal

pub loop-place-preserved : goal.loop-place-preserved
loop-place-preserved c =
    let s = seen c.args.self.now.under_check.now in
    let b = c.args.self.now.block in
    let i = c.loop-place.place in
    let phi = c.index-phis-place.result in
    let none : None ≡ phi_breach s b (stands s b i) phi = sym c.in_default.is ∙ c.phi_breach.ensures ∙ ap (λ here. phi_breach s b here phi) c.instr_context-here.ensures in
    phi_here s b c.phis_of-phis.result.now i phi (omega arith) c.index-phis-place.is c.loop-place.invariant none

pub returns-in-Some : goal.returns-in-Some
returns-in-Some c =
    let s = seen c.args.self.now.under_check.now in
    let b = c.args.self.now.block in
    let i = c.loop-place.place in
    let phi = c.index-phis-place.result in
    let found : Some c.in-Some.broken ≡ phi_breach s b (stands s b i) phi = sym c.in-Some.is ∙ c.phi_breach.ensures ∙ ap (λ here. phi_breach s b here phi) c.instr_context-here.ensures in
    breaks_at_phi s b c.phis_of-phis.result.now i phi c.in-Some.broken (omega arith) c.index-phis-place.is c.phis_of-phis.ensures c.loop-place.invariant found
