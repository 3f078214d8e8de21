use Rattle.std.proofs.Common.{◌≡◌, ◌+◌, Some, length, subst, sym, ap, ◌∙◌}
use Rattle.std.specs.Option.{option_copied}
use Rattle.block_rules.specs.InstrContext.{end_of}
use Rattle.block_rules.specs.Certified.{stands, end_breach, end_place, phi_count, BreaksAt}
use Rattle.block_check.specs.FunctionUnderCheck.{seen}
use Rattle.block_check.specs.Follows.{breaks_at_end}
use Rattle.block_check.proofs.block_walk.BlockWalk.at_end.Goals as goal

pub returns-in-Some-2 : goal.returns-in-Some-2
returns-in-Some-2 c =
    let s = seen c.args.self.now.under_check.now in
    let b = c.args.self.now.block in
    let facts = c.args.facts.now in
    let end = c.in-Some.end.now in
    let broken = c.in-Some-2.broken in
    let at : length c.phis_of.result.now + length c.body_of.result.now ≡ end_place s b = ap (λ phis. length phis + length c.body_of.result.now) c.phis_of.ensures ∙ ap (λ body. phi_count s b + length body) c.body_of.ensures in
    let there : end_of s.function b ≡ Some end = sym c.end_of.ensures ∙ ap (λ found. option_copied found) c.in-Some.is in
    let found : Some broken ≡ end_breach s b (stands s b (end_place s b)) facts end =
    sym c.in-Some-2.is ∙ c.in_ok-broken.ensures ∙ ap (λ here. end_breach s b here facts end) (c.instr_context-here.ensures ∙ ap (λ n. stands s b n) at) in
    subst (λ n. BreaksAt s b n broken) (sym at) (breaks_at_end s b end facts broken c.requires.phis c.requires.body there found)
