use Rattle.std.proofs.Common.{◌≡◌, ◌+◌, Some, None, length, subst, sym, ap, ◌∙◌, arith}
use Rattle.block_rules.specs.Certified.{stands, breach, phi_count, BreaksAt}
use Rattle.block_rules.specs.Edges.{entry_facts_at}
use Rattle.block_check.specs.FunctionUnderCheck.{seen}
use Rattle.block_check.specs.Follows.{step_here, breaks_in_body}
use Rattle.block_check.proofs.block_walk.BlockWalk.in_body.Goals as goal

pub loop-index-preserved : goal.loop-index-preserved
loop-index-preserved c =
    let s = seen c.args.self.now.under_check.now in
    let b = c.args.self.now.block in
    let i = c.loop-index.index in
    let facts = c.loop-index.facts in
    let instr = c.index-body-index.result in
    let at : length c.phis_of-first.result.now + i ≡ phi_count s b + i = ap (λ phis. length phis + i) c.phis_of-first.ensures in
    let none : None ≡ breach s (stands s b (phi_count s b + i)) facts instr = sym c.in-None.is ∙ c.breach.ensures ∙ ap (λ here. breach s here facts instr) (c.instr_context-here.ensures ∙ ap (λ n. stands s b n) at) in
    step_here s b (phi_count s b) (entry_facts_at s b) facts c.advance.new.facts c.body_of-body.result.now i instr (omega arith) c.index-body-index.is c.loop-index.invariant none c.in_ok-advance-in-None.ensures

pub returns-in-Some : goal.returns-in-Some
returns-in-Some c =
    let s = seen c.args.self.now.under_check.now in
    let b = c.args.self.now.block in
    let i = c.loop-index.index in
    let facts = c.loop-index.facts in
    let instr = c.index-body-index.result in
    let broken = c.in-Some.broken in
    let at : length c.phis_of-first.result.now + i ≡ phi_count s b + i = ap (λ phis. length phis + i) c.phis_of-first.ensures in
    let found : Some broken ≡ breach s (stands s b (phi_count s b + i)) facts instr = sym c.in-Some.is ∙ c.breach.ensures ∙ ap (λ here. breach s here facts instr) (c.instr_context-here.ensures ∙ ap (λ n. stands s b n) at) in
    subst (λ n. BreaksAt s b n broken) (sym at) (breaks_in_body s b c.body_of-body.result.now i instr facts broken (omega arith) c.index-body-index.is c.body_of-body.ensures c.requires.phis c.loop-index.invariant found)
