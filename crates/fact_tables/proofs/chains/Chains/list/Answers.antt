use Rattle.std.proofs.Common.{◌≡◌, ◌<◌, ◌-◌, ◌∙◌, ◌++◌, ap, arith, sym, length, List, ℕ, Some, None}
use Rattle.std.proofs.lemmas.List.{append-nil}
use Rattle.fact_tables.specs.declared.uses.Use.{Use}
use Rattle.fact_tables.specs.Uses.{use_at, chain}
use Rattle.fact_tables.proofs.Links.{list_step}
use Rattle.fact_tables.proofs.Users.{chain_none}
use Rattle.fact_tables.proofs.chains.Chains.list.Goals as goal

pub returns-in_default : goal.returns-in_default
returns-in_default c =
    let links : List Use = c.args.self.now.links.items in
    let none : use_at links c.loop-step.at ≡ None = ap (λ (uses : List Use). use_at uses c.loop-step.at) (sym c.deref.ensures.value) ∙ sym c.in_default.ensures in
    sym (ap (chain (length links) links) (sym c.newest-at.ensures) ∙ c.loop-step.invariant ∙ ap (λ (us : List ℕ). c.loop-step.numbers.items ++ us) (chain_none (length links - c.loop-step.step) links c.loop-step.at none) ∙ append-nil c.loop-step.numbers.items)

pub loop-step-preserved : goal.loop-step-preserved
loop-step-preserved c =
    let links : List Use = c.args.self.now.links.items in
    let lt : c.loop-step.step < length links = omega (arith, c.loop-step-test.true, c.len-step-end.ensures, c.args.self.now.links.ok.0) in
    let is : use_at links c.loop-step.at ≡ Some c.in-Some.found = ap (λ (uses : List Use). use_at uses c.loop-step.at) (sym c.deref.ensures.value) ∙ sym c.in-Some.ensures in
    list_step (length links) c.loop-step.step links c.loop-step.at c.in-Some.found _ c.loop-step.numbers.items c.push.new.self.items lt c.loop-step.invariant is c.in_ok-push.ensures.items
