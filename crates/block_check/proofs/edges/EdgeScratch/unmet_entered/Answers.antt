use Rattle.std.proofs.Common.{◌≡◌, ◌∙◌, true, false, length, sym, ap, not, is_some}
use Rattle.std.specs.Prelude.{◌==◌}
use Rattle.block_rules.specs.InstrContext.{phis_of}
use Rattle.block_rules.specs.Edges.{unmet_claim}
use Rattle.block_check.specs.FunctionUnderCheck.{seen}
use Rattle.block_check.proofs.Undecided.{entered_plain}
use Rattle.block_check.proofs.edges.EdgeScratch.unmet_entered.Goals as goal

pub returns-then-is_empty-clause-found : goal.returns-then-is_empty-clause-found
returns-then-is_empty-clause-found c =
    let s = seen c.args.under_check.now in
    let undecided : is_some c.args.decided ≡ false = c.is_none.ensures ∙ ap not c.if-is_none.true in
    let none : (length (phis_of s.function c.args.to) == 0) ≡ true = ap (λ phis. length phis == 0) (sym c.phis_of.ensures) ∙ sym c.is_empty.ensures ∙ c.if-is_empty.true in
    c.unmet_claim.ensures ∙ ap (unmet_claim s c.args.to) (sym (entered_plain s c.args.exit.now.block c.args.to c.args.decided c.args.exit.now.facts.now undecided none))
