use Rattle.std.proofs.Common.{◌+◌, ◌∙◌, ◌++◌, ℕ, List, ap, subst, sym}
use Rattle.block_rules.specs.Functions.{blocks_in}
use Rattle.block_rules.specs.declared.block_fault.Refusal.{Refusal}
use Rattle.block_check.specs.RefusedBlocks.{AreOfBlocks}
use Rattle.module_check.specs.Refusals.{AreOfRange, NoFunction, Further}
use Rattle.module_check.proofs.finding.refusals_in.Goals as goal

pub loop-number-init : goal.loop-number-init
loop-number-init c = subst (λ (found : List Refusal). AreOfRange c.args.program.now c.args.certs.now.sections c.args.from c.args.from found) (sym c.new-found.ensures.items) NoFunction

pub loop-number-preserved : goal.loop-number-preserved
loop-number-preserved c =
    let func = c.loop-number.number in
    let before = c.loop-number.found.items in
    let further = subst (λ (f : ℕ). AreOfBlocks c.args.program.now c.args.certs.now.sections f (blocks_in c.args.program.now f) c.in_ok-further.further.items) c.new.ensures c.in_ok-further.ensures in
    let more = c.in_ok-extend_from_slice.ensures.items ∙ ap (λ (further : List Refusal). before ++ further) c.as_slice.ensures.value in
    subst (λ (found : List Refusal). AreOfRange c.args.program.now c.args.certs.now.sections c.args.from (func + 1) found) (sym more)
    (Further func before c.in_ok-further.further.items c.loop-number.invariant further)
