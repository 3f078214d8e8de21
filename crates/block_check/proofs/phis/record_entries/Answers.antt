use Rattle.std.proofs.Common.{◌∷◌, [], ◌++◌, take, ◌∙◌, ap, sym, arith}
use Rattle.std.proofs.lemmas.List.{map_more}
use Rattle.type_kinds.specs.TypeKinds.{kind_of}
use Rattle.block_rules.specs.Edges.{operand_from, known_comes_in, phi_comes_in, comes_in}
use Rattle.block_check.specs.PhiOperands.{entries_at}
use Rattle.block_check.proofs.PhiSteps.{phi_at}
use Rattle.block_check.proofs.phis.record_entries.Goals as goal

pub loop-place-preserved : goal.loop-place-preserved
loop-place-preserved c =
    let m = c.args.under_check.now.context.program.now.of_module in
    let f = c.args.under_check.now.context.function.now in
    let from = c.args.from in
    let facts = c.args.facts.now in
    let phis = c.phis_of-phis.result.now in
    let place = c.loop-place.place in
    let phi = c.index-phis-place.result in
    let before = c.loop-place.entries in
    let operand = c.operand_from-operand.result in
    let at = ap (λ ps. entries_at ps place) (sym c.phis_of-phis.ensures) ∙ phi_at phis place phi (omega arith) c.index-phis-place.is in
    let known =
    c.known_comes_in-known.ensures
    ∙ ap (λ k. known_comes_in c.module-module.result.now facts k operand) c.of-kind.ensures
    ∙ ap (λ p. known_comes_in p facts (kind_of p phi.written) operand) c.module-module.ensures
    ∙ ap (λ o. known_comes_in m facts (kind_of m phi.written) o) (c.operand_from-operand.ensures ∙ ap (λ entries. operand_from f from entries) at) in
    c.in_ok-push.ensures.ok
    ∙ ap (λ k. before ++ record { phi = phi.value; known = k } ∷ []) known
    ∙ ap (λ xs. xs ++ phi_comes_in m f from facts phi ∷ []) c.loop-place.invariant
    ∙ ap (λ x. comes_in m f from facts (take place phis) ++ phi_comes_in m f from facts x ∷ []) c.index-phis-place.is
    ∙ sym (map_more (phi_comes_in m f from facts) phis place phi (omega arith))
