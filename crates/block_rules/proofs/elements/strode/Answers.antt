use Rattle.std.proofs.Common.{None, sym, ◌∙◌, arith}
use Rattle.type_kinds.proofs.Members.{bounded}
use Rattle.block_rules.proofs.Strides.{strode_start, strode_in, strode_end}
use Rattle.block_rules.proofs.elements.strode.Goals as goal

pub loop-word-init : goal.loop-word-init
loop-word-init c = strode_start c.args.stride.now c.args.from.now c.new-words.result c.new-words.ensures

pub returns-in_err-words : goal.returns-in_err-words
returns-in_err-words c =
    let at = bounded c.next_from.result c.loop-word.next c.in-Some.word c.in-Some.is c.next_from.ensures.bounds in
    c.from_residual.ensures
    ∙ sym (strode_in c.args.stride.now c.args.from.now c.loop-word.words c.loop-word.next c.in-Some.word _ None at.0 at.1 (sym c.in-Some.is ∙ c.next_from.ensures.next) (sym c.in_err-words.was ∙ c.reach.ensures) c.loop-word.invariant)

pub loop-word-preserved : goal.loop-word-preserved
loop-word-preserved c =
    let at = bounded c.next_from.result c.loop-word.next c.in-Some.word c.in-Some.is c.next_from.ensures.bounds in
    strode_in c.args.stride.now c.args.from.now c.loop-word.words c.loop-word.next c.in-Some.word _ _ at.0 at.1 (sym c.in-Some.is ∙ c.next_from.ensures.next) (sym c.in_ok-words.was ∙ c.reach.ensures) c.loop-word.invariant

pub loop-word-smaller : goal.loop-word-smaller
loop-word-smaller c =
    let at = bounded c.next_from.result c.loop-word.next c.in-Some.word c.in-Some.is c.next_from.ensures.bounds in
    omega (arith, at.0, at.1)

pub returns : goal.returns
returns c = sym (strode_end c.args.stride.now c.args.from.now c.loop-word.words c.loop-word.next _ (sym c.in_default.is ∙ c.next_from.ensures.next) c.loop-word.invariant)
