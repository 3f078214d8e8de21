use Rattle.std.proofs.Common.{rules, arith, ◌∙◌}
use Rattle.std.proofs.lemmas.Grind.{common_steps}
use Rattle.ir_forms.proofs.Fields.{next_field, no_field}
use Rattle.ir_forms.proofs.input.Input.struct_of.Goals as goal

pub returns-in_err-whole-2 : goal.returns-in_err-whole-2
returns-in_err-whole-2 c =
    let e = c.loop-at.invariant ∙ next_field c.args.fields.now c.loop-at.at c.index-fields-at.result c.loop-at.whole c.loop-at.self (omega arith) (omega (arith, c.loop-at.auto.at)) in
    let f = c.index-fields-at.is in
    first_of (search rules, grind (arith, common_steps))

pub loop-at-preserved : goal.loop-at-preserved
loop-at-preserved c =
    let e = c.loop-at.invariant ∙ next_field c.args.fields.now c.loop-at.at c.index-fields-at.result c.loop-at.whole c.loop-at.self (omega arith) (omega (arith, c.loop-at.auto.at)) in
    let f = c.index-fields-at.is in
    first_of (search rules, grind (arith, common_steps))

pub returns : goal.returns
returns c = c.loop-at.invariant ∙ no_field c.args.fields.now c.loop-at.at c.loop-at.whole c.loop-at.self (omega (arith, c.loop-at-test.false))
