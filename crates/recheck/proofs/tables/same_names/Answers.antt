use Rattle.std.proofs.Common.{◌≡◌, ◌<◌, rules, length, slice_get, sym, ◌∙◌, arith}
use Rattle.ir_ast.specs.Names.{name_at}
use Rattle.recheck.proofs.Lists.{same_each, one_further, same_name}
use Rattle.recheck.proofs.tables.same_names.Goals as goal

pub loop-number-preserved : goal.loop-number-preserved
loop-number-preserved c =
    let number = c.loop-number.number in
    let in_one : number < length c.args.one.now = omega (arith, c.loop-number-test.true, c.count-number-end.ensures.count) in
    let in_other : number < length c.args.other.now = omega (arith, in_one, c.if-count.false, c.count.ensures.count, c.count-2.ensures.count) in
    let h = c.if-ne.ensures in
    let same : c.name_at.result.now ≡ c.name_at-in-loop-number.result.now = search rules in
    one_further (λ n. slice_get c.args.other.now n ≡ slice_get c.args.one.now n) number c.loop-number.invariant
    (same_name c.args.one.now c.args.other.now number in_one in_other (sym c.name_at.ensures ∙ same ∙ c.name_at-in-loop-number.ensures))

pub returns : goal.returns
returns c = λ e.
    let count : length c.args.other.now ≡ length c.args.one.now = omega (arith, c.if-count.false, c.count.ensures.count, c.count-2.ensures.count) in
    same_each c.args.one.now c.args.other.now count (λ n less. c.loop-number.invariant n (omega (arith, less, c.loop-number-test.false, c.count-number-end.ensures.count)))
