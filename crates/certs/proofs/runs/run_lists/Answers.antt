use Rattle.std.proofs.Common.{◌≡◌, true, false, sym, ◌∙◌}
use Rattle.certs.specs.Runs.{listed_in, lists_this, comes_before}
use Rattle.certs.proofs.ClaimRuns.{split_first, past_middle, before_the_middle}
use Rattle.certs.proofs.runs.run_lists.Goals as goal

pub loop-rest-preserved-then-comes_before : goal.loop-rest-preserved-then-comes_before
loop-rest-preserved-then-comes_before c =
    let middle = c.middle-item.result in
    let parts = split_first c.split_at.result.1.now middle c.in-len1-up.len_at_least c.middle-item.is in
    let its = c.listed_in.ensures in
    let answer = c.comes_before.ensures in
    let yes = c.if-comes_before.true in
    let before : comes_before (listed_in middle) c.args.listed.now ≡ true = cc in
    past_middle c.args.listed.now c.args.run.now c.loop-rest.rest.now c.split_at.result.0.now c.split_at.result.1.now _ middle _ c.split_at.ensures.front c.split_at.ensures.back parts c.loop-rest.invariant.0 c.loop-rest.invariant.1 before

pub loop-rest-preserved : goal.loop-rest-preserved
loop-rest-preserved c =
    let middle = c.middle-item.result in
    let parts = split_first c.split_at.result.1.now middle c.in-len1-up.len_at_least c.middle-item.is in
    let its = c.listed_in.ensures in
    let answer = c.comes_before.ensures in
    let no = c.if-comes_before.false in
    let after : comes_before (listed_in middle) c.args.listed.now ≡ false = cc in
    let other : lists_this c.args.listed.now middle ≡ false = sym c.lists_this.ensures ∙ c.if-lists_this.false in
    before_the_middle c.args.listed.now c.args.run.now c.loop-rest.rest.now c.split_at.result.0.now c.split_at.result.1.now _ middle _ c.split_at.ensures.front c.split_at.ensures.back parts c.loop-rest.invariant.0 c.loop-rest.invariant.1 after other
