use Rattle.std.proofs.Common.{◌≡◌, ◌<◌, ◌∙◌, ℕ, List, length, ap, sym, subst}
use Rattle.std.specs.Prelude.{slice_set}
use Rattle.std.proofs.lemmas.Result.{IfOk-weaker}
use Rattle.hunting.proofs.setups.pools_with_fewer.Goals as goal

pub returns-clause-pools : goal.returns-clause-pools
returns-clause-pools c within =
    let same = c.in_ok-counts.ensures in
    let there = subst (λ (l : List ℕ). c.args.layout < length l) (sym same) within in
    IfOk-weaker c.pools_with.result _ _
    (λ fewer is. is ∙ c.as_slice.ensures ∙ c.put_count.ensures.counts there ∙ ap (λ (l : List ℕ). slice_set l c.args.layout c.args.count) same) c.pools_with.ensures.pools
