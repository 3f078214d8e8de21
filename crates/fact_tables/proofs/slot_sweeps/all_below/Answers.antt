use Rattle.std.proofs.Common.{◌≡◌, ◌++◌, ◌∷◌, [], arith, inl, inr, sym, subst}
use Rattle.std.proofs.lemmas.Bool.{cases_lt}
use Rattle.lemmas.specs.Lists.{in_first, last_in, IsIn}
use Rattle.fact_tables.proofs.slot_sweeps.all_below.Goals as goal

pub loop-at-preserved : goal.loop-at-preserved
loop-at-preserved c s lt = subst (IsIn s) (sym c.in_ok-push.ensures.items) (elim (cases_lt s c.loop-at.at) [
  | inl before ↦ in_first s c.loop-at.names.items (c.loop-at.at ∷ []) (c.loop-at.invariant s before)
  | inr past ↦ let same : c.loop-at.at ≡ s = omega arith in subst (λ x. IsIn x (c.loop-at.names.items ++ c.loop-at.at ∷ [])) same (last_in c.loop-at.at c.loop-at.names.items)
])
