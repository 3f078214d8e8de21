-- Targets whose claims are implied.
use Rattle.std.specs.Prelude.{◌≡◌, ℕ, true, List, Some, None}
use Rattle.facts.specs.Facts.{FactSet}
use Rattle.block_rules.specs.Edges.{RuleContext, unmet_at}
use Rattle.block_check.specs.Predecessors.{is_in}

-- all claims of these blocks are implied where they are entered from a block with these facts
abbrev pub AreImplied : RuleContext → (from : ℕ) → FactSet → List ℕ → Type 0
AreImplied s from facts implied = (to : ℕ) → is_in implied to ≡ true → unmet_at s from facts (Some to) ≡ None
