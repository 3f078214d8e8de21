-- Edges on which nothing is decided and no phi takes anything.
use Rattle.std.proofs.Common.{◌≡◌, ℕ, List, [], ◌∷◌, Bool, true, false, length, refl, Option, Some, None, is_some}
use Rattle.std.proofs.lemmas.Bool.{eqb-true}
use Rattle.std.specs.Prelude.{◌==◌}
use Rattle.ir_ast.specs.declared.function.Function.{Function}
use Rattle.ir_ast.specs.declared.module.Module.{Module}
use Rattle.ir_ast.specs.declared.choices.Phi.{Phi}
use Rattle.facts.specs.Facts.{FactSet, after_phis}
use Rattle.block_rules.specs.InstrContext.{phis_of}
use Rattle.block_rules.specs.Edges.{RuleContext, comes_in, decided_facts, entered}

no_phis : (m : Module) (f : Function) (from : ℕ) (facts : FactSet) (phis : List Phi) → (length phis == 0) ≡ true → after_phis (comes_in m f from facts phis) facts ≡ facts
no_phis m f from facts [] none = refl
no_phis m f from facts (phi ∷ phis) none = let past : length (phi ∷ phis) ≡ 0 = eqb-true (length (phi ∷ phis)) 0 none in absurd cc

-- there it is known what is known at the end of the block
pub entered_plain : (s : RuleContext) (from to : ℕ) (decided : Option (ℕ × Bool)) (facts : FactSet) → is_some decided ≡ false → (length (phis_of s.function to) == 0) ≡ true → entered s from to (decided_facts decided facts) ≡ facts
entered_plain s from to None facts undecided none = no_phis s.program.of_module s.function from facts (phis_of s.function to) none
entered_plain s from to (Some decided) facts undecided none = absurd cc
