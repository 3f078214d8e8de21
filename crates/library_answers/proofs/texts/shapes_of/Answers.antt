use Rattle.std.proofs.Common.{◌≡◌, ◌∙◌, true, false, refl, sym}
use Rattle.library_answers.proofs.texts.shapes_of.Goals as goal

pub returns-then-is_empty : goal.returns-then-is_empty
returns-then-is_empty c = (λ yes. refl, λ no. let both : true ≡ false = sym c.if-is_empty.true ∙ c.is_empty.ensures ∙ no in absurd cc)

pub returns-else-is_empty : goal.returns-else-is_empty
returns-else-is_empty c = (λ yes. let both : false ≡ true = sym c.if-is_empty.false ∙ c.is_empty.ensures ∙ yes in absurd cc, λ no. refl)
