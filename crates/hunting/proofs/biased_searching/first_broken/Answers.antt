-- Where the program is certified no seed gives a trace.
use Rattle.std.proofs.Common.{IfSome, ◌∙◌, sym, subst}
use Rattle.hunting.proofs.biased_searching.first_broken.Goals as goal

pub returns-in-Ok-Some-clause-safe : goal.returns-in-Ok-Some-clause-safe
returns-in-Ok-Some-clause-safe c certs is = subst (λ o. IfSome o (λ x. ⊥)) (sym (c.in-Ok-Some.ensures.safe certs is) ∙ c.in-Ok-Some.field-0-is) tt
