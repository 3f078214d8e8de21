use Rattle.std.proofs.Common.{refl, sym, ap, ◌∙◌}
use Rattle.heap_words.specs.Tokens.{Shared}
use Rattle.heap_table.proofs.Steps.{token_stays, step_there}
use Rattle.heap_table.proofs.heap.Heap.step.Goals as goal

pub perform-requires-clause-place : goal.perform-requires-clause-place
perform-requires-clause-place g c = step_there _ _ _ _ _ _ c.me.invariant c.me.view_is c.requires.token.setup (ap (λ (x : Shared). x.setup) c.self.view_is) c.requires.next

pub invariant_of-me : goal.invariant_of-me
invariant_of-me g c = token_stays _ _ _ _ _ _ c.me.invariant c.me.view_is (c.requires.token.setup ∙ sym (ap (λ (x : Shared). x.setup) c.self.view_is)) c.perform.ensures.token c.perform.ensures.happens _ (c.requires.next.stays _) refl

pub returns-clause-run : goal.returns-clause-run
returns-clause-run g c = (token_stays _ _ _ _ _ _ c.me.invariant c.me.view_is (c.requires.token.setup ∙ sym (ap (λ (x : Shared). x.setup) c.self.view_is)) c.perform.ensures.token c.perform.ensures.happens c.me.inside.hints (c.requires.next.stays _) refl).of_run
