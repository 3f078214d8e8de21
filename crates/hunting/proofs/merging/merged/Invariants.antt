-- what is merged so far are the lines that the loop went over
use Rattle.std.proofs.Common.{◌≡◌, ℕ, [], ◌∷◌, ◌++◌, take}
use Rattle.std.specs.List.{AllByRecursion}
use Rattle.moves.specs.Runs.{IsActor}
use Rattle.trace_text.specs.declared.trace.Steps.{Steps}
use Rattle.replay.specs.Lists.{actors_of}
use Rattle.hunting.proofs.merging.merged.Given as goal

abbrev pub invariant-loop-next : goal.invariant-loop-next
invariant-loop-next l = record {
  actors : actors_of (l.merging.lines ++ l.merging.last ∷ []) ≡ actors_of (take l.next-index l.steps);
  either : (threads : ℕ) → AllByRecursion (λ (s : Steps). IsActor threads s.actor) (take l.next-index l.steps) → AllByRecursion (λ (s : Steps). IsActor threads s.actor) (l.merging.lines ++ l.merging.last ∷ []);
}
