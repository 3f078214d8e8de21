use Rattle.std.proofs.Common.{[], ◌∷◌, ◌++◌, ◌∙◌, List, ap}
use Rattle.moves.specs.Runs.{IsActor}
use Rattle.trace_text.specs.declared.trace.Steps.{Steps}
use Rattle.replay.specs.Lists.{actors_of}
use Rattle.hunting.proofs.Merges.{actors_of-append, actors_of-joined, all-append, all-first, all-last}
use Rattle.hunting.proofs.merging.Merging.add.Goals as goal

pub returns-in-Some-clause-actors : goal.returns-in-Some-clause-actors
returns-in-Some-clause-actors c = actors_of-joined c.args.self.now.lines c.args.self.now.last c.args.next c.in-Some.both c.in-Some.ensures.actors

pub returns-in-Some-clause-either : goal.returns-in-Some-clause-either
returns-in-Some-clause-either c threads all is =
    let lines = c.args.self.now.lines in
    let last = c.args.self.now.last in
    let P = λ (s : Steps). IsActor threads s.actor in
    all-append P lines (c.in-Some.both ∷ []) (all-first P lines (last ∷ []) all) (c.in-Some.ensures.either threads (all-last P lines (last ∷ []) all).0 is, tt)

pub returns-clause-actors : goal.returns-clause-actors
returns-clause-actors c =
    ap (λ (lines : List Steps). actors_of (lines ++ c.args.next ∷ [])) c.in_ok-push.ensures.ok
    ∙ actors_of-append (c.args.self.now.lines ++ c.args.self.now.last ∷ []) (c.args.next ∷ [])
