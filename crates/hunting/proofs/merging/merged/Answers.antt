use Rattle.std.proofs.Common.{◌≡◌, ◌∙◌, [], ◌∷◌, ◌++◌, List, Some, length, take, slice_get, get_or, ap, sym, subst, arith}
use Rattle.std.specs.List.{AllByRecursion}
use Rattle.std.proofs.Math.Seq.{take-length}
use Rattle.std.proofs.lemmas.Option.{slice_get-get_or}
use Rattle.std.proofs.lemmas.Result.{IfOk-weaker}
use Rattle.lemmas.specs.Lists.{first_more}
use Rattle.moves.specs.Runs.{IsActor}
use Rattle.moves.specs.declared.actor.Actor.TheVariants as actor
use Rattle.trace_text.specs.declared.trace.Steps.{Steps}
use Rattle.replay.specs.Lists.{actors_of}
use Rattle.hunting.proofs.Merges.{actors_of-append, all-first, all-last}
use Rattle.hunting.proofs.merging.merged.Goals as goal

-- no steps of the collector, with which the list begins
abbrev first : Steps
first = record { actor = actor.Collector; count = 0 }

-- no steps, for the places past the end of a list
abbrev none : Steps
none = record { actor = actor.Thread 0; count = 0 }

pub loop-next-init : goal.loop-next-init
loop-next-init c = record {
  actors = ap (λ (lines : List Steps). actors_of (lines ++ first ∷ [])) c.new.ensures;
  either = λ threads all. subst (λ (lines : List Steps). AllByRecursion (λ (s : Steps). IsActor threads s.actor) (lines ++ first ∷ [])) (sym c.new.ensures) (tt, tt);
}

pub loop-next-preserved : goal.loop-next-preserved
loop-next-preserved c =
    let steps = c.args.steps.now in
    let i = c.loop-next.next-index in
    let s = get_or steps i none in
    let there : slice_get steps i ≡ Some s = slice_get-get_or steps i none (omega (arith, c.loop-next-test.true)) in
    record {
      actors = c.in_ok-add.ensures.actors ∙ ap (λ l. l ++ actors_of (s ∷ [])) c.loop-next.invariant.actors ∙ sym (actors_of-append (take i steps) (s ∷ [])) ∙ ap actors_of (sym (first_more steps i s there));
      either = λ threads all.
          let P = λ (s : Steps). IsActor threads s.actor in
          let whole = subst (AllByRecursion P) (first_more steps i s there) all in
          c.in_ok-add.ensures.either threads (c.loop-next.invariant.either threads (all-first P (take i steps) (s ∷ []) whole)) (all-last P (take i steps) (s ∷ []) whole).0;
    }

pub returns-clause-actors : goal.returns-clause-actors
returns-clause-actors c =
    let steps = c.args.steps.now in
    let i = c.loop-next.next-index in
    let all : i ≡ length steps = omega (arith, c.loop-next-test.false, c.loop-next.auto.next-index-end) in
    IfOk-weaker c.close.result _ _ (λ lines is. is ∙ c.loop-next.invariant.actors ∙ ap (λ n. actors_of (take n steps)) all ∙ ap actors_of (take-length steps)) c.close.ensures.actors

pub returns-clause-either : goal.returns-clause-either
returns-clause-either c threads each =
    let steps = c.args.steps.now in
    let i = c.loop-next.next-index in
    let all : i ≡ length steps = omega (arith, c.loop-next-test.false, c.loop-next.auto.next-index-end) in
    c.close.ensures.either threads (c.loop-next.invariant.either threads (subst (AllByRecursion (λ (s : Steps). IsActor threads s.actor)) (sym (ap (λ n. take n steps) all ∙ take-length steps)) each))
