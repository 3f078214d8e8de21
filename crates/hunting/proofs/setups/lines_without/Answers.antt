use Rattle.std.proofs.Common.{◌≡◌, ◌∙◌, [], ◌∷◌, ◌++◌, Some, length, take, slice_get, get_or, ap, sym, subst, arith}
use Rattle.std.proofs.Math.Seq.{take-length}
use Rattle.std.proofs.lemmas.Option.{slice_get-get_or}
use Rattle.lemmas.specs.Lists.{first_more}
use Rattle.moves.specs.Runs.{IsActor}
use Rattle.lemmas.specs.All.{all_first, all_second}
use Rattle.moves.specs.declared.actor.Actor.TheVariants as actor
use Rattle.trace_text.specs.declared.trace.Steps.{Steps}
use Rattle.hunting.specs.Parts.{AreOfActors}
use Rattle.hunting.proofs.Sums.{sum_more}
use Rattle.hunting.proofs.setups.lines_without.Goals as goal

-- no steps, for the places past the end of a list
abbrev none : Steps
none = record { actor = actor.Thread 0; count = 0 }

pub loop-line-preserved : goal.loop-line-preserved
loop-line-preserved c =
    let lines = c.args.lines.now in
    let i = c.loop-line.line-index in
    let line = get_or lines i none in
    let there : slice_get lines i ≡ Some line = slice_get-get_or lines i none (omega (arith, c.loop-line-test.true)) in
    record {
      actors = λ threads within all.
          let P = λ (s : Steps). IsActor threads s.actor in
          let whole = subst (λ l. AreOfActors threads l) (first_more lines i line there) all in
          c.in_ok-add_other.ensures.actors threads within (all_second P (take i lines) (line ∷ []) whole).0
          (c.loop-line.invariant.actors threads within (all_first P (take i lines) (line ∷ []) whole));
      sum =
          let step = c.in_ok-add_other.ensures.sum in
          let more = sum_more lines i line there in
          let before = c.loop-line.invariant.sum in
          omega (arith, step, more, before);
    }

pub returns-clause-actors : goal.returns-clause-actors
returns-clause-actors c threads within all =
    let lines = c.args.lines.now in
    let i = c.loop-line.line-index in
    let past : i ≡ length lines = omega (arith, c.loop-line-test.false, c.loop-line.auto.line-index-end) in
    let whole : take i lines ≡ lines = ap (λ n. take n lines) past ∙ take-length lines in
    c.loop-line.invariant.actors threads within (subst (λ l. AreOfActors threads l) (sym whole) all)
