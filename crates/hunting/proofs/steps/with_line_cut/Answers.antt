use Rattle.std.proofs.Common.{◌≡◌, ◌+◌, ◌<◌, ◌≤◌, ◌∙◌, Some, List, [], ◌∷◌, ◌++◌, length, take, drop, get_or, slice_get, append_assoc, refl, ap, sym, subst, arith}
use Rattle.std.proofs.lemmas.Option.{slice_get-get_or, get_or_from_slice_get}
use Rattle.std.proofs.lemmas.Result.{IfOk-weaker}
use Rattle.trace_text.specs.Traces.{step_sum}
use Rattle.moves.specs.declared.actor.Actor.TheVariants as actor
use Rattle.trace_text.specs.declared.trace.Steps.{Steps}
use Rattle.hunting.specs.Parts.{between}
use Rattle.hunting.proofs.Sums.{cut_line, sum_between}
use Rattle.hunting.proofs.steps.with_line_cut.Goals as goal

-- no steps, for the places past the end of a list
abbrev none : Steps
none = record { actor = actor.Thread 0; count = 0 }

pub replaced-requires-clause-few : goal.replaced-requires-clause-few
replaced-requires-clause-few c =
    let lines = c.as_slice.result.now in
    let from = c.args.places.0 in
    let to = c.args.places.1 in
    let within = subst (λ (l : List Steps). from < length l) (sym c.as_slice.ensures) c.requires.place in
    let there = slice_get-get_or lines from none within in
    let some = sum_between from to lines (get_or lines from none) there c.requires.order in
    let least = c.min.ensures in
    subst (λ (l : List Steps). 0 + c.min.result ≤ step_sum (between from to l)) c.as_slice.ensures (omega (arith, some, least))

pub returns-clause-steps : goal.returns-clause-steps
returns-clause-steps c line there =
    let lines = c.args.trace.now.steps in
    let seen = c.as_slice.result.now in
    let from = c.args.places.0 in
    let to = c.args.places.1 in
    let found = get_or seen from none in
    let cut : Steps = record { actor = found.actor; count = c.min.result } in
    let is_line : found ≡ line = get_or_from_slice_get seen from line none (subst (λ (l : List Steps). slice_get l from ≡ Some line) (sym c.as_slice.ensures) there) in
    let same = cut_line c.args.count cut found line refl c.min.ensures is_line in
    IfOk-weaker c.replaced.result _ _
    (λ made is. is ∙ append_assoc (take from lines) (cut ∷ []) (drop to lines) ∙ ap (λ (s : Steps). take from lines ++ s ∷ drop to lines) same) c.replaced.ensures.steps
