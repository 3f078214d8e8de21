use Rattle.std.proofs.Common.{◌≡◌, ◌+◌, ◌∙◌, ℕ, Some, List, [], ◌∷◌, ◌++◌, take, drop, get_or, slice_get, append_assoc, ap, ap₂, sym, subst, arith}
use Rattle.std.proofs.lemmas.Option.{get_or_from_slice_get}
use Rattle.std.proofs.lemmas.Result.{IfOk-weaker}
use Rattle.moves.specs.declared.actor.Actor.TheVariants as actor
use Rattle.trace_text.specs.declared.trace.Steps.{Steps}
use Rattle.hunting.proofs.steps.with_lines_swapped.Goals as goal

-- no steps, for the places past the end of a list
abbrev none : Steps
none = record { actor = actor.Thread 0; count = 0 }

pub returns-clause-steps : goal.returns-clause-steps
returns-clause-steps c line follower here there =
    let lines = c.args.trace.now.steps in
    let seen = c.as_slice-lines.result.now in
    let place = c.args.place in
    let next = c.after-next.result in
    let to = c.after.result in
    let past : to ≡ place + 2 = omega (arith, c.after.ensures, c.after-next.ensures) in
    let there_seen : slice_get seen next ≡ Some follower = subst (λ (l : List Steps). slice_get l next ≡ Some follower) (sym c.as_slice-lines.ensures) (subst (λ (n : ℕ). slice_get lines n ≡ Some follower) (sym c.after-next.ensures) there) in
    let is_follower : get_or seen next none ≡ follower = get_or_from_slice_get seen next follower none there_seen in
    let is_line : get_or seen place none ≡ line = get_or_from_slice_get seen place line none (subst (λ (l : List Steps). slice_get l place ≡ Some line) (sym c.as_slice-lines.ensures) here) in
    IfOk-weaker c.replaced.result _ _
    (λ made is. is ∙ append_assoc (take place lines) (get_or seen next none ∷ get_or seen place none ∷ []) (drop to lines)
    ∙ ap₂ (λ (n l : Steps). take place lines ++ n ∷ l ∷ drop to lines) is_follower is_line
    ∙ ap (λ (n : ℕ). take place lines ++ follower ∷ line ∷ drop n lines) past) c.replaced.ensures.steps
