-- Lines of steps in place of others that say the same.
use Rattle.std.proofs.Common.{◌≡◌, ◌+◌, ℕ, zero, suc, Some, List, [], ◌∷◌, ◌++◌, length, replicate, take, slice_get, refl, sym, ap, subst, ◌∙◌, append_assoc, length-append, arith, add-one}
use Rattle.std.specs.Prelude.{map}
use Rattle.std.specs.List.{AllByRecursion}
use Rattle.std.proofs.lemmas.List.{length-replicate, replicate-append-replicate}
use Rattle.std.proofs.lemmas.List.Sums.{sum_by-cons}
use Rattle.moves.specs.Runs.{IsActor}
use Rattle.layout.specs.Layouts.{LaidOut}
use Rattle.trace_text.specs.Traces.{step_sum, IsTraceOf}
use Rattle.trace_text.specs.declared.trace.Setup.{Setup}
use Rattle.trace_text.specs.declared.trace.Trace.{Trace}
use Rattle.trace_text.specs.declared.trace.Steps.{Steps}
use Rattle.moves.specs.declared.actor.Actor.{Actor}
use Rattle.replay.specs.Lists.{actors_of}

-- the actors of lines after others
pub actors_of-append : (one other : List Steps) → actors_of (one ++ other) ≡ actors_of one ++ actors_of other
actors_of-append [] other = refl
actors_of-append (s ∷ one) other =
    ap (λ l. replicate s.count s.actor ++ l) (actors_of-append one other) ∙ sym (append_assoc (replicate s.count s.actor) (actors_of one) (actors_of other))

-- two lines of one actor are one line
pub two_as_one : (one other both : Steps) → both.actor ≡ one.actor → one.actor ≡ other.actor → both.count ≡ one.count + other.count → actors_of (both ∷ []) ≡ actors_of (one ∷ other ∷ [])
two_as_one one other both same alike count =
    let first = one.actor in
    ap (λ (a : Actor). replicate both.count a ++ []) same
    ∙ ap (λ n. replicate n first ++ []) count
    ∙ ap (λ l. l ++ []) (sym (replicate-append-replicate one.count other.count first))
    ∙ append_assoc (replicate one.count first) (replicate other.count first) []
    ∙ ap (λ (a : Actor). replicate one.count first ++ (replicate other.count a ++ [])) alike

-- there are as many actors as steps
pub length-actors_of : (steps : List Steps) → length (actors_of steps) ≡ step_sum steps
length-actors_of [] = refl
length-actors_of (s ∷ steps) =
    let this = length-append (replicate s.count s.actor) (actors_of steps) in
    let count = length-replicate s.count s.actor in
    let more = length-actors_of steps in
    let all : step_sum (s ∷ steps) ≡ s.count + step_sum steps = sum_by-cons (λ x. x) s.count (map (λ (s : Steps). s.count) steps) in
    omega (arith, this, count, more, all)

-- what holds of each of some and of each of others holds of each of all
pub all-append : {X : Type 0} (P : X → Type 0) (one other : List X) → AllByRecursion P one → AllByRecursion P other → AllByRecursion P (one ++ other)
all-append P [] other first second = second
all-append P (x ∷ one) other first second = (first.0, all-append P one other first.1 second)

-- and of each of the first ones
pub all-first : {X : Type 0} (P : X → Type 0) (one other : List X) → AllByRecursion P (one ++ other) → AllByRecursion P one
all-first P [] other all = tt
all-first P (x ∷ one) other all = (all.0, all-first P one other all.1)

-- and of each of the last ones
pub all-last : {X : Type 0} (P : X → Type 0) (one other : List X) → AllByRecursion P (one ++ other) → AllByRecursion P other
all-last P [] other all = all
all-last P (x ∷ one) other all = all-last P one other all.1

-- ---- one more line

-- the actors of some lines and of two more
pub actors_of-two : (lines : List Steps) (last next : Steps) → actors_of lines ++ actors_of (last ∷ next ∷ []) ≡ actors_of (lines ++ last ∷ []) ++ actors_of (next ∷ [])
actors_of-two lines last next =
    sym (actors_of-append lines (last ∷ next ∷ [])) ∙ ap actors_of (sym (append_assoc lines (last ∷ []) (next ∷ []))) ∙ actors_of-append (lines ++ last ∷ []) (next ∷ [])

-- a line in the place of two that say the same
pub actors_of-joined : (lines : List Steps) (last next both : Steps) → actors_of (both ∷ []) ≡ actors_of (last ∷ next ∷ []) → actors_of (lines ++ both ∷ []) ≡ actors_of (lines ++ last ∷ []) ++ actors_of (next ∷ [])
actors_of-joined lines last next both is =
    actors_of-append lines (both ∷ []) ∙ ap (λ l. actors_of lines ++ l) is ∙ actors_of-two lines last next

-- ---- traces

-- a trace with other lines that say the same
pub same_trace : (p : LaidOut) (t : Trace) (setup : Setup) (steps : List Steps) → setup ≡ t.setup → IsTraceOf p t → actors_of steps ≡ actors_of t.steps
    → AllByRecursion (λ (s : Steps). IsActor (length t.setup.starts) s.actor) steps → IsTraceOf p (record { setup = setup; steps = steps })
same_trace p t setup steps begins is same actors =
    subst (λ (begun : Setup). IsTraceOf p (record { setup = begun; steps = steps })) (sym begins) (record {
      one_each = is.one_each;
      cells = is.cells;
      starts = is.starts;
      threads = is.threads;
      actors = actors;
      steps = let few = is.steps in omega (arith, few, sym (length-actors_of steps) ∙ ap length same ∙ length-actors_of t.steps);
    })
