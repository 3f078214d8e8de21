-- Arguments are below what is promised of their parameters exactly where the code says so.
use Rattle.std.proofs.Common.{◌≡◌, ℕ, true, false, Option, Some, None, List, [], ◌∷◌, slice_get, refl, sym, ap, subst, ◌∙◌, true≢false}
use Rattle.lemmas.specs.Bools.{and_parts, and_true}
use Rattle.lemmas.specs.Numbers.{lt_true, lt_yes}
use Rattle.certs.specs.declared.certs.Certs.{Certs}
use Rattle.certs.specs.declared.section.Promise.{Promise}
use Rattle.facts.specs.Claims.{promised_below}
use Rattle.soundness.specs.Meaning.{IsBelow}
use Rattle.program_runner.specs.Threads.{MeetPromises}
use Rattle.certs.specs.declared.section.Section.{Section}
use Rattle.block_rules.specs.Promises.{promises_in}
use Rattle.trace_text.specs.declared.trace.Start.{Start}
use Rattle.mutators.specs.Faults.{MeetsPromises, is_below, is_under, are_under}

below : (bound : Option ℕ) (argument : ℕ) → is_below bound argument ≡ true → IsBelow argument bound
below None argument e = tt
below (Some bound) argument e = lt_true argument bound e

is_so : (bound : Option ℕ) (argument : ℕ) → IsBelow argument bound → is_below bound argument ≡ true
is_so None argument below = refl
is_so (Some bound) argument below = lt_yes argument bound below

-- arguments of which the code says so meet what is promised
pub met : (promises : List (Option Promise)) (arguments : List ℕ) → are_under promises arguments ≡ true → MeetPromises promises arguments
met [] arguments e = tt
met (promise ∷ promises) [] e = tt
met (promise ∷ promises) (argument ∷ arguments) e =
    let parts = and_parts (is_under promise argument) (are_under promises arguments) e in
    (below (promised_below promise) argument parts.0, met promises arguments parts.1)

-- and the code says so of those that do
all_under : (promises : List (Option Promise)) (arguments : List ℕ) → MeetPromises promises arguments → are_under promises arguments ≡ true
all_under [] arguments meets = refl
all_under (promise ∷ promises) [] meets = refl
all_under (promise ∷ promises) (argument ∷ arguments) meets =
    and_true (is_under promise argument) (are_under promises arguments) (is_so (promised_below promise) argument meets.0) (all_under promises arguments meets.1)

pub not_met : (promises : List (Option Promise)) (arguments : List ℕ) → are_under promises arguments ≡ false → ¬ MeetPromises promises arguments
not_met promises arguments e meets = true≢false (sym (all_under promises arguments meets) ∙ e)

-- so of the arguments with which a thread begins, as the code finds them
module _ (certs : Certs) (begun : Start) (given : Certs) (section : Option Section) (promises : List (Option Promise)) (arguments : List ℕ) (same : given ≡ certs)
    (found : section ≡ slice_get given.sections begun.function) (these : promises ≡ promises_in section) (those : arguments ≡ begun.arguments) where
  promised : promises ≡ promises_in (slice_get certs.sections begun.function)
  promised = these ∙ ap promises_in (found ∙ ap (λ (all : Certs). slice_get all.sections begun.function) same)

  pub met_by : are_under promises arguments ≡ true → MeetsPromises certs.sections begun
  met_by e = subst (MeetPromises (promises_in (slice_get certs.sections begun.function))) those (subst (λ (q : List (Option Promise)). MeetPromises q arguments) promised (met promises arguments e))

  pub not_met_by : are_under promises arguments ≡ false → ¬ MeetsPromises certs.sections begun
  not_met_by e meets =
      not_met promises arguments e (subst (λ (q : List (Option Promise)). MeetPromises q arguments) (sym promised) (subst (MeetPromises (promises_in (slice_get certs.sections begun.function))) (sym those) meets))
