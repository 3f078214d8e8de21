-- Lists of actors, first and newest first, and the runs after their first steps.
use Rattle.std.proofs.Common.{◌≡◌, ◌<◌, ◌≤◌, ◌⊎◌, inl, inr, ℕ, suc, List, [], ◌∷◌, ◌++◌, length, reverse, take, Some, slice_get, refl, sym, ap, subst, ◌∙◌, arith, append_assoc}
use Rattle.std.proofs.lemmas.List.{append-nil, reverse-append, reverse-reverse, length-reverse}
use Rattle.std.proofs.Math.Seq.{take-append_seam}
use Rattle.std.proofs.lemmas.Bool.{cases_lt}
use Rattle.layout.specs.Layouts.{LaidOut}
use Rattle.runs.specs.ModuleRuns.{IsModuleRun}
use Rattle.runs.specs.Broken.{IsBroken, IsCause}
use Rattle.replay.specs.Runs.{program_machine, heap_of}
use Rattle.trace_text.specs.declared.trace.Setup.{Setup}
use Rattle.moves.specs.declared.actor.Actor.{Actor}
use Rattle.program_runner.specs.Setups.{starts_of}
use Rattle.replay.specs.Worlds.{run_of}
use Rattle.replay.specs.declared.outcome.Break.{Break}
use Rattle.replay.specs.Lists.{IsBrokenAt, IsSoundList, IsFirstBreak, cause_in}
use Rattle.replay.specs.Watched.{IsUnbroken}

-- ---- lists

-- the newest of some is the last of them
pub reverse-cons : {A : Type 0} (x : A) (xs ys : List A) → reverse (x ∷ xs) ++ ys ≡ reverse xs ++ x ∷ ys
reverse-cons x xs ys = ap (λ l. l ++ ys) (reverse-append (x ∷ []) xs) ∙ append_assoc (reverse xs) (x ∷ []) ys

-- the first of a list, as many as these, are these
pub first_reversed : {A : Type 0} (xs ys : List A) → reverse (take (length xs) (reverse xs ++ ys)) ≡ xs
first_reversed xs ys =
    ap (λ n. reverse (take n (reverse xs ++ ys))) (sym (length-reverse xs)) ∙ ap reverse (take-append_seam (reverse xs) ys) ∙ reverse-reverse xs

-- the element after some in a list
pub slice_get-afterwards : {A : Type 0} (xs : List A) (y : A) (ys : List A) → slice_get (xs ++ y ∷ ys) (length xs) ≡ Some y
slice_get-afterwards [] y ys = refl
slice_get-afterwards (x ∷ xs) y ys = slice_get-afterwards xs y ys

-- ---- runs

-- after the first steps of a list the run is not broken, where it was broken after none of these
pub unbroken_at : (p : LaidOut) (setup : Setup) (before rest : List Actor) (steps : ℕ) → IsUnbroken p setup before → steps ≤ length before → ¬ IsBrokenAt p setup (reverse before ++ rest) steps
unbroken_at p setup [] rest steps unbroken few =
    let none : steps ≡ 0 = omega arith in
    subst (λ n. ¬ IsBrokenAt p setup (reverse [] ++ rest) n) (sym none) unbroken
unbroken_at p setup (actor ∷ before) rest steps unbroken few = go (λ part. unbroken_at p setup before (actor ∷ rest) steps unbroken.1 part) (cases_lt (length before) steps)
  where
    go : (steps ≤ length before → ¬ IsBrokenAt p setup (reverse before ++ actor ∷ rest) steps) → ((length before < steps) ⊎ (steps ≤ length before)) → ¬ IsBrokenAt p setup (reverse (actor ∷ before) ++ rest) steps
    go earlier (inl all) =
        let whole : steps ≡ suc (length before) = omega arith in
        λ broken. unbroken.0 (subst (λ l. IsBroken (heap_of p setup) program_machine (starts_of p setup) (run_of p setup l)) (first_reversed (actor ∷ before) rest) (subst (λ n. IsBrokenAt p setup (reverse (actor ∷ before) ++ rest) n) whole broken))
    go earlier (inr part) = subst (λ l. ¬ IsBrokenAt p setup l steps) (sym (reverse-cons actor before rest)) (earlier part)

-- no step of a list breaks the run that none of its actors broke
pub sound_list : (p : LaidOut) (setup : Setup) (actors : List Actor) → IsUnbroken p setup (reverse actors) → IsSoundList p setup actors
sound_list p setup actors unbroken steps few =
    let all : reverse (reverse actors) ++ [] ≡ actors = append-nil (reverse (reverse actors)) ∙ reverse-reverse actors in
    let count : length (reverse actors) ≡ length actors = length-reverse actors in
    subst (λ l. ¬ IsBrokenAt p setup l steps) all (unbroken_at p setup (reverse actors) [] steps unbroken (omega arith))

-- a list breaks its run first where an actor breaks that of those before it, which broke none
pub first_break : (p : LaidOut) (setup : Setup) (before rest : List Actor) (b : Break) → IsUnbroken p setup before → b.step ≡ suc (length before)
    → IsModuleRun (heap_of p setup) program_machine (starts_of p setup) (run_of p setup (b.actor ∷ before))
    → IsCause (heap_of p setup) program_machine (starts_of p setup) (run_of p setup (b.actor ∷ before)) (cause_in b.cause)
    → IsFirstBreak p setup (reverse before ++ b.actor ∷ rest) b
first_break p setup before rest b unbroken step is_run cause =
    let same : reverse (take (suc (length before)) (reverse before ++ b.actor ∷ rest)) ≡ b.actor ∷ before =
    ap (λ l. reverse (take (suc (length before)) l)) (sym (reverse-cons b.actor before rest)) ∙ first_reversed (b.actor ∷ before) rest in
    record {
      place = length before;
      step = step;
      actor = ap (λ n. slice_get (reverse before ++ b.actor ∷ rest) n) (sym (length-reverse before)) ∙ slice_get-afterwards (reverse before) b.actor rest;
      before = λ steps few. unbroken_at p setup before (b.actor ∷ rest) steps unbroken few;
      is_run = subst (λ l. IsModuleRun (heap_of p setup) program_machine (starts_of p setup) (run_of p setup l)) (sym same) is_run;
      cause = subst (λ l. IsCause (heap_of p setup) program_machine (starts_of p setup) (run_of p setup l) (cause_in b.cause)) (sym same) cause;
    }
