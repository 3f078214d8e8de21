-- The first steps of a list, up to those at which it breaks its run.
use Rattle.std.proofs.Common.{◌≡◌, ◌<◌, ◌≤◌, ℕ, zero, suc, List, [], ◌∷◌, length, map, reverse, take, slice_get, Some, refl, sym, ap, subst, ◌∙◌, arith}
use Rattle.lemmas.specs.Lists.{get_first}
use Rattle.rand_core.specs.Stream.{Stream}
use Rattle.layout.specs.Layouts.{LaidOut}
use Rattle.trace_text.specs.declared.trace.Setup.{Setup}
use Rattle.runs.specs.ModuleRuns.{IsModuleRun}
use Rattle.runs.specs.Broken.{IsBroken, IsCause}
use Rattle.moves.specs.declared.actor.Actor.{Actor}
use Rattle.program_runner.specs.Setups.{starts_of}
use Rattle.replay.specs.Runs.{program_machine, heap_of}
use Rattle.replay.specs.Worlds.{run_of}
use Rattle.replay.specs.Draws.{one_draw, draws_from, seeded, drawn}
use Rattle.replay.specs.Lists.{IsFirstBreak, cause_in}
use Rattle.replay.specs.Soaks.{actor_drawn, actors_drawn}
use Rattle.replay.specs.declared.outcome.Break.{Break}

-- ---- lists

-- the first of the first
take-take : {A : Type 0} (xs : List A) (k n : ℕ) → k ≤ n → take k (take n xs) ≡ take k xs
take-take xs zero n few = refl
take-take [] (suc k) zero few = absurd (omega (arith, few))
take-take [] (suc k) (suc n) few = refl
take-take (x ∷ xs) (suc k) zero few = absurd (omega (arith, few))
take-take (x ∷ xs) (suc k) (suc n) few = ap (λ l. x ∷ l) (take-take xs k n (omega (arith, few)))

-- a place at which there is something is before the end
get-within : {A : Type 0} (xs : List A) (i : ℕ) (x : A) → slice_get xs i ≡ Some x → i < length xs
get-within [] i x is = absurd cc
get-within (y ∷ xs) zero x is = omega arith
get-within (y ∷ xs) (suc i) x is = let more = get-within xs i x is in omega (arith, more)

-- ---- what a seed draws

-- as many numbers as are asked for
length-drawn : (last n : ℕ) (s : Stream) → length (map (actor_drawn last) (draws_from last n s)) ≡ n
unfolding draws_from
length-drawn last zero s = refl
length-drawn last (suc n) s = ap suc (length-drawn last n (one_draw last s).1)

-- a seed draws as many actors as steps are asked for
pub length-actors_drawn : (threads seed steps : ℕ) → length (actors_drawn threads seed steps) ≡ steps
unfolding drawn
length-actors_drawn threads seed steps = length-drawn threads steps (seeded seed)

-- fewer numbers are the first ones
fewer-drawn : (last k n : ℕ) (s : Stream) → k ≤ n → map (actor_drawn last) (draws_from last k s) ≡ take k (map (actor_drawn last) (draws_from last n s))
unfolding draws_from
fewer-drawn last zero n s few = refl
fewer-drawn last (suc k) zero s few = absurd (omega (arith, few))
fewer-drawn last (suc k) (suc n) s few =
    ap (λ l. actor_drawn last (one_draw last s).0 ∷ l) (fewer-drawn last k n (one_draw last s).1 (omega (arith, few)))

-- ---- up to the break

-- a list breaks its run where its first steps do
first_steps_break : (p : LaidOut) (setup : Setup) (actors : List Actor) (b : Break) → IsFirstBreak p setup actors b → IsFirstBreak p setup (take b.step actors) b
first_steps_break p setup actors b is =
    let all = take-take actors (suc is.place) b.step (omega (arith, is.step)) in
    record {
      place = is.place;
      step = is.step;
      actor = get_first actors is.place b.step (omega (arith, is.step)) ∙ is.actor;
      before = λ steps few broken.
          is.before steps few (subst (λ l. IsBroken (heap_of p setup) program_machine (starts_of p setup) (run_of p setup (reverse l))) (take-take actors steps b.step (omega (arith, is.step, few))) broken);
      is_run = subst (λ l. IsModuleRun (heap_of p setup) program_machine (starts_of p setup) (run_of p setup (reverse l))) (sym all) is.is_run;
      cause = subst (λ l. IsCause (heap_of p setup) program_machine (starts_of p setup) (run_of p setup (reverse l)) (cause_in b.cause)) (sym all) is.cause;
    }

-- a seed breaks its run where as many steps as it took to break it do
pub drawn_breaks : (p : LaidOut) (setup : Setup) (last seed steps : ℕ) (b : Break) → IsFirstBreak p setup (actors_drawn last seed steps) b → IsFirstBreak p setup (actors_drawn last seed b.step) b
unfolding drawn
drawn_breaks p setup last seed steps b is =
    let within = get-within (actors_drawn last seed steps) is.place b.actor is.actor in
    let few : b.step ≤ steps = omega (arith, within, is.step, length-drawn last steps (seeded seed)) in
    subst (λ l. IsFirstBreak p setup l b) (sym (fewer-drawn last b.step steps (seeded seed) few)) (first_steps_break p setup (actors_drawn last seed steps) b is)
