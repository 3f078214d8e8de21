-- The steps of a trace, some of an actor after others.
use Rattle.std.proofs.Common.{◌≡◌, ◌<◌, ◌+◌, ℕ, zero, suc, List, [], ◌∷◌, ◌++◌, length, map, reverse, replicate, take, drop, Some, None, refl, sym, ap, subst, ◌∙◌, arith, append_assoc, length-append, add-one, get_or}
use Rattle.std.specs.List.{AllByRecursion}
use Rattle.std.proofs.lemmas.List.{append-nil, reverse-append, reverse-reverse, length-replicate, length-reverse}
use Rattle.std.proofs.lemmas.List.Sums.{sum_by-cons}
use Rattle.moves.specs.Runs.{IsActor}
use Rattle.layout.specs.Layouts.{LaidOut}
use Rattle.runs.specs.Causes.{shows_broken}
use Rattle.replay.specs.Runs.{program_machine, heap_of}
use Rattle.trace_text.specs.Traces.{IsTraceOf, step_sum}
use Rattle.trace_text.specs.declared.trace.Setup.{Setup}
use Rattle.trace_text.specs.declared.trace.Steps.{Steps}
use Rattle.trace_text.specs.declared.trace.Trace.{Trace}
use Rattle.moves.specs.declared.actor.Actor.{Actor}
use Rattle.program_runner.specs.Setups.{starts_of, IsSetupOf, IsSafeSetup}
use Rattle.replay.specs.declared.outcome.Break.{Break}
use Rattle.replay.specs.declared.watch.Watch.{Watch}
use Rattle.replay.specs.Lists.{actors_of, IsFirstBreak, cause_in, run_at}
use Rattle.replay.specs.Watched.{IsWatched, IsWatchedOn, HasRoomFor}

-- ---- lists

-- a list at one of its places
split_at : {A : Type 0} (xs : List A) (i : ℕ) (d : A) → i < length xs → xs ≡ take i xs ++ (get_or xs i d ∷ drop (suc i) xs)
split_at [] i d few = absurd (omega (arith, few))
split_at (x ∷ xs) zero d few = refl
split_at (x ∷ xs) (suc i) d few = ap (λ l. x ∷ l) (split_at xs i d (omega (arith, few)))

-- its first ones with that one more
take-more : {A : Type 0} (xs : List A) (i : ℕ) (d : A) → i < length xs → take (suc i) xs ≡ take i xs ++ (get_or xs i d ∷ [])
take-more [] i d few = absurd (omega (arith, few))
take-more (x ∷ xs) zero d few = refl
take-more (x ∷ xs) (suc i) d few = ap (λ l. x ∷ l) (take-more xs i d (omega (arith, few)))

-- whatever is given for a place past its end
get_or-any : {A : Type 0} (xs : List A) (i : ℕ) (d e : A) → i < length xs → get_or xs i d ≡ get_or xs i e
get_or-any [] i d e few = absurd (omega (arith, few))
get_or-any (x ∷ xs) zero d e few = refl
get_or-any (x ∷ xs) (suc i) d e few = get_or-any xs i d e (omega (arith, few))

-- an item of an equal list
pub same_item : {A : Type 0} (xs ys : List A) (i : ℕ) (d : A) → xs ≡ ys → i < length ys → get_or ys i (get_or xs i d) ≡ get_or xs i d
same_item xs ys i d same few = get_or-any ys i (get_or xs i d) d few ∙ ap (λ l. get_or l i d) (sym same)

-- what is true of all is true of that one
all-at : {A : Type 0} (P : A → Type 0) (xs : List A) (i : ℕ) (d : A) → AllByRecursion P xs → i < length xs → P (get_or xs i d)
all-at P [] i d all few = absurd (omega (arith, few))
all-at P (x ∷ xs) zero d all few = all.0
all-at P (x ∷ xs) (suc i) d all few = all-at P xs i d all.1 (omega (arith, few))

-- ---- the actors of steps

-- of some steps and others
actors_of-append : (xs ys : List Steps) → actors_of (xs ++ ys) ≡ actors_of xs ++ actors_of ys
actors_of-append [] ys = refl
actors_of-append (s ∷ xs) ys = ap (λ l. replicate s.count s.actor ++ l) (actors_of-append xs ys) ∙ sym (append_assoc (replicate s.count s.actor) (actors_of xs) (actors_of ys))

-- of all steps, at one of their places
actors-split : (xs : List Steps) (i : ℕ) (s : Steps) → i < length xs → get_or xs i s ≡ s → actors_of xs ≡ actors_of (take i xs) ++ (replicate s.count s.actor ++ actors_of (drop (suc i) xs))
actors-split xs i s few is =
    ap actors_of (split_at xs i s few) ∙ ap (λ (x : Steps). actors_of (take i xs ++ (x ∷ drop (suc i) xs))) is ∙ actors_of-append (take i xs) (s ∷ drop (suc i) xs)

-- of the first steps and one more
actors-take : (xs : List Steps) (i : ℕ) (s : Steps) → i < length xs → get_or xs i s ≡ s → actors_of (take (suc i) xs) ≡ actors_of (take i xs) ++ replicate s.count s.actor
actors-take xs i s few is =
    ap actors_of (take-more xs i s few) ∙ ap (λ (x : Steps). actors_of (take i xs ++ (x ∷ []))) is ∙ actors_of-append (take i xs) (s ∷ []) ∙ ap (λ l. actors_of (take i xs) ++ l) (append-nil (replicate s.count s.actor))

-- how many they are
length-actors : (xs : List Steps) → length (actors_of xs) ≡ step_sum xs
length-actors [] = refl
length-actors (s ∷ xs) =
    length-append (replicate s.count s.actor) (actors_of xs) ∙ ap (λ n. n + length (actors_of xs)) (length-replicate s.count s.actor) ∙ ap (λ n. s.count + n) (length-actors xs)
    ∙ sym (sum_by-cons (λ (x : ℕ). x) s.count (map (λ (s : Steps). s.count) xs))

-- ---- a world that makes them

-- the actor of these steps is one of the world's
pub steps-actor : (p : LaidOut) (trace : Trace) (i : ℕ) (s : Steps) (before : List Actor) (w : Watch) → IsTraceOf p trace → IsWatched p trace.setup before w → i < length trace.steps → get_or trace.steps i s ≡ s
    → IsActor (length w.world.setup.starts) s.actor
steps-actor p trace i s before w is watched few same =
    subst (λ (begun : Setup). IsActor (length begun.starts) s.actor) (sym watched.setup_is)
    (subst (λ (x : Steps). IsActor (length trace.setup.starts) x.actor) same (all-at (λ (s : Steps). IsActor (length trace.setup.starts) s.actor) trace.steps i s is.actors few))

-- there is room for them
pub steps-room : (p : LaidOut) (trace : Trace) (i : ℕ) (s : Steps) (w : Watch) → IsTraceOf p trace → IsWatched p trace.setup (reverse (actors_of (take i trace.steps))) w → i < length trace.steps → get_or trace.steps i s ≡ s
    → HasRoomFor s.count w
steps-room p trace i s w is watched few same =
    let all : length (actors_of trace.steps) ≡ step_sum trace.steps = length-actors trace.steps in
    let parts = ap length (actors-split trace.steps i s few same) in
    let first = length-append (actors_of (take i trace.steps)) (replicate s.count s.actor ++ actors_of (drop (suc i) trace.steps)) in
    let second = length-append (replicate s.count s.actor) (actors_of (drop (suc i) trace.steps)) in
    (p, trace.setup, reverse (actors_of (take i trace.steps)), watched, omega (arith, all, parts, first, second, length-replicate s.count s.actor, length-reverse (actors_of (take i trace.steps)), is.steps))

-- they were made
pub steps-made : (p : LaidOut) (trace : Trace) (i : ℕ) (s : Steps) (w : Watch) → i < length trace.steps → get_or trace.steps i s ≡ s
    → IsWatchedOn p trace.setup (reverse (actors_of (take i trace.steps))) (replicate s.count s.actor) w None → IsWatched p trace.setup (reverse (actors_of (take (i + 1) trace.steps))) w
steps-made p trace i s w few same made =
    let actors = ap (λ n. actors_of (take n trace.steps)) (add-one i) ∙ actors-take trace.steps i s few same in
    subst (λ l. IsWatched p trace.setup l w) (sym (ap reverse actors ∙ reverse-append (actors_of (take i trace.steps)) (replicate s.count s.actor))) made

-- one of them broke the run
pub steps-break : (p : LaidOut) (trace : Trace) (i : ℕ) (s : Steps) (w : Watch) (b : Break) → i < length trace.steps → get_or trace.steps i s ≡ s
    → IsWatchedOn p trace.setup (reverse (actors_of (take i trace.steps))) (replicate s.count s.actor) w (Some b) → IsFirstBreak p trace.setup (actors_of trace.steps) b
steps-break p trace i s w b few same breaks =
    subst (λ l. IsFirstBreak p trace.setup l b)
    (ap (λ l. l ++ (replicate s.count s.actor ++ actors_of (drop (suc i) trace.steps))) (reverse-reverse (actors_of (take i trace.steps))) ∙ sym (actors-split trace.steps i s few same))
    (breaks (actors_of (drop (suc i) trace.steps)))

-- ---- safe setups

-- the setup of a trace is one of its program
pub setup_of_trace : (p : LaidOut) (trace : Trace) → IsTraceOf p trace → IsSetupOf p trace.setup
setup_of_trace p trace is = record { one_each = is.one_each; starts = is.starts; threads = is.threads }

-- no list breaks the run of a safe setup
pub safe_breaks_none : (p : LaidOut) (setup : Setup) (actors : List Actor) (b : Break) → IsSafeSetup p setup → ¬ IsFirstBreak p setup actors b
safe_breaks_none p setup actors b safe breaks =
    safe (run_at p setup actors (suc breaks.place)) breaks.is_run (shows_broken (heap_of p setup) program_machine (starts_of p setup) (run_at p setup actors (suc breaks.place)) (cause_in b.cause) breaks.cause.shows)
