-- The numbers that a seed draws, one by one, as actors.
use Rattle.std.proofs.Common.{◌≡◌, ◌<◌, ◌≤◌, ◌+◌, ◌-◌, ◌^◌, ℕ, suc, List, [], ◌∷◌, ◌++◌, map, length, replicate, reverse, refl, sym, ap, subst, ◌∙◌, arith, append_assoc, length-append, add-zero, Some, None}
use Rattle.std.specs.Prelude.{sum}
use Rattle.std.specs.List.{AllByRecursion}
use Rattle.std.proofs.lemmas.List.{map-append, length-reverse}
use Rattle.std.proofs.lemmas.List.Sums.{sum_by_push}
use Rattle.moves.specs.Runs.{IsActor}
use Rattle.rand_core.specs.Stream.{Stream}
use Rattle.replay.specs.Draws.{one_draw, draws_from, seeded, drawn}
use Rattle.layout.specs.Layouts.{LaidOut}
use Rattle.trace_text.specs.Traces.{step_sum}
use Rattle.moves.specs.declared.actor.Actor.{Actor}
use Rattle.trace_text.specs.declared.trace.Setup.{Setup}
use Rattle.trace_text.specs.declared.trace.Steps.{Steps}
use Rattle.replay.specs.declared.watch.Watch.{Watch}
use Rattle.replay.specs.declared.outcome.Break.{Break}
use Rattle.replay.specs.Lists.{actors_of, IsBrokenAt, IsSoundList, IsFirstBreak}
use Rattle.replay.specs.Soaks.{actor_drawn, actors_drawn}
use Rattle.replay.specs.Watched.{IsWatched, IsWatchedOn, HasRoomFor}
use Rattle.replay.proofs.Lists.{reverse-cons, unbroken_at}

-- ---- numbers

-- none is drawn so far
pub drawn-none : (last seed steps : ℕ) (s : Stream) → s ≡ seeded seed → actors_drawn last seed steps ≡ map (actor_drawn last) (draws_from last (steps - 0) s)
unfolding drawn
drawn-none last seed steps s is =
    let all : steps ≡ steps - 0 = omega arith in
    ap (λ (t : Stream). map (actor_drawn last) (draws_from last steps t)) (sym is) ∙ ap (λ n. map (actor_drawn last) (draws_from last n s)) all

-- one more is drawn
pub drawn-more : (last steps i x : ℕ) (s t : Stream) → i < steps → (x, t) ≡ one_draw last s
    → map (actor_drawn last) (draws_from last (steps - i) s) ≡ actor_drawn last x ∷ map (actor_drawn last) (draws_from last (steps - (i + 1)) t)
unfolding draws_from
drawn-more last steps i x s t under is =
    let next : steps - i ≡ suc (steps - (i + 1)) = omega arith in
    let x_is : (one_draw last s).0 ≡ x = ap (λ (p : ℕ × Stream). p.0) (sym is) in
    let t_is : (one_draw last s).1 ≡ t = ap (λ (p : ℕ × Stream). p.1) (sym is) in
    ap (λ n. map (actor_drawn last) (draws_from last n s)) next
    ∙ ap (λ (y : ℕ). actor_drawn last y ∷ map (actor_drawn last) (draws_from last (steps - (i + 1)) (one_draw last s).1)) x_is
    ∙ ap (λ (u : Stream). actor_drawn last x ∷ map (actor_drawn last) (draws_from last (steps - (i + 1)) u)) t_is

-- all are drawn
pub drawn-all : (last steps i : ℕ) (s : Stream) → steps ≤ i → map (actor_drawn last) (draws_from last (steps - i) s) ≡ []
unfolding draws_from
drawn-all last steps i s over =
    let none : steps - i ≡ 0 = omega arith in
    ap (λ n. map (actor_drawn last) (draws_from last n s)) none

-- ---- steps of a trace

-- with one step more
actors_of-push : (steps : List Steps) (actor : Actor) → actors_of (steps ++ record { actor = actor; count = 1 } ∷ []) ≡ actors_of steps ++ actor ∷ []
actors_of-push [] actor = refl
actors_of-push (s ∷ steps) actor = ap (λ l. replicate s.count s.actor ++ l) (actors_of-push steps actor) ∙ sym (append_assoc (replicate s.count s.actor) (actors_of steps) (actor ∷ []))

-- the list grows by one step
pub steps-more : (all : List Actor) (done : List Steps) (actor : Actor) (a : Actor) (left left' : List Actor) → all ≡ actors_of done ++ left → left ≡ a ∷ left' → actor ≡ a
    → all ≡ actors_of (done ++ record { actor = actor; count = 1 } ∷ []) ++ left'
steps-more all done actor a left left' is next same =
    is ∙ ap (λ l. actors_of done ++ l) (next ∙ ap (λ (b : Actor). b ∷ left') (sym same)) ∙ sym (append_assoc (actors_of done) (actor ∷ []) left') ∙ ap (λ l. l ++ left') (sym (actors_of-push done actor))

-- its actors are among the threads and the collector
pub actors-more : (threads : ℕ) (done : List Steps) (s : Steps) → AllByRecursion (λ (s : Steps). IsActor threads s.actor) done → IsActor threads s.actor
    → AllByRecursion (λ (s : Steps). IsActor threads s.actor) (done ++ s ∷ [])
actors-more threads [] s all is = (is, tt)
actors-more threads (first ∷ done) s all is = (all.0, actors-more threads done s all.1 is)

-- and there is one step more
pub sum-more : (done : List Steps) (actor : Actor) → step_sum (done ++ record { actor = actor; count = 1 } ∷ []) ≡ step_sum done + 1
sum-more done actor =
    ap sum (map-append (λ (s : Steps). s.count) done (record { actor = actor; count = 1 } ∷ [])) ∙ sum_by_push (λ x. x) (map (λ (s : Steps). s.count) done) 1

-- ---- a world that makes them

-- it is after as many steps as were drawn
pub record IsDrawing (p : LaidOut) (setup : Setup) (all left : List Actor) (made : ℕ) (w : Watch) : Type 0 where
  pub before : List Actor
  pub is : IsWatched p setup before w
  pub lists : all ≡ reverse before ++ left
  pub count : length before ≡ made

-- one step more
pub drawing-more : (p : LaidOut) (setup : Setup) (all left left' : List Actor) (made : ℕ) (actor : Actor) (w v : Watch) (d : IsDrawing p setup all left made w) → left ≡ actor ∷ left' → IsWatched p setup (actor ∷ d.before) v
    → IsDrawing p setup all left' (made + 1) v
drawing-more p setup all left left' made actor w v d next is = record {
  before = actor ∷ d.before;
  is = is;
  lists = d.lists ∙ ap (λ l. reverse d.before ++ l) next ∙ sym (reverse-cons actor d.before left');
  count = omega (arith, d.count);
}

-- there is room for one more
pub drawing-room : (p : LaidOut) (setup : Setup) (all left : List Actor) (made : ℕ) (w : Watch) → IsDrawing p setup all left made w → made < 2 ^ 32 → HasRoomFor 1 w
drawing-room p setup all left made w d few = (p, setup, d.before, d.is, omega (arith, d.count, few))

-- an actor of the setup is one of the world
pub drawing-actor : (p : LaidOut) (setup : Setup) (all left : List Actor) (made threads : ℕ) (actor : Actor) (w : Watch) → IsDrawing p setup all left made w → threads ≡ length setup.starts → IsActor threads actor
    → IsActor (length w.world.setup.starts) actor
drawing-actor p setup all left made threads actor w d count is = subst (λ n. IsActor n actor) (count ∙ ap (λ (begun : Setup). length begun.starts) (sym d.is.setup_is)) is

-- the actor that was drawn made its step
pub seed-goes-on : (p : LaidOut) (setup : Setup) (all : List Actor) (last n steps i x : ℕ) (s t : Stream) (actor : Actor) (w v : Watch) → last ≡ n → i < steps → (x, t) ≡ one_draw last s → actor ≡ actor_drawn last x
    → IsDrawing p setup all (map (actor_drawn n) (draws_from n (steps - i) s)) i w
    → ((q : LaidOut) (begun : Setup) (before : List Actor) → IsWatched q begun before w → IsWatchedOn q begun before (actor ∷ []) v None)
    → IsDrawing p setup all (map (actor_drawn n) (draws_from n (steps - (i + 1)) t)) (i + 1) v
seed-goes-on p setup all last n steps i x s t actor w v same under drew is d made =
    let drew_n : (x, t) ≡ one_draw n s = subst (λ m. (x, t) ≡ one_draw m s) same drew in
    let is_n : actor ≡ actor_drawn n x = subst (λ m. actor ≡ actor_drawn m x) same is in
    let left' = map (actor_drawn n) (draws_from n (steps - (i + 1)) t) in
    drawing-more p setup all (map (actor_drawn n) (draws_from n (steps - i) s)) left' i actor w v d
    (drawn-more n steps i x s t under drew_n ∙ ap (λ (a : Actor). a ∷ left') (sym is_n)) (made p setup d.before d.is)

-- the actor that was drawn broke the run
pub seed-breaks : (p : LaidOut) (setup : Setup) (all : List Actor) (last n steps i x : ℕ) (s t : Stream) (actor : Actor) (w v : Watch) (b : Break) → last ≡ n → i < steps → (x, t) ≡ one_draw last s → actor ≡ actor_drawn last x
    → IsDrawing p setup all (map (actor_drawn n) (draws_from n (steps - i) s)) i w
    → ((q : LaidOut) (begun : Setup) (before : List Actor) → IsWatched q begun before w → IsWatchedOn q begun before (actor ∷ []) v (Some b))
    → IsFirstBreak p setup all b
seed-breaks p setup all last n steps i x s t actor w v b same under drew is d made =
    let drew_n : (x, t) ≡ one_draw n s = subst (λ m. (x, t) ≡ one_draw m s) same drew in
    let is_n : actor ≡ actor_drawn n x = subst (λ m. actor ≡ actor_drawn m x) same is in
    let left' = map (actor_drawn n) (draws_from n (steps - (i + 1)) t) in
    let next = drawn-more n steps i x s t under drew_n ∙ ap (λ (a : Actor). a ∷ left') (sym is_n) in
    subst (λ l. IsFirstBreak p setup l b) (ap (λ l. reverse d.before ++ l) (sym next) ∙ sym d.lists) (made p setup d.before d.is left')

-- all actors that were drawn made their steps
pub seed-sound : (p : LaidOut) (setup : Setup) (all : List Actor) (n steps i : ℕ) (s : Stream) (w : Watch) → steps ≤ i → IsDrawing p setup all (map (actor_drawn n) (draws_from n (steps - i) s)) i w → IsSoundList p setup all
seed-sound p setup all n steps i s w over d k few =
    let whole : all ≡ reverse d.before ++ [] = d.lists ∙ ap (λ l. reverse d.before ++ l) (drawn-all n steps i s over) in
    let count : length all ≡ length d.before = ap length whole ∙ length-append (reverse d.before) [] ∙ add-zero (length (reverse d.before)) ∙ length-reverse d.before in
    subst (λ l. ¬ IsBrokenAt p setup l k) (sym whole) (unbroken_at p setup d.before [] k d.is.unbroken (omega (arith, few, count)))
