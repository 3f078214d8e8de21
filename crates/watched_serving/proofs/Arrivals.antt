-- The tries of a late thread to begin.
use Rattle.std.proofs.Common.{◌≡◌, ◌≢◌, ℕ, suc, ◌+◌, ◌*◌, ◌/◌, ◌%◌, min, ◌≤◌, inl, Bool, true, false, Some, List, [], ◌∷◌, length, refl, sym, ap, subst, ◌∙◌, arith}
use Rattle.std.proofs.lemmas.Grind.{div_ceil_times}
use Rattle.pools.specs.Heap.{Setup}
use Rattle.colours.specs.Colours.{done}
use Rattle.colours.specs.Steps.{Step, ReadPostedFirst, EnterStage, ReadPostedAgain, StoreStage}
use Rattle.colours.specs.Mutator.{Phase, Ready, Absent, Arriving, Entering, Leaving, phase_of, phase_after, stage_of, MayFollow}
use Rattle.lemmas.specs.Numbers.{test_yes, test_no}
use Rattle.runs.specs.Machine.{Machine}
use Rattle.runs.specs.Moves.{Move, StoresStage, ReadsPostedFirst, EntersStage, ReadsPostedAgain, step_of, steps_of, state_after, ends_call, IsOfTry, IsShare}
use Rattle.runs.specs.RealThreads.{BringsNoBirth, HasNoBirths, Left, absent}
use Rattle.heap_words.specs.Tokens.{Shared}
use Rattle.heap_table.specs.Holders.{Holder, MayCall, MayBegin, IsNow, with_log}
use Rattle.heap_table.specs.Begins.{Begins}
use Rattle.watched_serving.specs.Serving.{MayBeServed, MayCallFirst}
use Rattle.watched_serving.specs.Tries.{HasTried}
use Rattle.serving.specs.Endings.{IsAbsentAfter}
use Rattle.watched_serving.specs.declared.watching.WatchedEnd.{WatchedEnd}
use Rattle.watched_serving.specs.Endings.{EndsSo}

-- the thread's moves are steps of tries so far, at least this number, and this is its state
record Tries (s : Setup) (m : Machine) (t : ℕ) (start : m.State) (moves : ℕ) (log : List Step) (phase : Phase) : Type 0 where
  share : List Move
  asked : IsShare s m t start share
  no_births : HasNoBirths share
  steps : steps_of share ≡ log
  leads_to : state_after s m t start share ≡ start
  stands : phase_of s t log ≡ phase
  long : moves ≤ length share

module _ (s : Setup) (m : Machine) (t : ℕ) (start : m.State) where
  -- one step more of a try
  one_step : (moves : ℕ) (log : List Step) (phase : Phase) → Tries s m t start moves log phase → (move : Move) (step : Step) → step_of move ≡ Some step → MayFollow s (stage_of log) phase step → IsOfTry phase move
      → BringsNoBirth move → (after : Phase) → phase_after s (stage_of log) phase step ≡ after → ends_call move after ≡ false → Tries s m t start (suc moves) (step ∷ log) after
  one_step moves log phase k move step is follows of_try no_birth after leads on = record {
    share = move ∷ k.share;
    asked = (k.asked, (rw (is, k.steps, k.stands) follows, inl (rw (k.steps, k.stands) of_try)));
    no_births = (k.no_births, no_birth);
    steps = steps_are;
    leads_to = rw (steps_are, stands_then, on, k.leads_to) refl;
    stands = stands_then;
    long = let l = k.long in omega (arith, l);
  }
    where
      steps_are : steps_of (move ∷ k.share) ≡ step ∷ log
      steps_are = rw (is, k.steps) refl

      stands_then : phase_of s t (step ∷ log) ≡ after
      stands_then = rw k.stands leads

  module _ (moves : ℕ) (log : List Step) (k : Tries s m t start moves log Absent) (posted : ℕ) where
    entered : Tries s m t start (suc (suc moves)) (EnterStage posted ∷ ReadPostedFirst posted ∷ log) Entering
    entered = one_step (suc moves) (ReadPostedFirst posted ∷ log) (Arriving posted)
        (one_step moves log Absent k (ReadsPostedFirst posted) (ReadPostedFirst posted) refl tt tt tt (Arriving posted) refl refl)
        (EntersStage posted) (EnterStage posted) refl refl tt tt Entering refl refl

    -- the posted stage was found again
    arrives : Tries s m t start (suc (suc (suc moves))) (ReadPostedAgain posted ∷ EnterStage posted ∷ ReadPostedFirst posted ∷ log) Ready
    arrives = one_step (suc (suc moves)) (EnterStage posted ∷ ReadPostedFirst posted ∷ log) Entering entered
        (ReadsPostedAgain posted) (ReadPostedAgain posted) refl tt tt tt Ready (rw (test_yes posted posted refl) refl) refl

    -- another one was found, and the thread has left
    leaves : (found : ℕ) → found ≢ posted
        → Tries s m t start (suc (suc (suc (suc moves)))) (StoreStage done [] ∷ ReadPostedAgain found ∷ EnterStage posted ∷ ReadPostedFirst posted ∷ log) Absent
    leaves found other = one_step (suc (suc (suc moves))) (ReadPostedAgain found ∷ EnterStage posted ∷ ReadPostedFirst posted ∷ log) Leaving
        (one_step (suc (suc moves)) (EnterStage posted ∷ ReadPostedFirst posted ∷ log) Entering entered
        (ReadsPostedAgain found) (ReadPostedAgain found) refl tt tt tt Leaving (rw (test_no found posted other) refl) refl)
        (StoresStage done []) (StoreStage done []) refl (refl, refl) (refl, refl) tt Absent refl refl

-- this number of tries uses up the limit
pub all_used : (limit tries count : ℕ) → count ≡ limit / 4 + min 1 (limit % 4) → count ≤ tries → limit ≤ tries * 4
all_used limit tries count is all =
    let enough : limit ≤ count * 4 = subst (λ (n : ℕ). limit ≤ n * 4) (sym is) (div_ceil_times limit 4 (omega arith)).0 in
    omega (arith, enough, all)

-- ---- before the first step

module _ (m : Machine) (Fits : Setup → m.State → Type 0) (heap : Shared) (token : Holder) (start : m.State) where
  pub tries_first : (late : Bool) → MayBeServed m Fits heap token late start → late ≡ true → HasTried m Fits heap token start 0 token
  tries_first true k e = record { token_is = refl; absent = k.starts; fits = k.fits; real = k.begun; long = omega arith }
  tries_first false k e = cc

  pub calls_first : (late : Bool) → MayBeServed m Fits heap token late start → late ≡ false → MayCallFirst m Fits heap token start 0
  calls_first true k e = cc
  calls_first false k e = record { ready = k.starts; fits = k.fits; serves = record { real = k.begun; long = omega arith } }

-- ---- after a try

module _ (m : Machine) (Fits : Setup → m.State → Type 0) (heap : Shared) (first : Holder) (start : m.State) (moves : ℕ) (token : Holder) (k : HasTried m Fits heap first start moves token) where
  so_far : Tries token.setup m token.thread start moves token.log Absent
  so_far = record {
    share = k.real.share;
    asked = k.real.asked;
    no_births = k.real.no_births;
    steps = k.real.steps;
    leads_to = k.real.leads_to;
    stands = k.absent.absent;
    long = k.long;
  }

  -- the token is still the first one's
  same_token : (after : Holder) → IsNow token after.log after → IsNow first after.log after
  same_token after now = now ∙ ap (λ (x : Holder). with_log x after.log) k.token_is

  -- what a thread leaves that began so
  pub left_first : (after : Holder) → IsNow token after.log after → (log : List Step) (state : m.State) → state ≡ start → Left after.setup m after.thread state log → Left first.setup m first.thread start log
  left_first after now log state same left = subst (λ (x : m.State). Left first.setup m first.thread x log) same (subst (λ (x : Holder). Left x.setup m x.thread state log) (same_token after now) left)

  pub ends_first : (after : Holder) → IsNow token after.log after → (limit : ℕ) (outcome : WatchedEnd) (last : m.State) (log : List Step) (state : m.State) → state ≡ start
      → EndsSo after.setup m after.thread state limit outcome last log → EndsSo first.setup m first.thread start limit outcome last log
  ends_first after now limit outcome last log state same end = subst (λ (x : m.State). EndsSo first.setup m first.thread x limit outcome last log) same
      (subst (λ (x : Holder). EndsSo x.setup m x.thread state limit outcome last log) (same_token after now) end)

  module _ (after : Holder) (now : IsNow token after.log after) where
    -- the try was in vain
    pub tried : (begun : Bool) → begun ≡ false → (begun ≡ false → MayBegin heap after) → Begins token.log begun after.log → (more : ℕ) → more ≡ moves + 4 → HasTried m Fits heap first start more after
    tried true e may b more is = cc
    tried false e may b more is = subst (λ (n : ℕ). HasTried m Fits heap first start n after) (let four : suc (suc (suc (suc moves))) ≡ more = omega (arith, is) in four)
        (subst (HasTried m Fits heap first start (suc (suc (suc (suc moves))))) (sym whole) record {
          token_is = ap (λ (x : Holder). with_log x log) k.token_is;
          absent = subst (MayBegin heap) whole (may refl);
          fits = k.fits;
          real = record { share = t.share; asked = t.asked; no_births = t.no_births; steps = t.steps; leads_to = t.leads_to };
          long = t.long;
        })
      where
        log : List Step
        log = StoreStage done [] ∷ ReadPostedAgain b.1.0 ∷ EnterStage b.0 ∷ ReadPostedFirst b.0 ∷ token.log

        whole : after ≡ with_log token log
        whole = now ∙ ap (with_log token) b.1.2

        t : Tries token.setup m token.thread start (suc (suc (suc (suc moves)))) log Absent
        t = leaves token.setup m token.thread start moves token.log so_far b.0 b.1.0 b.1.1

    -- the thread has begun
    pub arrived : (begun : Bool) → begun ≡ true → (begun ≡ true → MayCall heap after) → Begins token.log begun after.log → (more : ℕ) → more ≡ moves + 3 → (state : m.State) → state ≡ start → MayCallFirst m Fits heap after state more
    arrived false e call b more is state same = cc
    arrived true e call b more is state same = subst (λ (x : m.State). MayCallFirst m Fits heap after x more) (sym same) (subst (λ (n : ℕ). MayCallFirst m Fits heap after start n) (let three : suc (suc (suc moves)) ≡ more = omega (arith, is) in three)
        (subst (λ (x : Holder). MayCallFirst m Fits heap x start (suc (suc (suc moves)))) (sym whole) record {
          ready = subst (MayCall heap) whole (call refl);
          fits = k.fits;
          serves = record {
            real = record { share = t.share; asked = t.asked; no_births = t.no_births; steps = t.steps; leads_to = t.leads_to };
            long = t.long;
          };
        }))
      where
        log : List Step
        log = ReadPostedAgain b.0 ∷ EnterStage b.0 ∷ ReadPostedFirst b.0 ∷ token.log

        whole : after ≡ with_log token log
        whole = now ∙ ap (with_log token) b.1

        t : Tries token.setup m token.thread start (suc (suc (suc moves))) log Ready
        t = arrives token.setup m token.thread start moves token.log so_far b.0

  -- a thread that never began
  pub left_absent : Left first.setup m first.thread start token.log
  left_absent = subst (λ (x : Holder). Left x.setup m x.thread start token.log) k.token_is (absent token.log start k.real k.absent.absent)

  pub never_began : (limit : ℕ) → limit ≤ moves → IsAbsentAfter first.setup m first.thread start limit token.log
  never_began limit enough = subst (λ (x : Holder). IsAbsentAfter x.setup m x.thread start limit token.log) k.token_is
      record { real = k.real; long = let l = k.long in omega (arith, l, enough); absent = k.absent.absent }
