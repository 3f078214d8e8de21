-- What a served thread keeps from call to call.
use Rattle.std.proofs.Common.{◌≡◌, ℕ, suc, ◌+◌, ◌≤◌, Some, List, [], ◌∷◌, sym, ap, subst, ◌∙◌, arith}
use Rattle.pools.specs.Heap.{Setup}
use Rattle.colours.specs.Colours.{done}
use Rattle.colours.specs.Steps.{Step, StoreStage}
use Rattle.runs.specs.Machine.{Machine, Answered, End}
use Rattle.runs.specs.RealThreads.{IsWholeShare, Left, whole}
use Rattle.heap_words.specs.Tokens.{Shared}
use Rattle.heap_table.specs.Holders.{Holder, MayCall, IsNow, with_log}
use Rattle.watched_serving.specs.Serving.{Serves, WentOn, StaysReady, HaltsSo, end_by}
use Rattle.serving.specs.declared.serving.ServingEnd.TheVariants.{Ended}
use Rattle.serving.specs.Endings.{IsFinishedAfter}
use Rattle.watched_serving.specs.declared.breach.Breach.{Breach}
use Rattle.watched_serving.specs.declared.breach.Halt.{Halt}
use Rattle.watched_serving.specs.declared.breach.Halt.TheVariants.{Broke, Memory}
use Rattle.watched_serving.specs.declared.watching.WatchedEnd.{WatchedEnd}
use Rattle.watched_serving.specs.declared.watching.WatchedEnd.TheVariants as watched
use Rattle.watched_serving.specs.Breaches.{IsBreach}
use Rattle.watched_serving.specs.Endings.{IsBrokenAt, EndsSo}
use Rattle.watched_serving.proofs.Endings.{ended, cut_off}

-- the token is the thread's, the state fits, and the share has as many moves as calls were made
pub record Stands (m : Machine) (Fits : Setup → m.State → Type 0) (heap : Shared) (first : Holder) (start : m.State) (moves : ℕ) (token : Holder) (state : m.State) : Type 0 where
  pub token_is : IsNow first token.log token
  pub ready : MayCall heap token
  pub fits : Fits token.setup state
  pub serves : Serves m start moves token state

module _ (m : Machine) (Fits : Setup → m.State → Type 0) (heap : Shared) (first : Holder) (start : m.State) (moves : ℕ) (token : Holder) (state : m.State) (k : Stands m Fits heap first start moves token state) where
  -- one call more
  pub stands_on : (after : Holder) (next : m.State) → WentOn m Fits heap token state after next → Stands m Fits heap first start (moves + 1) after next
  stands_on after next w = record {
    token_is = w.token ∙ ap (λ (x : Holder). record { table = x.table; setup = x.setup; thread = x.thread; log = after.log }) k.token_is;
    ready = w.ready;
    fits = w.fits;
    serves = let one : suc moves ≡ moves + 1 = omega arith in subst (λ (n : ℕ). Serves m start n after next) one (w.goes start moves k.serves);
  }

  module _ (after : Holder) (finished : IsNow token (StoreStage done [] ∷ token.log) after) where
    log_is : after.log ≡ StoreStage done [] ∷ token.log
    log_is = ap (λ (x : Holder). x.log) finished

    pub stops : (limit : ℕ) → limit ≤ moves → IsFinishedAfter first.setup m first.thread start limit state after.log
    stops limit enough = subst (λ (x : Holder). IsFinishedAfter x.setup m x.thread start limit state after.log) k.token_is
        record { before = token.log; real = k.serves.real; long = let l = k.serves.long in omega arith; finished = log_is }

    -- a thread that asked for its end
    pub ends_whole : m.action state ≡ End → EndsSo first.setup m first.thread start 0 (watched.Kept Ended) state after.log
    ends_whole e = (
      e,
      stops 0 (omega arith),
      subst (λ (l : List Step). IsWholeShare first.setup m first.thread start l (m.after_answer state (Answered (Some done)))) (sym log_is)
          (subst (λ (x : Holder). IsWholeShare x.setup m x.thread start (StoreStage done [] ∷ token.log) (m.after_answer state (Answered (Some done)))) k.token_is (ended m start moves token state k.serves k.ready.ready e)),
    )

    pub left_whole : m.action state ≡ End → Left first.setup m first.thread start after.log
    left_whole e = whole after.log (m.after_answer state (Answered (Some done))) (ends_whole e).2

    -- and one that was stopped
    pub left_cut : Left first.setup m first.thread start after.log
    left_cut = subst (λ (l : List Step). Left first.setup m first.thread start l) (sym log_is)
        (subst (λ (x : Holder). Left x.setup m x.thread start (StoreStage done [] ∷ token.log)) k.token_is (cut_off m start moves token state k.serves k.ready.ready))

  -- where there was no memory the thread is finished too
  module _ (at : Holder) (stays : StaysReady m heap token state at) (after : Holder) (finished : IsNow at (StoreStage done [] ∷ at.log) after) where
    log_then : after.log ≡ StoreStage done [] ∷ at.log
    log_then = ap (λ (x : Holder). x.log) finished

    serves_then : Serves m start moves at stays.reached
    serves_then = stays.serves start moves k.serves

    same_then : IsNow first at.log at
    same_then = stays.token ∙ ap (λ (x : Holder). with_log x at.log) k.token_is

    pub left_without : Left first.setup m first.thread start after.log
    left_without = subst (λ (l : List Step). Left first.setup m first.thread start l) (sym log_then)
        (subst (λ (x : Holder). Left x.setup m x.thread start (StoreStage done [] ∷ at.log)) same_then (cut_off m start moves at stays.reached serves_then stays.ready.ready))

    pub ends_without : (reached : m.State) × IsFinishedAfter first.setup m first.thread start 0 reached after.log
    ends_without = (
      stays.reached,
      subst (λ (x : Holder). IsFinishedAfter x.setup m x.thread start 0 stays.reached after.log) same_then
          record { before = at.log; real = serves_then.real; long = omega arith; finished = log_then },
    )

  -- and where it may not make its call
  module _ (at : Holder) (breach : Breach) (same : at ≡ token) (is : IsBreach token.setup token.log (m.roots state) (m.action state) breach) (after : Holder) (finished : IsNow at (StoreStage done [] ∷ at.log) after) where
    log_broken : after.log ≡ StoreStage done [] ∷ token.log
    log_broken = ap (λ (x : Holder). x.log) finished ∙ ap (λ (x : Holder). StoreStage done [] ∷ x.log) same

    pub left_broken : Left first.setup m first.thread start after.log
    left_broken = subst (λ (l : List Step). Left first.setup m first.thread start l) (sym log_broken)
        (subst (λ (x : Holder). Left x.setup m x.thread start (StoreStage done [] ∷ token.log)) k.token_is (cut_off m start moves token state k.serves k.ready.ready))

    pub ends_broken : IsBrokenAt first.setup m first.thread start breach state after.log
    ends_broken = subst (λ (x : Holder). IsBrokenAt x.setup m x.thread start breach state after.log) k.token_is
        record { before = token.log; real = k.serves.real; breach_is = is; finished = log_broken }

  -- so of a thread that does not go on
  module _ (at : Holder) (halt : Halt) (so : HaltsSo m heap token state halt at) (after : Holder) (finished : IsNow at (StoreStage done [] ∷ at.log) after) where
    pub left_halted : Left first.setup m first.thread start after.log
    left_halted = go halt so
      where
        go : (h : Halt) → HaltsSo m heap token state h at → Left first.setup m first.thread start after.log
        go (Broke breach) so = left_broken at breach so.0 so.1 after finished
        go Memory so = left_without at so after finished

    pub ends_halted : (limit : ℕ) (next : m.State) → next ≡ state → EndsSo first.setup m first.thread start limit (end_by halt) next after.log
    ends_halted limit next same = go halt so
      where
        go : (h : Halt) → HaltsSo m heap token state h at → EndsSo first.setup m first.thread start limit (end_by h) next after.log
        go (Broke breach) so = subst (λ (x : m.State). IsBrokenAt first.setup m first.thread start breach x after.log) (sym same) (ends_broken at breach so.0 so.1 after finished)
        go Memory so = ends_without at so after finished

-- it ends as it is told to
pub told_so : (s : Setup) (m : Machine) (thread : ℕ) (start : m.State) (limit : ℕ) (end told : WatchedEnd) (state : m.State) (log : List Step) → told ≡ end → EndsSo s m thread start limit end state log → EndsSo s m thread start limit told state log
told_so s m thread start limit end told state log same so = subst (λ (e : WatchedEnd). EndsSo s m thread start limit e state log) (sym same) so
