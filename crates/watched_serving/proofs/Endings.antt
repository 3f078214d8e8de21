-- A local step, and the ends of a served thread.
use Rattle.std.proofs.Common.{◌≡◌, ◌≢◌, ℕ, suc, ◌≤◌, ◌^◌, Some, [], ◌∷◌, refl, sym, ap, subst, ◌∙◌, arith}
use Rattle.pools.specs.Heap.{Setup, cells}
use Rattle.colours.specs.Colours.{done}
use Rattle.colours.specs.Steps.{StoreStage}
use Rattle.colours.specs.Mutator.{Ready, Ended, phase_of}
use Rattle.runs.specs.Machine.{WordValue, Action, Machine, Answer, Done, Answered}
use Rattle.runs.specs.Machine as machine
use Rattle.runs.specs.Moves.{StoresStage}
use Rattle.runs.specs.RealThreads.{IsWholeShare, Left, finished}
use Rattle.moves.specs.Kinds.{AnswersByKind, KeepsKinds, MayAnswer}
use Rattle.moves.specs.Calls.{action_of}
use Rattle.moves.specs.declared.call.Call.{Call}
use Rattle.moves.specs.declared.call.Call.TheVariants as call
use Rattle.heap_words.specs.Tokens.{Shared}
use Rattle.heap_table.specs.Holders.{Holder, MayCall}
use Rattle.watched_serving.specs.Serving.{Serves, MayServe, IsServed, WentOn, StaysReady, IsHalted, HaltsSo}
use Rattle.watched_serving.specs.declared.breach.Halt.{Halt}
use Rattle.watched_serving.specs.declared.breach.Halt.TheVariants.{Broke, Memory}
use Rattle.serving.proofs.UnderWay.{Over, last, works}
use Rattle.watched_serving.proofs.UnderWay.{begins, ends}
use Rattle.serving.proofs.ReadServed.{at_most}

pub local_served : (m : Machine) (heap : Shared) (t : Holder) (state : m.State) → MayCall heap t → m.action state ≡ machine.Local → IsServed m heap t state t Done
local_served m heap t state call e = record {
  token = refl;
  ready = call;
  goes = λ start moves v. ends m start (suc moves) t t _ (suc moves) (at_most _) t.log refl
      (works t.setup m t.thread start state machine.Local moves t.log _ (begins m start moves t state v machine.Local call.ready e) tt);
  by_kind = subst (λ (a : Action). AnswersByKind t.setup a Done) (sym e) tt;
}

-- a thread that does not ask for its end asks for something else
pub asks_for_more : (asked : Call) (action : Action) → action_of asked ≡ action → action ≢ machine.End → asked ≡ call.End → ⊥
asks_for_more asked action is not_end e = not_end (sym is ∙ ap action_of e)

-- ---- the answer

-- the thread may be answered so
pub may_answer : (m : Machine) (Fits : Setup → m.State → Type 0) (heap : Shared) (t : Holder) (state : m.State) (after : Holder) (answer : Answer) → MayServe m Fits heap t state → cells heap.setup ≤ 2 ^ 20
    → IsServed m heap t state after answer → MayAnswer t.setup (Fits t.setup) m.action state answer
may_answer m Fits heap t state after answer may few served = record {
  few_cells = let same : cells t.setup ≡ cells heap.setup = ap (λ (s : Setup). cells s) may.ready.of.setup in omega arith;
  fits = may.fits;
  by_kind = served.by_kind;
}

-- the thread goes on with the answer
pub went_on : (m : Machine) (Fits : Setup → m.State → Type 0) (heap : Shared) (t : Holder) (state : m.State) (after : Holder) (answer : Answer) (next : m.State)
    → KeepsKinds t.setup m.action m.after_answer m.roots (Fits t.setup) state → IsServed m heap t state after answer → next ≡ m.after_answer state answer → WentOn m Fits heap t state after next
went_on m Fits heap t state after answer next keeps served is = subst (WentOn m Fits heap t state after) (sym is) record {
  token = served.token;
  ready = served.ready;
  fits = subst (λ (s : Setup). Fits s (m.after_answer state answer)) (sym (ap (λ (x : Holder). x.setup) served.token)) (keeps.goes_on answer served.by_kind);
  goes = served.goes;
}

-- ---- the end

module _ (m : Machine) (start : m.State) (moves : ℕ) (t : Holder) (state : m.State) (v : Serves m start moves t state) (ready : phase_of t.setup t.thread t.log ≡ Ready) where
  -- of a thread that asks for it
  pub ended : m.action state ≡ machine.End → IsWholeShare t.setup m t.thread start (StoreStage done [] ∷ t.log) (m.after_answer state (Answered (Some done)))
  ended e = record {
    share = over.real.share;
    asked = over.real.asked;
    no_births = over.real.no_births;
    steps = over.real.steps;
    leads_to = over.real.leads_to;
    ended = ap (phase_of t.setup t.thread) over.real.steps ∙ rw ready refl;
  }
    where
      over : Over t.setup m t.thread start (m.after_answer state (Answered (Some done))) (suc moves) (StoreStage done [] ∷ t.log)
      over = last t.setup m t.thread start state machine.End moves t.log Ready _ (begins m start moves t state v machine.End ready e)
          (StoresStage done []) (StoreStage done []) refl (refl, refl) (refl, refl) tt Ended refl refl

  -- and of one that is stopped
  pub cut_off : Left t.setup m t.thread start (StoreStage done [] ∷ t.log)
  cut_off = finished t.log state v.real ready

-- a thread that could not take the answer stays at its call
pub stays_at_call : (m : Machine) (heap : Shared) (t : Holder) (state : m.State) (after : Holder) (answer : Answer) → IsServed m heap t state after answer → StaysReady m heap t state after
stays_at_call m heap t state after answer served = record {
  token = served.token;
  ready = served.ready;
  reached = m.after_answer state answer;
  serves = λ start moves v. let then = served.goes start moves v in record { real = then.real; long = let l = then.long in omega arith };
}

-- and one whose call was not made stays before it
pub stays_before : (m : Machine) (Fits : Setup → m.State → Type 0) (heap : Shared) (t : Holder) (state : m.State) (after : Holder) → MayServe m Fits heap t state → after ≡ t → StaysReady m heap t state after
stays_before m Fits heap t state after may same = subst (StaysReady m heap t state) (sym same) record { token = refl; ready = may.ready; reached = state; serves = λ start moves v. v }

-- a call that was not begun
pub not_begun : (m : Machine) (Fits : Setup → m.State → Type 0) (heap : Shared) (t : Holder) (state : m.State) (after : Holder) (halt : Halt) → MayServe m Fits heap t state → after ≡ t
    → IsHalted t.setup t.log (m.roots state) (m.action state) halt → HaltsSo m heap t state halt after
not_begun m Fits heap t state after (Broke breach) may same is = (same, is)
not_begun m Fits heap t state after Memory may same is = stays_before m Fits heap t state after may same

-- and an answer for which there was no memory
pub not_answered : (m : Machine) (heap : Shared) (t : Holder) (state : m.State) (after : Holder) (answer : Answer) (halt : Halt) → IsServed m heap t state after answer → halt ≡ Memory → HaltsSo m heap t state halt after
not_answered m heap t state after answer halt served is = subst (λ (h : Halt). HaltsSo m heap t state h after) (sym is) (stays_at_call m heap t state after answer served)
