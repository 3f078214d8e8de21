-- The marks of roots, and the answer.
use Rattle.std.proofs.Common.{◌≡◌, ◌≢◌, ℕ, zero, suc, ◌+◌, ◌<◌, ◌==◌, ◌^◌, inl, inr, ⊎_elim, Bool, true, false, List, [], ◌∷◌, ◌++◌, take, get_or, length, reverse, if◌then◌else◌, refl, sym, ap, subst, ◌∙◌, arith, true≢false}
use Rattle.std.specs.Prelude.{IsTrue}
use Rattle.pools.specs.Heap.{Setup}
use Rattle.colours.specs.declared.place.Place.TheVariants.{Posted}
use Rattle.colours.specs.declared.ask.Ask.TheVariants.{Load}
use Rattle.colours.specs.Colours.{done, is_async}
use Rattle.colours.specs.Steps.{Step, Mark, ReadPosted, StoreStage}
use Rattle.colours.specs.Calls.{marks}
use Rattle.colours.specs.Runs.{Event, word_after, IsRun}
use Rattle.colours.specs.Mutator.{Phase, Ready, Answering, non_null, stage_of, phase_of, phase_after, MayFollow, MayUse, Held}
use Rattle.lemmas.specs.Numbers.{test_no}
use Rattle.lemmas.specs.Lists.{IsIn}
use Rattle.heap_table.specs.Holders.{Holder, MayCall, IsNow, with_log}
use Rattle.heap_words.specs.Tokens.{Shared}
use Rattle.colours.specs.Stages.{posted_is, handshake}
use Rattle.heap_rule.specs.View.{Share}
use Rattle.heap_rule.specs.Rule.{Happens}
use Rattle.heap_table.specs.Nexts.{IsNext}
use Rattle.heap_table.specs.Safepoints.{with_marks, before_answer, OwesAnswer, pushed, turned}

pub look_next : (s : Setup) (t : ℕ) (log : List Step) → phase_of s t log ≡ Ready → IsNext s t log ReadPosted (Load Posted)
look_next s t log ready = record {
  there = λ k. tt;
  operation = λ n. refl;
  follows = λ n. subst (λ (p : Phase). MayFollow s (stage_of log) p (ReadPosted n)) (sym ready) tt;
  keeps = λ n. tt;
  says = λ n. refl;
  stays = λ n. refl;
}

-- the posted stage that a step found is low
pub posted_low : (s : Setup) (share : Share) (event : Event) (v : ℕ) (h : Happens s share event) → word_after s h.run Posted ≡ v → v < 2 ^ 62
posted_low s share event v h found = low_of h.run event h.is_run.run_of found
  where
    low_of : (run : List Event) (e : Event) → IsRun s (e ∷ run) → word_after s run Posted ≡ v → v < 2 ^ 62
    low_of run e r found = let low = (handshake s run r.0).low in let is = posted_is s run in omega (arith, low, is, found)

-- marks take nothing from what may be used
pub use_marked : (s : Setup) (roots : List ℕ) (log : List Step) (c : ℕ) → MayUse s log c → MayUse s (with_marks roots log) c
use_marked s [] log c h = h
use_marked s (zero ∷ roots) log c h = use_marked s roots log c h
use_marked s (suc r ∷ roots) log c (inl e) = use_marked s roots (Mark (suc r) ∷ log) c (inl e)
use_marked s (suc r ∷ roots) log c (inr h) = use_marked s roots (Mark (suc r) ∷ log) c (inr (inr (tt, h)))

pub stage_marked : (roots : List ℕ) (log : List Step) → stage_of (with_marks roots log) ≡ stage_of log
stage_marked [] log = refl
stage_marked (zero ∷ roots) log = stage_marked roots log
stage_marked (suc r ∷ roots) log = stage_marked roots (Mark (suc r) ∷ log)

pub phase_marked : (s : Setup) (t posted : ℕ) (roots : List ℕ) (log : List Step) (marked : List ℕ) → phase_of s t log ≡ Answering posted marked → phase_of s t (with_marks roots log) ≡ Answering posted (pushed roots marked)
phase_marked s t posted [] log marked h = h
phase_marked s t posted (zero ∷ roots) log marked h = phase_marked s t posted roots log marked h
phase_marked s t posted (suc r ∷ roots) log marked h = phase_marked s t posted roots (Mark (suc r) ∷ log) (suc r ∷ marked) (rw h refl)

-- ---- one root more

pub marks_more : (roots : List ℕ) (i : ℕ) (log : List Step) → i < length roots → with_marks (take (suc i) roots) log ≡ marks (get_or roots i 0) ++ with_marks (take i roots) log
marks_more [] i log h = absurd (omega arith)
marks_more (r ∷ roots) zero log h = refl
marks_more (r ∷ roots) (suc i) log h = marks_more roots i (marks r ++ log) (omega arith)

among : (roots : List ℕ) (i : ℕ) → i < length roots → IsIn (get_or roots i 0) roots
among [] i h = absurd (omega arith)
among (r ∷ roots) zero h = inl refl
among (r ∷ roots) (suc i) h = inr (among roots i (omega arith))

module _ (m me : Holder) (posted : ℕ) (roots : List ℕ) (i : ℕ) (is : IsNow m (with_marks (take i roots) m.log) me) where
  pub still_running : stage_of m.log ≢ done → stage_of me.log ≢ done
  still_running n e = n (sym (stage_marked (take i roots) m.log) ∙ (ap stage_of (sym (ap (λ (x : Holder). x.log) is)) ∙ e))

  pub may_mark : IsTrue (is_async posted) → phase_of m.setup m.thread m.log ≡ Answering posted [] → get_or roots i 0 ≢ 0 → MayFollow me.setup (stage_of me.log) (phase_of me.setup me.thread me.log) (Mark (get_or roots i 0))
  may_mark async phase n = subst (λ (x : Holder). MayFollow x.setup (stage_of x.log) (phase_of x.setup x.thread x.log) (Mark (get_or roots i 0))) (sym is)
      (subst (λ (p : Phase). MayFollow m.setup (stage_of (with_marks (take i roots) m.log)) p (Mark (get_or roots i 0))) (sym (phase_marked m.setup m.thread posted (take i roots) m.log [] phase)) (async, n))

  pub held_root : i < length roots → ((root : ℕ) → IsIn root roots → MayUse m.setup m.log root) → get_or roots i 0 ≢ 0 → Held me.setup me.log (get_or roots i 0)
  held_root h may n = subst (λ (x : Holder). Held x.setup x.log (get_or roots i 0)) (sym is)
      (⊎_elim (λ (z : get_or roots i 0 ≡ 0). absurd (n z)) (λ (k : Held m.setup (with_marks (take i roots) m.log) (get_or roots i 0)). k) (use_marked m.setup (take i roots) m.log (get_or roots i 0) (may (get_or roots i 0) (among roots i h))))

  pub marked_on : (after : Holder) → i < length roots → IsNow me (marks (get_or roots i 0) ++ me.log) after → IsNow m (with_marks (take (i + 1) roots) m.log) after
  marked_on after h e = let one : suc i ≡ i + 1 = omega arith in e ∙ (ap (λ (x : Holder). with_log x (marks (get_or roots i 0) ++ x.log)) is ∙ ap (λ (l : List Step). with_log m l) (sym (marks_more roots i m.log h) ∙ ap (λ (n : ℕ). with_marks (take n roots) m.log) one))

-- ---- the answer

pub answers : (s : Setup) (t posted : ℕ) (roots : List ℕ) (log : List Step) → phase_of s t log ≡ Answering posted [] → MayFollow s (stage_of (before_answer posted roots log)) (phase_of s t (before_answer posted roots log)) (StoreStage posted roots)
answers s t posted roots log h = go (is_async posted) refl
  where
    named : reverse (pushed roots []) ≡ non_null roots
    named = turned roots []

    go : (b : Bool) → is_async posted ≡ b → MayFollow s (stage_of (if b then with_marks roots log else log)) (phase_of s t (if b then with_marks roots log else log)) (StoreStage posted roots)
    go true e = subst (λ (p : Phase). MayFollow s (stage_of (with_marks roots log)) p (StoreStage posted roots)) (sym (phase_marked s t posted roots log [] h)) (refl, λ x. named)
    go false e = subst (λ (p : Phase). MayFollow s (stage_of log) p (StoreStage posted roots)) (sym h) (refl, λ x. absurd (true≢false (sym x ∙ e)))

pub use_before : (s : Setup) (posted : ℕ) (roots : List ℕ) (log : List Step) (c : ℕ) → MayUse s log c → MayUse s (before_answer posted roots log) c
use_before s posted roots log c h = go (is_async posted)
  where
    go : (b : Bool) → MayUse s (if b then with_marks roots log else log) c
    go true = use_marked s roots log c h
    go false = h

pub answered : (s : Setup) (t posted : ℕ) (roots : List ℕ) (log : List Step) → phase_of s t log ≡ Answering posted [] → posted < 2 ^ 62 → phase_of s t (StoreStage posted roots ∷ before_answer posted roots log) ≡ Ready
answered s t posted roots log h low = go (is_async posted)
  where
    other : (posted == done) ≡ false
    other = test_no posted done (omega (arith, low))

    go : (b : Bool) → phase_after s (stage_of (if b then with_marks roots log else log)) (phase_of s t (if b then with_marks roots log else log)) (StoreStage posted roots) ≡ Ready
    go true = rw (phase_marked s t posted roots log [] h, other) refl
    go false = rw (h, other) refl

module _ (heap : Shared) (m prepared after : Holder) (posted : ℕ) (roots : List ℕ) (owes : OwesAnswer heap m posted) (prepare : IsNow m (before_answer posted roots m.log) prepared) where
  pub may_answer : MayFollow prepared.setup (stage_of prepared.log) (phase_of prepared.setup prepared.thread prepared.log) (StoreStage posted roots)
  may_answer = subst (λ (x : Holder). MayFollow x.setup (stage_of x.log) (phase_of x.setup x.thread x.log) (StoreStage posted roots)) (sym prepare) (answers m.setup m.thread posted roots m.log owes.phase)

  pub roots_may : ((root : ℕ) → IsIn root roots → MayUse m.setup m.log root) → (root : ℕ) → IsIn root roots → MayUse prepared.setup prepared.log root
  roots_may h root a = subst (λ (x : Holder). MayUse x.setup x.log root) (sym prepare) (use_before m.setup posted roots m.log root (h root a))

  pub has_answered : IsNow prepared (StoreStage posted roots ∷ prepared.log) after → MayCall heap after
  has_answered e = record {
    of = record { table = ap (λ (x : Holder). x.table) all ∙ owes.of.table; setup = ap (λ (x : Holder). x.setup) all ∙ owes.of.setup };
    ready = subst (λ (x : Holder). phase_of x.setup x.thread x.log ≡ Ready) (sym all) (answered m.setup m.thread posted roots m.log owes.phase owes.low);
    running = λ d. let is : posted ≡ done = ap (λ (x : Holder). stage_of x.log) (sym all) ∙ d in let low = owes.low in omega (arith, is, low);
  }
    where
      all : after ≡ with_log m (StoreStage posted roots ∷ before_answer posted roots m.log)
      all = e ∙ ap (λ (x : Holder). with_log x (StoreStage posted roots ∷ x.log)) prepare
