-- The thread of a recorded step, and its operation on the words.
use Rattle.std.proofs.Common.{◌≡◌, ◌<◌, ◌^◌, ℕ, List, ◌∷◌, Option, Some, true, false, length, refl, sym, ap, ◌∙◌, subst, arith, IsTrue}
use Rattle.std.specs.Prelude.{slice_get, slice_set}
use Rattle.std.specs.Vec.{with_item}
use Rattle.std.proofs.lemmas.Option.{slice_get_within}
use Rattle.std.proofs.lemmas.List.{length-set}
use Rattle.pools.specs.Heap.{Setup}
use Rattle.colours.specs.declared.place.Place.{Place}
use Rattle.colours.specs.declared.ask.Ask.{Ask}
use Rattle.colours.specs.Steps.{Step, Found, place_of, ask_of}
use Rattle.colours.specs.Mutator.{stage_of, IsDisciplined}
use Rattle.colours.specs.Runs.{Event, ByThread, log_of, turns_of, word_after, ask_in, IsHeapRun}
use Rattle.collector_law.specs.Laws.{EachWordFits}
use Rattle.heap_rule.specs.Rule.{HasPlace}
use Rattle.record_text.specs.declared.steps.ThreadStep.{ThreadStep}
use Rattle.record_text.specs.declared.steps.ThreadStep.TheVariants as said
use Rattle.record_text.specs.Records.{step_with}
use Rattle.run_words.specs.Words.{Words, AreAfter, Extends, word_in}
use Rattle.conform.specs.declared.rule.Rule.{Rule}
use Rattle.conform.specs.declared.rule.Rule.TheVariants as rule
use Rattle.conform.specs.declared.run_check.RunCheck.{RunCheck}
use Rattle.conform.specs.declared.thread_check.CheckedThread.{CheckedThread}
use Rattle.conform.specs.Operations.{is_colouring}
use Rattle.conform.specs.Rules.{ComesNext, AsksOfStep, Asks}
use Rattle.conform.specs.Threads.{IsThreadAt, IsMade}
use Rattle.conform.specs.Checks.{IsCheckAfter}
use Rattle.conform.proofs.Steps.{place_there, may_hold, mark_low, claim_low, is_longer, threads_after}

-- a step that marks or tries is made in a cycle of the machine
colouring_low : (s : Setup) (run : List Event) (t : ℕ) (roots : List ℕ) (step : ThreadStep) → IsHeapRun s run → t < s.threads → ComesNext s t (log_of t run) (step_with roots step) → IsTrue (is_colouring step) → stage_of (log_of t run) < 2 ^ 62
colouring_low s run t roots (said.Mark cell) r lt m is = mark_low s run t cell r.run_of lt m
colouring_low s run t roots (said.Claim cell won) r lt m is = claim_low s run t cell won r.run_of lt m
colouring_low s run t roots _ r lt m is = absurd cc

-- what the rules of the thread ask, the event asks
asked : (r : Rule) (s : Setup) (run : List Event) (t : ℕ) (step : Step) → t < s.threads → ¬ AsksOfStep r s t (log_of t run) step → Asks r s run (ByThread t step) → ⊥
asked rule.NoStep s run t step lt n a = n tt
asked rule.Value s run t step lt n a = n tt
asked r s run t step lt n a = n a

module _ (s : Setup) (run : List Event) (v : RunCheck) (t : ℕ) (x : CheckedThread) (k : IsCheckAfter s run v) (got : slice_get v.threads.items t ≡ Some x) where
  pub within : t < s.threads
  within = let lt = slice_get_within v.threads.items t x got in let l = k.long in omega (arith, lt, l)

  pub thread_here : IsThreadAt s t (log_of t run) x
  thread_here = k.threads t x got

  pub thread_in_plan : IsThreadAt v.plan.now t (log_of t run) x
  thread_in_plan = subst (λ (y : Setup). IsThreadAt y t (log_of t run) x) (sym k.plan) thread_here

  pub thread_in_words : IsThreadAt v.words.heap t (log_of t run) x
  thread_in_words = subst (λ (y : Setup). IsThreadAt y t (log_of t run) x) (sym k.words.heap) thread_here

  -- a rule that the thread's step breaks
  pub not_asked : (r : Rule) (step : Step) → ¬ AsksOfStep r v.plan.now t (log_of t run) step → Asks r s run (ByThread t step) → ⊥
  not_asked r step n = asked r s run t step within (subst (λ (y : Setup). ¬ AsksOfStep r y t (log_of t run) step) k.plan n)

  -- the step's order and discipline
  pub next_here : (step : Step) → ComesNext v.plan.now t (log_of t run) step × IsDisciplined v.plan.now (log_of t run) step → ComesNext s t (log_of t run) step × IsDisciplined s (log_of t run) step
  next_here step n = subst (λ (y : Setup). ComesNext y t (log_of t run) step × IsDisciplined y (log_of t run) step) k.plan n

  pub low_here : (roots : List ℕ) (step : ThreadStep) (stage : ℕ) → stage ≡ x.order.stage → ComesNext s t (log_of t run) (step_with roots step) → IsTrue (is_colouring step) → stage < 2 ^ 62
  low_here roots step stage e m is = subst (λ (n : ℕ). n < 2 ^ 62) (sym (e ∙ thread_here.order.stage)) (colouring_low s run t roots step k.is_run within m is)

  pub ask_here : (step : Step) (stage : ℕ) (ask : Ask) → stage ≡ x.order.stage → ask ≡ ask_of t stage step → ask_in run (ByThread t step) ≡ ask
  ask_here step stage ask e f = sym (f ∙ ap (λ n. ask_of t n step) (e ∙ thread_here.order.stage))

  pub place_here : (step : Step) (ask : Ask) → ask_in run (ByThread t step) ≡ ask → ComesNext s t (log_of t run) step → IsDisciplined s (log_of t run) step → HasPlace v.words.heap (place_of ask)
  place_here step ask e m d = subst (λ (y : Setup). HasPlace y (place_of ask)) (sym k.words.heap)
      (subst (λ (a : Ask). HasPlace s (place_of a)) e (place_there s t (log_of t run) x.holdings step (stage_of (log_of t run)) thread_here.holdings within m d))

  -- the word of the operation holds what the run left there
  pub word_here : (step : Step) (ask : Ask) (p : Place) (n : ℕ) → ask_in run (ByThread t step) ≡ ask → p ≡ place_of ask → HasPlace v.words.heap (place_of ask) → n ≡ word_in v.words p → n ≡ word_after s run (place_of (ask_in run (ByThread t step)))
  word_here step ask p n e f here is = is ∙ (k.words.words p (subst (λ (q : Place). HasPlace s q) (sym f) (subst (λ (y : Setup). HasPlace y (place_of ask)) k.words.heap here)) ∙ ap (word_after s run) (f ∙ ap place_of (sym e)))

  pub made_here : (step : Step) → EachWordFits s run → ComesNext s t (log_of t run) step → IsDisciplined s (log_of t run) step → Found step (word_after s run (place_of (ask_in run (ByThread t step)))) → IsMade s t (log_of t run) step
  made_here step fits m d f = record { next = m; holds = may_hold s run t x.holdings step thread_here.holdings fits m d f }

  pub made_in_words : (step : Step) → IsMade s t (log_of t run) step → IsMade v.words.heap t (log_of t run) step
  made_in_words step made = subst (λ (y : Setup). IsMade y t (log_of t run) step) (sym k.words.heap) made

  pub step_longer : (step : Step) (ask : Ask) (words : Words) (new : CheckedThread) → ask_in run (ByThread t step) ≡ ask → ComesNext s t (log_of t run) step → IsDisciplined s (log_of t run) step
      → Found step (word_after s run (place_of (ask_in run (ByThread t step)))) → Extends ask v.words words → IsThreadAt v.words.heap t (step ∷ log_of t run) new
      → IsCheckAfter s (ByThread t step ∷ run) (record { plan = v.plan; words = words; threads = with_item v.threads t new; collector = v.collector })
  step_longer step ask words new e m d f extends at = record {
    is_run = is_longer s run t step k.is_run within m d f;
    plan = k.plan;
    words = extends s run (ByThread t step) k.words e;
    long = length-set v.threads.items t new ∙ k.long;
    threads = threads_after s run t step v.threads.items new k.threads (subst (λ (y : Setup). IsThreadAt y t (step ∷ log_of t run) new) k.words.heap at);
    collector = k.collector;
  }
