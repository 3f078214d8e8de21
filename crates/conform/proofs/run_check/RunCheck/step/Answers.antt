use Rattle.std.proofs.Common.{◌≡◌, ◌∷◌, ℕ, true, IsTrue, List, Some, sym, ap, subst, ◌∙◌}
use Rattle.std.specs.Prelude.{slice_get}
use Rattle.std.proofs.lemmas.Option.{slice_get-get_or, slice_get_within}
use Rattle.pools.specs.Heap.{Setup}
use Rattle.colours.specs.Steps.{Step, Found, place_of}
use Rattle.colours.specs.Mutator.{IsDisciplined}
use Rattle.colours.specs.Runs.{Event, ByThread, log_of, word_after, ask_in}
use Rattle.heap_rule.specs.Rule.{HasPlace}
use Rattle.record_text.specs.Records.{step_with}
use Rattle.conform.specs.Rules.{ComesNext}
use Rattle.conform.specs.Checks.{IsCheckAfter}
use Rattle.conform.proofs.Threads as at
use Rattle.conform.proofs.run_check.RunCheck.step.Goals as goal

pub broken_rule-requires-clause-at : goal.broken_rule-requires-clause-at
broken_rule-requires-clause-at c = let r = c.requires in (c.args.thread, log_of c.args.thread r.1, at.thread_in_plan r.0 r.1 c.args.self.now c.args.thread c.in-Some.checked.now r.2 (sym c.in-Some.ensures))

pub returns-in-Some-broken_rule-clause-some : goal.returns-in-Some-broken_rule-clause-some
returns-in-Some-broken_rule-clause-some c = λ s run k.
    let got : slice_get c.args.self.now.threads.items c.args.thread ≡ Some c.in-Some.checked.now = sym c.in-Some.ensures in
    at.not_asked s run c.args.self.now c.args.thread c.in-Some.checked.now k got c.in-Some-broken_rule.rule (step_with c.args.roots.now c.args.step)
    (c.in-Some-broken_rule.ensures.some c.args.thread (log_of c.args.thread run) (at.thread_in_plan s run c.args.self.now c.args.thread c.in-Some.checked.now k got))

pub ask_of-ask-requires : goal.ask_of-ask-requires
ask_of-ask-requires c = let r = c.requires in let s = r.0 in let run = r.1 in let k = r.2 in
    let got : slice_get c.args.self.now.threads.items c.args.thread ≡ Some c.in-Some.checked.now = sym c.in-Some.ensures in
    let step = step_with c.args.roots.now c.args.step in
    let n = at.next_here s run c.args.self.now c.args.thread c.in-Some.checked.now k got step (c.in_default-broken_rule.ensures.none c.args.thread (log_of c.args.thread run) (at.thread_in_plan s run c.args.self.now c.args.thread c.in-Some.checked.now k got)) in
    at.low_here s run c.args.self.now c.args.thread c.in-Some.checked.now k got c.args.roots.now c.args.step c.stage.result c.stage.ensures n.0

pub word-requires : goal.word-requires
word-requires c = let r = c.requires in let s = r.0 in let run = r.1 in let k = r.2 in
    let got : slice_get c.args.self.now.threads.items c.args.thread ≡ Some c.in-Some.checked.now = sym c.in-Some.ensures in
    let step = step_with c.args.roots.now c.args.step in
    let n = at.next_here s run c.args.self.now c.args.thread c.in-Some.checked.now k got step (c.in_default-broken_rule.ensures.none c.args.thread (log_of c.args.thread run) (at.thread_in_plan s run c.args.self.now c.args.thread c.in-Some.checked.now k got)) in
    let e = at.ask_here s run c.args.self.now c.args.thread c.in-Some.checked.now k got step c.stage.result c.ask_of-ask.result c.stage.ensures (c.ask_of-ask.ensures c.args.roots.now) in
    subst (HasPlace c.args.self.now.words.heap) (sym c.place_of.ensures) (at.place_here s run c.args.self.now c.args.thread c.in-Some.checked.now k got step c.ask_of-ask.result e n.0 n.1)

pub returns-then-not-is_found-clause-some : goal.returns-then-not-is_found-clause-some
returns-then-not-is_found-clause-some c = λ s run k asks.
    let got : slice_get c.args.self.now.threads.items c.args.thread ≡ Some c.in-Some.checked.now = sym c.in-Some.ensures in
    let step = step_with c.args.roots.now c.args.step in
    let n = at.next_here s run c.args.self.now c.args.thread c.in-Some.checked.now k got step (c.in_default-broken_rule.ensures.none c.args.thread (log_of c.args.thread run) (at.thread_in_plan s run c.args.self.now c.args.thread c.in-Some.checked.now k got)) in
    let e = at.ask_here s run c.args.self.now c.args.thread c.in-Some.checked.now k got step c.stage.result c.ask_of-ask.result c.stage.ensures (c.ask_of-ask.ensures c.args.roots.now) in
    let here = at.place_here s run c.args.self.now c.args.thread c.in-Some.checked.now k got step c.ask_of-ask.result e n.0 n.1 in
    let is = at.word_here s run c.args.self.now c.args.thread c.in-Some.checked.now k got step c.ask_of-ask.result c.place_of.result c.word.result e c.place_of.ensures here c.word.ensures in
    let t : c.is_found.result ≡ true = (c.is_found.ensures c.args.roots.now).1 (subst (Found step) (sym is) asks) in
    absurd (cc (t, c.if-not-is_found.true))

pub follow-requires : goal.follow-requires
follow-requires c = let r = c.requires in let s = r.0 in let run = r.1 in let k = r.2 in
    let got : slice_get c.args.self.now.threads.items c.args.thread ≡ Some c.in-Some.checked.now = sym c.in-Some.ensures in
    let step = step_with c.args.roots.now c.args.step in
    let n = at.next_here s run c.args.self.now c.args.thread c.in-Some.checked.now k got step (c.in_default-broken_rule.ensures.none c.args.thread (log_of c.args.thread run) (at.thread_in_plan s run c.args.self.now c.args.thread c.in-Some.checked.now k got)) in
    let e = at.ask_here s run c.args.self.now c.args.thread c.in-Some.checked.now k got step c.stage.result c.ask_of-ask.result c.stage.ensures (c.ask_of-ask.ensures c.args.roots.now) in
    let here = at.place_here s run c.args.self.now c.args.thread c.in-Some.checked.now k got step c.ask_of-ask.result e n.0 n.1 in
    let is = at.word_here s run c.args.self.now c.args.thread c.in-Some.checked.now k got step c.ask_of-ask.result c.place_of.result c.word.result e c.place_of.ensures here c.word.ensures in
    let f = subst (Found step) is ((c.is_found.ensures c.args.roots.now).0 c.if-not-is_found.false) in
    let got2 : slice_get c.args.self.now.threads.items c.args.thread ≡ Some c.index_mut.result.now = slice_get-get_or c.args.self.now.threads.items c.args.thread _ (slice_get_within c.args.self.now.threads.items c.args.thread c.in-Some.checked.now got) ∙ ap Some (sym c.index_mut.ensures.value) in (
      c.args.thread,
      log_of c.args.thread run,
      at.thread_in_words s run c.args.self.now c.args.thread c.index_mut.result.now k got2,
      at.made_in_words s run c.args.self.now c.args.thread c.in-Some.checked.now k got step (at.made_here s run c.args.self.now c.args.thread c.in-Some.checked.now k got step (c.word_law.ensures s run k.is_run) n.0 n.1 f),
    )

pub perform-requires : goal.perform-requires
perform-requires c = let r = c.requires in let s = r.0 in let run = r.1 in let k = r.2 in
    let got : slice_get c.args.self.now.threads.items c.args.thread ≡ Some c.in-Some.checked.now = sym c.in-Some.ensures in
    let step = step_with c.args.roots.now c.args.step in
    let n = at.next_here s run c.args.self.now c.args.thread c.in-Some.checked.now k got step (c.in_default-broken_rule.ensures.none c.args.thread (log_of c.args.thread run) (at.thread_in_plan s run c.args.self.now c.args.thread c.in-Some.checked.now k got)) in
    let e = at.ask_here s run c.args.self.now c.args.thread c.in-Some.checked.now k got step c.stage.result c.ask_of-ask.result c.stage.ensures (c.ask_of-ask.ensures c.args.roots.now) in
    at.place_here s run c.args.self.now c.args.thread c.in-Some.checked.now k got step c.ask_of-ask.result e n.0 n.1

pub returns-clause-none : goal.returns-clause-none
returns-clause-none c = λ s run k.
    let got : slice_get c.args.self.now.threads.items c.args.thread ≡ Some c.in-Some.checked.now = sym c.in-Some.ensures in
    let step = step_with c.args.roots.now c.args.step in
    let n = at.next_here s run c.args.self.now c.args.thread c.in-Some.checked.now k got step (c.in_default-broken_rule.ensures.none c.args.thread (log_of c.args.thread run) (at.thread_in_plan s run c.args.self.now c.args.thread c.in-Some.checked.now k got)) in
    let e = at.ask_here s run c.args.self.now c.args.thread c.in-Some.checked.now k got step c.stage.result c.ask_of-ask.result c.stage.ensures (c.ask_of-ask.ensures c.args.roots.now) in
    let here = at.place_here s run c.args.self.now c.args.thread c.in-Some.checked.now k got step c.ask_of-ask.result e n.0 n.1 in
    let is = at.word_here s run c.args.self.now c.args.thread c.in-Some.checked.now k got step c.ask_of-ask.result c.place_of.result c.word.result e c.place_of.ensures here c.word.ensures in
    let f = subst (Found step) is ((c.is_found.ensures c.args.roots.now).0 c.if-not-is_found.false) in
    let got2 : slice_get c.args.self.now.threads.items c.args.thread ≡ Some c.index_mut.result.now = slice_get-get_or c.args.self.now.threads.items c.args.thread _ (slice_get_within c.args.self.now.threads.items c.args.thread c.in-Some.checked.now got) ∙ ap Some (sym c.index_mut.ensures.value) in
    let made = at.made_in_words s run c.args.self.now c.args.thread c.in-Some.checked.now k got step (at.made_here s run c.args.self.now c.args.thread c.in-Some.checked.now k got step (c.word_law.ensures s run k.is_run) n.0 n.1 f) in
    at.step_longer s run c.args.self.now c.args.thread c.in-Some.checked.now k got step c.ask_of-ask.result c.perform.new.self c.follow.new.self e n.0 n.1 f c.perform.ensures.extends
    (c.in_ok-follow.ensures c.args.thread (log_of c.args.thread run) (at.thread_in_words s run c.args.self.now c.args.thread c.index_mut.result.now k got2) made)
