use Rattle.std.proofs.Common.{◌≡◌, ◌∷◌, true, IsTrue, List, sym, ap, subst, ◌∙◌}
use Rattle.pools.specs.Heap.{Setup}
use Rattle.colours.specs.declared.place.Place.{Place}
use Rattle.colours.specs.declared.ask.Ask.{Ask}
use Rattle.colours.specs.Steps.{FoundBy, place_of, turn_of}
use Rattle.colours.specs.Runs.{Event, ByCollector, turns_of, word_after, ask_in}
use Rattle.heap_rule.specs.Rule.{HasPlace}
use Rattle.conform.specs.Checks.{IsCheckAfter}
use Rattle.collector_places.specs.Places.{NamesCell}
use Rattle.conform.proofs.RuleLemmas.{turn_asked}
use Rattle.conform.proofs.Turns.{turn_ask, turn_found, names_cell, turn_longer}
use Rattle.conform.proofs.run_check.RunCheck.turn.Goals as goal

pub returns-then-not-has-clause-some : goal.returns-then-not-has-clause-some
returns-then-not-has-clause-some c = λ s run k asks.
    let x = turn_asked c.rule_of_turn.result s run c.args.turn c.rule_of_turn.ensures asks in
    let h = c.words_law.ensures s (turns_of run) c.args.turn x.0 c.cycle_of.result k.collector x.1 in
    let there : HasPlace c.args.self.now.words.heap c.place_of.result = subst (λ (p : Place). HasPlace c.args.self.now.words.heap p) (sym (c.place_of.ensures ∙ ap place_of c.turn_of-ask.ensures)) (subst (λ (y : Setup). HasPlace y (place_of (turn_of c.cycle_of.result c.args.turn))) (sym k.words.heap) h) in
    let t : c.has.result ≡ true = c.has.ensures.1 there in
    absurd (cc (t, c.if-not-has.true))

pub take-requires : goal.take-requires
take-requires c = let r = c.requires in let s = r.0 in let run = r.1 in let k = r.2 in
    let e = turn_ask run c.args.turn c.posted.result c.cycle_of.result c.turn_of-ask.result (c.posted.ensures ∙ k.collector.numbers.posted) c.cycle_of.ensures c.turn_of-ask.ensures in
    let f = turn_found s run c.args.self.now.words c.args.turn c.turn_of-ask.result c.place_of-2.result c.word.result k.words e c.place_of-2.ensures
    (subst (λ (p : Place). HasPlace c.args.self.now.words.heap p) (c.place_of.ensures ∙ sym c.place_of-2.ensures) (c.has.ensures.0 c.if-not-has.false)) c.word.ensures (c.is_found_by.ensures.0 c.if-not-is_found_by.false) in
    (s, turns_of run, k.collector, names_cell s run c.args.turn (c.word_law.ensures s run k.is_run) f, r.3)

pub returns-then-not-branch-clause-some : goal.returns-then-not-branch-clause-some
returns-then-not-branch-clause-some c = λ s run k asks.
    let e = turn_ask run c.args.turn c.posted.result c.cycle_of.result c.turn_of-ask.result (c.posted.ensures ∙ k.collector.numbers.posted) c.cycle_of.ensures c.turn_of-ask.ensures in
    let f = turn_found s run c.args.self.now.words c.args.turn c.turn_of-ask.result c.place_of-2.result c.word.result k.words e c.place_of-2.ensures
    (subst (λ (p : Place). HasPlace c.args.self.now.words.heap p) (c.place_of.ensures ∙ sym c.place_of-2.ensures) (c.has.ensures.0 c.if-not-has.false)) c.word.ensures (c.is_found_by.ensures.0 c.if-not-is_found_by.false) in
    let n = names_cell s run c.args.turn (c.word_law.ensures s run k.is_run) f in
    let t : c.in_ok-take.field-0 ≡ true = (c.in_ok-take.ensures.allowed s (turns_of run) k.collector n).1 (turn_asked c.rule_of_turn-then-not-branch.result s run c.args.turn c.rule_of_turn-then-not-branch.ensures asks) in
    absurd (cc (t, c.if-not-branch.true))

pub returns-clause-none : goal.returns-clause-none
returns-clause-none c = λ s run k.
    let e = turn_ask run c.args.turn c.posted.result c.cycle_of.result c.turn_of-ask.result (c.posted.ensures ∙ k.collector.numbers.posted) c.cycle_of.ensures c.turn_of-ask.ensures in
    let f = turn_found s run c.args.self.now.words c.args.turn c.turn_of-ask.result c.place_of-2.result c.word.result k.words e c.place_of-2.ensures
    (subst (λ (p : Place). HasPlace c.args.self.now.words.heap p) (c.place_of.ensures ∙ sym c.place_of-2.ensures) (c.has.ensures.0 c.if-not-has.false)) c.word.ensures (c.is_found_by.ensures.0 c.if-not-is_found_by.false) in
    let n = names_cell s run c.args.turn (c.word_law.ensures s run k.is_run) f in
    let x = (c.in_ok-take.ensures.allowed s (turns_of run) k.collector n).0 c.if-not-branch.false in
    record {
      is_run = turn_longer s run c.args.turn x.0 k.is_run x.1 f;
      plan = k.plan;
      words = c.perform.ensures.extends s run (ByCollector c.args.turn) k.words e;
      long = k.long;
      threads = k.threads;
      collector = c.in_ok-take.ensures.stands s (turns_of run) k.collector n c.if-not-branch.false;
    }
