use Rattle.std.proofs.Common.{true, false, sym, ap, ◌∙◌, arith}
use Rattle.type_kinds.specs.WantedWords.{holds_wanted}
use Rattle.type_kinds.proofs.Members.{bounded, each_start, each_some, each_none}
use Rattle.type_kinds.proofs.wanted_words.each_word.Goals as goal

pub loop-word-init : goal.loop-word-init
loop-word-init c = each_start c.args.wanted.now c.args.layouts.now c.args.layout c.args.words.now

pub loop-word-smaller : goal.loop-word-smaller
loop-word-smaller c =
    let at = bounded c.next_from.result c.loop-word.from c.in-Some.word c.in-Some.is c.next_from.ensures.bounds in
    omega (arith, at.0, at.1)

pub returns : goal.returns
returns c = sym (c.loop-word.invariant ∙ each_none c.args.wanted.now c.args.layouts.now c.args.layout c.args.words.now c.loop-word.from (sym c.in_default.is ∙ c.next_from.ensures.next))

pub returns-then-not-holds_wanted : goal.returns-then-not-holds_wanted
returns-then-not-holds_wanted c =
    let at = bounded c.next_from.result c.loop-word.from c.in-Some.word c.in-Some.is c.next_from.ensures.bounds in
    let not_held = sym (c.holds_wanted.ensures ∙ ap (λ k. holds_wanted c.args.wanted.now k) c.kind_of_word.ensures) ∙ c.if-not-holds_wanted.true in
    sym (c.loop-word.invariant ∙ each_some c.args.wanted.now c.args.layouts.now c.args.layout c.args.words.now c.loop-word.from c.in-Some.word false at.0 at.1 (sym c.in-Some.is ∙ c.next_from.ensures.next) not_held)

pub loop-word-preserved : goal.loop-word-preserved
loop-word-preserved c =
    let at = bounded c.next_from.result c.loop-word.from c.in-Some.word c.in-Some.is c.next_from.ensures.bounds in
    let held = sym (c.holds_wanted.ensures ∙ ap (λ k. holds_wanted c.args.wanted.now k) c.kind_of_word.ensures) ∙ c.if-not-holds_wanted.false in
    c.loop-word.invariant ∙ each_some c.args.wanted.now c.args.layouts.now c.args.layout c.args.words.now c.loop-word.from c.in-Some.word true at.0 at.1 (sym c.in-Some.is ∙ c.next_from.ensures.next) held
