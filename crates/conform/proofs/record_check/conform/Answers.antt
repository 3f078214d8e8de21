use Rattle.std.proofs.Common.{◌≡◌, ℕ, ◌/◌, ◌*◌, ◌-◌, ◌+◌, ◌∷◌, ◌∙◌, List, length, reverse, drop, arith, sym, ap, subst}
use Rattle.std.proofs.lemmas.List.{length-reverse, length-drop, reverse-reverse, take_all}
use Rattle.record_text.specs.declared.entry.Entry.{Entry}
use Rattle.record_text.specs.Entries.{entry_at, first_entries}
use Rattle.conform.specs.Verdicts.{IsVerdict, IsChecked}
use Rattle.conform.proofs.Records.{back_none, back_more, entries_long}
use Rattle.conform.proofs.record_check.conform.Goals as goal

pub loop-number-init : goal.loop-number-init
loop-number-init c = subst (λ (l : List Entry). IsChecked c.args.plan.now l c.in_ok-check.check) (sym (back_none c.args.bytes.now)) c.in_ok-check.ensures

pub loop-number-preserved : goal.loop-number-preserved
loop-number-preserved c = let entries = reverse (first_entries c.loop-number.number c.args.bytes.now) in
    let rest = drop (c.loop-number.number * 16) c.args.bytes.now in
    let whole : c.of.result ≡ entry_at rest = c.of.ensures ∙ ap entry_at (take_all (length c.args.bytes.now - c.loop-number.number * 16) rest (let l = length-drop (c.loop-number.number * 16) c.args.bytes.now in omega (arith, l))) in
    subst (λ (l : List Entry). IsChecked c.args.plan.now l c.read.new.self) (sym (back_more c.loop-number.number c.args.bytes.now ∙ ap (λ (e : Entry). e ∷ entries) (sym whole)))
    (c.in_ok-read.ensures c.args.plan.now entries c.loop-number.invariant)

pub read-requires : goal.read-requires
read-requires c = let entries = reverse (first_entries c.loop-number.number c.args.bytes.now) in
    let long : length entries ≡ c.loop-number.number = length-reverse (first_entries c.loop-number.number c.args.bytes.now) ∙ entries_long c.loop-number.number c.args.bytes.now in
    (c.args.plan.now, entries, c.loop-number.invariant, omega (arith, long, c.loop-number-test.true, c.requires.long))

pub returns : goal.returns
returns c = let entries = first_entries c.loop-number.number c.args.bytes.now in
    let same : c.loop-number.number ≡ length c.args.bytes.now / 16 = omega (arith, c.loop-number-test.false, c.loop-number.auto.number-end) in
    subst (λ (l : List Entry). IsVerdict c.args.plan.now l c.verdict.result) (reverse-reverse entries ∙ ap (λ (n : ℕ). first_entries n c.args.bytes.now) same)
    (c.verdict.ensures c.args.plan.now (reverse entries) c.loop-number.invariant)
