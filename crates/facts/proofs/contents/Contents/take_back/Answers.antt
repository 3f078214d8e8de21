use Rattle.std.proofs.Common.{◌≡◌, ◌+◌, ◌∙◌, ◌∷◌, [], ap, sym, subst, suc, drop, drop-cons, add-one, List, ℕ}
use Rattle.std.proofs.lemmas.List.{drop_all}
use Rattle.facts.specs.declared.entry.Entry.{Entry}
use Rattle.facts.specs.Contents.{set_of}
use Rattle.facts.specs.Facts.{FactSet}
use Rattle.facts.specs.TakenBack.{DifferBy}
use Rattle.fact_tables.specs.Values.{ValueFacts}
use Rattle.facts.proofs.TakenBack.{entry_is_back, all_is_back}
use Rattle.facts.proofs.contents.Contents.take_back.Goals as goal

pub loop-entry-preserved : goal.loop-entry-preserved
loop-entry-preserved c =
    let entries : List Entry = c.args.entries.now in
    let i : ℕ = c.loop-entry.entry-index in
    let entry : Entry = c.entry-item.result in
    let rest : List Entry = drop (i + 1) entries in
    let before : FactSet = set_of c.args.before.now in
    let now : FactSet = set_of c.loop-entry.self in
    let split : drop i entries ≡ entry ∷ rest = drop-cons entries i entry c.loop-entry-test.true ∙ ap (λ (x : Entry). x ∷ drop (suc i) entries) (sym c.entry-item.is) ∙ ap (λ (n : ℕ). entry ∷ drop n entries) (sym (add-one i)) in
    subst (DifferBy rest before) (sym c.in_ok-take_back_entry.ensures) (entry_is_back rest before entry now (subst (λ (l : List Entry). DifferBy l before now) split c.loop-entry.invariant))

pub returns : goal.returns
returns c =
    let before : FactSet = set_of c.args.before.now in
    let now : FactSet = set_of c.loop-entry.self in
    let none : drop c.loop-entry.entry-index c.args.entries.now ≡ [] = drop_all c.loop-entry.entry-index c.args.entries.now c.loop-entry-test.false in
    ap (λ (values : ValueFacts). record { values = values.values; slots = now.slots; classes = values.classes; tests = values.tests }) c.drop_classes.ensures
    ∙ all_is_back before now (subst (λ (l : List Entry). DifferBy l before now) none c.loop-entry.invariant)
