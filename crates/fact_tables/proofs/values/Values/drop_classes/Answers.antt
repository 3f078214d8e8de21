use Rattle.std.proofs.Common.{◌≡◌, ◌∙◌, ap, sym, arith, length, take, List, ℕ}
use Rattle.fact_tables.specs.declared.known.Class.{Class}
use Rattle.fact_tables.specs.Values.{ValueFacts, facts_of_rows}
use Rattle.fact_tables.proofs.Unnamed.{classes_left}
use Rattle.fact_tables.proofs.values.Values.drop_classes.Goals as goal

pub returns : goal.returns
returns c =
    let count : c.len.result ≡ length c.other.inside.added.items = omega (arith, c.len.ensures) in
    ap (λ (added : List Class). facts_of_rows c.self.inside.sheet added) (c.truncate.ensures.items ∙ ap (λ (n : ℕ). take n c.self.inside.added.items) count)
    ∙ ap (λ (classes : List Class). record (facts_of_rows c.self.inside.sheet c.self.inside.added.items) { classes = classes })
    (classes_left c.self.inside.sheet c.other.inside.sheet c.self.inside.added.items c.other.inside.added.items (ap (λ (f : ValueFacts). length f.values) c.self.view_is ∙ c.requires ∙ sym (ap (λ (f : ValueFacts). length f.values) c.other.view_is)))
    ∙ ap (λ (f : ValueFacts). record f { classes = take (length (facts_of_rows c.other.inside.sheet c.other.inside.added.items).classes) f.classes }) c.self.view_is
    ∙ ap (λ (f : ValueFacts). record c.args.self.now { classes = take (length f.classes) c.args.self.now.classes }) c.other.view_is
