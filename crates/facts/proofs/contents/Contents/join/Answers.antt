use Rattle.std.proofs.Common.{◌≡◌, ◌∙◌, ap, sym, ℕ}
use Rattle.std.proofs.lemmas.Result.{on_ok_weaker}
use Rattle.lemmas.specs.Numbers.{test_true}
use Rattle.fact_tables.specs.declared.known.Class.{Class}
use Rattle.fact_tables.specs.declared.ties.Ties.{Ties}
use Rattle.facts.specs.Contents.{set_of}
use Rattle.fact_tables.specs.Rows.{class_at}
use Rattle.facts.specs.Facts.{FactSet, set_class}
use Rattle.fact_tables.specs.Ties.{moved, class_now}
use Rattle.facts.proofs.Settled.{joined_facts}
use Rattle.facts.proofs.contents.Contents.join.Goals as goal

module _ (c : goal.After-set_class) where
  abbrev ties : Ties
  ties = c.args.ties.now

  abbrev f : FactSet
  f = set_of c.args.self.now

  moves : (q : ℕ) → class_now c.tie.new.self q ≡ moved (class_now ties c.args.from) (class_now ties c.args.to) (class_now ties q)
  moves q = c.in_ok-tie.ensures.moved q ∙ ap (λ (n : ℕ). moved (class_now ties n) (class_now ties c.args.w) (class_now ties q)) (sym (test_true c.args.from c.args.v c.requires.from))
      ∙ ap (λ (n : ℕ). moved (class_now ties c.args.from) (class_now ties n) (class_now ties q)) (sym (test_true c.args.to c.args.w c.requires.to))

pub returns-clause-tied : goal.returns-clause-tied
returns-clause-tied c = on_ok_weaker c.set_class.result
    (λ e. joined_facts (ties c) c.tie.new.self (class_now (ties c) c.args.from) (class_now (ties c) c.args.to) (moves c) (f c) (set_of c.set_class.new.self) c.class-one.result c.class-other.result
    (c.class-one.ensures ∙ ap (class_at (f c).classes) c.class-from.ensures) (c.class-other.ensures ∙ ap (class_at (f c).classes) c.class-to.ensures)
    (e ∙ ap (λ (n : ℕ). set_class n c.class_of_both.result (f c)) c.class-to.ensures ∙ ap (λ (x : Class). set_class (class_now (ties c) c.args.to) x (f c)) c.class_of_both.ensures)) c.set_class.ensures.ok
