use Rattle.std.proofs.Common.{◌≡◌, ◌∙◌, ap, arith, cond, sym, subst, length, List, ℕ, Option, Some}
use Rattle.std.specs.Prelude.{◌==◌, nat_eq}
use Rattle.lemmas.specs.Lists.{IsIn}
use Rattle.indexmap.specs.IndexMap.{get}
use Rattle.fact_tables.specs.declared.ties.Group.{Group}
use Rattle.fact_tables.specs.Chains.{listed}
use Rattle.fact_tables.specs.Ties.{class_of_place, AreClasses, AreTied}
use Rattle.fact_tables.proofs.Groups.{same_class, more_classes, more_tied, more_listed}
use Rattle.fact_tables.proofs.ties.Ties.add_group.Goals as goal

module _ (c : goal.In_ok-insert) where
  abbrev places : ℕ → Option ℕ
  places = get nat_eq c.args.self.now.places

  abbrev next : ℕ → Option ℕ
  next = get nat_eq c.insert.new.self

  abbrev groups : List Group
  groups = c.args.self.now.groups.items

  abbrev group : Group
  group = record { class = c.new.result; size = 1 }

  at : c.len-place.result ≡ length groups
  at = omega (arith, c.len-place.ensures, c.args.self.now.groups.ok.0)

  adds : (q : ℕ) → next q ≡ cond (c.args.v == q) (Some (length groups)) (places q)
  adds q = c.in_ok-insert.ensures.updates.0 q ∙ ap (λ (n : ℕ). cond (n == q) (Some c.len-place.result) (places q)) c.number-number.ensures ∙ ap (λ (n : ℕ). cond (c.args.v == q) (Some n) (places q)) at

  own : c.new.result ≡ c.args.v
  own = c.new.ensures ∙ c.number-number.ensures

  added : IsIn c.args.v (listed c.add.new.self (length groups))
  added = subst (λ (n : ℕ). IsIn c.args.v (listed c.add.new.self n)) at (subst (λ (n : ℕ). IsIn n (listed c.add.new.self c.len-place.result)) c.number-number.ensures c.in_ok-add.ensures.added)

pub returns-clause-ties : goal.returns-clause-ties
returns-clause-ties c = (
  more_listed (places c) (next c) (groups c) c.args.v c.requires.alone c.requires.ties.1 (adds c) (group c) (own c) (listed c.args.self.now.members) (listed c.add.new.self) c.requires.ties.0 c.add.ensures.kept (added c),
  subst (AreClasses (next c)) (sym c.in_ok-push-2.ensures.items) (more_classes (places c) (next c) (groups c) c.args.v c.requires.alone c.requires.ties.1 (adds c) (group c) (own c)),
  subst (AreTied (next c)) (sym c.in_ok-push.ensures.items) (more_tied (places c) (next c) (groups c) c.args.v c.requires.alone c.requires.ties.1 (adds c) (group c) (own c) c.args.self.now.tied.items c.requires.ties.2),
)

pub returns-clause-same : goal.returns-clause-same
returns-clause-same c q = ap (λ (gs : List Group). class_of_place gs q (next c q)) c.in_ok-push-2.ensures.items ∙ same_class (places c) (next c) (groups c) c.args.v c.requires.alone c.requires.ties.1 (adds c) (group c) (own c) q
