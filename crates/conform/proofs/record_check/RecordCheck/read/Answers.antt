use Rattle.std.proofs.Common.{◌≡◌, ℕ, ◌+◌, ◌∷◌, List, reverse, arith, sym, subst}
use Rattle.conform.specs.Verdicts.{BreaksRule, IsMet, IsReadTo, IsRead, IsCheckedTo, IsChecked}
use Rattle.conform.specs.declared.verdict.Verdict.TheVariants.{Broken}
use Rattle.conform.proofs.Records.{run_short, met_here}
use Rattle.conform.proofs.record_check.RecordCheck.read.Goals as goal

pub overflow_add-self : goal.overflow_add-self
overflow_add-self c = let r = c.requires in let s = r.0 in let entries = r.1 in
    let is : IsReadTo s entries c.args.self.now = subst (IsCheckedTo s entries c.args.self.now) c.in_default.is r.2 in
    let b = subst (IsRead s entries c.read_entry.result c.args.self.now c.read_said.new.self) c.in-Some-2.is (c.in_ok-rule.ensures.read s entries is) in
    let same = b.1 in let few = run_short entries in let l = r.3 in let k = is.steps in omega (arith, few, l, k, same)

pub returns-in-Some-2 : goal.returns-in-Some-2
returns-in-Some-2 c = λ s entries is.
    let read : IsReadTo s entries c.args.self.now = subst (IsCheckedTo s entries c.args.self.now) c.in_default.is is in
    let b = subst (IsRead s entries c.read_entry.result c.args.self.now c.read_said.new.self) c.in-Some-2.is (c.in_ok-rule.ensures.read s entries read) in
    subst (λ n. IsMet s (reverse (c.args.entry ∷ entries)) (Broken (n + 1) c.args.entry.actor c.in-Some-2.rule)) (sym b.1)
    (met_here s entries c.args.self.now c.args.entry c.in-Some-2.rule read (subst (λ x. BreaksRule s entries x c.in-Some-2.rule) c.read_entry.ensures b.0))
