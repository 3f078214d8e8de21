use Rattle.std.proofs.Common.{◌≡◌, ◌∙◌, ◌++◌, ◌∷◌, [], ap, arith, cond, sym, subst, length, List, ℕ, Option, Some}
use Rattle.std.specs.Prelude.{◌==◌, nat_eq}
use Rattle.std.specs.Map.{lookup}
use Rattle.lemmas.specs.Lists.{IsIn}
use Rattle.indexmap.specs.IndexMap.{get}
use Rattle.fact_tables.specs.declared.uses.Use.{Use}
use Rattle.fact_tables.specs.Uses.{chain}
use Rattle.fact_tables.proofs.Links.{listed_kept, listed_there}
use Rattle.fact_tables.proofs.Users.{user_kept}
use Rattle.fact_tables.proofs.chains.Chains.add.Goals as goal

pub returns-in_err-insert-clause-kept : goal.returns-in_err-insert-clause-kept
returns-in_err-insert-clause-kept c other u one =
    let links : List Use = c.args.self.now.links.items in
    let old : ℕ → Option ℕ = get nat_eq c.args.self.now.newest in
    let link : Use = record { user = c.args.number; before = old c.args.list } in
    let pushed : c.push.new.self.items ≡ links ++ link ∷ [] = c.in_ok-push.ensures.items ∙ ap (λ (before : Option ℕ). links ++ record { user = c.args.number; before = before } ∷ []) c.newest-before.ensures in
    let same : get nat_eq c.insert.new.self other ≡ old other = ap (λ (entries : List (ℕ × ℕ)). lookup (nat_eq other) entries) c.in_err-insert.ensures.err in
    subst (λ (ls : List Use). IsIn u (chain (length ls) ls (get nat_eq c.insert.new.self other))) (sym pushed)
    (subst (λ (newest : Option ℕ). IsIn u (chain (length (links ++ link ∷ [])) (links ++ link ∷ []) newest)) (sym same) (user_kept links link (old other) u one))

module _ (c : goal.In_ok-insert) where
  abbrev links : List Use
  links = c.args.self.now.links.items

  abbrev old : ℕ → Option ℕ
  old = get nat_eq c.args.self.now.newest

  abbrev link : Use
  link = record { user = c.args.number; before = old c.args.list }

  pushed : c.push.new.self.items ≡ links ++ link ∷ []
  pushed = c.in_ok-push.ensures.items ∙ ap (λ (before : Option ℕ). links ++ record { user = c.args.number; before = before } ∷ []) c.newest-before.ensures

  at : c.len-at.result ≡ length links
  at = omega (arith, c.len-at.ensures, c.args.self.now.links.ok.0)

  puts : (other : ℕ) → get nat_eq c.insert.new.self other ≡ cond (c.args.list == other) (Some (length links)) (old other)
  puts other = c.in_ok-insert.ensures.updates.0 other ∙ ap (λ (n : ℕ). cond (c.args.list == other) (Some n) (old other)) at

pub returns-clause-kept : goal.returns-clause-kept
returns-clause-kept c other u one = subst (λ (ls : List Use). IsIn u (chain (length ls) ls (get nat_eq c.insert.new.self other))) (sym (pushed c))
    (listed_kept (links c) (old c) (get nat_eq c.insert.new.self) c.args.list c.args.number (puts c) other u one)

pub returns-clause-added : goal.returns-clause-added
returns-clause-added c = subst (λ (ls : List Use). IsIn c.args.number (chain (length ls) ls (get nat_eq c.insert.new.self c.args.list))) (sym (pushed c))
    (listed_there (links c) (old c) (get nat_eq c.insert.new.self) c.args.list c.args.number (puts c))
