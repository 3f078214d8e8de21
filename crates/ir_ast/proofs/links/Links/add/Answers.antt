use Rattle.std.proofs.Common.{◌≡◌, ◌<◌, ◌-◌, refl, ◌∙◌, ◌++◌, ◌∷◌, [], ap, arith, sym, subst, length, slice_get, slice_set, List, ℕ, Some}
use Rattle.std.proofs.lemmas.Nat.{and_le_r}
use Rattle.std.proofs.lemmas.Option.{slice_get_read}
use Rattle.lemmas.specs.Lists.{IsIn}
use Rattle.ir_ast.specs.Links.{head_place, listed}
use Rattle.ir_ast.proofs.Chains.{numbers_kept, number_added}
use Rattle.ir_ast.proofs.links.Links.add.Goals as goal

module _ (c : goal.After-self-1) where
  abbrev heads : List ℕ
  heads = c.args.self.now.heads.items

  abbrev befores : List ℕ
  befores = c.args.self.now.befores.items

  abbrev place : ℕ
  place = head_place c.args.hash (length heads)

  at : c.head_place-place.result ≡ place
  at = c.head_place-place.ensures ∙ ap (head_place c.args.hash) (omega (arith, c.len.ensures, c.args.self.now.heads.ok.0))

  within : place < length heads
  within = let low = and_le_r c.args.hash (length heads - 1) in omega (arith, low, c.requires.heads)

  there : slice_get heads place ≡ Some c.index.result.now
  there = subst (λ p. slice_get heads p ≡ Some c.index.result.now) at (slice_get_read heads (length heads) c.head_place-place.result c.index.result.now refl (subst (λ p. p < length heads) (sym at) within) c.index.ensures)

  written : (P : List ℕ → List ℕ → Type 0) → P (slice_set heads place (length befores)) (befores ++ c.index.result.now ∷ []) → P (slice_set heads c.head_place-place.result c.args.number) c.push_reserved.new.self.items
  written P h = subst (P (slice_set heads c.head_place-place.result c.args.number)) (sym c.push_reserved.ensures.items)
      (subst (λ p. P (slice_set heads p c.args.number) (befores ++ c.index.result.now ∷ [])) (sym at)
      (subst (λ n. P (slice_set heads place n) (befores ++ c.index.result.now ∷ [])) (sym c.requires.number) h))

pub returns-clause-kept : goal.returns-clause-kept
returns-clause-kept c other u one = written c (λ hs bs. IsIn u (listed hs bs other)) (numbers_kept (heads c) (befores c) c.args.hash c.index.result.now (there c) (within c) other u one)

pub returns-clause-added : goal.returns-clause-added
returns-clause-added c = subst (λ n. IsIn n (listed (slice_set (heads c) c.head_place-place.result c.args.number) c.push_reserved.new.self.items c.args.hash)) (sym c.requires.number)
    (written c (λ hs bs. IsIn (length (befores c)) (listed hs bs c.args.hash)) (number_added (heads c) (befores c) c.args.hash c.index.result.now (there c) (within c)))
