-- What is known after an answer.
use Rattle.std.proofs.Common.{◌≡◌, ◌⊎◌, inl, inr, ℕ, zero, suc, ◌<◌, Bool, true, false, List, ◌∷◌, length, sym, subst, ◌∙◌, arith}
use Rattle.std.specs.Prelude.{replicate}
use Rattle.lemmas.specs.Lists.{IsIn, length_replicate}
use Rattle.pools.specs.Heap.{Setup, cells}
use Rattle.colours.specs.Steps.{Step, StoreStage}
use Rattle.colours.specs.Mutator.{Held, Fresh, MayUse}
use Rattle.watch.specs.CellSets.{has, with_cells}
use Rattle.watch.specs.Knows.{Knows}
use Rattle.watch.specs.declared.holdings.Holdings.{Holdings}
use Rattle.watch.proofs.Sets.{has_all, has_no_other, has_no_null, has_none, has_within, length_all, one_of_or_not}

false_true : false ≡ true → ⊥
false_true e = absurd cc

-- the roots are held, and nothing else is, and nothing is fresh
pub answered_known : (s : Setup) (log : List Step) (stage : ℕ) (roots : List ℕ) (x y : Holdings) → y.held ≡ with_cells (replicate (length x.held) false) roots → y.fresh ≡ replicate (length x.fresh) false
    → ((root : ℕ) → IsIn root roots → MayUse s log root) → Knows s log x → Knows s (StoreStage stage roots ∷ log) y
answered_known s log stage roots x y h f may k = record {
  held_of = rw h (length_all none roots ∙ (length_replicate (length x.held) false ∙ k.held_of));
  fresh_of = rw f (length_replicate (length x.fresh) false ∙ k.fresh_of);
  held = λ c. (λ is. held_to c (subst (λ (l : List Bool). has l c ≡ true) h is), λ held. held_from c held);
  fresh = λ c. (λ is. absurd (fresh_to c is), λ fresh. absurd (fresh_from c fresh));
  null = null_new;
}
  where
    none : List Bool
    none = replicate (length x.held) false

    held_to : (c : ℕ) → has (with_cells none roots) c ≡ true → Held s (StoreStage stage roots ∷ log) c
    held_to c is = by_place (one_of_or_not c roots)
      where
        by_use : IsIn c roots → MayUse s log c → Held s (StoreStage stage roots ∷ log) c
        by_use at (inl e) = let never : has (with_cells none roots) 0 ≡ false = has_no_null none roots ∙ has_none (length x.held) 0 in absurd (false_true (sym never ∙ subst (λ (i : ℕ). has (with_cells none roots) i ≡ true) e is))
        by_use at (inr held) = inr (at, held)

        by_place : (IsIn c roots ⊎ (IsIn c roots → ⊥)) → Held s (StoreStage stage roots ∷ log) c
        by_place (inl at) = by_use at (may c at)
        by_place (inr out) = absurd (false_true (sym (has_none (length x.held) c) ∙ (sym (has_no_other none roots c out) ∙ is)))

    held_from : (c : ℕ) → Held s (StoreStage stage roots ∷ log) c → has y.held c ≡ true
    held_from c (inl never) = absurd (false_true never)
    held_from c (inr kept) =
        let within : c < length x.held = has_within x.held c ((k.held c).1 kept.1) in
        let some : 0 < c = positive c kept.1 in
        subst (λ (l : List Bool). has l c ≡ true) (sym h) (has_all none roots c some (let same = length_replicate (length x.held) false in omega (arith, within, same)) kept.0)
      where
        positive : (c : ℕ) → Held s log c → 0 < c
        positive zero held = absurd (k.null held)
        positive (suc c) held = omega arith

    fresh_to : (c : ℕ) → has y.fresh c ≡ true → ⊥
    fresh_to c is = false_true (sym (has_none (length x.fresh) c) ∙ subst (λ (l : List Bool). has l c ≡ true) f is)

    fresh_from : (c : ℕ) → Fresh s (StoreStage stage roots ∷ log) c → ⊥
    fresh_from c (inl never) = false_true never
    fresh_from c (inr kept) = false_true (sym kept.0)

    null_new : Held s (StoreStage stage roots ∷ log) 0 → ⊥
    null_new (inl never) = false_true never
    null_new (inr kept) = k.null kept.1

-- what is held is a cell of the heap, and not null
pub held_cell : (s : Setup) (log : List Step) (known : Holdings) → Knows s log known → (cell : ℕ) → has known.held cell ≡ true → (0 < cell) × (cell < cells s)
held_cell s log known k zero is = absurd (k.null ((k.held 0).0 is))
held_cell s log known k (suc cell) is = let within : suc cell < length known.held = has_within known.held (suc cell) is in (omega arith, omega (arith, within, k.held_of))
