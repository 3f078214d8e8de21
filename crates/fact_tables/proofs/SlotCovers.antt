-- Whether the slots that hold a class here hold another there.
use Rattle.std.proofs.Common.{◌≡◌, ◌<◌, ◌-◌, ◌+◌, inl, inr, ℕ, suc, List, [], ◌∷◌, refl, sym, ap, ◌∙◌, subst, true, false, Bool, Option, Some, arith}
use Rattle.std.specs.Prelude.{◌&&◌}
use Rattle.std.specs.List.{list_all, enumerate_from}
use Rattle.lemmas.specs.Lists.{IsIn}
use Rattle.fact_tables.specs.declared.chains.Chains.{Chains}
use Rattle.fact_tables.specs.declared.known.SlotFact.{SlotFact}
use Rattle.fact_tables.specs.declared.uses.Use.{Use}
use Rattle.fact_tables.specs.Chains.{listed}
use Rattle.fact_tables.specs.Rows.{slot_at, holds}
use Rattle.fact_tables.specs.Covers.{covers_slot, slot_off, slots_there, slots_back}
use Rattle.fact_tables.specs.SlotRows.{OnlyKeepers, covers_at}
use Rattle.fact_tables.specs.Uses.{use_at, users_of, chain}

module _ (c d : ℕ) (here there : List SlotFact) where
  abbrev Covers : ℕ → Type 0
  Covers s = covers_at c d here there s ≡ true

  all_there : (list : List ℕ) → list_all (covers_at c d here there) list ≡ true → (s : ℕ) → IsIn s list → Covers s
  all_there [] e s one = absurd one
  all_there (w ∷ list) e s one = pick (λ i. all_there list i s) (covers_at c d here there w) refl e one where
    pick : (list_all (covers_at c d here there) list ≡ true → IsIn s list → Covers s) → (b : Bool) → covers_at c d here there w ≡ b → (b && list_all (covers_at c d here there) list) ≡ true → IsIn s (w ∷ list) → Covers s
    pick more true is e (inl same) = subst Covers (sym same) is
    pick more true is e (inr one) = more e one
    pick more false is e one = absurd cc

  all_back : (list : List ℕ) → ((s : ℕ) → Covers s) → list_all (covers_at c d here there) list ≡ true
  all_back [] h = refl
  all_back (s ∷ list) h = rw (h s) (all_back list h)

  -- the slots that have held the class decide
  pub keepers_cover : (keepers : Chains) → OnlyKeepers keepers here → list_all (covers_at c d here there) (listed keepers c) ≡ list_all (covers_slot c d there) (enumerate_from 0 here)
  keepers_cover keepers only = pick (list_all (covers_at c d here there) (listed keepers c)) refl (list_all (covers_slot c d there) (enumerate_from 0 here)) refl where
    every : list_all (covers_at c d here there) (listed keepers c) ≡ true → (s : ℕ) → Covers s
    every e s = by (holds c (slot_at here s)) refl where
      by : (b : Bool) → holds c (slot_at here s) ≡ b → Covers s
      by true is = all_there (listed keepers c) e s (only s c is)
      by false off = slot_off c d there s (slot_at here s) off

    pick : (a : Bool) → list_all (covers_at c d here there) (listed keepers c) ≡ a → (b : Bool) → list_all (covers_slot c d there) (enumerate_from 0 here) ≡ b → list_all (covers_at c d here there) (listed keepers c) ≡ list_all (covers_slot c d there) (enumerate_from 0 here)
    pick true e b i = e ∙ sym (slots_back c d here there (every e))
    pick false e false i = e ∙ sym i
    pick false e true i = let all = all_back (listed keepers c) (slots_there c d here there i) in absurd cc

-- one slot more of a chain is covered
pub cover_step : (p : ℕ → Bool) (count step : ℕ) (uses : List Use) (at : Option ℕ) (found : Use) (first : Bool) → step < count → first ≡ list_all p (chain (count - step) uses at) → use_at uses at ≡ Some found → first ≡ (p found.user && list_all p (chain (count - (step + 1)) uses found.before))
cover_step p count step uses at found first lt e is =
    let left : count - step ≡ suc (count - (step + 1)) = omega arith in
    e ∙ ap (λ n. list_all p (chain n uses at)) left ∙ ap (λ (f : Option Use). list_all p (users_of f (chain (count - (step + 1)) uses))) is
