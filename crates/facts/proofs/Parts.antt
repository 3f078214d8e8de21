-- The rest of some phis.
use Rattle.std.proofs.Common.{◌≡◌, ◌<◌, ◌∙◌, ◌+◌, ◌++◌, ◌∷◌, [], ℕ, List, length, suc, get_or, take, drop, drop-cons, add-one, refl, sym, ap}
use Rattle.std.proofs.lemmas.List.{take_more}
use Rattle.facts.specs.declared.entry.Entry.{Entry}
use Rattle.facts.specs.Facts.{FactSet, enter_phi, enter_phis}

module _ (entries : List Entry) (i : ℕ) (lt : i < length entries) (entry : Entry) (is : entry ≡ get_or entries i entry) (now next : FactSet) (step : next ≡ enter_phi entry.phi entry.known now) where
  -- the rest of them are left
  pub enter_rest : (last : FactSet) → last ≡ enter_phis (drop i entries) now → last ≡ enter_phis (drop (i + 1) entries) next
  enter_rest last was = was ∙ ap (λ (l : List Entry). enter_phis l now) (drop-cons entries i entry lt) ∙ ap (λ (x : Entry). enter_phis (x ∷ drop (suc i) entries) now) (sym is)
      ∙ ap (enter_phis (drop (suc i) entries)) (sym step) ∙ ap (λ (n : ℕ). enter_phis (drop n entries) next) (sym (add-one i))
