-- The cells of a thread's roots.
use Rattle.std.proofs.Common.{◌≡◌, ℕ, zero, suc, ◌+◌, ◌<◌, inl, inr, List, [], ◌∷◌, ◌++◌, length, take, get_or, refl, sym, ap, subst, ◌∙◌, arith}
use Rattle.lemmas.specs.Lists.{IsIn}
use Rattle.pools.specs.Heap.{Setup, cells}
use Rattle.runs.specs.Machine.{WordValue}
use Rattle.runs.specs.Moves.{cells_of}

in_list : (roots : List WordValue) (i : ℕ) (r : WordValue) → i < length roots → IsIn (get_or roots i r) roots
in_list [] i r h = absurd (omega arith)
in_list (q ∷ roots) zero r h = inl refl
in_list (q ∷ roots) (suc i) r h = inr (in_list roots i r (omega arith))

pub root_fits : (s h : Setup) (named roots : List WordValue) (i : ℕ) (r : WordValue) → s ≡ h → roots ≡ named → ((q : WordValue) → IsIn q named → q.cell < cells s) → i < length roots → r ≡ get_or roots i r → r.cell < cells h
root_fits s h named roots i r same are fit lt is = subst (λ (x : Setup). r.cell < cells x) same (fit r (subst (λ (l : List WordValue). IsIn r l) are (subst (λ (q : WordValue). IsIn q roots) (sym is) (in_list roots i r lt))))

cells_more : (roots : List WordValue) (i : ℕ) (r : WordValue) → i < length roots → cells_of (take (suc i) roots) ≡ cells_of (take i roots) ++ (get_or roots i r).cell ∷ []
cells_more [] i r h = absurd (omega arith)
cells_more (q ∷ roots) zero r h = refl
cells_more (q ∷ roots) (suc i) r h = ap (λ (l : List ℕ). q.cell ∷ l) (cells_more roots i r (omega arith))

pub one_cell_more : (roots : List WordValue) (i : ℕ) (r : WordValue) (cell : ℕ) (before after : List ℕ) → before ≡ cells_of (take i roots) → i < length roots → r ≡ get_or roots i r → cell ≡ r.cell → after ≡ before ++ cell ∷ [] → after ≡ cells_of (take (i + 1) roots)
one_cell_more roots i r cell before after were lt is same e = let one : suc i ≡ i + 1 = omega arith in
    e ∙ (ap (λ (l : List ℕ). l ++ cell ∷ []) were ∙ (ap (λ (n : ℕ). cells_of (take i roots) ++ n ∷ []) (same ∙ ap (λ (q : WordValue). q.cell) is)
    ∙ (sym (cells_more roots i r lt) ∙ ap (λ (n : ℕ). cells_of (take n roots)) one)))
