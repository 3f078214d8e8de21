-- A set that gets or loses one cell.
use Rattle.std.proofs.Common.{◌≡◌, ◌≢◌, ◌⊎◌, inl, inr, ℕ, zero, suc, ◌<◌, Bool, true, false, List, [], ◌∷◌, length, slice_set, refl, ap, subst, ◌∙◌, arith}
use Rattle.std.specs.Prelude.{replicate}
use Rattle.std.proofs.lemmas.Bool.{cases_eq}
use Rattle.lemmas.specs.Lists.{IsIn}
use Rattle.watch.specs.CellSets.{has, with_cell, with_cells}

pub has_set : (set : List Bool) (i : ℕ) (b : Bool) → i < length set → has (slice_set set i b) i ≡ b
has_set [] i b lt = absurd (omega (arith, lt))
has_set (x ∷ xs) zero b lt = refl
has_set (x ∷ xs) (suc i) b lt = has_set xs i b (omega (arith, lt))

pub has_other : (set : List Bool) (i : ℕ) (b : Bool) (c : ℕ) → c ≢ i → has (slice_set set i b) c ≡ has set c
has_other [] i b c ne = refl
has_other (x ∷ xs) zero b zero ne = absurd (ne refl)
has_other (x ∷ xs) zero b (suc c) ne = refl
has_other (x ∷ xs) (suc i) b zero ne = refl
has_other (x ∷ xs) (suc i) b (suc c) ne = has_other xs i b c (λ e. ne (ap suc e))

-- a cell that was taken out is not there, also one that never can be
pub has_removed : (set : List Bool) (i : ℕ) → has (slice_set set i false) i ≡ false
has_removed [] i = refl
has_removed (x ∷ xs) zero = refl
has_removed (x ∷ xs) (suc i) = has_removed xs i

pub has_none : (count c : ℕ) → has (replicate count false) c ≡ false
has_none zero c = refl
has_none (suc count) zero = refl
has_none (suc count) (suc c) = has_none count c

pub length_set : (set : List Bool) (i : ℕ) (b : Bool) → length (slice_set set i b) ≡ length set
length_set [] i b = refl
length_set (x ∷ xs) zero b = refl
length_set (x ∷ xs) (suc i) b = ap suc (length_set xs i b)

-- what is in a set has a place in it
pub has_within : (set : List Bool) (c : ℕ) → has set c ≡ true → c < length set
has_within [] c e = absurd cc
has_within (x ∷ xs) zero e = omega arith
has_within (x ∷ xs) (suc c) e = let lt = has_within xs c e in omega (arith, lt)

-- ---- one cell and several that are added

added_one : (set : List Bool) (cell c : ℕ) → c ≢ cell → has (with_cell set cell) c ≡ has set c
added_one set zero c ne = refl
added_one set (suc cell) c ne = has_other set (suc cell) true c ne

pub length_with : (set : List Bool) (cell : ℕ) → length (with_cell set cell) ≡ length set
length_with set zero = refl
length_with set (suc cell) = length_set set (suc cell) true

pub length_all : (set : List Bool) (cells : List ℕ) → length (with_cells set cells) ≡ length set
length_all set [] = refl
length_all set (cell ∷ cells) = length_all (with_cell set cell) cells ∙ length_with set cell

-- what is in the set stays in it
stays_one : (set : List Bool) (cell c : ℕ) → has set c ≡ true → has (with_cell set cell) c ≡ true
stays_one set zero c h = h
stays_one set (suc cell) c h = go (cases_eq c (suc cell))
  where
    go : (c ≡ suc cell) ⊎ (c ≢ suc cell) → has (slice_set set (suc cell) true) c ≡ true
    go (inl e) = rw e (has_set set (suc cell) true (has_within set (suc cell) (subst (λ (i : ℕ). has set i ≡ true) e h)))
    go (inr ne) = has_other set (suc cell) true c ne ∙ h

pub stays : (set : List Bool) (cells : List ℕ) (c : ℕ) → has set c ≡ true → has (with_cells set cells) c ≡ true
stays set [] c h = h
stays set (cell ∷ cells) c h = stays (with_cell set cell) cells c (stays_one set cell c h)

-- each of the cells is in it afterwards
pub has_all : (set : List Bool) (cells : List ℕ) (c : ℕ) → 0 < c → c < length set → IsIn c cells → has (with_cells set cells) c ≡ true
has_all set [] c lt within is = absurd is
has_all set (cell ∷ cells) c lt within (inl e) = stays (with_cell set cell) cells c (here c cell lt within e)
  where
    here : (c cell : ℕ) → 0 < c → c < length set → c ≡ cell → has (with_cell set cell) c ≡ true
    here c zero lt within e = absurd (omega (arith, lt, e))
    here c (suc cell) lt within e = rw e (has_set set (suc cell) true (omega (arith, within, e)))
has_all set (cell ∷ cells) c lt within (inr is) = has_all (with_cell set cell) cells c lt (let same = length_with set cell in omega (arith, within, same)) is

-- and no other one that was not there
pub has_no_other : (set : List Bool) (cells : List ℕ) (c : ℕ) → (IsIn c cells → ⊥) → has (with_cells set cells) c ≡ has set c
has_no_other set [] c out = refl
has_no_other set (cell ∷ cells) c out = has_no_other (with_cell set cell) cells c (λ is. out (inr is)) ∙ added_one set cell c (λ e. out (inl e))

pub one_of_or_not : (c : ℕ) (cells : List ℕ) → IsIn c cells ⊎ (IsIn c cells → ⊥)
one_of_or_not c [] = inr (λ is. is)
one_of_or_not c (cell ∷ cells) = go (cases_eq c cell) (one_of_or_not c cells)
  where
    go : (c ≡ cell) ⊎ (c ≢ cell) → IsIn c cells ⊎ (IsIn c cells → ⊥) → IsIn c (cell ∷ cells) ⊎ (IsIn c (cell ∷ cells) → ⊥)
    go (inl e) d = inl (inl e)
    go (inr ne) (inl is) = inl (inr is)
    go (inr ne) (inr out) = inr (λ is. elim is [ inl e ↦ ne e | inr later ↦ out later ])

-- null is in no set to which cells were added
pub has_no_null : (set : List Bool) (cells : List ℕ) → has (with_cells set cells) 0 ≡ has set 0
has_no_null set [] = refl
has_no_null set (zero ∷ cells) = has_no_null set cells
has_no_null set (suc cell ∷ cells) = has_no_null (slice_set set (suc cell) true) cells ∙ has_other set (suc cell) true 0 (λ e. absurd cc)
