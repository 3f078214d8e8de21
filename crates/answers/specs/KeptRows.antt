-- What the blocks of functions begin with, kept in places at the numbers of the functions.
use Rattle.std.specs.Prelude.{◌≡◌, ◌≢◌, ℕ, List, Option, Some, None, slice_get, unwrap_or}
use Rattle.ir_ast.specs.declared.function.Function.{Function}
use Rattle.certs.specs.declared.section.Section.{Section}
use Rattle.layout.specs.Layouts.{LaidOut}
use Rattle.facts.specs.Facts.{FactSet}
use Rattle.block_check.specs.Rows.{AreRowsOf}
use Rattle.answers.specs.Local.{laid_with}
use Rattle.answers.specs.Edited.{IsEdited}
use Rattle.answers.specs.declared.callers.Callers.{Callers}

-- what is kept of a function, if anything is
abbrev pub rows_at : List (Option (List FactSet)) → (func : ℕ) → Option (List FactSet)
rows_at places func = unwrap_or (slice_get places func) None

-- nothing is kept
abbrev pub AreEmpty : List (Option (List FactSet)) → Type 0
AreEmpty places = (func : ℕ) → rows_at places func ≡ None

-- what is kept of a function is what its blocks begin with
abbrev pub AreKept : LaidOut → (certs : List Section) → List (Option (List FactSet)) → Type 0
AreKept program certs places = (func : ℕ) (rows : List FactSet) → rows_at places func ≡ Some rows → AreRowsOf program certs func rows

-- so it is, and nothing is kept of this function
abbrev pub AreOthersKept : LaidOut → (certs : List Section) → (func : ℕ) → List (Option (List FactSet)) → Type 0
AreOthersKept program certs func places = (rows_at places func ≡ None) × AreKept program certs places

-- what is kept of the other functions is kept on
abbrev pub StayKept : (func : ℕ) → (places after : List (Option (List FactSet))) → Type 0
StayKept func places after = (other : ℕ) (rows : List FactSet) → other ≢ func → rows_at places other ≡ Some rows → rows_at after other ≡ Some rows

-- what the blocks of a function begin with stays so, where its code and its certificate are the same
abbrev pub RowsStay : Type 0
RowsStay =
    (p : LaidOut) (certs : List Section) (fs : List Function) (others : List Section) (func : ℕ) (rows : List FactSet)
    → slice_get fs func ≡ slice_get p.of_module.functions func → slice_get others func ≡ slice_get certs func
    → AreRowsOf p certs func rows → AreRowsOf (laid_with p fs) others func rows

-- where one function is replaced, or its certificate, what is kept of the others stays right
abbrev pub OthersStay : Type 0
OthersStay =
    (p : LaidOut) (certs : List Section) (q : LaidOut) (others : List Section) (func : ℕ) (callers : Callers) (places : List (Option (List FactSet)))
    → IsEdited p certs q others func callers → AreOthersKept p certs func places → AreOthersKept q others func places
