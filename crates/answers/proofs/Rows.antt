-- What is kept of functions is what their blocks begin with, and stays so where another one is replaced.
use Rattle.std.proofs.Common.{◌≡◌, ◌≢◌, ◌==◌, ◌++◌, ℕ, zero, suc, Bool, true, false, List, [], ◌∷◌, map, length, slice_get, Option, Some, None, is_some, refl, ap, sym, subst, ◌∙◌, eqb-true, eq-eqb}
use Rattle.std.specs.List.{range_with_len}
use Rattle.std.specs.Prelude.{slice_set, unwrap_or, IfSome}
use Rattle.std.specs.Borrow.{Bor}
use Rattle.std.specs.Option.{option_copied}
use Rattle.lemmas.specs.Lists.{set_is, set_other}
use Rattle.ir_ast.specs.declared.function.Function.{Function}
use Rattle.certs.specs.declared.section.Section.{Section}
use Rattle.layout.specs.Layouts.{LaidOut}
use Rattle.facts.specs.Facts.{FactSet}
use Rattle.block_rules.specs.Certified.{context_of}
use Rattle.block_check.specs.Rows.{given_all, AreRowsIn, AreRowsOf}
use Rattle.answers.specs.Laws.{StayGiven}
use Rattle.answers.specs.Local.{laid_with}
use Rattle.answers.specs.KeptRows.{rows_at, AreEmpty, AreKept, AreOthersKept, StayKept, RowsStay, OthersStay}

abbrev Places : Type 0
Places = List (Option (List FactSet))

-- ---- they stay

module _ (stay : StayGiven) (p : LaidOut) (certs : List Section) (fs : List Function) (others : List Section) where
  all_same : (f : Function) (section : Option Section) → given_all (context_of (laid_with p fs) others f section) ≡ given_all (context_of p certs f section)
  all_same f section = λ along. map (λ (block : ℕ). stay p certs fs others f section block along) (range_with_len 0 (length f.blocks))

  in_same : (section : Option Section) (x : Option Function) (rows : List FactSet) → AreRowsIn p certs section x rows → AreRowsIn (laid_with p fs) others section x rows
  in_same section None rows h = absurd h
  in_same section (Some f) rows h = h ∙ sym (all_same f section)

pub rows_stay : StayGiven → RowsStay
rows_stay stay p certs fs others func rows code section h =
    subst (λ (x : Option Section). AreRowsIn (laid_with p fs) others x (slice_get fs func) rows) (sym section)
    (subst (λ (x : Option Function). AreRowsIn (laid_with p fs) others (slice_get certs func) x rows) (sym code)
    (in_same stay p certs fs others (slice_get certs func) (slice_get p.of_module.functions func) rows h))

-- what is kept is of another function than one of which nothing is kept
is_other : (places : Places) (func other : ℕ) (rows : List FactSet) → rows_at places func ≡ None → rows_at places other ≡ Some rows → other ≢ func
is_other places func other rows none at = λ same. let both : None ≡ Some rows = sym none ∙ ap (rows_at places) (sym same) ∙ at in absurd cc

pub others_stay : StayGiven → OthersStay
others_stay stay p certs q others func callers places edit h = (
  h.0,
  λ other rows at.
      let differs : other ≢ func = is_other places func other rows h.0 at in
      subst (λ (r : LaidOut). AreRowsOf r others other rows) (sym edit.tables)
      (rows_stay stay p certs q.of_module.functions others other rows (edit.code other differs) (edit.sections other differs) (h.1 other rows at)),
)

-- ---- places

there : (x : Option (Option (List FactSet))) (rows : List FactSet) → unwrap_or x None ≡ Some rows → x ≡ Some (Some rows)
there None rows e = absurd cc
there (Some found) rows e = ap Some e

-- what is kept after something was put in a place is that, or what was kept before in another place
at_put : (places : Places) (func : ℕ) (put : Option (List FactSet)) (other : ℕ) (rows : List FactSet) → rows_at (slice_set places func put) other ≡ Some rows → other ≡ func → put ≡ Some rows
at_put places func put other rows at same =
    set_is places func put (Some rows) (there (slice_get (slice_set places func put) func) rows (ap (rows_at (slice_set places func put)) (sym same) ∙ at))

at_other : (places : Places) (func : ℕ) (put : Option (List FactSet)) (other : ℕ) → other ≢ func → rows_at (slice_set places func put) other ≡ rows_at places other
at_other places func put other differs = ap (λ (x : Option (Option (List FactSet))). unwrap_or x None) (set_other places func other put differs)

-- what a function's blocks begin with is put in its place
pub kept_more : (program : LaidOut) (certs : List Section) (replaced func : ℕ) (rows : List FactSet) (places after : Places) → after ≡ slice_set places func (Some rows) → (func == replaced) ≡ false → AreRowsOf program certs func rows
    → AreOthersKept program certs replaced places → AreOthersKept program certs replaced after
kept_more program certs replaced func rows places after is apart here h =
    subst (AreOthersKept program certs replaced) (sym is) (at_other places func (Some rows) replaced differs ∙ h.0, λ other found at. by other found at (other == func) refl)
  where
    differs : replaced ≢ func
    differs = λ s. let t = eq-eqb func replaced (sym s) in absurd cc

    by : (other : ℕ) (found : List FactSet) → rows_at (slice_set places func (Some rows)) other ≡ Some found → (b : Bool) → (other == func) ≡ b → AreRowsOf program certs other found
    by other found at true e =
        let same : other ≡ func = eqb-true other func e in
        let one : Some rows ≡ Some found = at_put places func (Some rows) other found at same in
        let rows_same : rows ≡ found = cc in
        subst (λ (n : ℕ). AreRowsOf program certs n found) (sym same) (subst (λ (l : List FactSet). AreRowsOf program certs func l) rows_same here)
    by other found at false e =
        let away : other ≢ func = λ s. let t = eq-eqb other func s in absurd cc in
        h.1 other found (sym (at_other places func (Some rows) other away) ∙ at)

-- what is kept of the others is kept on, where something is put in a place in which nothing was, or in that of the one function
pub put_new : (replaced func : ℕ) (put : Option (List FactSet)) (places after : Places) → after ≡ slice_set places func put → rows_at places func ≡ None → StayKept replaced places after
put_new replaced func put places after is none = λ other rows differs at.
    ap (λ (l : Places). rows_at l other) is ∙ at_other places func put other (is_other places func other rows none at) ∙ at

pub put_own : (func : ℕ) (put : Option (List FactSet)) (places after : Places) → after ≡ slice_set places func put → StayKept func places after
put_own func put places after is = λ other rows differs at. ap (λ (l : Places). rows_at l other) is ∙ at_other places func put other differs ∙ at

-- nothing is kept of a function where nothing is found
pub none_found : {A : Type 0} (found : Option (Bor A)) → is_some found ≡ false → option_copied found ≡ None
none_found None e = refl
none_found (Some rows) e = absurd cc

-- a place is emptied
none_there : (places : Places) (func : ℕ) (x : Option (Option (List FactSet))) → slice_get (slice_set places func None) func ≡ x → unwrap_or x None ≡ None
none_there places func None e = refl
none_there places func (Some found) e = sym (set_is places func None found e)

pub kept_less : (program : LaidOut) (certs : List Section) (func : ℕ) (places after : Places) → after ≡ slice_set places func None → AreKept program certs places → AreOthersKept program certs func after
kept_less program certs func places after is h =
    subst (AreOthersKept program certs func) (sym is) (none, λ other found at. h other found (sym (at_other places func None other (is_other (slice_set places func None) func other found none at)) ∙ at))
  where
    none : rows_at (slice_set places func None) func ≡ None
    none = none_there places func (slice_get (slice_set places func None) func) refl

-- nothing is kept where there are no places
pub empty_first : (places : Places) → places ≡ [] → AreEmpty places
empty_first places is = λ func. ap (λ (l : Places). rows_at l func) is

-- places that are added are empty
pub empty_more : (places after : Places) → after ≡ places ++ None ∷ [] → AreEmpty places → AreEmpty after
empty_more places after is h = λ func. ap (λ (l : Places). rows_at l func) is ∙ added places func (h func)
  where
    added : (l : Places) (n : ℕ) → rows_at l n ≡ None → rows_at (l ++ None ∷ []) n ≡ None
    added [] zero e = refl
    added [] (suc n) e = refl
    added (x ∷ l) zero e = e
    added (x ∷ l) (suc n) e = added l n e

-- ---- what is taken

-- what is taken of a function, if anything is kept of it, is what its blocks begin with
pub if_kept : (program : LaidOut) (certs : List Section) (func : ℕ) (places : Places) (found : Option (List FactSet)) → found ≡ rows_at places func → AreKept program certs places → IfSome found (AreRowsOf program certs func)
if_kept program certs func places None e h = tt
if_kept program certs func places (Some rows) e h = h func rows (sym e)
