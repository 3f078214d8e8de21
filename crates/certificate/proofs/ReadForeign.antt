-- What the lines of functions outside give, and what they leave as it was.
use Rattle.std.proofs.Common.{◌≡◌, ℕ, Bool, true, false, not, ◌&&◌, ◌||◌, [], ◌∷◌, ◌++◌, codes, List, Option, Some, None, refl, ap, sym, subst, ◌∙◌}
use Rattle.std.specs.Prelude.{◌==◌, if◌then◌else◌}
use Rattle.std.specs.List.{list_all, list_any}
use Rattle.std.proofs.lemmas.Bool.{eqb-true, eq-eqb}
use Rattle.lemmas.specs.Bools.{and_parts, and_true, never_true, not_true, or_first, or_neither, or_second}
use Rattle.lemmas.specs.Lists.{all_end}
use Rattle.grammar.specs.Many.{Listed}
use Rattle.ir_ast.specs.Names.{place_of}
use Rattle.ir_ast.specs.declared.module.Module.{Module}
use Rattle.ir_tokens.specs.Bytes.{Text as Bytes}
use Rattle.name_text.specs.Naming.{name_in}
use Rattle.name_text.specs.Reader.{word}
use Rattle.name_text.specs.declared.naming.Sigil.TheVariants as sigil
use Rattle.types.specs.RuntimeCall.{is_outside}
use Rattle.certs.specs.ForeignFit.{are_once, functions_fit}
use Rattle.certificate.specs.ForeignForms.{outside_named, new_outside, foreign_line, past_foreign, foreign_lines, taken_foreign, foreign_by, foreign_names}
use Rattle.certificate.specs.Forms.{free_by}
use Rattle.certificate.specs.Input.{Progress, Input, with_foreign, without_foreign}
use Rattle.certificate.specs.Names.{outside_of_word}
use Rattle.certificate.specs.Names as names
use Rattle.certificate.specs.declared.naming.Naming.{Naming}
use Rattle.certificate.specs.declared.naming.Naming.TheVariants as naming
use Rattle.certificate.proofs.ReadWords.{still, still_taken, taken_is, still_expect, still_line_end}

-- ---- names that stand once

-- a name that is another one
pub other_name : (s t : ℕ) → s == t ≡ false → t == s ≡ false
other_name s t e = never_true (t == s) (λ same. (let no : true ≡ false = sym (eq-eqb s t (sym (eqb-true t s same))) ∙ e in cc))

-- a name that is neither the last nor one of those before it is none of them
none_end : (xs : List ℕ) (x s : ℕ) → list_any (λ t. t == x) xs ≡ false → s == x ≡ false → list_any (λ t. t == x) (xs ++ s ∷ []) ≡ false
none_end [] x s free apart = rw apart refl
none_end (y ∷ xs) x s free apart =
    let parts = or_neither (y == x) (list_any (λ t. t == x) xs) free in
    rw (parts.0, none_end xs x s parts.1 apart) refl

-- with a name that is none of them they still stand once
once_end : (xs : List ℕ) (s : ℕ) → are_once xs ≡ true → list_any (λ t. t == s) xs ≡ false → are_once (xs ++ s ∷ []) ≡ true
once_end [] s once free = refl
once_end (x ∷ xs) s once free =
    let parts = and_parts (not (list_any (λ t. t == x) xs)) (are_once xs) once in
    let apart = or_neither (x == s) (list_any (λ t. t == s) xs) free in
    let none = none_end xs x s (not_true (list_any (λ t. t == x) xs) parts.0) (other_name x s apart.0) in
    and_true (not (list_any (λ t. t == x) (xs ++ s ∷ []))) (are_once (xs ++ s ∷ [])) (ap not none) (once_end xs s parts.1 apart.1)

any_middle : (xs : List ℕ) (x s : ℕ) (ys : List ℕ) → s == x ≡ true → list_any (λ t. t == x) (xs ++ s ∷ ys) ≡ true
any_middle [] x s ys same = or_first (s == x) (list_any (λ t. t == x) ys) same
any_middle (y ∷ xs) x s ys same = or_second (y == x) (list_any (λ t. t == x) (xs ++ s ∷ ys)) (any_middle xs x s ys same)

-- where names stand once, one is none of those before it
pub once_before : (xs : List ℕ) (s : ℕ) (ys : List ℕ) → are_once (xs ++ s ∷ ys) ≡ true → list_any (λ t. t == s) xs ≡ false
once_before [] s ys once = refl
once_before (x ∷ xs) s ys once =
    let parts = and_parts (not (list_any (λ t. t == x) (xs ++ s ∷ ys))) (are_once (xs ++ s ∷ ys)) once in
    let none = not_true (list_any (λ t. t == x) (xs ++ s ∷ ys)) parts.0 in
    let apart : s == x ≡ false = never_true (s == x) (λ same. (let no : true ≡ false = sym (any_middle xs x s ys same) ∙ none in cc)) in
    rw (other_name s x apart, once_before xs s ys parts.1) refl

-- ---- a line

-- a function outside that a word names
outside_is : (m : Module) (w : Bytes) (s : ℕ) → outside_of_word m w ≡ naming.Named s → is_outside m s ≡ true
outside_is m w s e = by_name (name_in sigil.Global w) e
  where
    by_outside : (p : ℕ) (is : Bool) → is_outside m p ≡ is → (if is then naming.Named p else naming.Unknown) ≡ naming.Named s → is_outside m s ≡ true
    by_outside p false is e = absurd cc
    by_outside p true is e = let q : p ≡ s = cc in ap (is_outside m) (sym q) ∙ is

    by_place : (p : Option ℕ) → names.outside_at m p ≡ naming.Named s → is_outside m s ≡ true
    by_place None e = absurd cc
    by_place (Some p) e = by_outside p (is_outside m p) refl e

    by_name : (n : Option Bytes) → names.outside_of_name m n ≡ naming.Named s → is_outside m s ≡ true
    by_name None e = absurd cc
    by_name (Some name) e = by_place (place_of name m.symbols) e

-- a function outside that was not listed
abbrev IsNew : Module → Progress → (symbol : ℕ) → Type 0
IsNew m p symbol = (is_outside m symbol ≡ true) × (list_any (λ t. t == symbol) p.foreign ≡ false)

new_outside_is : (m : Module) (i : Input) (symbol : ℕ) (o : Input) → (new_outside m).says i symbol o → IsNew m i.read symbol × (still i ≡ still o)
unfolding new_outside
new_outside_is m i symbol o h = by (outside_of_word m (word i)) refl h
  where
    by_free : (k : ℕ) (given : Bool) → is_outside m k ≡ true → list_any (λ t. t == k) i.read.foreign ≡ given → (free_by k given).says i symbol o → IsNew m i.read symbol × (still i ≡ still o)
    by_free k true is free h = absurd h
    by_free k false is free h = (subst (IsNew m i.read) (taken_is k i symbol o h) (is, free), still_taken k i symbol o h)

    by : (n : Naming) → outside_of_word m (word i) ≡ n → (outside_named n).says i symbol o → IsNew m i.read symbol × (still i ≡ still o)
    by naming.NoName is h = absurd h
    by naming.Unknown is h = absurd h
    by (naming.Named k) is h = by_free k (list_any (λ t. t == k) i.read.foreign) (outside_is m (word i) k is) refl h

line_gives : (m : Module) (i : Input) (u : Unit {0}) (o : Input) → (foreign_line m).says i u o → (symbol : ℕ) × IsNew m i.read symbol × (with_foreign symbol i.read ≡ o.read)
unfolding foreign_line
line_gives m i u o h =
    let a = h.3 in
    let b = a.3 in
    let c = b.3 in
    let word_read = still_expect (codes "foreign") i h.0 h.1 h.2 in
    let new = new_outside_is m h.1 a.0 a.1 a.2 in
    let same : i.read ≡ c.1.read = ap (λ (x : Input). x.read) (word_read ∙ new.1 ∙ still_expect (codes "none") a.1 b.0 b.1 b.2 ∙ still_line_end b.1 c.0 c.1 c.2) in
    let here : h.1.read ≡ i.read = sym (ap (λ (x : Input). x.read) word_read) in
    (a.0, subst (λ (p : Progress). IsNew m p a.0) here new.0, ap (with_foreign a.0) same ∙ ap (λ (x : Input). x.read) c.3.1)

-- ---- lines

-- the functions outside are such, and each is listed once
abbrev Fit : Module → Progress → Type 0
Fit m p = (list_all (is_outside m) p.foreign ≡ true) × (are_once p.foreign ≡ true)

-- all else is as it was
abbrev Rest : Progress → Progress → Type 0
Rest p q = (p.sections ≡ q.sections) × (p.shapes ≡ q.shapes)

step_fits : (m : Module) (p : Progress) (symbol : ℕ) → IsNew m p symbol → Fit m p → Fit m (with_foreign symbol p)
unfolding with_foreign
step_fits m p symbol new fit = (all_end (is_outside m) p.foreign symbol fit.0 new.0, once_end p.foreign symbol fit.1 new.1)

step_rest : (p : Progress) (symbol : ℕ) → Rest p (with_foreign symbol p)
unfolding with_foreign
step_rest p symbol = (refl, refl)

lines_are : (m : Module) (i : Input) (xs : List (Unit {0})) (o : Input) → Listed past_foreign (foreign_line m).says i xs o → Fit m i.read → Fit m o.read × Rest i.read o.read
lines_are m i [] o h fit =
    let same : i.read ≡ o.read = ap (λ (x : Input). x.read) h.1 in
    (subst (Fit m) same fit, (ap (λ (p : Progress). p.sections) same, ap (λ (p : Progress). p.shapes) same))
lines_are m i (u ∷ xs) o h fit =
    let one = line_gives m i u h.1 h.2 in
    let rest : Rest i.read h.1.read = subst (Rest i.read) one.2 (step_rest i.read one.0) in
    let more = lines_are m h.1 xs o h.3 (subst (Fit m) one.2 (step_fits m i.read one.0 one.1 fit)) in
    (more.0, (rest.0 ∙ more.1.0, rest.1 ∙ more.1.1))

fits_wide : (m : Module) (symbols : List ℕ) → m.wide ≡ true → list_all (is_outside m) symbols ≡ true → are_once symbols ≡ true → functions_fit m symbols ≡ true
fits_wide m [] wide all once = refl
fits_wide m (s ∷ symbols) wide all once = and_true m.wide (list_all (is_outside m) (s ∷ symbols) && are_once (s ∷ symbols)) wide (and_true (list_all (is_outside m) (s ∷ symbols)) (are_once (s ∷ symbols)) all once)

-- what is read, where nothing was read before, fits the module, and all else is as it was
pub names_are : (m : Module) (i : Input) (symbols : List ℕ) (o : Input) → (foreign_names m).says i symbols o → i.read.foreign ≡ [] → (functions_fit m symbols ≡ true) × (i.read.sections ≡ o.read.sections) × (i.read.shapes ≡ o.read.shapes)
unfolding foreign_names foreign_lines taken_foreign without_foreign
names_are m i symbols o h none = by m.wide refl h
  where
    by : (wide : Bool) → m.wide ≡ wide → (foreign_by m wide).says i symbols o → (functions_fit m symbols ≡ true) × (i.read.sections ≡ o.read.sections) × (i.read.shapes ≡ o.read.shapes)
    by false is h = (ap (functions_fit m) (sym h.0), ap (λ (x : Input). x.read.sections) h.1, ap (λ (x : Input). x.read.shapes) h.1)
    by true is h =
        let start : Fit m i.read = (ap (list_all (is_outside m)) none, ap are_once none) in
        let lines = lines_are m i h.2.0 h.2.1 h.2.2 start in
        let ends : h.2.1.read ≡ h.1.read = ap (λ (x : Input). x.read) h.2.3.1 in
        let all : list_all (is_outside m) symbols ≡ true = sym (ap (list_all (is_outside m)) (ap (λ (p : Progress). p.foreign) ends ∙ h.3.0)) ∙ lines.0.0 in
        let once : are_once symbols ≡ true = sym (ap are_once (ap (λ (p : Progress). p.foreign) ends ∙ h.3.0)) ∙ lines.0.1 in (
          fits_wide m symbols is all once,
          lines.1.0 ∙ ap (λ (p : Progress). p.sections) ends ∙ ap (λ (x : Input). x.read.sections) h.3.1,
          lines.1.1 ∙ ap (λ (p : Progress). p.shapes) ends ∙ ap (λ (x : Input). x.read.shapes) h.3.1,
        )
