-- What the lines of numbers of layouts give, and what they leave as it was.
use Rattle.std.proofs.Common.{◌≡◌, ℕ, Bool, true, false, not, ◌&&◌, ◌||◌, [], ◌∷◌, ◌++◌, codes, List, Option, Some, None, refl, ap, sym, subst, ◌∙◌}
use Rattle.std.specs.Prelude.{◌==◌, if◌then◌else◌}
use Rattle.std.specs.List.{list_all, list_any}
use Rattle.lemmas.specs.Bools.{and_parts, and_true, not_true, or_neither}
use Rattle.lemmas.specs.Lists.{all_end}
use Rattle.grammar.specs.Many.{Listed}
use Rattle.ir_ast.specs.declared.module.Module.{Module}
use Rattle.ir_ast.specs.declared.outside.LayoutNumber.{LayoutNumber}
use Rattle.name_text.specs.Numbers.{number_of_word}
use Rattle.name_text.specs.Reader.{word}
use Rattle.types.specs.LayoutNumbers.{is_layout_number}
use Rattle.certs.specs.Fits.{stands_for}
use Rattle.certs.specs.NumbersFit.{are_numbered_once, has_layout, has_number, may_number, numbers_fit}
use Rattle.certificate.specs.Forms.{free_by}
use Rattle.certificate.specs.Input.{Progress, Input, with_number, without_numbers}
use Rattle.certificate.specs.Names.{layout_of_word}
use Rattle.certificate.specs.NumberForms.{unnumbered, new_layout, short_number, short_of_word, not_numbered, new_number, number_line, past_numbers, number_lines, taken_numbers, numbers_by, layout_numbers}
use Rattle.certificate.specs.declared.naming.Naming.{Naming}
use Rattle.certificate.specs.declared.naming.Naming.TheVariants as naming
use Rattle.certificate.proofs.ReadForeign.{other_name}
use Rattle.certificate.proofs.ReadWords.{still, layout_is, still_taken, taken_is, still_expect, still_line_end}

-- ---- layouts and numbers that stand once

-- what is neither one of those before nor the last is none of them
any_end : {A : Type 0} (p : A → Bool) (xs : List A) (s : A) → list_any p xs ≡ false → p s ≡ false → list_any p (xs ++ s ∷ []) ≡ false
any_end p [] s none last = rw last refl
any_end p (x ∷ xs) s none last = let parts = or_neither (p x) (list_any p xs) none in rw (parts.0, any_end p xs s parts.1 last) refl

-- with a line whose layout and whose number are in none of them each still stands once
once_end : (xs : List LayoutNumber) (s : LayoutNumber) → are_numbered_once xs ≡ true → has_layout xs s.layout ≡ false → has_number xs s.number ≡ false → are_numbered_once (xs ++ s ∷ []) ≡ true
once_end [] s once a b = refl
once_end (x ∷ xs) s once a b =
    let parts = and_parts (not (has_layout xs x.layout || has_number xs x.number)) (are_numbered_once xs) once in
    let none = or_neither (has_layout xs x.layout) (has_number xs x.number) (not_true (has_layout xs x.layout || has_number xs x.number) parts.0) in
    let layouts = or_neither (x.layout == s.layout) (has_layout xs s.layout) a in
    let numbers = or_neither (x.number == s.number) (has_number xs s.number) b in
    let l : has_layout (xs ++ s ∷ []) x.layout ≡ false = any_end (λ (line : LayoutNumber). line.layout == x.layout) xs s none.0 (other_name x.layout s.layout layouts.0) in
    let n : has_number (xs ++ s ∷ []) x.number ≡ false = any_end (λ (line : LayoutNumber). line.number == x.number) xs s none.1 (other_name x.number s.number numbers.0) in
    let here : not (has_layout (xs ++ s ∷ []) x.layout || has_number (xs ++ s ∷ []) x.number) ≡ true = rw (l, n) refl in
    and_true (not (has_layout (xs ++ s ∷ []) x.layout || has_number (xs ++ s ∷ []) x.number)) (are_numbered_once (xs ++ s ∷ [])) here (once_end xs s parts.1 layouts.1 numbers.1)

-- ---- a line

-- a number of 32 bits is one
short_is : (x : Option ℕ) (n : ℕ) → short_number x ≡ Some n → is_layout_number n ≡ true
short_is None n e = absurd cc
short_is (Some k) n e = by (is_layout_number k) refl e
  where
    by : (b : Bool) → is_layout_number k ≡ b → (if b then Some k else None) ≡ Some n → is_layout_number n ≡ true
    by true is e = (let q : k ≡ n = cc in ap (λ x. is_layout_number x) (sym q) ∙ is)
    by false is e = absurd cc

-- a layout of the module that had no number
abbrev IsNewLayout : Module → Progress → (layout : ℕ) → Type 0
IsNewLayout m p layout = (list_any (stands_for layout) m.struct_of ≡ true) × (has_layout p.numbers layout ≡ false)

new_layout_is : (m : Module) (i : Input) (layout : ℕ) (o : Input) → (new_layout m).says i layout o → IsNewLayout m i.read layout × (still i ≡ still o)
unfolding new_layout
new_layout_is m i layout o h = by (layout_of_word m (word i)) refl h
  where
    by_free : (k : ℕ) (given : Bool) → list_any (stands_for k) m.struct_of ≡ true → has_layout i.read.numbers k ≡ given → (free_by k given).says i layout o → IsNewLayout m i.read layout × (still i ≡ still o)
    by_free k true is free h = absurd h
    by_free k false is free h = (subst (IsNewLayout m i.read) (taken_is k i layout o h) (is, free), still_taken k i layout o h)

    by : (n : Naming) → layout_of_word m (word i) ≡ n → (unnumbered n).says i layout o → IsNewLayout m i.read layout × (still i ≡ still o)
    by naming.NoName is h = absurd h
    by naming.Unknown is h = absurd h
    by (naming.Named k) is h = by_free k (has_layout i.read.numbers k) (layout_is m (word i) k is) refl h

-- a number of 32 bits that no layout had
abbrev IsNewNumber : Progress → (number : ℕ) → Type 0
IsNewNumber p number = (is_layout_number number ≡ true) × (has_number p.numbers number ≡ false)

new_number_is : (i : Input) (number : ℕ) (o : Input) → new_number.says i number o → IsNewNumber i.read number × (still i ≡ still o)
unfolding new_number
new_number_is i number o h = by (short_of_word (word i)) refl h
  where
    by_free : (k : ℕ) (given : Bool) → is_layout_number k ≡ true → has_number i.read.numbers k ≡ given → (free_by k given).says i number o → IsNewNumber i.read number × (still i ≡ still o)
    by_free k true is free h = absurd h
    by_free k false is free h = (subst (IsNewNumber i.read) (taken_is k i number o h) (is, free), still_taken k i number o h)

    by : (n : Option ℕ) → short_of_word (word i) ≡ n → (not_numbered n).says i number o → IsNewNumber i.read number × (still i ≡ still o)
    by None is h = absurd h
    by (Some k) is h = by_free k (has_number i.read.numbers k) (short_is (number_of_word (word i)) k is) refl h

-- a line of the module whose layout and whose number were not listed
abbrev IsNew : Module → Progress → LayoutNumber → Type 0
IsNew m p line = (may_number m line ≡ true) × (has_layout p.numbers line.layout ≡ false) × (has_number p.numbers line.number ≡ false)

line_gives : (m : Module) (i : Input) (u : Unit {0}) (o : Input) → (number_line m).says i u o → (line : LayoutNumber) × IsNew m i.read line × (with_number line i.read ≡ o.read)
unfolding number_line
line_gives m i u o h =
    let a = h.3 in
    let b = a.3 in
    let c = b.3 in
    let word_read = still_expect (codes "number") i h.0 h.1 h.2 in
    let layout = new_layout_is m h.1 a.0 a.1 a.2 in
    let number = new_number_is a.1 b.0 b.1 b.2 in
    let here : h.1.read ≡ i.read = sym (ap (λ (x : Input). x.read) word_read) in
    let there : a.1.read ≡ i.read = sym (ap (λ (x : Input). x.read) (word_read ∙ layout.1)) in
    let same : i.read ≡ c.1.read = ap (λ (x : Input). x.read) (word_read ∙ layout.1 ∙ number.1 ∙ still_line_end b.1 c.0 c.1 c.2) in
    let line : LayoutNumber = record { layout = a.0; number = b.0 } in
    let own : IsNewLayout m i.read a.0 = subst (λ (p : Progress). IsNewLayout m p a.0) here layout.0 in
    let free : IsNewNumber i.read b.0 = subst (λ (p : Progress). IsNewNumber p b.0) there number.0 in
    (line, (and_true (list_any (stands_for a.0) m.struct_of) (is_layout_number b.0) own.0 free.0, own.1, free.1), ap (with_number line) same ∙ ap (λ (x : Input). x.read) c.3.1)

-- ---- lines

-- the lines are of the module, and each layout and each number is listed once
abbrev Fit : Module → Progress → Type 0
Fit m p = (list_all (may_number m) p.numbers ≡ true) × (are_numbered_once p.numbers ≡ true)

-- all else is as it was
abbrev Rest : Progress → Progress → Type 0
Rest p q = (p.sections ≡ q.sections) × (p.shapes ≡ q.shapes) × (p.foreign ≡ q.foreign)

step_fits : (m : Module) (p : Progress) (line : LayoutNumber) → IsNew m p line → Fit m p → Fit m (with_number line p)
unfolding with_number
step_fits m p line new fit = (all_end (may_number m) p.numbers line fit.0 new.0, once_end p.numbers line fit.1 new.1 new.2)

step_rest : (p : Progress) (line : LayoutNumber) → Rest p (with_number line p)
unfolding with_number
step_rest p line = (refl, refl, refl)

lines_are : (m : Module) (i : Input) (xs : List (Unit {0})) (o : Input) → Listed past_numbers (number_line m).says i xs o → Fit m i.read → Fit m o.read × Rest i.read o.read
lines_are m i [] o h fit =
    let same : i.read ≡ o.read = ap (λ (x : Input). x.read) h.1 in
    (subst (Fit m) same fit, (ap (λ (p : Progress). p.sections) same, ap (λ (p : Progress). p.shapes) same, ap (λ (p : Progress). p.foreign) same))
lines_are m i (u ∷ xs) o h fit =
    let one = line_gives m i u h.1 h.2 in
    let rest : Rest i.read h.1.read = subst (Rest i.read) one.2 (step_rest i.read one.0) in
    let more = lines_are m h.1 xs o h.3 (subst (Fit m) one.2 (step_fits m i.read one.0 one.1 fit)) in
    (more.0, (rest.0 ∙ more.1.0, rest.1 ∙ more.1.1, rest.2 ∙ more.1.2))

fits_wide : (m : Module) (lines : List LayoutNumber) → m.wide ≡ true → list_all (may_number m) lines ≡ true → are_numbered_once lines ≡ true → numbers_fit m lines ≡ true
fits_wide m [] wide all once = refl
fits_wide m (s ∷ lines) wide all once = and_true m.wide (list_all (may_number m) (s ∷ lines) && are_numbered_once (s ∷ lines)) wide (and_true (list_all (may_number m) (s ∷ lines)) (are_numbered_once (s ∷ lines)) all once)

-- what is read, where nothing was read before, fits the module, and all else is as it was
pub numbers_are : (m : Module) (i : Input) (lines : List LayoutNumber) (o : Input) → (layout_numbers m).says i lines o → i.read.numbers ≡ [] → (numbers_fit m lines ≡ true) × Rest i.read o.read
unfolding layout_numbers number_lines taken_numbers without_numbers
numbers_are m i lines o h none = by m.wide refl h
  where
    by : (wide : Bool) → m.wide ≡ wide → (numbers_by m wide).says i lines o → (numbers_fit m lines ≡ true) × Rest i.read o.read
    by false is h = (ap (numbers_fit m) (sym h.0), (ap (λ (x : Input). x.read.sections) h.1, ap (λ (x : Input). x.read.shapes) h.1, ap (λ (x : Input). x.read.foreign) h.1))
    by true is h =
        let start : Fit m i.read = (ap (list_all (may_number m)) none, ap are_numbered_once none) in
        let read = lines_are m i h.2.0 h.2.1 h.2.2 start in
        let ends : h.2.1.read ≡ h.1.read = ap (λ (x : Input). x.read) h.2.3.1 in
        let all : list_all (may_number m) lines ≡ true = sym (ap (list_all (may_number m)) (ap (λ (p : Progress). p.numbers) ends ∙ h.3.0)) ∙ read.0.0 in
        let once : are_numbered_once lines ≡ true = sym (ap are_numbered_once (ap (λ (p : Progress). p.numbers) ends ∙ h.3.0)) ∙ read.0.1 in (
          fits_wide m lines is all once,
          (
            read.1.0 ∙ ap (λ (p : Progress). p.sections) ends ∙ ap (λ (x : Input). x.read.sections) h.3.1,
            read.1.1 ∙ ap (λ (p : Progress). p.shapes) ends ∙ ap (λ (x : Input). x.read.shapes) h.3.1,
            read.1.2 ∙ ap (λ (p : Progress). p.foreign) ends ∙ ap (λ (x : Input). x.read.foreign) h.3.1,
          ),
        )
