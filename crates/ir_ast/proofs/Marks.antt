-- The marks of listed names.
use Rattle.std.proofs.Common.{◌≡◌, ◌<◌, ℕ, zero, suc, Bool, true, false, ◌||◌, List, [], ◌∷◌, ◌++◌, length, Option, refl, sym, ap, ◌∙◌, arith}
use Rattle.std.specs.Prelude.{◌==◌, slice_set, unwrap_or}
use Rattle.std.specs.List.{list_any}
use Rattle.std.proofs.lemmas.Bool.{eqb-true, eq-eqb}
use Rattle.lemmas.specs.Lists.{set_here, set_other}
use Rattle.ir_ast.specs.SymbolList.{is_marked, AreMarks}

-- one more place without a mark marks nothing
pub marks_longer : (marks : List Bool) (s : ℕ) → is_marked (marks ++ false ∷ []) s ≡ is_marked marks s
marks_longer [] zero = refl
marks_longer [] (suc s) = refl
marks_longer (b ∷ marks) zero = refl
marks_longer (b ∷ marks) (suc s) = marks_longer marks s

or_true : (a : Bool) → (a || true) ≡ true
or_true true = refl
or_true false = refl

or_nothing : (a : Bool) → (a || false) ≡ a
or_nothing true = refl
or_nothing false = refl

or_three : (a b c : Bool) → ((a || b) || c) ≡ (a || (b || c))
or_three true b c = refl
or_three false b c = refl

-- a name that is marked, and all that were
pub set_marks : (marks : List Bool) (symbol s : ℕ) → symbol < length marks → is_marked (slice_set marks symbol true) s ≡ (is_marked marks s || symbol == s)
set_marks marks symbol s lt = by (symbol == s) refl
  where
    by : (same : Bool) → symbol == s ≡ same → is_marked (slice_set marks symbol true) s ≡ (is_marked marks s || symbol == s)
    by true e =
        ap (λ (x : ℕ). is_marked (slice_set marks symbol true) x) (sym (eqb-true symbol s e)) ∙ ap (λ (x : Option Bool). unwrap_or x false) (set_here marks symbol true lt)
        ∙ sym (ap (λ b. is_marked marks s || b) e ∙ or_true (is_marked marks s))
    by false e =
        ap (λ (x : Option Bool). unwrap_or x false) (set_other marks symbol s true (λ same. (let no : true ≡ false = sym (eq-eqb symbol s (sym same)) ∙ e in cc)))
        ∙ sym (ap (λ b. is_marked marks s || b) e ∙ or_nothing (is_marked marks s))

any_more : (symbols : List ℕ) (symbol s : ℕ) → list_any (λ t. t == s) (symbols ++ symbol ∷ []) ≡ (list_any (λ t. t == s) symbols || symbol == s)
any_more [] symbol s = or_nothing (symbol == s)
any_more (t ∷ symbols) symbol s = ap (λ b. t == s || b) (any_more symbols symbol s) ∙ sym (or_three (t == s) (list_any (λ t. t == s) symbols) (symbol == s))

-- with one name more
pub marks_after : (symbols : List ℕ) (marks covered : List Bool) (symbol : ℕ) → AreMarks symbols marks → ((s : ℕ) → is_marked covered s ≡ is_marked marks s) → symbol < length covered → AreMarks (symbols ++ symbol ∷ []) (slice_set covered symbol true)
marks_after symbols marks covered symbol are same lt = λ s. set_marks covered symbol s lt ∙ ap (λ b. b || symbol == s) (same s ∙ are s) ∙ sym (any_more symbols symbol s)
