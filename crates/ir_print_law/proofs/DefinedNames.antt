-- Keys that are defined one after another, counted on.
use Rattle.std.proofs.Common.{◌≡◌, ℕ, ◌+◌, ◌<◌, ◌≤◌, ◌^◌, Bool, true, false, List, [], ◌∷◌, ◌++◌, refl, sym, ap, subst, ◌∙◌, arith, append_assoc, inl, inr, ◌⊎◌}
use Rattle.std.specs.Prelude.{◌==◌, ◌&&◌, ◌||◌, if◌then◌else◌}
use Rattle.std.specs.Fmt.{decimal}
use Rattle.std.specs.List.{list_all}
use Rattle.std.proofs.lemmas.List.{append-nil}
use Rattle.lemmas.specs.Lists.{IsIn}
use Rattle.ir_ast.specs.LocalKeys.{key_of_name}
use Rattle.ir_forms.specs.Number as numbers
use Rattle.ir_tokens.specs.Bytes.{Text, is_digit}
use Rattle.name_text.specs.Readings.{AreBytes}
use Rattle.ir_print_law.specs.Stands.{AreDigits}
use Rattle.name_text.specs.Spelled.{number_is}
use Rattle.ir_print_law.proofs.Constants.{are_digits}
use Rattle.ir_print_law.specs.Definitions.{AreDefined}

-- the key of a name
abbrev pub IsNameKey : Text → Type 0
IsNameKey key = (name : Text) × AreBytes name × (key ≡ key_of_name name)

-- keys are defined in this order after those that were seen, each once; `next` is the next number then
abbrev pub Defines : (seen : List Text) → (unnamed : ℕ) → List Text → (next : ℕ) → Type 0
Defines seen unnamed [] next = unnamed ≡ next
Defines seen unnamed (key ∷ keys) next =
    (IsIn key seen → ⊥) × (((key ≡ decimal unnamed) × Defines (seen ++ key ∷ []) (unnamed + 1) keys next) ⊎ (IsNameKey key × Defines (seen ++ key ∷ []) unnamed keys next))

pub are_defined : (seen : List Text) (unnamed : ℕ) (keys : List Text) (next : ℕ) → Defines seen unnamed keys next → AreDefined seen unnamed keys
are_defined seen unnamed [] next h = tt
are_defined seen unnamed (key ∷ keys) next h = (
  h.0,
  elim h.1 [
    | inl p ↦ inl (p.0, are_defined (seen ++ key ∷ []) (unnamed + 1) keys next p.1)
    | inr p ↦ inr (p.0, are_defined (seen ++ key ∷ []) unnamed keys next p.1)
  ],
)

-- a further name
pub defines_name : (seen : List Text) (unnamed : ℕ) (keys : List Text) (next : ℕ) (key : Text) → Defines seen unnamed keys next → (IsIn key (seen ++ keys) → ⊥) → IsNameKey key
    → Defines seen unnamed (keys ++ key ∷ []) next
defines_name seen unnamed [] next key h new is = (λ there. new (subst (λ (l : List Text). IsIn key l) (sym (append-nil seen)) there), inr (is, h))
defines_name seen unnamed (x ∷ keys) next key h new is =
    let further : IsIn key ((seen ++ x ∷ []) ++ keys) → ⊥ = λ there. new (subst (λ (l : List Text). IsIn key l) (append_assoc seen (x ∷ []) keys) there) in (
      h.0,
      elim h.1 [
        | inl p ↦ inl (p.0, defines_name (seen ++ x ∷ []) (unnamed + 1) keys next key p.1 further is)
        | inr p ↦ inr (p.0, defines_name (seen ++ x ∷ []) unnamed keys next key p.1 further is)
      ],
    )

-- the next number
pub defines_number : (seen : List Text) (unnamed : ℕ) (keys : List Text) (next : ℕ) (key : Text) → Defines seen unnamed keys next → (IsIn key (seen ++ keys) → ⊥) → key ≡ decimal next
    → Defines seen unnamed (keys ++ key ∷ []) (next + 1)
defines_number seen unnamed [] next key h new is = (λ there. new (subst (λ (l : List Text). IsIn key l) (sym (append-nil seen)) there), inl (is ∙ ap decimal (sym h), ap (λ n. n + 1) h))
defines_number seen unnamed (x ∷ keys) next key h new is =
    let further : IsIn key ((seen ++ x ∷ []) ++ keys) → ⊥ = λ there. new (subst (λ (l : List Text). IsIn key l) (append_assoc seen (x ∷ []) keys) there) in (
      h.0,
      elim h.1 [
        | inl p ↦ inl (p.0, defines_number (seen ++ x ∷ []) (unnamed + 1) keys next key p.1 further is)
        | inr p ↦ inr (p.0, defines_number (seen ++ x ∷ []) unnamed keys next key p.1 further is)
      ],
    )

-- ---- the next number is a new key

begins_digit : Text → Bool
begins_digit [] = false
begins_digit (byte ∷ bytes) = is_digit byte

name_begins : (name : Text) → begins_digit (key_of_name name) ≡ false
unfolding begins_digit
name_begins [] = refl
name_begins (byte ∷ bytes) = by (is_digit byte) (byte == 34) refl where
  by : (digit quote : Bool) → is_digit byte ≡ digit → begins_digit (if digit || quote then 34 ∷ byte ∷ bytes else byte ∷ bytes) ≡ false
  by true quote e = refl
  by false true e = refl
  by false false e = e

digits_begin : (digits : Text) → AreDigits digits → begins_digit digits ≡ true
unfolding begins_digit
digits_begin [] h = absurd (let some = h.0 in omega (arith, some))
digits_begin (byte ∷ bytes) h = by (is_digit byte) h.1 where
  by : (t : Bool) → (t && list_all is_digit bytes) ≡ true → t ≡ true
  by true e = refl
  by false e = absurd cc

no_name : (key name : Text) (n : ℕ) → n < 2 ^ 64 → key ≡ key_of_name name → decimal n ≡ key → ⊥
no_name key name n less is same =
    let digit : begins_digit (decimal n) ≡ true = digits_begin (decimal n) (are_digits n less) in
    let other : begins_digit (decimal n) ≡ false = ap begins_digit (same ∙ is) ∙ name_begins name in
    cc

number_same : (k n : ℕ) → k < 2 ^ 64 → n < 2 ^ 64 → decimal k ≡ decimal n → k ≡ n
number_same k n low less e = sym (number_is k low) ∙ ap numbers.decimal e ∙ number_is n less

-- the last number is not below the first
pub counts_on : (seen : List Text) (unnamed : ℕ) (keys : List Text) (next : ℕ) → Defines seen unnamed keys next → unnamed ≤ next
counts_on seen unnamed [] next h = omega (arith, h)
counts_on seen unnamed (x ∷ keys) next h = elim h.1 [
  | inl p ↦ let on = counts_on (seen ++ x ∷ []) (unnamed + 1) keys next p.1 in omega (arith, on)
  | inr p ↦ counts_on (seen ++ x ∷ []) unnamed keys next p.1
]

pub number_is_new : (seen : List Text) (unnamed : ℕ) (keys : List Text) (next : ℕ) → next < 2 ^ 64 → Defines seen unnamed keys next → IsIn (decimal next) keys → ⊥
number_is_new seen unnamed [] next less h there = absurd there
number_is_new seen unnamed (x ∷ keys) next less h there =
    elim h.1 [
      | inl p ↦
          let on = counts_on (seen ++ x ∷ []) (unnamed + 1) keys next p.1 in
          elim there [
            | inl e ↦ let low : unnamed < 2 ^ 64 = omega (arith, on, less) in let same = number_same unnamed next low less (sym p.0 ∙ sym e) in absurd (omega (arith, same, on))
            | inr e ↦ number_is_new (seen ++ x ∷ []) (unnamed + 1) keys next less p.1 e
          ]
      | inr p ↦
          elim there [
            | inl e ↦ no_name x p.0.0 next less p.0.2 e
            | inr e ↦ number_is_new (seen ++ x ∷ []) unnamed keys next less p.1 e
          ]
    ]
