-- How many words jumps lead over, and what lies before a field after them.
use Rattle.std.proofs.Common.{◌≡◌, ◌+◌, ℕ, zero, suc, List, Option, Some, None, refl, ap, sym, ◌∙◌, arith}
use Rattle.std.specs.Prelude.{slice_get, unwrap_or}
use Rattle.std.proofs.lemmas.Bool.Decides.{nat_tests}
use Rattle.ir_ast.specs.declared.ir_type.IrType.{IrType}
use Rattle.ir_ast.specs.declared.ir_type.IrType.TheVariants.{Struct}
use Rattle.ir_ast.specs.Fields.{rest_of, after_fields}
use Rattle.layout.specs.Jumps.{words_over}
use Rattle.layout.specs.Layouts.{LaidOut}
use Rattle.layout.specs.Offsets.{size_of, words_before, sum_of}
use Rattle.types.specs.Elements.{type_at}

-- ---- sums

sums_of_some : (a b c : ℕ) → sum_of (Some a) (sum_of (Some b) (Some c)) ≡ sum_of (sum_of (Some a) (Some b)) (Some c)
sums_of_some a b c = grind (arith, nat_tests)

none_right : (x : Option ℕ) → sum_of x None ≡ None
none_right None = refl
none_right (Some a) = refl

-- a sum may be taken from either end
pub sums : (x y z : Option ℕ) → sum_of x (sum_of y z) ≡ sum_of (sum_of x y) z
sums None y z = refl
sums (Some a) None z = refl
sums (Some a) (Some b) None = sym (none_right (sum_of (Some a) (Some b)))
sums (Some a) (Some b) (Some c) = sums_of_some a b c

none_before_two : (a b : ℕ) → sum_of (Some 0) (sum_of (Some a) (Some b)) ≡ sum_of (Some a) (Some b)
none_before_two a b = grind (arith, nat_tests)

none_before : (x y : Option ℕ) → sum_of (Some 0) (sum_of x y) ≡ sum_of x y
none_before None y = refl
none_before (Some a) None = refl
none_before (Some a) (Some b) = none_before_two a b

none_after_two : (a b : ℕ) → sum_of (sum_of (Some a) (Some b)) (Some 0) ≡ sum_of (Some a) (Some b)
none_after_two a b = grind (arith, nat_tests)

-- a sum is at most 64 already
pub none_after : (x y : Option ℕ) → sum_of (sum_of x y) (Some 0) ≡ sum_of x y
none_after None y = refl
none_after (Some a) None = refl
none_after (Some a) (Some b) = none_after_two a b

-- ---- words after a jump

module _ (types : List IrType) (sizes : List (Option ℕ)) where
  few : (type : Option IrType) (n : ℕ) → sum_of (Some 0) (words_over types sizes type n) ≡ words_over types sizes type n
  few type zero = refl
  few (Some (Struct first rest)) (suc n) = none_before (unwrap_or (slice_get sizes first) None) (words_over types sizes (slice_get types rest) n)
  few _ (suc n) = refl

  abbrev at : Option ℕ → Option IrType
  at None = None
  at (Some written) = slice_get types written

  none_leads : (n to : ℕ) → after_fields types None n ≡ Some to → ⊥
  none_leads zero to e = cc
  none_leads (suc n) to e = cc

  words_step : (type : Option IrType) (n k to : ℕ) → after_fields types (rest_of type) n ≡ Some to
      → words_over types sizes (at (rest_of type)) (n + k) ≡ sum_of (words_over types sizes (at (rest_of type)) n) (words_over types sizes (slice_get types to) k)
      → words_over types sizes type (suc (n + k)) ≡ sum_of (words_over types sizes type (suc n)) (words_over types sizes (slice_get types to) k)
  words_step (Some (Struct first rest)) n k to e on =
      let size = unwrap_or (slice_get sizes first) None in
      ap (sum_of size) on ∙ sums size (words_over types sizes (slice_get types rest) n) (words_over types sizes (slice_get types to) k)
  words_step _ n k to e on = absurd (none_leads n to e)

  words_from : (written : Option ℕ) (n k to : ℕ) → after_fields types written n ≡ Some to
      → words_over types sizes (at written) (n + k) ≡ sum_of (words_over types sizes (at written) n) (words_over types sizes (slice_get types to) k)
  words_from written zero k to e =
      let all : 0 + k ≡ k = omega arith in ap (words_over types sizes (at written)) all ∙ ap (λ w. words_over types sizes (at w) k) e ∙ sym (few (slice_get types to) k)
  words_from None (suc n) k to e = absurd (none_leads (suc n) to e)
  words_from (Some written) (suc n) k to e =
      let all : suc n + k ≡ suc (n + k) = omega arith in
      ap (words_over types sizes (slice_get types written)) all
      ∙ words_step (slice_get types written) n k to e (words_from (rest_of (slice_get types written)) n k to e)

  -- the words of n fields and k more are those of the n, and those of k fields from where the n lead
  pub words_on : (written n k to : ℕ) → after_fields types (Some written) n ≡ Some to
      → words_over types sizes (slice_get types written) (n + k) ≡ sum_of (words_over types sizes (slice_get types written) n) (words_over types sizes (slice_get types to) k)
  words_on written n k to e = words_from (Some written) n k to e

-- ---- words before a field

-- these words, where the fields before lead to a struct that has a field
abbrev pub up_to : Option IrType → (words : Option ℕ) → Option ℕ
up_to (Some (Struct first rest)) words = words
up_to _ words = None

sum_up_to : (type : Option IrType) (size words : Option ℕ) → sum_of size (up_to type words) ≡ up_to type (sum_of size words)
sum_up_to (Some (Struct first rest)) size words = refl
sum_up_to _ size words = none_right size

none_up_to : (type : Option IrType) → up_to type None ≡ None
none_up_to (Some (Struct first rest)) = refl
none_up_to _ = refl

pub up_to_other : (type : Option IrType) (words : Option ℕ) → ((first rest : ℕ) → type ≡ Some (Struct first rest) → ⊥) → up_to type words ≡ None
up_to_other (Some (Struct first rest)) words other = absurd (other first rest refl)
up_to_other _ words other = refl

module _ (p : LaidOut) where
  before_first : (type : Option IrType) → words_before p type zero ≡ up_to type (Some 0)
  before_first (Some (Struct first rest)) = refl
  before_first _ = refl

  before_more : (type : Option IrType) (n : ℕ)
      → words_before p (type_at p.of_module (rest_of type)) n
      ≡ up_to (type_at p.of_module (after_fields p.of_module.types (rest_of type) n)) (words_over p.of_module.types p.sizes (type_at p.of_module (rest_of type)) n)
      → words_before p type (suc n) ≡ up_to (type_at p.of_module (after_fields p.of_module.types (rest_of type) n)) (words_over p.of_module.types p.sizes type (suc n))
  before_more (Some (Struct first rest)) n on =
      ap (sum_of (size_of p first)) on
      ∙ sum_up_to (type_at p.of_module (after_fields p.of_module.types (Some rest) n)) (size_of p first) (words_over p.of_module.types p.sizes (slice_get p.of_module.types rest) n)
  before_more type n on = sym (none_up_to (type_at p.of_module (after_fields p.of_module.types (rest_of type) n)))

  -- the words before the field after n others
  pub before : (written : Option ℕ) (n : ℕ)
      → words_before p (type_at p.of_module written) n ≡ up_to (type_at p.of_module (after_fields p.of_module.types written n)) (words_over p.of_module.types p.sizes (type_at p.of_module written) n)
  before written zero = before_first (type_at p.of_module written)
  before None (suc n) = refl
  before (Some written) (suc n) = before_more (slice_get p.of_module.types written) n (before (rest_of (slice_get p.of_module.types written)) n)
