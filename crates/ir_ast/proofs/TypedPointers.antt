-- Pointers that say what they point to, in a table of types from a place on.
use Rattle.std.proofs.Common.{◌≡◌, ℕ, zero, suc, ◌<◌, ◌≤◌, true, false, List, [], ◌∷◌, length, drop, slice_get, refl, sym, ap, ◌∙◌, arith}
use Rattle.std.specs.Prelude.{◌||◌}
use Rattle.ir_ast.specs.declared.ir_type.IrType.{IrType}
use Rattle.ir_ast.specs.PointerKinds.{is_typed_at, has_typed}

-- one is there, or later
pub typed_next : (types : List IrType) (n : ℕ) → n < length types → has_typed (drop n types) ≡ (is_typed_at (slice_get types n) || has_typed (drop (suc n) types))
typed_next [] n less = absurd (omega (arith, less))
typed_next (x ∷ types) zero less = refl
typed_next (x ∷ types) (suc n) less = typed_next types n (omega (arith, less))

-- where one is here, one is in the table
pub one_found : (types : List IrType) (n : ℕ) → n < length types → is_typed_at (slice_get types n) ≡ true → has_typed (drop n types) ≡ has_typed types → true ≡ has_typed types
one_found types n less at so_far = sym (ap (λ b. b || has_typed (drop (suc n) types)) at) ∙ sym (typed_next types n less) ∙ so_far

-- where none is here, one is in the table if one is later
pub none_here : (types : List IrType) (n : ℕ) → n < length types → is_typed_at (slice_get types n) ≡ false → has_typed (drop n types) ≡ has_typed types → has_typed (drop (suc n) types) ≡ has_typed types
none_here types n less at so_far = sym (ap (λ b. b || has_typed (drop (suc n) types)) at) ∙ sym (typed_next types n less) ∙ so_far
