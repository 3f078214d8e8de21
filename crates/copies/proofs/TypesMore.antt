-- A table of types, of which one more is numbered.
use Rattle.std.proofs.Common.{◌≡◌, ℕ, zero, suc, ◌+◌, ◌<◌, ◌≤◌, List, [], ◌∷◌, length, drop, slice_get, Option, Some, None, refl, ap, sym, ◌∙◌, subst, arith}
use Rattle.std.proofs.Math.Seq.{drop-cons}
use Rattle.std.proofs.lemmas.Option.{slice_get_within, get_or_from_slice_get}
use Rattle.ir_ast.specs.declared.ir_type.IrType.{IrType}
use Rattle.copies.specs.Opaque.{Renumbered, with_type, with_types}

-- a table of these types and numbers
abbrev table : List IrType → List ℕ → Renumbered
table types numbers = record { types = types; numbers = numbers }

-- a list from a place on is the element there and the list from the next one on
drop_next : (types : List IrType) (n : ℕ) (written : IrType) → slice_get types n ≡ Some written → drop n types ≡ written ∷ drop (n + 1) types
drop_next types n written at =
    let next : suc n ≡ n + 1 = omega arith in
    drop-cons types n written (slice_get_within types n written at)
    ∙ ap (λ w. w ∷ drop (suc n) types) (get_or_from_slice_get types n written written at)
    ∙ ap (λ k. written ∷ drop k types) next

-- the others come after the one
pub one_more : (types : List IrType) (n : ℕ) (written : IrType) (before after : List IrType) (numbers more : List ℕ) (all : Renumbered) → slice_get types n ≡ Some written
    → after ≡ (with_type written (table before numbers)).types → more ≡ (with_type written (table before numbers)).numbers
    → with_types (drop n types) (table before numbers) ≡ all → with_types (drop (n + 1) types) (table after more) ≡ all
one_more types n written before after numbers more all at same numbered so_far =
    ap (λ x. with_types (drop (n + 1) types) (table x more)) same
    ∙ ap (λ x. with_types (drop (n + 1) types) (table (with_type written (table before numbers)).types x)) numbered
    ∙ sym (ap (λ x. with_types x (table before numbers)) (drop_next types n written at)) ∙ so_far

-- within a list there is an element
pub some_within : (types : List IrType) (n : ℕ) → n < length types → slice_get types n ≡ None → ⊥
some_within [] n h e = absurd (omega (arith, h))
some_within (x ∷ types) zero h e = absurd cc
some_within (x ∷ types) (suc n) h e = some_within types n (omega (arith, h)) e
