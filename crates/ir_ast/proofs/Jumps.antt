-- Jumps one after the other, and jumps of a table that grows.
use Rattle.std.proofs.Common.{◌≡◌, ◌+◌, ◌⊎◌, inl, inr, ℕ, zero, suc, List, [], ◌∷◌, ◌++◌, length, Option, Some, None, slice_get, refl, sym, ap, ◌∙◌, subst, arith}
use Rattle.lemmas.specs.Lists.{get_front, get_end, get_either}
use Rattle.ir_ast.specs.declared.ir_type.IrType.{IrType}
use Rattle.ir_ast.specs.declared.ir_type.IrType.TheVariants.{Struct}
use Rattle.ir_ast.specs.declared.jump.Jump.{Jump}
use Rattle.ir_ast.specs.Fields.{rest_of, after_fields, IsJump, AreJumps}

pub nothing_after : (types : List IrType) (n : ℕ) → after_fields types None n ≡ None
nothing_after types zero = refl
nothing_after types (suc n) = refl

-- fields may be counted on from where some of them lead
pub fields_on : (types : List IrType) (written : Option ℕ) (n k to : ℕ) → after_fields types written n ≡ Some to → after_fields types written (n + k) ≡ after_fields types (Some to) k
fields_on types written zero k to e = let all : 0 + k ≡ k = omega arith in ap (after_fields types written) all ∙ ap (λ at. after_fields types at k) e
fields_on types None (suc n) k to e = absurd cc
fields_on types (Some written) (suc n) k to e =
    let all : suc n + k ≡ suc (n + k) = omega arith in ap (after_fields types (Some written)) all ∙ fields_on types (rest_of (slice_get types written)) n k to e

rest_in_more : (types more : List IrType) (written n to : ℕ) (type : Option IrType) → slice_get types written ≡ type → after_fields types (rest_of type) n ≡ Some to
    → (after_fields types (rest_of type) n ≡ Some to → after_fields (types ++ more) (rest_of type) n ≡ Some to) → after_fields (types ++ more) (rest_of (slice_get (types ++ more) written)) n ≡ Some to
rest_in_more types more written n to None at leads on = absurd (let none = nothing_after types n in cc)
rest_in_more types more written n to (Some type) at leads on =
    subst (λ found. after_fields (types ++ more) (rest_of found) n ≡ Some to) (sym (get_front types more written type at)) (on leads)

-- what fields lead to, they lead to in a table with more types
pub fields_in_more : (types more : List IrType) (written : Option ℕ) (n to : ℕ) → after_fields types written n ≡ Some to → after_fields (types ++ more) written n ≡ Some to
fields_in_more types more written zero to e = e
fields_in_more types more None (suc n) to e = absurd cc
fields_in_more types more (Some written) (suc n) to e = rest_in_more types more written n to (slice_get types written) refl e (fields_in_more types more (rest_of (slice_get types written)) n to)

-- the table with one type more, and with its jump
pub one_more : (types : List IrType) (jumps : List Jump) (written : IrType) (jump : Jump) → length jumps ≡ length types → AreJumps types jumps → IsJump (types ++ written ∷ []) (length types) jump
    → AreJumps (types ++ written ∷ []) (jumps ++ jump ∷ [])
one_more types jumps written jump same are is number found at = by (get_either jumps jump number found at) where
  by : (slice_get jumps number ≡ Some found) ⊎ ((number ≡ length jumps) × (found ≡ jump)) → IsJump (types ++ written ∷ []) number found
  by (inl there) = fields_in_more types (written ∷ []) (Some number) found.fields found.to (are number found there)
  by (inr here) = subst (λ n. IsJump (types ++ written ∷ []) n found) (sym (here.0 ∙ same)) (subst (IsJump (types ++ written ∷ []) (length types)) (sym here.1) is)

-- over the first field of a new struct, and over those that its rest begins with
pub first_and_more : (types : List IrType) (first rest n to : ℕ) → after_fields types (Some rest) n ≡ Some to
    → after_fields (types ++ Struct first rest ∷ []) (Some (length types)) (suc n) ≡ Some to
first_and_more types first rest n to e =
    ap (λ type. after_fields (types ++ Struct first rest ∷ []) (rest_of type) n) (get_end types (Struct first rest)) ∙ fields_in_more types (Struct first rest ∷ []) (Some rest) n to e
