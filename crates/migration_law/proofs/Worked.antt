-- Two tables of types, worked: what the opaque text has in their place, and that parts come before what has them.
use Rattle.std.proofs.Common.{◌≡◌, zero, suc, List, [], ◌∷◌, refl, subst, arith}
use Rattle.ir_ast.specs.declared.ir_type.IrType.{IrType}
use Rattle.ir_ast.specs.declared.ir_type.IrType.TheVariants as type
use Rattle.copies.specs.Opaque.{opaque_types}
use Rattle.migration_law.specs.PartsBefore.{ArePartsBefore, ComesAfterParts}

-- `%Node = type { i64, %Node* }`
abbrev node_types : List IrType
node_types = type.Integer 64 ∷ type.Named 0 ∷ type.Pointer 1 ∷ type.EmptyStruct ∷ type.Struct 2 3 ∷ type.Struct 0 4 ∷ []

-- its pointer is `ptr`
node_opaque : (opaque_types node_types).types ≡ type.Integer 64 ∷ type.Named 0 ∷ type.Opaque ∷ type.EmptyStruct ∷ type.Struct 2 3 ∷ type.Struct 0 4 ∷ []
node_opaque = refl

-- `{ i8*, i64* }`: both pointers become one type
pair_opaque :
    (opaque_types (type.Integer 8 ∷ type.Pointer 0 ∷ type.Integer 64 ∷ type.Pointer 2 ∷ type.EmptyStruct ∷ type.Struct 3 4 ∷ type.Struct 1 5 ∷ [])).types
    ≡ type.Integer 8 ∷ type.Opaque ∷ type.Integer 64 ∷ type.EmptyStruct ∷ type.Struct 1 3 ∷ type.Struct 1 4 ∷ []
pair_opaque = refl

node_parts : ArePartsBefore node_types
node_parts zero x at = let same : type.Integer 64 ≡ x = cc in subst (ComesAfterParts 0) same tt
node_parts (suc zero) x at = let same : type.Named 0 ≡ x = cc in subst (ComesAfterParts 1) same tt
node_parts (suc (suc zero)) x at = let same : type.Pointer 1 ≡ x = cc in subst (ComesAfterParts 2) same tt
node_parts (suc (suc (suc zero))) x at = let same : type.EmptyStruct ≡ x = cc in subst (ComesAfterParts 3) same tt
node_parts (suc (suc (suc (suc zero)))) x at = let same : type.Struct 2 3 ≡ x = cc in subst (ComesAfterParts 4) same (omega arith, omega arith)
node_parts (suc (suc (suc (suc (suc zero))))) x at = let same : type.Struct 0 4 ≡ x = cc in subst (ComesAfterParts 5) same (omega arith, omega arith)
node_parts (suc (suc (suc (suc (suc (suc number)))))) x at = absurd cc
