-- In the table of a whole module the parts of each type come before it.
use Rattle.std.proofs.Common.{ℕ, Bool}
use Rattle.ir_ast.specs.declared.ir_type.IrType.{IrType}
use Rattle.ir_ast.specs.declared.ir_type.IrType.TheVariants as type
use Rattle.ir_forms.specs.Written.{has_opaque}
use Rattle.ir_print_law.specs.TypeOrder.{IsInOrder}
use Rattle.migration_law.specs.PartsBefore.{AreWholeBefore, ComesAfterParts}

after_parts : (opaque : Bool) (number : ℕ) (x : IrType) → IsInOrder opaque number x → ComesAfterParts number x
after_parts opaque number (type.Array length part) h = h
after_parts opaque number (type.Struct first rest) h = h
after_parts opaque number (type.Pointer part) h = tt
after_parts opaque number type.Void h = tt
after_parts opaque number (type.Integer bits) h = tt
after_parts opaque number type.Float h = tt
after_parts opaque number type.Double h = tt
after_parts opaque number type.Opaque h = tt
after_parts opaque number type.EmptyStruct h = tt
after_parts opaque number (type.Named name) h = tt

pub whole_before : AreWholeBefore
whole_before m whole number x at = after_parts (has_opaque m.types) number x (whole.ordered number x at)
