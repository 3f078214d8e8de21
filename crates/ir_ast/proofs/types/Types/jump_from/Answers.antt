use Rattle.std.proofs.Common.{◌≡◌, ◌++◌, ◌∷◌, [], Some, length, slice_get, sym, ap, subst}
use Rattle.lemmas.specs.Lists.{get_end}
use Rattle.ir_ast.specs.declared.ir_type.IrType.TheVariants.{Struct}
use Rattle.ir_ast.specs.Fields.{rest_of, after_fields, IsJump}
use Rattle.ir_ast.proofs.Jumps.{first_and_more}
use Rattle.ir_ast.proofs.types.Types.jump_from.Goals as goal

pub returns-in-Some : goal.returns-in-Some
returns-in-Some c =
    let types = c.args.self.now in
    let first = c.in-Struct.first in
    let rest = c.in-Struct.rest in
    let jump = c.in-Some.jump in
    let over = c.in-Some.ensures in
    let leads : after_fields (types ++ Struct first rest ∷ []) (Some (length types)) jump.fields ≡ Some jump.to =
    subst (λ fields. after_fields (types ++ Struct first rest ∷ []) (Some (length types)) fields ≡ Some jump.to) (sym over.1) (first_and_more types first rest over.0 jump.to over.2) in
    subst (λ written. IsJump (types ++ written ∷ []) (length types) jump) (sym c.in-Struct.is) leads

pub returns-in-None : goal.returns-in-None
returns-in-None c =
    let types = c.args.self.now in
    subst (λ written. rest_of (slice_get (types ++ written ∷ []) (length types)) ≡ Some c.in-Struct.rest) (sym c.in-Struct.is) (ap rest_of (get_end types (Struct c.in-Struct.first c.in-Struct.rest)))
