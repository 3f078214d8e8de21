-- Where there is no decoration, none is read.
use Rattle.std.proofs.Common.{◌≡◌, false, refl}
use Rattle.ir_print_law.proofs.ListsAgain.{instruction_ended}
use Rattle.ir_ast.specs.declared.op.Op.{Op}
use Rattle.ir_tokens.specs.declared.token.Kind.TheVariants as k
use Rattle.ir_forms.specs.Cursor.{sees}
use Rattle.ir_forms.specs.declared.input.Input.{Input}
use Rattle.ir_forms.specs.Records.{begins_record, trail_of, trailed}

-- an operation with nothing after it
pub not_trailed : (op : Op) (i : Input) → sees k.Comma i.cursor ≡ false → begins_record i ≡ false → (trailed op).says i op i
not_trailed op i e none = (tt, i, instruction_ended (trail_of op) i e none, (refl, refl))
