use Rattle.std.proofs.Common.{◌≡◌, ◌++◌, Some, slice_get, codes, append_assoc}
use Rattle.std.proofs.lemmas.Result.{on_ok_weaker}
use Rattle.ir_ast.specs.declared.ir_type.IrType.TheVariants.{Void}
use Rattle.lowering.proofs.Pieces.{on_ok_items}
use Rattle.lowering.proofs.starts.put_result.Goals as goal

pub returns-in_ok-put_start_call-in-Some-Void : goal.returns-in_ok-put_start_call-in-Some-Void
returns-in_ok-put_start_call-in-Some-Void c =
    let void : slice_get c.args.module.now.types c.args.function.now.returned ≡ Some Void = cc c.in-Some-Void.ensures in
    rw void (
    on_ok_weaker c.extend_from_slice-in-Some-Void.result (
    λ (last : c.extend_from_slice-in-Some-Void.new.self.items ≡ c.put_start_call.new.out.items ++ codes "  ret i64 0\n").
    rw (last, c.in_ok-put_start_call-in-Some-Void.ensures, c.in_ok-extend_from_slice-in-Some-Void.ensures.items) (simp append_assoc)
    ) (on_ok_items c.extend_from_slice-in-Some-Void.result (c.put_start_call.new.out.items ++ codes "  ret i64 0\n") c.extend_from_slice-in-Some-Void.new.self.items c.put_start_call.new.out.items c.extend_from_slice-in-Some-Void.ensures.items)
    )
