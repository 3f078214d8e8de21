use Rattle.std.proofs.Common.{◌≡◌, ◌++◌, drop}
use Rattle.lowering.specs.Tables.{layout_row_at}
use Rattle.lowering.specs.Rows.{numbered}
use Rattle.lowering.proofs.tables.put_layout_rows.Given as goal

abbrev pub invariant-loop-struct_type : goal.invariant-loop-struct_type
invariant-loop-struct_type l = (l.place ≡ l.struct_type-index) × (l.out.items ++ numbered (layout_row_at l.tables.layouts.now l.tables.of_module.now) l.place (drop l.struct_type-index l.structs) ≡ l.fn.out.items ++ numbered (layout_row_at l.tables.layouts.now l.tables.of_module.now) 0 l.structs)
