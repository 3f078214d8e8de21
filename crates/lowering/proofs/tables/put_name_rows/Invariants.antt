use Rattle.std.proofs.Common.{◌≡◌, ◌++◌, drop}
use Rattle.lowering.specs.Tables.{name_row_at}
use Rattle.lowering.specs.Rows.{numbered}
use Rattle.lowering.proofs.tables.put_name_rows.Given as goal

abbrev pub invariant-loop-struct_type : goal.invariant-loop-struct_type
invariant-loop-struct_type l = (l.place ≡ l._struct_type-index) × (l.out.items ++ numbered name_row_at l.place (drop l._struct_type-index l.structs) ≡ l.fn.out.items ++ numbered name_row_at 0 l.structs)
