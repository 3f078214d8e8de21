use Rattle.std.proofs.Common.{◌≡◌, ◌++◌, drop}
use Rattle.lowering.specs.Tables.{name_line}
use Rattle.lowering.specs.Rows.{numbered}
use Rattle.lowering.proofs.tables.put_name_lines.Given as goal

abbrev pub invariant-loop-struct_type : goal.invariant-loop-struct_type
invariant-loop-struct_type l = (l.place ≡ l.struct_type-index) × (l.out.items ++ numbered (name_line l.«module») l.place (drop l.struct_type-index l.structs) ≡ l.fn.out.items ++ numbered (name_line l.«module») 0 l.structs)
