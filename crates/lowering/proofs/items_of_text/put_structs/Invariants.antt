use Rattle.std.proofs.Common.{◌≡◌, ◌++◌, take}
use Rattle.std.specs.List.{flat_map}
use Rattle.lowering.specs.Items.{struct_line}
use Rattle.lowering.proofs.items_of_text.put_structs.Given as goal

abbrev pub invariant-loop-struct_type : goal.invariant-loop-struct_type
invariant-loop-struct_type l = l.out.items ≡ l.fn.out.items ++ flat_map (struct_line l.«module») (take l.struct_type-index l.structs)
