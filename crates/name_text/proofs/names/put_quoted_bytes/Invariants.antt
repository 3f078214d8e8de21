use Rattle.std.proofs.Common.{◌≡◌, ◌++◌, take}
use Rattle.std.specs.List.{flat_map}
use Rattle.name_text.specs.Names.{quoted_byte}
use Rattle.name_text.proofs.names.put_quoted_bytes.Given as goal

abbrev pub invariant-loop-byte : goal.invariant-loop-byte
invariant-loop-byte l = l.out.items ≡ l.fn.out.items ++ flat_map (quoted_byte l.blank) (take l.byte-index l.name)
