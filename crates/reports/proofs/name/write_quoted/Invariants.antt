-- what was written so far is the text of the bytes that the loop went over
use Rattle.std.proofs.Common.{take}
use Rattle.std.specs.List.{flat_map}
use Rattle.std.specs.Io.KnownBytes.{Appends}
use Rattle.name_text.specs.Names.{quoted_byte}
use Rattle.name_text.specs.declared.blank.Blank.TheVariants as blank
use Rattle.reports.proofs.name.write_quoted.Given as goal

abbrev pub invariant-loop-byte : goal.invariant-loop-byte
invariant-loop-byte g l = Appends (g.W.Write.contents l.fn.out) (g.W.Write.contents l.out) (flat_map (quoted_byte blank.Kept) (take l.byte-index l.name))
