-- the line so far goes on with the bytes of the text so far
use Rattle.std.proofs.Common.{◌≡◌, ◌++◌, ◌-◌, length, map, take}
use Rattle.commands.specs.Listing.{spaced}
use Rattle.commands.proofs.listing.push_in_one_line.Given as goal

abbrev pub invariant-loop-byte : goal.invariant-loop-byte
invariant-loop-byte l = l.line.items ≡ l.fn.line.items ++ map spaced (take l.byte-index (take (length l.text - 1) l.text))
