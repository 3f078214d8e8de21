-- Lines and columns.
use Rattle.std.specs.Prelude.{ℕ, ◌+◌, Bool, not, ◌==◌, take, count_by}
use Rattle.std.specs.List.{suffix_len}
use Rattle.ir_tokens.specs.declared.position.Position.{Position}
use Rattle.ir_tokens.specs.Bytes.{Text}

-- the byte that ends a line
abbrev pub is_line_end : ℕ → Bool
is_line_end b = b == 10

-- The position after this text: one line more than it has line ends, and one column more than there are bytes after the last of them.
abbrev pub position_after : Text → Position
position_after before = record { line = count_by is_line_end before + 1; column = suffix_len (λ b. not (is_line_end b)) before + 1 }

-- the position of a place of a text
abbrev pub position_of : Text → ℕ → Position
position_of bytes place = position_after (take place bytes)
