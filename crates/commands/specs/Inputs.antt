-- The line by which the writer of a text on the standard input says that the text is whole.
use Rattle.std.specs.Prelude.{◌-◌, ◌==◌, ◌&&◌, ◌||◌, ℕ, Bool, List, codes, length, nat_eq, take}
use Rattle.std.specs.List.{ends_with}

-- whether a line may begin after this text: it is empty, or ends in a line end
abbrev pub begins_line : List ℕ → Bool
begins_line before = length before == 0 || ends_with nat_eq before (codes "\n")

-- whether these are the last lines of a text
abbrev pub ends_in_lines : (text lines : List ℕ) → Bool
ends_in_lines text lines = ends_with nat_eq text lines && begins_line (take (length text - length lines) text)

-- whether the last line of a text is `; end`, with a line end or without
abbrev pub is_ended : List ℕ → Bool
is_ended text = ends_in_lines text (codes "; end\n") || ends_in_lines text (codes "; end") || ends_in_lines text (codes "; end\r\n")
