-- The line of a place of a text.
use Rattle.std.specs.Prelude.{ℕ, ◌-◌, ◌==◌, not, if◌then◌else◌, [], ◌∷◌, take, drop}
use Rattle.std.specs.List.{suffix_len, prefix_len}
use Rattle.ir_tokens.specs.Bytes.{Text}
use Rattle.ir_tokens.specs.Position.{is_line_end}

-- how many bytes come before the line of a place: all up to the last line end before the place
abbrev pub line_start : Text → (place : ℕ) → ℕ
line_start text place = place - suffix_len (λ b. not (is_line_end b)) (take place text)

-- the bytes up to the first line end
abbrev pub up_to_end : Text → Text
up_to_end bytes = take (prefix_len (λ b. not (is_line_end b)) bytes) bytes

-- the line of a place
abbrev pub line_at : Text → (place : ℕ) → Text
line_at text place = up_to_end (drop (line_start text place) text)

-- the text after this number of line ends
abbrev pub after_ends : ℕ → Text → Text
after_ends number [] = []
after_ends number (byte ∷ bytes) =
    if number == 0 then byte ∷ bytes else (if is_line_end byte then after_ends (number - 1) bytes else after_ends number bytes)

-- the line with this number, from 0
abbrev pub line_numbered : Text → (number : ℕ) → Text
line_numbered text number = up_to_end (after_ends number text)
