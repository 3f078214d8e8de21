-- Counts and threads' numbers as a trace writes them.
use Rattle.std.specs.Prelude.{ℕ, min, if◌then◌else◌, Option, Some, None}
use Rattle.ir_tokens.specs.Bytes.{Text}
use Rattle.name_text.specs.Numbers.{is_number, decimal}

-- a number, where one from 2 to the 32 on is taken to be the last below it: both are past the limits of cells, threads and steps
abbrev pub capped : ℕ → ℕ
capped n = min n 4294967295

-- and so is a number from 2 to the 64 on
abbrev pub capped_small : Option ℕ → ℕ
capped_small (Some n) = capped n
capped_small None = 4294967295

-- the count or the thread's number that a word is
abbrev pub count_of_word : Text → Option ℕ
count_of_word word = if is_number word then Some (capped (decimal word)) else None
