-- The words of a heap before its first step, by their places in the table.
use Rattle.std.specs.Prelude.{ℕ, zero, suc, ◌-◌, ◌==◌, nat_lt, slice_index, if◌then◌else◌}
use Rattle.pools.specs.Heap.{Setup, is_late}
use Rattle.colours.specs.Colours.{done}

-- the stage word of a thread; that of an absent one says done
abbrev pub stage_at_start : Setup → (thread : ℕ) → ℕ
stage_at_start s thread = if is_late s thread then done else 0

-- the posted stage, the stages of the threads, the colour of the globals' cell, and the globals; all else is 0
abbrev pub opening_word : Setup → (at : ℕ) → ℕ
opening_word s zero = 0
opening_word s (suc at) =
    if nat_lt at s.threads then stage_at_start s at else (if at == s.threads then 1 else slice_index s.values (at - s.threads - 1))
