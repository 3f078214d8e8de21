-- Where in a text something is.
use Rattle.std.specs.Prelude.{ℕ, ◌-◌, length}
use Rattle.ir_tokens.specs.Bytes.{Text}
use Rattle.ir_tokens.specs.Position.{position_of}
use Rattle.ir_tokens.specs.declared.position.Position.{Position}

-- the position at which this number of bytes of a text is left
abbrev pub place : Text → (rest : ℕ) → Position
place bytes rest = position_of bytes (length bytes - rest)
