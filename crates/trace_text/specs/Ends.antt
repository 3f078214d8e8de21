-- Arguments take something from what is left.
use Rattle.std.specs.Prelude.{◌≡◌, ℕ, ◌<◌, [], ◌∷◌, length, Option, Some, None}
use Rattle.std.proofs.Common.{arith}
use Rattle.grammar.specs.Takes.{Takes, TakesWhere, look_takes}
use Rattle.ir_tokens.specs.Bytes.{Text as Bytes}
use Rattle.name_text.specs.Numbers.{number_of_word}
use Rattle.name_text.specs.Reader.{word}
use Rattle.name_text.specs.Forms.{taken_as, taken_takes}
use Rattle.trace_text.specs.Forms.{argument}
use Rattle.trace_text.specs.declared.mistake.TraceMistake.{TraceMistake}
use Rattle.trace_text.specs.declared.progress.TraceProgress.{TraceProgress}

-- a word that is a number has bytes
number_has_bytes : (w : Bytes) (n : ℕ) → number_of_word w ≡ Some n → 0 < length w
number_has_bytes [] n e = absurd cc
number_has_bytes (byte ∷ w) n e = omega arith

-- an argument takes bytes
pub argument_takes : Takes argument
unfolding argument
argument_takes = look_takes (λ i. number_of_word (word i)) taken_as each
  where
    each : (k : Option ℕ) → TakesWhere (λ i. number_of_word (word i) ≡ k) (taken_as {D = TraceProgress} {M = TraceMistake} k)
    each None i a o p h = absurd h
    each (Some n) i a o p h = taken_takes TraceProgress TraceMistake n i a o (number_has_bytes (word i) n p) h
