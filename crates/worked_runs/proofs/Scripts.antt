-- A small machine: its code gives each call from the references that earlier calls brought.
use Rattle.std.proofs.Common.{List, [], ◌∷◌}
use Rattle.runs.specs.Machine.{WordValue, Action, End, Answer, Done, Got, Answered, Machine}
use Rattle.runs.specs.Moves.{null}

-- the calls that are left, and the references brought so far, the last one first
pub record Script : Type 0 where
  pub code : List (List WordValue → Action)
  pub values : List WordValue

-- the first of these references
abbrev pub first : List WordValue → WordValue
first [] = null
first (r ∷ rs) = r

abbrev pub next_call : List (List WordValue → Action) → List WordValue → Action
next_call [] values = End
next_call (call ∷ code) values = call values

abbrev pub afterwards_call : List (List WordValue → Action) → List (List WordValue → Action)
afterwards_call [] = []
afterwards_call (call ∷ code) = code

abbrev pub after_call : Script → Answer → Script
after_call script (Got r) = record { code = afterwards_call script.code; values = r ∷ script.values }
after_call script Done = record { code = afterwards_call script.code; values = script.values }
after_call script (Answered stage) = record { code = afterwards_call script.code; values = script.values }

-- all references are roots
abbrev pub scripts : Machine
scripts = record { State = Script; action = λ script. next_call script.code script.values; after_answer = after_call; roots = λ script. script.values }

-- a machine that names no roots
abbrev pub forgetful : Machine
forgetful = record { State = Script; action = λ script. next_call script.code script.values; after_answer = after_call; roots = λ script. [] }
