-- The answers to the functions of a program.
use Rattle.std.specs.Prelude.{◌≡◌, ℕ, List, [], ◌∷◌, length, slice_get, Option, Some, None}
use Rattle.certs.specs.declared.section.Section.{Section}
use Rattle.layout.specs.Layouts.{LaidOut}
use Rattle.block_rules.specs.Functions.{blocks_in, IsFunctionCertified, IsFirstInFunction}
use Rattle.block_rules.specs.declared.block_fault.Refusal.{Refusal}

-- the answer to a function: none where it is certified, and else its first refusal
abbrev pub IsAnswer : LaidOut → (certs : List Section) → (func : ℕ) → Option Refusal → Type 0
IsAnswer program certs func None = IsFunctionCertified program certs func
IsAnswer program certs func (Some refusal) = IsFirstInFunction program certs func (blocks_in program func) refusal

-- the answers to the first functions of a program, by their numbers
abbrev pub AreAnswersSoFar : LaidOut → (certs : List Section) → List (Option Refusal) → Type 0
AreAnswersSoFar program certs answers = (func : ℕ) (answer : Option Refusal) → slice_get answers func ≡ Some answer → IsAnswer program certs func answer

-- the answers to all functions of a program, by their numbers
pub record AreAnswers (program : LaidOut) (certs : List Section) (answers : List (Option Refusal)) : Type 0 where
  pub one_each : length answers ≡ length program.of_module.functions
  pub each : AreAnswersSoFar program certs answers

-- the first refusal
abbrev pub first_refusal : List (Option Refusal) → Option Refusal
first_refusal [] = None
first_refusal (None ∷ answers) = first_refusal answers
first_refusal (Some refusal ∷ answers) = Some refusal
