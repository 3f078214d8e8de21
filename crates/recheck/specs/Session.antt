-- The state of a session, and what its type keeps.
use Rattle.std.specs.Prelude.{◌≡◌, ℕ, List, Option, length}
use Rattle.certs.specs.declared.certs.Certs.{Certs}
use Rattle.certs.specs.declared.section.Section.{Section}
use Rattle.layout.specs.Layouts.{LaidOut, AreLayouts, AreSizes}
use Rattle.block_rules.specs.declared.block_fault.Refusal.{Refusal}
use Rattle.answers.specs.Answers.{AreAnswers}

-- the present module with its layouts, its certificates, and how many functions the last edit concerns
pub record State : Type 0 where
  pub program : LaidOut
  pub certs : Certs
  pub rechecked : ℕ

-- the layouts are those of the module, there is a certificate for each function, and these are the answers to the functions
pub record IsAnswered (program : LaidOut) (certs : List Section) (answers : List (Option Refusal)) : Type 0 where
  pub laid_out : AreLayouts program.of_module program.layouts
  pub sized : AreSizes program.of_module program.sizes
  pub one_each : length certs ≡ length program.of_module.functions
  pub are_answers : AreAnswers program certs answers
