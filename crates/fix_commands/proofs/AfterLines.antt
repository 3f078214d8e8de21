-- What is told of a check after lines of its own.
use Rattle.std.proofs.Common.{◌≡◌, ◌∙◌, ◌++◌, ℕ, List, Some, ap}
use Rattle.std.proofs.KnownBytes.{Appends-trans}
use Rattle.reports.specs.Said.{Said, OnOutput, OnError, OnBoth, Tells}
use Rattle.reports.specs.declared.outputs.Outputs.{Outputs}
use Rattle.fix_commands.specs.Fixing.{after_lines}

-- where these lines were written, and then this was told, that is told after the lines
pub tells_after : (old middle new : Outputs) (status : ℕ) (lines : List ℕ) (said : Said) → middle.out.items ≡ old.out.items ++ lines → middle.err ≡ old.err → middle.err.items ≡ old.err.items
    → Tells middle new status said → Tells old new status (after_lines lines said)
tells_after old middle new status lines (OnOutput answer) out err items told =
    ((told.0.0, Appends-trans (Some old.out.items) (Some middle.out.items) (Some new.out.items) lines answer.text out told.0.1), told.1 ∙ err)
tells_after old middle new status lines (OnError answer) out err items told =
    rw told.0 ((told.1.0, out), told.1.1 ∙ ap (λ (text : List ℕ). text ++ answer.text) items)
tells_after old middle new status lines (OnBoth answer text) out err items told =
    ((told.0.0, Appends-trans (Some old.out.items) (Some middle.out.items) (Some new.out.items) lines answer.text out told.0.1), told.1 ∙ ap (λ (bytes : List ℕ). bytes ++ text) items)
