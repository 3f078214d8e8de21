-- What is printed where nothing was printed before.
use Rattle.std.proofs.Common.{◌≡◌, ◌∙◌, ◌++◌, [], ℕ, append-nil, ap, ap₂}
use Rattle.reports.specs.Said.{Said, OnOutput, OnError, OnBoth, Tells}
use Rattle.reports.specs.declared.outputs.Outputs.{Outputs}
use Rattle.commands.specs.Listing.{status_of, text_of}

-- both outputs together have what is said, and the status is that of what is said
pub told_text : (old new : Outputs) (status : ℕ) (said : Said) → Tells old new status said → old.out.items ≡ [] → old.err.items ≡ []
    → (status ≡ status_of said) × (new.out.items ++ new.err.items ≡ text_of said)
told_text old new status (OnOutput answer) tells out err =
    (tells.0.0, ap₂ (λ o e. o ++ e) (tells.0.1 ∙ ap (λ o. o ++ answer.text) out) (ap (λ v. v.items) tells.1 ∙ err) ∙ append-nil answer.text)
told_text old new status (OnError answer) tells out err =
    (tells.1.0, ap₂ (λ o e. o ++ e) (ap (λ v. v.items) tells.0 ∙ out) (tells.1.1 ∙ ap (λ e. e ++ answer.text) err))
told_text old new status (OnBoth answer text) tells out err =
    (tells.0.0, ap₂ (λ o e. o ++ e) (tells.0.1 ∙ ap (λ o. o ++ answer.text) out) (tells.1 ∙ ap (λ e. e ++ text) err))
