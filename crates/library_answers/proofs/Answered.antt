-- What was printed where nothing was printed before is what a caller is told.
use Rattle.std.proofs.Common.{◌≡◌, ◌⊎◌, ◌∙◌, ◌++◌, ℕ, List, Vec, Global, [], Result, Ok, Err, IfOk, IfErr, inl, inr, sym, ap, ap₂, subst, append-nil, length}
use Rattle.ir_ast.specs.declared.module.Module.{Module}
use Rattle.certs.specs.declared.certs.Certs.{Certs}
use Rattle.reports.specs.Said.{Said, OnOutput, OnError, OnBoth, Says, Tells}
use Rattle.reports.specs.declared.outputs.Outputs.{Outputs}
use Rattle.library_answers.specs.declared.answer.Answer.{Answer}
use Rattle.library_answers.specs.declared.place.Place.{Place}
use Rattle.library_answers.specs.Told.{IsAnswered, IsCopied, IsGiven, IsGivenOrNone, IsNoInstruction, IsNoMemory, IsRefusedAt, status_of, text_of}

-- both outputs together are the text of what is said
text_said : (said : Said) (old new : Outputs) (status : ℕ) → old.out.items ≡ [] → old.err.items ≡ [] → Tells old new status said → new.out.items ++ new.err.items ≡ text_of said
text_said (OnOutput answer) old new status no_out no_err tells =
    let out : new.out.items ≡ answer.text = tells.0.1 ∙ ap (λ (l : List ℕ). l ++ answer.text) no_out in
    let err : new.err.items ≡ [] = ap (λ (v : Vec ℕ Global). v.items) tells.1 ∙ no_err in
    ap₂ (λ (a b : List ℕ). a ++ b) out err ∙ append-nil answer.text
text_said (OnError answer) old new status no_out no_err tells =
    let out : new.out.items ≡ [] = ap (λ (v : Vec ℕ Global). v.items) tells.0 ∙ no_out in
    let err : new.err.items ≡ answer.text = tells.1.1 ∙ ap (λ (l : List ℕ). l ++ answer.text) no_err in
    ap₂ (λ (a b : List ℕ). a ++ b) out err
text_said (OnBoth answer text) old new status no_out no_err tells =
    let out : new.out.items ≡ answer.text = tells.0.1 ∙ ap (λ (l : List ℕ). l ++ answer.text) no_out in
    let err : new.err.items ≡ text = tells.1 ∙ ap (λ (l : List ℕ). l ++ text) no_err in
    ap₂ (λ (a b : List ℕ). a ++ b) out err

-- and the status is its own
status_said : (said : Said) (old new : Outputs) (status : ℕ) → Tells old new status said → status ≡ status_of said
status_said (OnOutput answer) old new status tells = tells.0.0
status_said (OnError answer) old new status tells = tells.1.0
status_said (OnBoth answer text) old new status tells = tells.0.0

-- a caller is told the same by equal statuses and texts
pub given_same : (status s : ℕ) (text t old new : List ℕ) (answer : Answer) → status ≡ s → text ≡ t → IsGiven status text old new answer → IsGiven s t old new answer
given_same status s text t old new answer is same given = record {
  status_given = given.status_given ∙ is;
  length_given = given.length_given ∙ ap length same;
  copied = subst (λ (l : List ℕ). IsCopied l old new) same given.copied;
}

-- a caller is told what was said and printed
pub answered : {E : Type 0} (Meant : Said → Type 0) (old new : Outputs) (printed : Result ℕ E) (before after : List ℕ) (answer : Answer)
    → old.out.items ≡ [] → old.err.items ≡ [] → IfOk printed (Says Meant old new)
    → IfOk printed (λ status. IsGivenOrNone status (new.out.items ++ new.err.items) before after answer)
    → IfErr printed (λ _. IsNoMemory before after answer) → IsAnswered Meant before after answer
answered Meant old new (Ok status) before after answer no_out no_err says given failed =
    let said = says.0 in
    elim given [
      | inl told ↦ inl (
        said,
        says.1,
        given_same status (status_of said) (new.out.items ++ new.err.items) (text_of said) before after answer
            (status_said said old new status says.2) (text_said said old new status no_out no_err says.2) told,
      )
      | inr none ↦ inr none
    ]
answered Meant old new (Err e) before after answer no_out no_err says given failed = inr failed

-- what means something else too is told as that
pub answered_as : (M N : Said → Type 0) (before after : List ℕ) (answer : Answer) → ((said : Said) → M said → N said) → IsAnswered M before after answer → IsAnswered N before after answer
answered_as M N before after answer leads given = elim given [ inl told ↦ inl (told.0, leads told.0 told.1, told.2) | inr none ↦ inr none ]

-- an answer has the place that it is given, or none
pub placed : (m : Module) (certs : Certs) (p q : Place) → IsRefusedAt m certs p → (q ≡ p) ⊎ IsNoInstruction q → IsRefusedAt m certs q
placed m certs p q there same = elim same [ inl e ↦ subst (IsRefusedAt m certs) (sym e) there | inr none ↦ (λ other. absurd (other none)) ]

-- so it is where no instruction is named
pub placed_nowhere : (p q : Place) → IsNoInstruction p → (q ≡ p) ⊎ IsNoInstruction q → IsNoInstruction q
placed_nowhere p q first same = elim same [ inl e ↦ subst IsNoInstruction (sym e) first | inr none ↦ none ]
