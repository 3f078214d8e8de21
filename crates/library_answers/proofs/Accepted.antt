-- Where the status that goes with a session is 0, its module is accepted.
use Rattle.std.proofs.Common.{◌≡◌, ◌∙◌, ℕ, Bool, List, Option, [], inl, inr, ap, arith, subst, sym, unwrap_or}
use Rattle.ir_ast.specs.declared.module.Module.{Module}
use Rattle.ir_text.specs.Read.{IsTextIn}
use Rattle.certs.specs.declared.certs.Certs.{Certs}
use Rattle.certificate.specs.Text.{IsCert}
use Rattle.module_check.specs.Accepted.{IsAccepted, shaped}
use Rattle.recheck.specs.Session.{State}
use Rattle.check_commands.specs.Rechecks.{OfSession, session_accepted, session_refused}
use Rattle.reports.specs.Report.{Answer as Line, of_edits_fault}
use Rattle.reports.specs.Said.{OnError}
use Rattle.reports.specs.declared.files.Unread.TheVariants as unread
use Rattle.library_answers.proofs.Verdicts.{one_above, unread_status}
use Rattle.library_answers.specs.declared.answer.Answer.{Answer}
use Rattle.library_answers.specs.Checked.{AreAcceptedTexts}
use Rattle.library_answers.specs.Sessions.{IsAcceptedNow, IsAppliedTo, IsBegunOf, IsOfSession}
use Rattle.library_answers.specs.Told.{IsAnswered, status_of}

-- the module of a session whose verdict has the status 0 is accepted
of_verdict : (s : State) (verdict : Line) → OfSession s verdict → verdict.status ≡ 0 → IsAcceptedNow s
of_verdict s verdict (session_accepted is) zero = is
of_verdict s verdict (session_refused refusal first) zero = let one : 1 ≡ 0 = zero in absurd (omega (arith, one))

-- so is that of a session whose verdict is told with it
pub of_told : (s : State) (old new : List ℕ) (answer : Answer) → IsAnswered (IsOfSession s) old new answer → answer.status ≡ 0 → IsAcceptedNow s
of_told s old new answer told zero =
    elim told [
      | inl is ↦ of_verdict s is.1.0 is.1.1 (sym (ap status_of is.1.2) ∙ sym is.2.status_given ∙ zero)
      | inr none ↦ let three : 3 ≡ 0 = sym none.status_given ∙ zero in absurd (omega (arith, three))
    ]

-- texts of which a session begins are accepted where its module is
pub texts_accepted : (wide : Bool) (of_module cert : List ℕ) (s : State) → IsBegunOf wide of_module cert s → IsAcceptedNow s → AreAcceptedTexts wide of_module cert
texts_accepted wide of_module cert s is now =
    let are = is.1 in
    let found = is.2 in
    let m = found.0 in
    let certs = found.1 in
    let first = found.2 in
    let second = found.3 in
    let begun = found.4 in
    let text : first.0 ≡ of_module = ap (λ (o : Option (List ℕ)). unwrap_or o []) (sym first.1 ∙ are.has_module) in
    let given : second.0 ≡ cert = ap (λ (o : Option (List ℕ)). unwrap_or o []) (sym second.1 ∙ are.has_cert) in
    let in_forms = subst (λ (w : Bool). IsTextIn w first.0 m) are.has_forms first.2 in
    let of_shaped = subst (λ (x : Module). IsAccepted x s.certs.sections) begun.of_module now in
    let accepted = subst (λ (k : Certs). IsAccepted (shaped m certs) k.sections) begun.of_certs of_shaped in
    (m, certs, subst (λ (bytes : List ℕ). IsTextIn wide bytes m) text in_forms, subst (λ (bytes : List ℕ). IsCert bytes m certs) given second.2, accepted)

-- where edits were applied to a session and the status is 0, the module that it has then is accepted
pub of_applied : (text : List ℕ) (s t : State) (old new : List ℕ) (answer : Answer) → IsAppliedTo text s t old new answer → answer.status ≡ 0 → IsAcceptedNow t
of_applied text s t old new answer applied zero =
    elim applied [
      | inl read ↦
          elim read.2 [
            | inl is ↦ of_verdict t is.3.0 is.3.1 (sym is.3.2 ∙ sym is.4.status_given ∙ zero)
            | inr none ↦ let three : 3 ≡ 0 = sym none.status_given ∙ zero in absurd (omega (arith, three))
          ]
      | inr unread_edits ↦
          let above = one_above (OnError (of_edits_fault unread_edits.0)) old new answer (unread_status (unread.NoEdits unread_edits.0)) unread_edits.3 in
          absurd (omega (arith, zero, above))
    ]
