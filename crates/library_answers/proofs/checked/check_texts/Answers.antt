use Rattle.std.proofs.Common.{◌≡◌, ◌∙◌, ℕ, List, Bool, Option, ap, subst, sym, unwrap_or, []}
use Rattle.ir_text.specs.Read.{IsTextIn}
use Rattle.certificate.specs.Text.{IsCert}
use Rattle.library_answers.proofs.checked.check_texts.Goals as goal

pub returns-clause-said : goal.returns-clause-said
returns-clause-said c = (c.texts_of_check-files.result, c.texts_of_check-files.ensures, c.check_files.ensures.said, c.check_files.ensures.place)

pub returns-clause-accepted : goal.returns-clause-accepted
returns-clause-accepted c = λ yes.
    let are = c.texts_of_check-files.ensures in
    let found = c.check_files.ensures.accepted yes in
    let m = found.0 in
    let certs = found.1 in
    let first = found.2 in
    let second = found.3 in
    let text : first.0 ≡ c.args.of_module.now = ap (λ (o : Option (List ℕ)). unwrap_or o []) (sym first.1 ∙ are.has_module) in
    let cert : second.0 ≡ c.args.cert.now = ap (λ (o : Option (List ℕ)). unwrap_or o []) (sym second.1 ∙ are.has_cert) in
    let in_forms = subst (λ (wide : Bool). IsTextIn wide first.0 m) are.has_forms first.2 in
    (m, certs, subst (λ (bytes : List ℕ). IsTextIn c.args.wide bytes m) text in_forms, subst (λ (bytes : List ℕ). IsCert bytes m certs) cert second.2, found.4)
