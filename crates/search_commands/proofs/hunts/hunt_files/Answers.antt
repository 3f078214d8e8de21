use Rattle.std.proofs.Common.{Option, IfOk, refl, subst}
use Rattle.std.proofs.lemmas.Result.{IfOk-weaker}
use Rattle.reports.specs.Said.{OnError, OfCertified, Saves, not_certified, of_certified}
use Rattle.reports.specs.declared.files.File.{File}
use Rattle.reports.specs.declared.outputs.Results.{Results}
use Rattle.search_commands.specs.Searches.{OfHuntCerts}
use Rattle.search_commands.proofs.hunts.hunt_files.Goals as goal

pub returns-in-Ok-clause-said : goal.returns-in-Ok-clause-said
returns-in-Ok-clause-said g c =
    let certified = c.in-Ok.certified in
    let files = c.args.files.now in
    let says = λ (file : Option File). IfOk c.hunt_certified.result (Saves (λ before after. OfCertified (λ m certs. OfHuntCerts c.args.options files.saves m certs before after) files.of_module file) c.args.results.now c.hunt_certified.new.results) in
    rw c.in-Some.is
    (subst says c.in-Some.is
    (IfOk-weaker c.hunt_certified.result _ _
    (λ status told. (told.0, of_certified certified.of_module certified.certs told.0 c.in-Ok.ensures.of_module c.in-Ok.ensures.certs told.1, told.2))
    c.hunt_certified.ensures.said))

pub returns-in-Err-clause-said : goal.returns-in-Err-clause-said
returns-in-Err-clause-said g c =
    let files = c.args.files.now in
    let before = c.args.results.now in
    let after : Results = record { outputs = record { out = before.outputs.out; err = c.unread.new.err }; saved = before.saved; answer = before.answer; saved_cert = before.saved_cert } in
    let says = λ (file : Option File). IfOk c.unread.result (Saves (λ old new. OfCertified (λ m certs. OfHuntCerts c.args.options files.saves m certs old new) files.of_module file) before after) in
    rw c.in-Some.is
    (subst says c.in-Some.is
    (IfOk-weaker c.unread.result _ _ (λ status told. (OnError _, not_certified c.in-Err.fault c.in-Err.ensures.err, (refl, told))) c.unread.ensures))
