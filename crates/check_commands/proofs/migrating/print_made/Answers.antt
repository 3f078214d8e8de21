use Rattle.std.proofs.Common.{◌≡◌, ◌∙◌, ℕ, List, Bool, true, false, Ok, ap, inl, inr, refl, subst, sym}
use Rattle.std.proofs.lemmas.Result.{IfOk-weaker}
use Rattle.ir_ast.specs.declared.module.Module.{Module}
use Rattle.copies.specs.Opaque.{opaque_module}
use Rattle.certs.specs.declared.certs.Certs.{Certs}
use Rattle.certificate.specs.Migrated.{IsMigration, is_typed_text}
use Rattle.certificate.specs.Print.{cert_text}
use Rattle.reports.specs.Report.{made_text}
use Rattle.reports.specs.Said.{Said, OnOutput}
use Rattle.check_commands.specs.Migrating.{OfCerts, OfMigrated, kept, made, not_migrated}
use Rattle.check_commands.proofs.migrating.print_made.Goals as goal

-- what is said of the certificates of the opaque text is said of the old ones
of_certs : (m opaque : Module) (certs migrated : Certs) (bytes : List ℕ) (said : Said) → opaque ≡ opaque_module m → is_typed_text m opaque ≡ true → IsMigration m certs (Ok migrated)
    → OfCerts opaque migrated said → OfMigrated bytes m certs said
of_certs m opaque certs migrated bytes said is typed answer (inl e) =
    let text : said ≡ OnOutput (made_text (cert_text migrated (opaque_module m))) = e ∙ ap (λ (x : Module). OnOutput (made_text (cert_text migrated x))) is in
    subst (OfMigrated bytes m certs) (sym text) (made migrated (subst (λ (x : Module). is_typed_text m x ≡ true) is typed) answer)
of_certs m opaque certs migrated bytes said is typed answer (inr e) = subst (OfMigrated bytes m certs) (sym e) not_migrated

pub returns-then-is_typed_text : goal.returns-then-is_typed_text
returns-then-is_typed_text c =
    let certified = c.args.certified.now in
    let typed = sym c.is_typed_text.ensures ∙ c.if-is_typed_text.true in
    IfOk-weaker c.print_certs.result _ _
    (λ status told. (told.0, of_certs certified.of_module c.args.migrated.1.now certified.certs c.args.migrated.0.now c.args.bytes.now told.0 c.requires.made typed c.requires.migration told.1, told.2))
    c.print_certs.ensures

pub returns-else-is_typed_text : goal.returns-else-is_typed_text
returns-else-is_typed_text c =
    let certified = c.args.certified.now in
    let untyped = subst (λ (x : Module). is_typed_text certified.of_module x ≡ false) c.requires.made (sym c.is_typed_text.ensures ∙ c.if-is_typed_text.false) in
    IfOk-weaker c.print_text.result _ _ (λ status told. (OnOutput _, kept untyped, (told, refl))) c.print_text.ensures
