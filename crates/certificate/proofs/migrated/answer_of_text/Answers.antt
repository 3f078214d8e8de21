use Rattle.std.proofs.Common.{◌≡◌, ◌∙◌, ℕ, List, Bool, true, Ok, if◌then◌else◌, ap, subst, sym}
use Rattle.std.proofs.lemmas.Result.{IfOk-weaker}
use Rattle.ir_ast.specs.declared.module.Module.{Module}
use Rattle.copies.specs.Opaque.{opaque_module}
use Rattle.certs.specs.declared.certs.Certs.{Certs}
use Rattle.certificate.specs.Migrated.{is_typed_text, migrated_certs, migrated_typed}
use Rattle.certificate.proofs.migrated.answer_of_text.Goals as goal

of_typed : (m opaque : Module) (rows : List (List ℕ)) (certs : Certs) → opaque ≡ opaque_module m → is_typed_text m opaque ≡ true → migrated_typed m opaque rows certs ≡ migrated_certs m rows certs
of_typed m opaque rows certs e typed =
    let other = opaque_module m in
    let same : is_typed_text m other ≡ true = subst (λ (x : Module). is_typed_text m x ≡ true) e typed in
    ap (λ (x : Module). migrated_typed m x rows certs) e ∙ sym (ap (λ (b : Bool). if b then migrated_typed m other rows certs else Ok certs) same)

pub returns-then-is_typed_text : goal.returns-then-is_typed_text
returns-then-is_typed_text c =
    let typed = sym c.is_typed_text.ensures ∙ c.if-is_typed_text.true in
    IfOk-weaker c.migrated_typed.result _ _ (λ answer e. e ∙ of_typed c.args.module.now c.args.opaque.now c.args.rows.now c.args.certs.now c.requires typed) c.migrated_typed.ensures
