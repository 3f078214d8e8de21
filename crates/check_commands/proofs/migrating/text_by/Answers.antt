use Rattle.std.proofs.Common.{◌≡◌, ◌∙◌, ℕ, List, Bool, true, false, if◌then◌else◌, ap, subst, sym}
use Rattle.std.proofs.lemmas.Result.{IfOk-weaker}
use Rattle.ir_ast.specs.declared.module.Module.{Module}
use Rattle.ir_print.specs.Items.{text_of}
use Rattle.copies.specs.Opaque.{opaque_module}
use Rattle.certificate.specs.Migrated.{is_typed_text}
use Rattle.check_commands.specs.Migrating.{migrated_text}
use Rattle.check_commands.proofs.migrating.text_by.Goals as goal

-- the text by the test
chosen : (m opaque : Module) (bytes : List ℕ) (b : Bool) → opaque ≡ opaque_module m → is_typed_text m opaque ≡ b → migrated_text m bytes ≡ (if b then text_of (opaque_module m) else bytes)
chosen m opaque bytes b e tested = ap (λ (x : Bool). if x then text_of (opaque_module m) else bytes) (subst (λ (x : Module). is_typed_text m x ≡ b) e tested)

pub returns-then-is_typed_text : goal.returns-then-is_typed_text
returns-then-is_typed_text c =
    let m = c.args.of_module.now in
    let opaque = c.args.opaque.now in
    let text = sym (chosen m opaque c.args.bytes.now true c.requires (sym c.is_typed_text.ensures ∙ c.if-is_typed_text.true)) in
    IfOk-weaker c.print.result _ _ (λ printed e. e ∙ ap text_of c.requires ∙ text) c.print.ensures.text

pub returns-else-is_typed_text : goal.returns-else-is_typed_text
returns-else-is_typed_text c =
    let m = c.args.of_module.now in
    let opaque = c.args.opaque.now in
    let text = sym (chosen m opaque c.args.bytes.now false c.requires (sym c.is_typed_text.ensures ∙ c.if-is_typed_text.false)) in
    IfOk-weaker c.copied_text.result _ _ (λ copied e. e ∙ text) c.copied_text.ensures
