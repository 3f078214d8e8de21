use Rattle.std.proofs.Common.{rules, ◌≡◌, ◌∙◌, Some, None, slice_get, sym, ap}
use Rattle.ir_ast.specs.declared.ir_type.IrType.TheVariants.{Struct}
use Rattle.ir_ast.specs.Fields.{after_fields}
use Rattle.types.specs.Elements.{type_at}
use Rattle.layout.specs.Jumps.{words_over}
use Rattle.layout.proofs.Jumps.{up_to, up_to_other, before}
use Rattle.layout.proofs.program.Program.words_before.Goals as goal

pub returns-in_err-after_fields : goal.returns-in_err-after_fields
returns-in_err-after_fields c =
    let p = c.args.self.now in
    let gone : c.from_residual.result ≡ None = search rules in
    let none : after_fields p.of_module.types (Some c.args.written) c.args.number ≡ None = search rules in
    gone ∙ sym (before p (Some c.args.written) c.args.number ∙ ap (λ to. up_to (type_at p.of_module to) (words_over p.of_module.types p.sizes (slice_get p.of_module.types c.args.written) c.args.number)) none)

pub returns-in_err-get : goal.returns-in_err-get
returns-in_err-get c =
    let p = c.args.self.now in
    let words = words_over p.of_module.types p.sizes (slice_get p.of_module.types c.args.written) c.args.number in
    let gone : c.from_residual-in_err-get.result ≡ None = search rules in
    let leads : after_fields p.of_module.types (Some c.args.written) c.args.number ≡ Some c.in_ok-after_fields.field-0 = search rules in
    let none : slice_get p.of_module.types c.in_ok-after_fields.field-0 ≡ None = search rules in
    gone ∙ sym (before p (Some c.args.written) c.args.number ∙ ap (λ to. up_to (type_at p.of_module to) words) leads ∙ ap (λ type. up_to type words) none)

pub returns-in-Struct : goal.returns-in-Struct
returns-in-Struct c =
    let p = c.args.self.now in
    let words = words_over p.of_module.types p.sizes (slice_get p.of_module.types c.args.written) c.args.number in
    let is : c.words_over.result ≡ words = search rules in
    let leads : after_fields p.of_module.types (Some c.args.written) c.args.number ≡ Some c.in_ok-after_fields.field-0 = search rules in
    let struct : slice_get p.of_module.types c.in_ok-after_fields.field-0 ≡ Some (Struct c.in-Struct.first c.in-Struct.rest) = search rules in
    is ∙ sym (before p (Some c.args.written) c.args.number ∙ ap (λ to. up_to (type_at p.of_module to) words) leads ∙ ap (λ type. up_to type words) struct)

pub returns-in_default : goal.returns-in_default
returns-in_default c =
    let p = c.args.self.now in
    let words = words_over p.of_module.types p.sizes (slice_get p.of_module.types c.args.written) c.args.number in
    let leads : after_fields p.of_module.types (Some c.args.written) c.args.number ≡ Some c.in_ok-after_fields.field-0 = search rules in
    let type : slice_get p.of_module.types c.in_ok-after_fields.field-0 ≡ Some c.in_ok-get.field-0 = search rules in
    sym (before p (Some c.args.written) c.args.number ∙ ap (λ to. up_to (type_at p.of_module to) words) leads ∙ up_to_other (slice_get p.of_module.types c.in_ok-after_fields.field-0) words
    (λ first rest e. let same : c.in_ok-get.field-0 ≡ Struct first rest = cc in c.in_default.not-Struct first rest same))
