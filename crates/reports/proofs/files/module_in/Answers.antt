use Rattle.std.proofs.Common.{Bool, true, sym, subst, ap, ◌∙◌}
use Rattle.ir_text.specs.Read.{IsTextIn, IsTextAs, IsFaultAs}
use Rattle.reports.specs.Files.{bytes_of, keeps}
use Rattle.reports.proofs.files.module_in.Goals as goal

pub returns-in-Ok-clause-ok : goal.returns-in-Ok-clause-ok
returns-in-Ok-clause-ok c =
    let text = c.in-Some.text.now in
    let m = c.in-Ok.of_module in (
      text,
      sym (c.in-Some.ensures ∙ ap bytes_of c.file_of-file.ensures),
      subst (λ (wide : Bool). IsTextIn wide text m) (c.in-Ok.ensures.forms ∙ c.is_wide.ensures) c.in-Ok.ensures.text,
      λ all. subst (λ (wide : Bool). IsTextAs true wide text m) c.is_wide.ensures (subst (λ (kept : Bool). IsTextAs kept c.is_wide.result text m) (c.keeps.ensures ∙ all) c.in-Ok.ensures.found),
    )

pub returns-in-Err-clause-err : goal.returns-in-Err-clause-err
returns-in-Err-clause-err c =
    let text = c.in-Some.text.now in
    let e = c.in-Err.fault in (
      text,
      sym (c.in-Some.ensures ∙ ap bytes_of c.file_of-file.ensures),
      λ granted. subst (λ (wide : Bool). IsFaultAs (keeps c.args.files.now.of_module) wide text e) c.is_wide.ensures (subst (λ (kept : Bool). IsFaultAs kept c.is_wide.result text e) c.keeps.ensures (c.in-Err.ensures.fault granted)),
    )
