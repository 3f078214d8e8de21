use Rattle.std.proofs.Common.{◌∙◌, ◌++◌, List, ℕ, Some, ap, refl}
use Rattle.std.proofs.lemmas.Result.{IfOk-weaker}
use Rattle.fix_commands.specs.Fixing.{after_lines}
use Rattle.fix_commands.proofs.AfterLines.{tells_after}
use Rattle.fix_commands.proofs.fixing.check_mended.Goals as goal

pub returns : goal.returns
returns g c =
    let lines = c.args.mended.now.lines.items in
    let old = c.args.outputs.now in
    let files = c.files_of-files in
    let written = c.in_ok-write_all.ensures.bytes ∙ ap (λ (text : List ℕ). old.out.items ++ text) c.as_slice.ensures.value in
    IfOk-weaker c.check_given.result _ _
    (λ status told. (
      after_lines lines told.0,
      (told.0, (files.result.of_module, files.result.certificate, files.ensures.of_module ∙ ap Some c.as_slice-2.ensures.value, files.ensures.wide, files.ensures.certificate ∙ ap Some c.as_slice-3.ensures.value, told.1), refl),
      tells_after old (record { out = c.write_all.new.self; err = old.err }) c.check_given.new.outputs status lines told.0 written refl refl told.2,
    ))
    c.check_given.ensures
