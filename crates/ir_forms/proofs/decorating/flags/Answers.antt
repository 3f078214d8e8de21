use Rattle.std.proofs.Common.{◌≡◌, false}
use Rattle.ir_forms.specs.Cursor.{kind}
use Rattle.ir_forms.specs.Starts.{is_flag_of}
use Rattle.ir_forms.proofs.NoneThere.{no_flags}
use Rattle.ir_forms.proofs.decorating.flags.Goals as goal

pub returns-else-is_flag_of : goal.returns-else-is_flag_of
returns-else-is_flag_of c =
    let e : is_flag_of c.args.word (kind c.args.input.now.cursor) ≡ false = cc in
    no_flags c.args.word c.args.input.now e
