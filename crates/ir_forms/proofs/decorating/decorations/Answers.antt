use Rattle.std.proofs.Common.{◌≡◌, false}
use Rattle.ir_forms.specs.Cursor.{kind, begins_line}
use Rattle.ir_forms.specs.Decorations.{begins_decoration}
use Rattle.ir_forms.proofs.NoneThere.{no_decorations}
use Rattle.ir_forms.proofs.decorating.decorations.Goals as goal

pub returns-else-begins_decoration : goal.returns-else-begins_decoration
returns-else-begins_decoration c =
    let e : begins_decoration c.args.spot (begins_line c.args.input.now.cursor) (kind c.args.input.now.cursor) ≡ false = cc in
    no_decorations c.args.spot c.args.input.now e
