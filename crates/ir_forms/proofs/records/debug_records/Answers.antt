use Rattle.std.proofs.Common.{◌≡◌, false}
use Rattle.ir_forms.specs.Records.{begins_record}
use Rattle.ir_forms.proofs.NoneThere.{no_records}
use Rattle.ir_forms.proofs.records.debug_records.Goals as goal

pub returns-else-begins_record : goal.returns-else-begins_record
returns-else-begins_record c =
    let e : begins_record c.args.input.now ≡ false = cc in
    no_records c.args.input.now e
