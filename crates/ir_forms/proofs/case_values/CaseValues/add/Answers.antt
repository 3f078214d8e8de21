use Rattle.std.proofs.Common.{◌∙◌}
use Rattle.ir_forms.proofs.Values.{values-are}
use Rattle.ir_forms.proofs.case_values.CaseValues.add.Goals as goal

pub returns : goal.returns
returns c = c.in_ok-insert_full.ensures.keys ∙ values-are c.args.value c.self.inside.each.keys c.args.self.now c.self.view_is
