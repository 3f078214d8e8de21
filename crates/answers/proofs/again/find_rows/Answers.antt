use Rattle.std.proofs.Common.{Some, sym, ◌∙◌, rules}
use Rattle.answers.proofs.Rows.{kept_more, none_found, put_new}
use Rattle.answers.proofs.again.find_rows.Goals as goal

pub returns-in-Ok-clause-rows : goal.returns-in-Ok-clause-rows
returns-in-Ok-clause-rows c = kept_more c.args.program.now c.args.certs.now.sections c.args.replaced c.args.func c.in-Ok.found c.args.kept.now c.keep.new.self c.keep.ensures (search rules) c.in-Ok.ensures c.requires.kept

pub returns-in-Ok-clause-stay : goal.returns-in-Ok-clause-stay
returns-in-Ok-clause-stay c =
    put_new c.args.replaced c.args.func (Some c.in-Ok.found) c.args.kept.now c.keep.new.self c.keep.ensures (sym c.get.ensures ∙ none_found c.get.result (sym c.is_some.ensures ∙ c.if-is_some.false))
