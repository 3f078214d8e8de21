use Rattle.std.proofs.Common.{None}
use Rattle.answers.proofs.Rows.{kept_less, put_own}
use Rattle.answers.proofs.kept_rows.KeptRows.forget.Goals as goal

pub returns-clause-rows : goal.returns-clause-rows
returns-clause-rows c = λ program certs h. kept_less program certs c.args.func c.args.self.now c.put.new.self c.put.ensures h

pub returns-clause-stay : goal.returns-clause-stay
returns-clause-stay c = put_own c.args.func None c.args.self.now c.put.new.self c.put.ensures
