use Rattle.std.proofs.Common.{rules, arith}
use Rattle.std.proofs.lemmas.Grind.{common_steps}
use Rattle.ir_forms.proofs.Stars.{outside_none, outside_more}
use Rattle.ir_forms.proofs.input.Input.+outside.Goals as goal

pub returns-then-levels-eq0 : goal.returns-then-levels-eq0
returns-then-levels-eq0 t c = rw (outside_none c.args.levels c.args.self.now (omega arith)) (first_of (search rules, grind (arith, common_steps)))

pub returns-in_err-symbol : goal.returns-in_err-symbol
returns-in_err-symbol t c = rw (outside_more c.args.levels c.args.self.now (omega arith)) (first_of (search rules, grind (arith, common_steps)))

pub returns-in-Some : goal.returns-in-Some
returns-in-Some t c = rw (outside_more c.args.levels c.args.self.now (omega arith)) (first_of (search rules, grind (arith, common_steps)))

pub returns-in_err-any_type : goal.returns-in_err-any_type
returns-in_err-any_type t c = rw (outside_more c.args.levels c.args.self.now (omega arith)) (first_of (search rules, grind (arith, common_steps)))

pub returns-in_err-symbol-2 : goal.returns-in_err-symbol-2
returns-in_err-symbol-2 t c = rw (outside_more c.args.levels c.args.self.now (omega arith)) (first_of (search rules, grind (arith, common_steps)))

pub returns-in_err-past_brackets : goal.returns-in_err-past_brackets
returns-in_err-past_brackets t c = rw (outside_more c.args.levels c.args.self.now (omega arith)) (first_of (search rules, grind (arith, common_steps)))

pub returns : goal.returns
returns t c = rw (outside_more c.args.levels c.args.self.now (omega arith)) (first_of (search rules, grind (arith, common_steps)))
