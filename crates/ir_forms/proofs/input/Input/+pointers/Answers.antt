use Rattle.std.proofs.Common.{rules, arith, sym, ◌∙◌}
use Rattle.std.proofs.lemmas.Grind.{common_steps}
use Rattle.ir_forms.proofs.Stars.{pointers_none, pointers_full, pointers_more}
use Rattle.ir_forms.proofs.input.Input.+pointers.Goals as goal

pub returns-then-not-sees : goal.returns-then-not-sees
returns-then-not-sees t c = pointers_none c.args.start c.args.room c.args.pointee c.args.self.now (sym c.sees.ensures ∙ c.if-not-sees.true)

pub returns-then-room-eq0 : goal.returns-then-room-eq0
returns-then-room-eq0 t c = rw (pointers_full c.args.start c.args.room c.args.pointee c.args.self.now (sym c.sees.ensures ∙ c.if-not-sees.false) (omega arith)) (first_of (search rules, grind (arith, common_steps)))

pub returns-in_err-pointer : goal.returns-in_err-pointer
returns-in_err-pointer t c = rw (pointers_more c.args.start c.args.room c.args.pointee c.args.self.now (sym c.sees.ensures ∙ c.if-not-sees.false) (omega arith)) (first_of (search rules, grind (arith, common_steps)))

pub returns : goal.returns
returns t c = rw (pointers_more c.args.start c.args.room c.args.pointee c.args.self.now (sym c.sees.ensures ∙ c.if-not-sees.false) (omega arith)) (first_of (search rules, grind (arith, common_steps)))
