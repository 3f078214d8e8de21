use Rattle.std.proofs.Common.{sym, ◌∙◌, eqb-true}
use Rattle.recheck.proofs.Same.{same_list, same_option}
use Rattle.recheck.proofs.tables.same_structs.Goals as goal

pub returns : goal.returns
returns c = λ e. sym (same_list _ (same_option _ eqb-true) c.args.one.now c.args.other.now (sym c.eq.ensures ∙ e))
