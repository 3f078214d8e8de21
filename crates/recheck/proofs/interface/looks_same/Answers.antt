use Rattle.std.proofs.Common.{sym, ◌∙◌}
use Rattle.recheck.proofs.Looks.{one_interface}
use Rattle.recheck.proofs.Tells.{tells_by_words}
use Rattle.recheck.proofs.interface.looks_same.Goals as goal

pub returns-then-same_types-clause-looks : goal.returns-then-same_types-clause-looks
returns-then-same_types-clause-looks c = λ e.
    let words = c.same_words.ensures in
    one_interface c.args.old.now c.args.new.now c.args.past.now c.args.next.now (sym c.same_types.ensures ∙ c.if-same_types.true) (words.mark e) (words.parameters e) (words.promised e)

pub returns-then-same_types-clause-tells : goal.returns-then-same_types-clause-tells
returns-then-same_types-clause-tells c = λ m e.
    let words = c.same_words.ensures in
    tells_by_words m c.args.old.now c.args.new.now c.args.past.now c.args.next.now (sym c.same_types.ensures ∙ c.if-same_types.true) (words.mark e) (words.parameters e) (words.promised e)
