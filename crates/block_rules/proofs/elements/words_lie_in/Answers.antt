use Rattle.std.proofs.Common.{sym, ◌∙◌}
use Rattle.std.proofs.lemmas.Bool.{le-leb}
use Rattle.block_rules.proofs.Members.{lies_all, lies_after}
use Rattle.block_rules.proofs.elements.words_lie_in.Goals as goal

pub returns-then-count-ge-CELL_WORDS : goal.returns-then-count-ge-CELL_WORDS
returns-then-count-ge-CELL_WORDS c = le-leb 64 c.args.count c.if-count-ge-CELL_WORDS.true ∙ sym (lies_all c.args.set.now c.args.count c.if-count-ge-CELL_WORDS.true)

pub returns-else-count-ge-CELL_WORDS : goal.returns-else-count-ge-CELL_WORDS
returns-else-count-ge-CELL_WORDS c = lies_after c.args.set.now c.args.count c.next_from.result c.is_none.result c.if-count-ge-CELL_WORDS.false c.next_from.ensures.next c.is_none.ensures
