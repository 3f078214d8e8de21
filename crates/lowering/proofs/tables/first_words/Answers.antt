use Rattle.std.proofs.Common.{sym, arith}
use Rattle.std.proofs.lemmas.List.{length-take-le, take_all}
use Rattle.lowering.proofs.tables.first_words.Goals as goal

pub slice_bounds-result-end : goal.slice_bounds-result-end
slice_bounds-result-end c = sym (length-take-le 64 c.args.words.now (omega arith))

pub returns-then-words-le64 : goal.returns-then-words-le64
returns-then-words-le64 c = sym (take_all 64 c.args.words.now (omega arith))
