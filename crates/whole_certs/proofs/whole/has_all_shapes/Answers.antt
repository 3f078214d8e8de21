use Rattle.whole_certs.proofs.AllShapes.{words_lack, words_and_roots}
use Rattle.whole_certs.proofs.whole.has_all_shapes.Goals as goal

pub returns-then-not-has_words : goal.returns-then-not-has_words
returns-then-not-has_words c = words_lack c.args.module.now c.args.shapes.now c.has_word_shapes-has_words.result c.has_word_shapes-has_words.ensures c.if-not-has_words.true

pub returns : goal.returns
returns c = words_and_roots c.args.module.now c.args.shapes.now c.has_word_shapes-has_words.result c.has_word_shapes-has_words.ensures c.has_root_shapes.result c.if-not-has_words.false c.has_root_shapes.ensures
