use Rattle.std.proofs.Common.{◌≡◌, ap, ◌∙◌}
use Rattle.whole_certs.specs.Words.{structs_agree}
use Rattle.whole_certs.proofs.PointerWords.{words_found}
use Rattle.whole_certs.proofs.words.has_word_shapes.Goals as goal

pub returns : goal.returns
returns c =
    let is = c.each_struct_agrees.ensures ∙ ap (λ structs. structs_agree c.args.shapes.now structs c.args.pointers.now) c.as_slice.ensures in
    words_found c.args.module.now c.args.shapes.now c.args.pointers.now c.each_struct_agrees.result c.requires is
