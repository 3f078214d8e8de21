use Rattle.lowering.proofs.Masks.{mask_step}
use Rattle.lowering.proofs.tables.+mask_of.Goals as goal

pub returns-in-len1-up : goal.returns-in-len1-up
returns-in-len1-up t c =
    mask_step c.args.words.now c.word-item.result c.mask_of-mask.result c.bit_of.result c.in-len1-up.len_at_least c.requires c.word-item.is c.mask_of-mask.ensures c.bit_of.ensures
