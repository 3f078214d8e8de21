use Rattle.std.proofs.Common.{ap, length, arith}
use Rattle.std.proofs.lemmas.List.{length-take}
use Rattle.lowering.proofs.tables.put_layout_row.Goals as goal

pub mask_of-requires : goal.mask_of-requires
mask_of-requires c = omega (arith, ap length c.first_words.ensures, length-take 64 c.args.words.now)
