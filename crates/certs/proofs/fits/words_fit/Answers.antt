use Rattle.std.proofs.Common.{◌∙◌}
use Rattle.certs.proofs.WordSets.{first_fits}
use Rattle.certs.proofs.fits.words_fit.Goals as goal

pub returns : goal.returns
returns c = c.is_some.ensures ∙ first_fits c.args.words.now c.next_from.result c.next_from.ensures.places c.next_from.ensures.next
