use Rattle.edited_fits.proofs.EditedFits.{edits_stay}
use Rattle.edited_fits.proofs.edited_fits_law.Goals as goal

pub returns : goal.returns
returns c = let law = c.replaced_fits_law.ensures in edits_stay c.cert_law.ensures.replaced law.others law.pointers law.shapes law.foreign c.fitting_law.ensures
