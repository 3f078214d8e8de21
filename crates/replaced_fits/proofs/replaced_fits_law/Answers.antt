use Rattle.replaced_fits.proofs.Closed.{within_closed}
use Rattle.replaced_fits.proofs.Others.{others_stay, pointers_stay, shapes_stay, foreign_stays}
use Rattle.replaced_fits.proofs.replaced_fits_law.Goals as goal

pub returns-clause-closed : goal.returns-clause-closed
returns-clause-closed c = within_closed

pub returns-clause-others : goal.returns-clause-others
returns-clause-others c = others_stay c.grown_law.ensures

pub returns-clause-pointers : goal.returns-clause-pointers
returns-clause-pointers c = pointers_stay c.grown_law.ensures

pub returns-clause-shapes : goal.returns-clause-shapes
returns-clause-shapes c = shapes_stay c.grown_law.ensures

pub returns-clause-foreign : goal.returns-clause-foreign
returns-clause-foreign c = foreign_stays c.grown_law.ensures
