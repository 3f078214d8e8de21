use Rattle.std.proofs.Common.{◌∙◌, sym}
use Rattle.whole_certs.proofs.AllShapes.{not_whole, whole_without, whole_found}
use Rattle.whole_certs.proofs.whole.are_whole.Goals as goal

pub returns-then-not-fits : goal.returns-then-not-fits
returns-then-not-fits c = not_whole c.args.module.now c.args.certs.now (sym c.fits.ensures ∙ c.if-not-fits.true)

pub returns-in-None : goal.returns-in-None
returns-in-None c = whole_without c.args.module.now c.args.certs.now (sym c.fits.ensures ∙ c.if-not-fits.false) (sym c.in-None.ensures)

pub returns-in-Some : goal.returns-in-Some
returns-in-Some c =
    whole_found c.args.module.now c.args.certs.now c.in-Some.shapes.now c.has_all_shapes.result (sym c.fits.ensures ∙ c.if-not-fits.false) (sym c.in-Some.ensures) c.has_all_shapes.ensures
