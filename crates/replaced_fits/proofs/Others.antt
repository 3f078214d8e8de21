-- The sections of the other functions, the shapes, and the functions outside fit as they did where one function is replaced.
use Rattle.std.proofs.Common.{refl}
use Rattle.ir_print_law.specs.Growing.{ReplacingKeepsTables}
use Rattle.replaced_fits.specs.ReplacedFits.{OthersStayFitting, PointersStay, ShapesStayFitting, ForeignStaysFitting}
use Rattle.replaced_fits.proofs.Replaced.{others, pointers_by, shapes_stay_by, foreign_stay}

module _ (grown : ReplacingKeepsTables) where
  pub others_stay : OthersStayFitting
  others_stay m certs func code n closed fit is opaque = others grown m func code n is closed certs fit opaque

  pub pointers_stay : PointersStay
  pointers_stay m func code n is unwanted fit = pointers_by grown m func code n is m.shapes refl unwanted fit

  pub shapes_stay : ShapesStayFitting
  shapes_stay m func code n closed is opaque shaped fit = shapes_stay_by grown m func code n is closed opaque shaped fit

  pub foreign_stays : ForeignStaysFitting
  foreign_stays m func code n closed is opaque = foreign_stay grown m func code n is closed opaque
