-- Which certificates are those of a module, with all their shapes.
use Rattle.std.specs.Prelude.{◌≡◌, true}
use Rattle.ir_ast.specs.declared.module.Module.{Module}
use Rattle.certs.specs.Fits.{fits}
use Rattle.certs.specs.ForeignFit.{foreign_fits}
use Rattle.certs.specs.declared.certs.Certs.{Certs}
use Rattle.certificate.specs.Alike.{are_whole}

-- their sections fit the module, and so do the functions outside that they trust, and their shapes, of which none is missing; there is none of a word that is not of type `ptr`
abbrev pub AreWhole : Module → Certs → Type 0
AreWhole m certs = (fits m certs.sections ≡ true) × (foreign_fits m certs.foreign ≡ true) × are_whole m certs.shapes
