-- What is made of a module that trusts what it calls, where the module itself is given back.
use Rattle.std.proofs.Common.{None, Ok, Err, refl}
use Rattle.ir_ast.specs.declared.module.Module.{Module}
use Rattle.module_check.specs.Accepted.{CertifiedProgram}
use Rattle.cert_maker.specs.Made.{IsMadeOf}
use Rattle.cert_maker.specs.declared.made.MakeFault.TheVariants.{Memory}
use Rattle.cert_maker.specs.declared.made.NotMade.{NotMade}

-- certificates that are made are made whichever module would be given back
pub made_ok : (m own other : Module) (accepted : CertifiedProgram) → IsMadeOf m own (Ok accepted) → IsMadeOf m other (Ok accepted)
made_ok m own other accepted h = record {
  kept = h.kept;
  fits = h.fits;
  shapes = h.shapes;
  foreign = h.foreign;
  certified = h.certified;
  none = tt;
  plain = tt;
  layout = tt;
  only_so = λ words laid. tt;
  refused = tt;
  given_back = tt;
}

-- where none are made, another module may be given back
pub made_err : (m own other : Module) (unmade : NotMade) → IsMadeOf m own (Err unmade) → IsMadeOf m other (Err (record unmade { of_module = other }))
made_err m own other unmade h = record {
  kept = tt;
  fits = tt;
  shapes = tt;
  foreign = tt;
  certified = tt;
  none = h.none;
  plain = h.plain;
  layout = h.layout;
  only_so = h.only_so;
  refused = h.refused;
  given_back = refl;
}

-- nothing is made where memory is refused
pub made_none : (m own : Module) → IsMadeOf m own (Err (record { fault = Memory; of_module = own; refused = None }))
made_none m own = record {
  kept = tt;
  fits = tt;
  shapes = tt;
  foreign = tt;
  certified = tt;
  none = λ answered _. absurd cc;
  plain = λ answered. absurd cc;
  layout = tt;
  only_so = λ words laid. tt;
  refused = tt;
  given_back = refl;
}
