-- What a certified module promises: its threads obey the discipline, in whole calls and at each step, and all their runs are safe.
use Rattle.std.proofs.Common.{◌<◌, List, length, sym, subst}
use Rattle.std.proofs.lemmas.Option.{slice_get_within}
use Rattle.std.specs.Option.{option_map_or}
use Rattle.layout.specs.Layouts.{LaidOut}
use Rattle.certs.specs.declared.section.Section.{Section}
use Rattle.program_safety.specs.Safety.{AreCertified, CertifiedIsNeverWrong}
use Rattle.module_check.specs.Accepted.{IsModuleCertified}
use Rattle.module_check.specs.Discipline.{AreDisciplined}

-- each block of each function is certified
all_certified : (program : LaidOut) (certs : List Section) → IsModuleCertified program certs (length program.of_module.functions) → AreCertified program certs
all_certified program certs all function g at block within =
    all function (slice_get_within program.of_module.functions function g at) block (subst (λ q. block < option_map_or (λ called. length called.blocks) q 0) (sym at) within)

pub disciplined : CertifiedIsNeverWrong → (program : LaidOut) (certs : List Section) → IsModuleCertified program certs (length program.of_module.functions) → AreDisciplined program certs
disciplined law program certs all func f heap arguments answers there for begins =
    law program certs func f heap arguments answers there for (all_certified program certs all) begins

-- what every certified program has
pub promised : {Promise : LaidOut → List Section → Type 0} → ((program : LaidOut) (certs : List Section) → AreCertified program certs → Promise program certs) → (program : LaidOut) (certs : List Section) → IsModuleCertified program certs (length program.of_module.functions) → Promise program certs
promised law program certs all = law program certs (all_certified program certs all)
