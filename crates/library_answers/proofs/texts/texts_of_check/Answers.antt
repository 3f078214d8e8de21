use Rattle.std.proofs.Common.{refl}
use Rattle.library_answers.proofs.texts.texts_of_check.Goals as goal

pub returns : goal.returns
returns c = record { has_module = refl; has_forms = refl; has_cert = refl }
