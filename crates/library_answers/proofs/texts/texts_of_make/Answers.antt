use Rattle.std.proofs.Common.{refl}
use Rattle.library_answers.proofs.texts.texts_of_make.Goals as goal

pub returns : goal.returns
returns c = record { has_module = refl; has_forms = refl; has_shapes = c.shapes_of.ensures }
