use Rattle.std.proofs.Common.{refl}
use Rattle.std.proofs.lemmas.Result.{IfOk-weaker}
use Rattle.fix_commands.specs.Fixing.{not_fixed}
use Rattle.fix_commands.proofs.fixing.fix_files.Goals as goal

pub returns-in-None-clause-said : goal.returns-in-None-clause-said
returns-in-None-clause-said g c =
    IfOk-weaker c.check_given.result _ _ (λ status told. (told.0, not_fixed told.0 (c.given_texts.ensures.none c.in-None.is) refl told.1, told.2)) c.check_given.ensures
