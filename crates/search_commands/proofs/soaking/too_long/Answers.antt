use Rattle.std.proofs.lemmas.Result.{IfOk-weaker}
use Rattle.search_commands.proofs.soaking.too_long.Goals as goal

pub returns : goal.returns
returns c = IfOk-weaker c.broken_seed.result _ _ (λ status told. (told, c.in_ok-writeln.ensures.bytes)) c.broken_seed.ensures
