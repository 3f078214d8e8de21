use Rattle.std.specs.Str.Parse.{ExplainsUnsignedError, HasUnsignedDigitsIfOk, ParsesUnsigned}
use Rattle.clap.specs.Words.{found_of}
use Rattle.command_line.proofs.LineLemmas.{number_from}
use Rattle.command_line.proofs.given.number_given.Goals as goal

pub returns : goal.returns
returns c =
    number_from (λ bs r. ParsesUnsigned 32 10 bs r × ExplainsUnsignedError 10 bs r × HasUnsignedDigitsIfOk bs r) (found_of c.args.given.now)
    c.args.name.now c.get_one.result (λ u x gives. gives.0) c.get_one.ensures.none c.get_one.ensures.value
