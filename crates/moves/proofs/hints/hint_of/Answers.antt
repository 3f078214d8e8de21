-- What is not in the list is 0.
use Rattle.std.proofs.Common.{◌≡◌, unwrap_or, slice_get, ◌∙◌, rules}
use Rattle.std.proofs.lemmas.Option.{unwrap_or-slice_get}
use Rattle.moves.proofs.hints.hint_of.Goals as goal

pub returns : goal.returns
returns c =
    let read : c.unwrap_or.result ≡ unwrap_or (slice_get c.args.hints.now c.args.layout) 0 = search rules in
    read ∙ unwrap_or-slice_get c.args.hints.now c.args.layout 0
